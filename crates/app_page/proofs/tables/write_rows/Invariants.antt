use Rattle.std.proofs.Common.{◌-◌, ◌^◌}
use Rattle.model_parts.specs.Above.{above}
use Rattle.store_api.specs.Sight.{ForTables, Unchanged}
use Rattle.app_page.proofs.Showing.{ShowsSoFar}
use Rattle.app_page.proofs.tables.write_rows.Given as goal

abbrev pub invariant-loop-row : goal.invariant-loop-row
invariant-loop-row g l = record {
  unchanged : Unchanged g.K.Kept.sight l.fn.source l.source;
  printed : ForTables g.K.Kept.sight l.fn.source l.source (λ T.
      ShowsSoFar (g.Q.Query.wanted l.fn.which) (g.R.PageRow.html T) (g.W.Write.contents l.fn.out) (g.W.Write.contents l.out)
      (above g.R.Row.number l.fn.above (g.R.PassedRow.rows T)) (above g.R.Row.number l.above (g.R.PassedRow.rows T)) l.count);
}

abbrev pub decreases-loop-row : goal.decreases-loop-row
decreases-loop-row g l = 2 ^ 64 - l.above
