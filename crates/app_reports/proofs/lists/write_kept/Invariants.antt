use Rattle.std.proofs.Common.{◌-◌, ◌^◌}
use Rattle.model_parts.specs.Above.{above}
use Rattle.store_api.specs.Sight.{ForTables, Unchanged}
use Rattle.app_reports.proofs.Listing.{ListsSoFar}
use Rattle.app_reports.proofs.lists.write_kept.Given as goal

abbrev pub invariant-loop-row : goal.invariant-loop-row
invariant-loop-row g l = record {
  unchanged : Unchanged g.K.Kept.sight l.fn.source l.source;
  printed : ForTables g.K.Kept.sight l.fn.source l.source (λ T.
      ListsSoFar (g.L.RowList.keeps l.fn.list T) (g.L.RowList.line l.fn.form) (g.W.Write.contents l.fn.out) (g.W.Write.contents l.out)
      (g.L.Item.PassedRow.rows T) (above g.L.Item.Row.number l.above (g.L.Item.PassedRow.rows T)) l.count);
}

abbrev pub decreases-loop-row : goal.decreases-loop-row
decreases-loop-row g l = 2 ^ 64 - l.above
