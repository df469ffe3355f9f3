use Rattle.std.proofs.Common.{◌-◌, ◌^◌}
use Rattle.model_parts.specs.Above.{above}
use Rattle.store_api.specs.Sight.{ForTables, Unchanged}
use Rattle.app_reports.proofs.Counting.{CountsSoFar}
use Rattle.app_reports.proofs.tally.tally.Given as goal

abbrev pub invariant-loop-row : goal.invariant-loop-row
invariant-loop-row g l = record {
  unchanged : Unchanged g.K.Kept.sight l.fn.source l.source;
  counted : ForTables g.K.Kept.sight l.fn.source l.source (λ T.
      CountsSoFar g.R.Stated.place (g.R.PassedRow.rows T) (above g.R.Row.number l.above (g.R.PassedRow.rows T)) l.counts);
}

abbrev pub decreases-loop-row : goal.decreases-loop-row
decreases-loop-row g l = 2 ^ 64 - l.above
