use Rattle.std.proofs.Common.{◌≡◌}
use Rattle.std.specs.{Prelude.Ok, List.flat_map}
use Rattle.model_laws.specs.Placing.{puts}
use Rattle.store_api.specs.Finding.{Finds}
use Rattle.store_api.proofs.links.add_linked.Given as goal

abbrev pub invariant-loop-other : goal.invariant-loop-other
invariant-loop-other g l =
    Finds g.S.Kept.sight {A = Unit {0}} l.fn.source l.source (Ok tt) (λ T.
    puts g.R.Row.number (flat_map (g.Q.LeadsTo.rows_of T) l.other-iterator) l.table
    ≡ puts g.R.Row.number (flat_map (g.Q.LeadsTo.rows_of T) l.others) l.fn.table)
