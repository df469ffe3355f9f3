use Rattle.std.proofs.Common.{subst, sym}
use Rattle.sqlite.specs.Held.{state}
use Rattle.desk_model.specs.{History.first_history, Tables.picture}
use Rattle.desk_store.specs.Known.{IsKnownOf}
use Rattle.desk_store.proofs.{Knowing.nothing_known, NewDesks.asked_is_none}
use Rattle.desk_store.proofs.store.Store.make.Goals as goal

pub returns-in-Ok-clause-made : goal.returns-in-Ok-clause-made
returns-in-Ok-clause-made g c clean unlimited =
    let none =
    asked_is_none (state g.S.Store c.args.conn).now.schema c.schema.result.now c.has_objects.result c.has_objects.ensures c.schema.ensures.value
    c.if-has_objects.false in
    let it = c.in-Ok.ensures.made clean none unlimited in
    let T = picture (first_history c.args.policy c.args.at) in
    record {
      tables = record { desk = it.desk; known = subst (λ k. IsKnownOf k T) (sym c.nothing.ensures) (nothing_known T) };
      left = it.left;
    }
