use Rattle.std.proofs.Common.{◌++◌, [], ◌∷◌, ◌∙◌, ap, append_assoc, refl, sym}
use Rattle.std.specs.Vec.Iter.{into_iter_items}
use Rattle.sqlite.specs.{Held.state, declared.error.Error.TheVariants.SqliteFailure, declared.error.ErrorCode.TheVariants.OutOfMemory}
use Rattle.sql_schema.proofs.StaysLemmas.{asks_then}
use Rattle.sql_read.specs.{LookUpFaults.IsOfMemory, declared.fault.ReadFault.TheVariants.Engine}
use Rattle.sql_read.proofs.{Looking.stopped, LookUpFaults.all_of_memory, Results.failed_as}
use Rattle.sql_read.proofs.NestLemmas.{filled_failed, filled_first, filled_more, filled_on}
use Rattle.sql_read.proofs.rows.complete_all.Goals as goal

pub loop-head-init : goal.loop-head-init
loop-head-init g c = record {
  whole = sym c.into_iter-head-iterator.ensures.into_iter_gives.0;
  filled = filled_first g.P.Parted.HasItsPart g.P.Parted.bare (state g.S.Store c.args.conn.now) _ c.new-rows.ensures.items;
}

pub loop-head-preserved : goal.loop-head-preserved
loop-head-preserved g c =
    let before = c.loop-head.invariant in
    let after = c.in_ok-whole.ensures in
    record {
      whole = before.whole ∙ ap (λ l. c.loop-head.yielded ++ l) c.in-Some.ensures.steps.0
          ∙ sym (append_assoc c.loop-head.yielded (c.in-Some.head ∷ []) (into_iter_items c.next.new.self));
      filled = filled_on before.filled after.asks (λ clean is_open. (after.looks is_open).unchanged clean) (λ clean T has book is_open so_far.
          filled_more (g.P.Parted.HasItsPart T) g.P.Parted.bare c.loop-head.yielded c.loop-head.rows.items _ c.in-Some.head _ so_far
          (λ whole own head. (after.looks is_open).found clean T has book whole (own, head)) c.in_ok-push.ensures.items);
    }

pub returns-in_err-whole-clause-looks : goal.returns-in_err-whole-clause-looks
returns-in_err-whole-clause-looks g c is_open =
    let loop = c.loop-head.invariant in
    let after = c.in_err-whole.ensures in
    stopped c.from_residual.ensures.0 (λ clean T has book may rows own.
    filled_failed loop.filled after.asks clean T has may c.in-Some.head (into_iter_items c.next.new.self) rows
    (ap (λ l. c.loop-head.yielded ++ l) (sym c.in-Some.ensures.steps.0) ∙ sym loop.whole ∙ own.1) own.0
    c.from_residual.result c.in_err-whole.field-0.0 c.from_residual.ensures.1
    (λ has may whole part head. (after.looks may.is_open).caused clean T has book may whole (part, head))) (asks_then _ _ _ loop.filled.asks after.asks)

pub returns-in_err-push-clause-looks : goal.returns-in_err-push-clause-looks
returns-in_err-push-clause-looks g c is_open =
    let r = c.from_residual-in_err-push.result in
    stopped c.from_residual-in_err-push.ensures.0 (λ clean T has book may rows own.
    all_of_memory r (state g.S.Store c.args.conn.now) (state g.S.Store c.complete.new.conn)
    (failed_as r (Engine (SqliteFailure OutOfMemory)) IsOfMemory refl c.from_residual-in_err-push.ensures.1))
    (asks_then _ _ _ c.loop-head.invariant.filled.asks c.in_ok-whole.ensures.asks)
