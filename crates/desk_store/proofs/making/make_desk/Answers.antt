use Rattle.std.proofs.Common.{◌≡◌, ◌∙◌, ap, subst}
use Rattle.sqlite.specs.Held.{state}
use Rattle.sqlite.proofs.StateLemmas.{survives_then, survives_weaker}
use Rattle.desk_model.specs.{declared.rows.Meta.Meta, Tables.Tables}
use Rattle.sql_write.specs.{Committing.HasCommitted, Committing.IsLeft, Making.MakesDesk, Refusals.IsCause, Statements.make_statements, Fits.FitsMeta}
use Rattle.desk_store.specs.Making.{new_meta}
use Rattle.desk_store.proofs.{NewDesks.desk_left, NewDesks.desk_made, Failing.failed_to_save}
use Rattle.desk_store.proofs.making.make_desk.Goals as goal

pub returns-in-Ok-clause-made : goal.returns-in-Ok-clause-made
returns-in-Ok-clause-made g c clean =
    let old = state g.S.Store c.args.conn.now in
    let new = state g.S.Store c.make_tables-made.new.conn in
    desk_made c.args.policy c.args.at c.new-book.result c.new-book.ensures.picture c.new-book.ensures.legal old new c.make_tables-made.ensures.idle
    c.make_tables-made.ensures.left.limit (subst (λ (meta : Meta). HasCommitted old new (MakesDesk meta)) c.meta.ensures (c.in-Ok.ensures.ok clean))

pub returns-in-Ok-clause-left : goal.returns-in-Ok-clause-left
returns-in-Ok-clause-left g c =
    let old = state g.S.Store c.args.conn.now in
    survives_weaker old (state g.S.Store c.make_tables-made.new.conn) _ _
    (λ _ trees left. desk_left c.args.policy c.args.at c.new-book.result c.new-book.ensures.picture c.new-book.ensures.legal old trees
    (subst (λ (meta : Meta). IsLeft (MakesDesk meta old.now) trees) c.meta.ensures left)) c.make_tables-made.ensures.left

pub returns-in-Err-clause-left : goal.returns-in-Err-clause-left
returns-in-Err-clause-left g c =
    let old = state g.S.Store c.args.conn.now in
    survives_then old (state g.S.Store c.make_tables-made.new.conn) (state g.S.Store c.saving_fault.new.conn) _ _ _
    (λ _ trees left. desk_left c.args.policy c.args.at c.new-book.result c.new-book.ensures.picture c.new-book.ensures.legal old trees
    (subst (λ (meta : Meta). IsLeft (MakesDesk meta old.now) trees) c.meta.ensures left))
    (λ _ _ none. absurd none) c.make_tables-made.ensures.left c.saving_fault.ensures.asks.survives

pub returns-in-Err-clause-failed : goal.returns-in-Err-clause-failed
returns-in-Err-clause-failed g c =
    let is : c.meta.result.now ≡ new_meta c.args.policy c.args.at = c.meta.ensures ∙ ap (λ (T : Tables). T.meta) c.new-book.ensures.picture in
    let cause =
    subst (λ (meta : Meta). IsCause g.S.Store (FitsMeta meta) (make_statements meta) c.args.conn.now c.make_tables-made.new.conn c.in-Err.fault) is
    c.in-Err.ensures.cause in
    failed_to_save g.S.Store _ _ c.args.conn.now c.make_tables-made.new.conn c.saving_fault.new.conn
    c.in-Err.fault c.saving_fault.result c.saving_fault.ensures.fault cause c.in-Err.ensures.before c.saving_fault.ensures.asks
    c.make_tables-made.ensures.idle c.saving_fault.ensures.silent
