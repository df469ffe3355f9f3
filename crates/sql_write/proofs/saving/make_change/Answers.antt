use Rattle.std.proofs.Common.{subst}
use Rattle.sql_write.specs.{Makes.PutsOver, Makes.SavesAuthorization, Makes.SavesMeta, Makes.SavesOrder, Refusals.HasWritten}
use Rattle.sql_write.specs.{Statements.saves_account, Statements.saves_authorization, Statements.saves_meta, Statements.saves_order}
use Rattle.desk_model.specs.Change.{applied}
use Rattle.sql_write.proofs.MadeChanges.{makes_account, makes_authorization, makes_meta, makes_set_order, writes_change}
use Rattle.sql_write.proofs.saving.make_change.Goals as goal
use Rattle.sql_tables.specs.Layouts.{account_layout}

pub returns-in-PutMeta-clause-writes : goal.returns-in-PutMeta-clause-writes
returns-in-PutMeta-clause-writes g c =
    let part = applied c.args.before.now c.args.part.now in
    let run = c.save_meta in
    let stood = subst (λ k. HasWritten g.S.Store (saves_meta k c.in-PutMeta.row) (SavesMeta k c.in-PutMeta.row) c.args.tx.now.conn.now run.new.tx.conn.now
    run.result)
    c.stored_row.ensures run.ensures.writes in
    writes_change g.S.Store part c.args.last.now _ _ c.in-PutMeta.is _ _ _ run.result (makes_meta part c.in-PutMeta.row _ _) stood

pub returns-in-PutAccount-clause-writes : goal.returns-in-PutAccount-clause-writes
returns-in-PutAccount-clause-writes g c =
    let part = applied c.args.before.now c.args.part.now in
    let run = c.save_account in
    let stood = subst (λ k. HasWritten g.S.Store (saves_account k c.args.last.now.accounts c.in-PutAccount.row) (PutsOver account_layout k c.in-PutAccount.row)
    c.args.tx.now.conn.now run.new.tx.conn.now run.result)
    c.stored_row-stored.ensures run.ensures.writes in
    writes_change g.S.Store part c.args.last.now _ _ c.in-PutAccount.is _ _ _ run.result (makes_account part c.in-PutAccount.row _ _) stood

pub returns-in-PutAuthorization-clause-writes : goal.returns-in-PutAuthorization-clause-writes
returns-in-PutAuthorization-clause-writes g c =
    let part = applied c.args.before.now c.args.part.now in
    let run = c.save_authorization in
    let stood = subst (λ k. HasWritten g.S.Store (saves_authorization k c.args.last.now c.in-PutAuthorization.row)
    (SavesAuthorization k c.in-PutAuthorization.row) c.args.tx.now.conn.now run.new.tx.conn.now run.result)
    c.stored_row-stored-in-PutAuthorization.ensures run.ensures.writes in
    writes_change g.S.Store part c.args.last.now _ _ c.in-PutAuthorization.is _ _ _ run.result (makes_authorization part c.in-PutAuthorization.row _ _) stood

pub returns-in-PutOrder-clause-writes : goal.returns-in-PutOrder-clause-writes
returns-in-PutOrder-clause-writes g c =
    let part = applied c.args.before.now c.args.part.now in
    let run = c.save_order in
    let stood = subst (λ k. HasWritten g.S.Store (saves_order k c.args.last.now.orders c.in-PutOrder.row) (SavesOrder k c.in-PutOrder.row)
    c.args.tx.now.conn.now
    run.new.tx.conn.now run.result)
    c.stored_row-stored-in-PutOrder.ensures run.ensures.writes in
    writes_change g.S.Store part c.args.last.now _ _ c.in-PutOrder.is _ _ _ run.result (makes_set_order part c.in-PutOrder.row _ _) stood
