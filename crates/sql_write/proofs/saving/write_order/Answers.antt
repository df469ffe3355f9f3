use Rattle.std.proofs.Common.{Ok, refl, rules, subst, sym}
use Rattle.std.specs.List.{flat_map}
use Rattle.sqlite.specs.Held.{state}
use Rattle.store_columns.specs.{Columns.order_columns, Flat.owned_by}
use Rattle.sql_write.proofs.{Exits.in_either, Written.nothing_written, Written.written_first, Written.written_then}
use Rattle.sql_write.specs.{Makes.Lists, Makes.Writes, Makes.WritesListed, Makes.WritesOrder, Refusals.HasWritten, Statements.lists, Statements.order_writing}
use Rattle.sql_write.specs.{Statements.writes, Statements.writes_listed, declared.stored.Write.TheVariants.Upsert, declared.stored.Write.TheVariants.Insert}
use Rattle.sql_write.specs.{declared.stored.Write.TheVariants.Update}
use Rattle.sql_write.proofs.saving.write_order.Goals as goal
use Rattle.sql_tables.specs.{Images.order_kept, Layouts.order_layout}

pub returns-in-Upsert-clause-writes : goal.returns-in-Upsert-clause-writes
returns-in-Upsert-clause-writes g c =
    let row = c.args.row.now in
    let mid = c.write_bare_order.new.tx.conn.now in
    let run = c.write_all_listed in
    let last = subst (λ rows. HasWritten g.S.Store (flat_map (writes_listed c.args.write row.number) rows)
    (WritesListed c.args.write (owned_by row.number rows)) mid run.new.tx.conn.now run.result) c.as_slice.ensures run.ensures.writes in
    let then = in_either (λ m. HasWritten g.S.Store (flat_map (writes_listed m row.number) row.listed) (WritesListed m (owned_by row.number row.listed))
    mid run.new.tx.conn.now run.result → HasWritten g.S.Store (lists m row) (Lists m row) mid run.new.tx.conn.now run.result)
    c.args.write Upsert Insert c.in-Upsert.is (λ listed. listed) (λ listed. listed) last in
    written_then g.S.Store (writes order_writing c.args.write row) (lists c.args.write row)
    (Writes order_layout (λ x. order_kept (order_columns x)) c.args.write row) (Lists c.args.write row) (WritesOrder c.args.write row)
    _ _ _ tt run.result (λ first behind. ((state g.S.Store mid).now, first, behind)) c.in_ok-write_bare_order.ensures.writes then

pub returns-in-Update-clause-writes : goal.returns-in-Update-clause-writes
returns-in-Update-clause-writes g c =
    let row = c.args.row.now in
    let mid = c.write_bare_order.new.tx.conn.now in
    let then = subst (λ m. HasWritten g.S.Store {X = Unit {0}} (lists m row) (Lists m row) mid mid (Ok tt)) (sym c.in-Update.is)
    (nothing_written g.S.Store (Lists Update row) mid tt refl) in
    written_then g.S.Store (writes order_writing c.args.write row) (lists c.args.write row)
    (Writes order_layout (λ x. order_kept (order_columns x)) c.args.write row) (Lists c.args.write row) (WritesOrder c.args.write row)
    _ _ _ tt (Ok tt) (λ first behind. ((state g.S.Store mid).now, first, behind)) c.in_ok-write_bare_order.ensures.writes then

pub returns-in_err-write_bare_order-clause-writes : goal.returns-in_err-write_bare_order-clause-writes
returns-in_err-write_bare_order-clause-writes g c =
    let row = c.args.row.now in
    let stops = written_first g.S.Store {X = Unit {0}} (writes order_writing c.args.write row) (lists c.args.write row) _ (WritesOrder c.args.write row) _ _ _
    c.in_err-write_bare_order.ensures.writes in
    search (rules, stops)
