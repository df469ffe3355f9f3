use Rattle.std.proofs.Common.{rules}
use Rattle.sqlite.specs.Held.{state}
use Rattle.store_columns.specs.Columns.{known_format}
use Rattle.sql_schema.specs.Defined.{Defines}
use Rattle.sql_tables.specs.{Effects.Puts, Layouts.formatted_layout}
use Rattle.sql_tables.proofs.{Holding.holds_first, Upserts.puts_known}
use Rattle.sql_write.proofs.Written.{written_first, written_then}
use Rattle.sql_write.specs.{Making.MakesDesk, declared.stored.Write.TheVariants.Upsert}
use Rattle.sql_write.specs.Statements.{defines_before, make_statements, meta_writing, writes}
use Rattle.sql_write.proofs.making.define_desk.Goals as goal

pub returns-clause-writes : goal.returns-clause-writes
unfolding make_statements
returns-clause-writes g c =
    let meta = c.args.meta.now in
    let defined = c.in_ok-define_all.ensures in
    let old = (state g.S.Store c.args.tx.now.conn.now).now in
    let mid = (state g.S.Store c.define_all.new.tx.conn.now).now in
    let new = (state g.S.Store c.write_meta.new.tx.conn.now).now in
    written_then g.S.Store (defines_before 16) (writes meta_writing Upsert (known_format, meta)) (Defines 16) (Puts formatted_layout (known_format, meta))
    (MakesDesk meta) _ _ _ tt c.write_meta.result (λ defines puts. holds_first old mid new meta defines (puts_known meta mid new puts))
    (record { does = defined.ok; kept = defined.kept; survives = defined.survives; told = defined.told }) c.write_meta.ensures.writes

pub returns-in_err-define_all-clause-writes : goal.returns-in_err-define_all-clause-writes
unfolding make_statements
returns-in_err-define_all-clause-writes g c =
    let failed = c.in_err-define_all.ensures in
    let stops = written_first g.S.Store {X = Unit {0}} {Y = Unit {0}} (defines_before 16) (writes meta_writing Upsert (known_format, c.args.meta.now))
    (Defines 16) (MakesDesk c.args.meta.now) _ _ _ (record { does = tt; kept = failed.kept; survives = failed.survives; told = failed.told }) in
    search (rules, stops)
