use Rattle.std.proofs.Common.{◌++◌, rules}
use Rattle.std.specs.List.{flat_map}
use Rattle.sqlite.specs.Held.{state}
use Rattle.store_columns.specs.Columns.{known_format}
use Rattle.sql_schema.specs.Defined.{AddsKeyTable}
use Rattle.sql_tables.specs.{Effects.Puts, Layouts.formatted_layout, Layouts.key_layout}
use Rattle.sql_write.proofs.{Upgraded.upgrades, Written.written_first, Written.written_then}
use Rattle.sql_write.specs.Statements.{defines, key_writing, meta_writing, upgrade_statements, writes}
use Rattle.sql_write.specs.{Makes.PutsAll, Upgrading.Fills, Upgrading.Upgrades, declared.stored.Write.TheVariants.Upsert}
use Rattle.sql_write.proofs.upgrading.widen.Goals as goal

pub returns-clause-writes : goal.returns-clause-writes
unfolding upgrade_statements
returns-clause-writes g c =
    let meta = c.args.meta.now in
    let keys = c.args.keys.now in
    let mid = (state g.S.Store c.write_keys.new.tx.conn.now).now in
    written_then g.S.Store _ _ AddsKeyTable (Fills meta keys) (Upgrades meta keys) _ _ _ tt c.write_meta.result (upgrades meta keys _ _ _)
    c.in_ok-define_key_table.ensures.writes
    (written_then g.S.Store (flat_map (writes key_writing Upsert) keys) (writes meta_writing Upsert (known_format, meta)) (PutsAll key_layout keys)
    (Puts formatted_layout (known_format, meta)) (Fills meta keys) _ _ _ tt c.write_meta.result (λ first last. (mid, first, last))
    c.in_ok-write_keys.ensures.writes c.write_meta.ensures.writes)

pub returns-in_err-define_key_table-clause-writes : goal.returns-in_err-define_key_table-clause-writes
unfolding upgrade_statements
returns-in_err-define_key_table-clause-writes g c =
    let meta = c.args.meta.now in
    let keys = c.args.keys.now in
    let stops = written_first g.S.Store {X = Unit {0}} (defines 15)
    (flat_map (writes key_writing Upsert) keys ++ writes meta_writing Upsert (known_format, meta)) _
    (Upgrades meta keys) _ _ _ c.in_err-define_key_table.ensures.writes in
    search (rules, stops)

pub returns-in_err-write_keys-clause-writes : goal.returns-in_err-write_keys-clause-writes
unfolding upgrade_statements
returns-in_err-write_keys-clause-writes g c =
    let meta = c.args.meta.now in
    let keys = c.args.keys.now in
    let stops = written_then g.S.Store {X = Unit {0}} _ _ AddsKeyTable (Fills meta keys) (Upgrades meta keys) _ _ _ tt _ (upgrades meta keys _ _ _)
    c.in_ok-define_key_table.ensures.writes
    (written_first g.S.Store {X = Unit {0}} (flat_map (writes key_writing Upsert) keys) (writes meta_writing Upsert (known_format, meta)) _
    (Fills meta keys) _ _ _ c.in_err-write_keys.ensures.writes) in
    search (rules, stops)

pub returns-clause-fits : goal.returns-clause-fits
returns-clause-fits g c meta keys = c.write_meta.ensures.fits meta
