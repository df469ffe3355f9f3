use Rattle.std.proofs.Common.{◌∙◌, false, sym}
use Rattle.std.specs.Prelude.{option_copied}
use Rattle.store_columns.specs.Columns.{known_format}
use Rattle.sql_write.proofs.Over.{differs_beside, set_none, set_some}
use Rattle.sql_write.proofs.{Differing.meta_differs, Differing.not_inserted, RowsInTurn.writes_renewed, Written.written_as}
use Rattle.sql_write.specs.{Differences.meta_difference, Statements.meta_writing, Statements.writes}
use Rattle.sql_tables.specs.Layouts.{formatted_layout}
use Rattle.sql_write.proofs.saving.save_meta.Goals as goal

pub returns-in-Some-clause-writes : goal.returns-in-Some-clause-writes
returns-in-Some-clause-writes g c =
    let row = c.args.row.now in
    let stored = option_copied c.args.stored in
    set_some g.S.Store (meta_differs row stored) false (λ m. writes meta_writing m (known_format, row))
    (differs_beside known_format (λ old. meta_difference old row) stored)
    c.of.ensures c.meta_difference.ensures c.in-Some.is
    (written_as g.S.Store _ _ _ _ _ _ (writes_renewed formatted_layout _ (known_format, row) c.in-Some.write _ _
    (not_inserted _ c.in-Some.write (sym c.of.ensures ∙ c.in-Some.is))) c.write_meta.ensures.writes)

pub returns-in-None-clause-writes : goal.returns-in-None-clause-writes
returns-in-None-clause-writes g c =
    let row = c.args.row.now in
    let stored = option_copied c.args.stored in
    set_none g.S.Store (meta_differs row stored) false (λ m. writes meta_writing m (known_format, row))
    (differs_beside known_format (λ old. meta_difference old row) stored)
    c.of.ensures c.meta_difference.ensures c.in-None.is
