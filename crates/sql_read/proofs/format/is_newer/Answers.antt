use Rattle.sqlite.specs.Held.{state}
use Rattle.sql_read.proofs.FormatLemmas.{desk_fails, later_fails, later_is_newer, never_newer}
use Rattle.sql_read.proofs.{Readings.format_reading, Looking.query_as, Looking.rows_as, Results.failed_as, Results.not_true}
use Rattle.sql_schema.specs.Failing.{IsFailure}
use Rattle.sql_read.specs.{declared.formats.Format.TheVariants.First, declared.formats.Format.TheVariants.Second}
use Rattle.sql_read.proofs.format.is_newer.Goals as goal

pub all_rows-requires : goal.all_rows-requires
all_rows-requires g c = query_as c.all.ensures (format_reading Second).selecting

pub returns-clause-desk : goal.returns-clause-desk
returns-clause-desk g c clean T has =
    not_true c.is_newer_row.result (λ told.
    never_newer Second (state g.S.Store c.args.conn.now) (state g.S.Store c.all_rows.new.conn) T _ has
    ((rows_as (λ rows. rows.items) c.all.ensures c.in_ok-rows.ensures).shown clean)
    (rw (c.deref.ensures.value) at (c.is_newer_row.ensures.0 told)))

pub returns-in_err-rows-clause-fails : goal.returns-in_err-rows-clause-fails
returns-in_err-rows-clause-fails g c clean T has may =
    failed_as c.from_residual.result c.in_err-rows.field-0.0 IsFailure
    (desk_fails Second (state g.S.Store c.args.conn.now) (state g.S.Store c.all_rows.new.conn) T c.in_err-rows.field-0.0 has may
    ((rows_as (λ rows. rows.items) c.all.ensures c.in_err-rows.ensures).fails clean))
    c.from_residual.ensures.1

pub returns-clause-first : goal.returns-clause-first
returns-clause-first g c clean T has =
    not_true c.is_newer_row.result (λ told.
    never_newer First (state g.S.Store c.args.conn.now) (state g.S.Store c.all_rows.new.conn) T _ has
    ((rows_as (λ rows. rows.items) c.all.ensures c.in_ok-rows.ensures).shown clean)
    (rw (c.deref.ensures.value) at (c.is_newer_row.ensures.0 told)))

pub returns-in_err-rows-clause-first_fails : goal.returns-in_err-rows-clause-first_fails
returns-in_err-rows-clause-first_fails g c clean T has may =
    failed_as c.from_residual.result c.in_err-rows.field-0.0 IsFailure
    (desk_fails First (state g.S.Store c.args.conn.now) (state g.S.Store c.all_rows.new.conn) T c.in_err-rows.field-0.0 has may
    ((rows_as (λ rows. rows.items) c.all.ensures c.in_err-rows.ensures).fails clean))
    c.from_residual.ensures.1

pub returns-clause-later : goal.returns-clause-later
returns-clause-later g c clean later =
    c.is_newer_row.ensures.1 (rw (← c.deref.ensures.value) at
    (later_is_newer (state g.S.Store c.args.conn.now) (state g.S.Store c.all_rows.new.conn) _ later
    ((rows_as (λ rows. rows.items) c.all.ensures c.in_ok-rows.ensures).shown clean)))

pub returns-in_err-rows-clause-later_fails : goal.returns-in_err-rows-clause-later_fails
returns-in_err-rows-clause-later_fails g c clean later may =
    failed_as c.from_residual.result c.in_err-rows.field-0.0 IsFailure
    (later_fails (state g.S.Store c.args.conn.now) (state g.S.Store c.all_rows.new.conn) c.in_err-rows.field-0.0 later may
    ((rows_as (λ rows. rows.items) c.all.ensures c.in_err-rows.ensures).fails clean))
    c.from_residual.ensures.1
