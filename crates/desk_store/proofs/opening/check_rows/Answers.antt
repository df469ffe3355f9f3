use Rattle.std.proofs.Common.{inl, inr, refl, sym, ◌∙◌}
use Rattle.sql_read.specs.AllTables.{FailsAtTable}
use Rattle.sqlite.specs.Held.{state}
use Rattle.desk_store.proofs.{Books.may_read, OpeningFaults.refused_reading, RowReadings.reading_failed, RowReadings.reading_made}
use Rattle.desk_store.proofs.opening.check_rows.Goals as goal

pub returns-in-Ok-true : goal.returns-in-Ok-true
returns-in-Ok-true g c =
    reading_made g.S.Store ⊥ c.args.conn.now c.has_book_rows.new.conn _ tt c.has_book_rows.ensures.asks c.in-Ok-true.ensures.unchanged
    (λ clean.
    let it = c.in-Ok-true.ensures.book clean c.in-Ok-true.field-0-test in
    (it.2, record { stored = it.0; shown = it.1; is_book = it.3 })) (λ clean none. absurd none)

pub returns-in-Ok-false : goal.returns-in-Ok-false
returns-in-Ok-false g c =
    reading_made g.S.Store (Unit {0}) c.args.conn.now c.has_book_rows.new.conn _ (inr (refl, tt)) c.has_book_rows.ensures.asks
    c.in-Ok-false.ensures.unchanged (λ clean. tt)
    (λ clean _. (
      inr (c.in-Ok-false.ensures.none clean c.in-Ok-false.field-0-test),
      λ T has. absurd (let never = sym c.in-Ok-false.field-0-test ∙ c.in-Ok-false.ensures.found clean T has.desk.holds has.desk.book in cc),
    ))

pub returns-in-Err : goal.returns-in-Err
returns-in-Err g c =
    reading_failed g.S.Store c.args.conn.now c.has_book_rows.new.conn c.opening_fault.new.conn c.in-Err.error c.opening_fault.result
    c.has_book_rows.ensures.asks
    (λ clean T has. c.in-Err.ensures.fails clean T has.desk.holds (may_read (state g.S.Store c.args.conn.now) T has) has.desk.book.texts)
    (λ clean other. inl (refused_reading c.in-Err.error (FailsAtTable g.S.Store c.args.conn.now) (c.in-Err.ensures.refused clean) other))
    c.in-Err.ensures.met c.opening_fault.ensures.fault c.opening_fault.ensures.unchanged c.opening_fault.ensures.asks
