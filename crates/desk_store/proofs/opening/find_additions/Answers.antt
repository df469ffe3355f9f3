use Rattle.std.proofs.Common.{inl, inr, refl, subst, sym}
use Rattle.std.specs.Prelude.{IsSome}
use Rattle.sqlite.specs.Held.{state}
use Rattle.sql_read.specs.AllTables.{FailsAtFirst}
use Rattle.desk_store.proofs.{FirstBooks.first_may_read, OpeningFaults.refused_reading, RowReadings.reading_failed, RowReadings.reading_made}
use Rattle.desk_store.proofs.opening.find_additions.Goals as goal

pub returns-in-Ok-Some-clause-added : goal.returns-in-Ok-Some-clause-added
returns-in-Ok-Some-clause-added g c clean T has =
    let added = rw c.in-Ok-Some.field-0-is at (c.in-Ok-Some.ensures.added clean) in
    added T has.desk

pub returns-in-Ok-Some-clause-reads : goal.returns-in-Ok-Some-clause-reads
returns-in-Ok-Some-clause-reads g c =
    reading_made g.S.Store ⊥ c.args.conn.now c.read_additions.new.conn _ tt c.read_additions.ensures.asks c.in-Ok-Some.ensures.unchanged
    (λ clean.
    let it = c.in-Ok-Some.ensures.book clean (subst IsSome (sym c.in-Ok-Some.field-0-is) refl) in
    (it.2, record { stored = it.0; shown = it.1; is_book = it.3 })) (λ clean none. absurd none)

pub returns-in-Ok-None-clause-reads : goal.returns-in-Ok-None-clause-reads
returns-in-Ok-None-clause-reads g c =
    reading_made g.S.Store (Unit {0}) c.args.conn.now c.read_additions.new.conn _ (inr (refl, tt)) c.read_additions.ensures.asks
    c.in-Ok-None.ensures.unchanged (λ clean. tt)
    (λ clean _. (
      inr (c.in-Ok-None.ensures.none clean c.in-Ok-None.field-0-is),
      λ T has.
          let some = subst IsSome c.in-Ok-None.field-0-is (c.in-Ok-None.ensures.found clean T has.desk.holds has.desk.book) in
          absurd (cc some),
    ))

pub returns-in-Err-clause-reads : goal.returns-in-Err-clause-reads
returns-in-Err-clause-reads g c =
    reading_failed g.S.Store c.args.conn.now c.read_additions.new.conn c.opening_fault.new.conn c.in-Err.error c.opening_fault.result
    c.read_additions.ensures.asks
    (λ clean T has. c.in-Err.ensures.fails clean T has.desk.holds (first_may_read (state g.S.Store c.args.conn.now) T has) has.desk.book.texts)
    (λ clean other. inl (refused_reading c.in-Err.error (FailsAtFirst g.S.Store c.args.conn.now) (c.in-Err.ensures.refused clean) other))
    c.in-Err.ensures.met c.opening_fault.ensures.fault c.opening_fault.ensures.unchanged c.opening_fault.ensures.asks
