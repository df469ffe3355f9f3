use Rattle.std.proofs.{Common.◌≡◌, Common.◌≢◌, Common.[], Common.◌∷◌, Common.inl, Common.inr, Common.map, Common.refl, Common.◌∙◌, lemmas.Simd.map-map}
use Rattle.store_columns.specs.{Columns.meta_columns, Limits.IsStoredMeta}
use Rattle.desk_model.specs.declared.rows.Meta.{Meta}
use Rattle.sql_read.specs.{Failures.IsOutOfMemory, First.raised_meta, Spelled.meta_in, declared.formats.Format.TheVariants.Second}
use Rattle.sqlite.specs.Held.{state}
use Rattle.sql_read.proofs.Results.{either_then, fails_then, fails_under, found_or, read_both, read_then}
use Rattle.sql_read.proofs.{FirstChecked.reads_err, Looking.query_as, Looking.rows_as, Readings.meta_reading, ShownRows.shown_now, MetFaults.no_device}
use Rattle.sql_schema.specs.declared.meta.TheConstants as meta
use Rattle.sql_read.proofs.first.read_first_meta.Goals as goal

pub all_rows-requires : goal.all_rows-requires
all_rows-requires g c = query_as c.all.ensures (meta_reading Second).selecting

pub returns-in-Ok : goal.returns-in-Ok
returns-in-Ok g c =
    let old = c.args.conn.now in
    let new = c.all_rows.new.conn in
    let rows = c.in-Ok.rows.items in
    let read = rows_as (λ rows. rows.items) c.all.ensures c.in-Ok.ensures in
    let r = c.only_meta.result in
    let found = rw c.deref.ensures.value at c.only_meta.ensures.row in
    let none = rw c.deref.ensures.value at c.only_meta.ensures.none in
    let fails = fails_under r IsOutOfMemory (rw c.deref.ensures.value at c.only_meta.ensures.fails) in
    record {
      shown = λ clean. read_both r found none (λ found is none.
          either_then found
          (found_or ((row : Meta) → IsStoredMeta row → map (λ r. raised_meta (meta_in r)) rows ≢ map meta_columns (row ∷ []))
          (λ row. IsStoredMeta row × (map (λ r. raised_meta (meta_in r)) rows ≡ map meta_columns (row ∷ []))) found is none)
          (λ none row stored alone. none row stored (alone.whole old new rows refl (read.shown clean)))
          (λ row both. record {
            read = map meta_in rows;
            shown = shown_now g.S.Store meta.SELECT.now meta_in old new rows _ (read.shown clean) refl;
            raised = map-map raised_meta meta_in rows ∙ both.1;
            stored = both.0;
          }));
      fails = λ clean may readable. fails_then r fails (λ e memory. readable old new e refl may (inr (rows, read.shown clean, memory)));
      refused = λ clean. fails_then r fails (λ e memory.
          inr (record { before = old; after = new; same = refl; fails = inr (rows, read.shown clean, memory) }));
      met = λ clean. fails_then r c.only_meta.ensures.kind (λ e none. no_device (state g.S.Store old) (state g.S.Store new) e none);
      unchanged = λ clean. read_then r found (λ _ _. read.unchanged clean);
      asks = read.asks;
    }

pub returns-in-Err : goal.returns-in-Err
returns-in-Err g c =
    let old = c.args.conn.now in
    let new = c.all_rows.new.conn in
    let read = rows_as (λ rows. rows.items) c.all.ensures c.in-Err.ensures in
    reads_err g.S.Store (λ clean may readable. readable old new c.in-Err.error refl may (inl (read.fails clean)))
    (λ clean. inr (record { before = old; after = new; same = refl; fails = inl (read.fails clean) })) read.met read.asks
