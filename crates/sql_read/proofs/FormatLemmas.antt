-- The tables of a desk are of no later format, and a later format shows.
use Rattle.std.proofs.Common.{◌≡◌, ◌<ℤ◌, ℤ, inl, inr, List, [], ◌∷◌, map, true, refl, sym, ap, subst, ◌∙◌, rules}
use Rattle.sqlite.specs.{declared.types.Value.TheVariants.Int, declared.error.Error.Error, State.State, State.FailsToQuery, State.Shown}
use Rattle.sqlite_value.specs.Order.{Row, column}
use Rattle.sqlite_sql.specs.{Query.Output, Term.col}
use Rattle.sqlite.proofs.Callers.{one_permutation}
use Rattle.store_columns.specs.Columns.{known_format}
use Rattle.desk_model.specs.{Tables.Tables, declared.rows.Meta.Meta}
use Rattle.sql_tables.specs.Images.{formatted_image}
use Rattle.sql_read.specs.{BookShown.HoldsIn, Failures.MayRead, Format.IsNewer, Format.IsOfLaterFormat, declared.formats.Format.Format}
use Rattle.sql_read.specs.{declared.formats.Format.TheVariants.First, declared.formats.Format.TheVariants.Second}
use Rattle.sql_schema.specs.declared.meta.TheConstants as meta
use Rattle.sql_read.proofs.Answered.{answers_from, matched, picked, shown_somehow}
use Rattle.sql_read.proofs.{Failing.join_fails, Readings.format_reading, KeptRows.format_kept, KeptRows.number_of, KeptRows.schema_of}
use Rattle.sql_schema.specs.Failing.{IsFailure}

module _ (f : Format) (old new : State) (there : old.now.schema ≡ schema_of f) where
  -- one row of `meta` is shown by its format
  format_shown : (format : ℤ) (m : Meta) (rows : List Row) → old.now.trees 0 ≡ map formatted_image ((format, m) ∷ [])
      → Shown meta.SELECT_FORMAT.now [] old new rows → rows ≡ (Int format ∷ []) ∷ []
  format_shown format m rows alone h =
      let project = col 1 2 ∷ [] in
      let shown : ℤ × Meta → Output = λ m. ([], Int m.0 ∷ []) in
      let it = answers_from (format_reading f) old new there
      (matched formatted_image (λ (m : ℤ × Meta). m) 0 [] project [] [] (λ _. true) shown (λ _. refl) (λ _. refl) (λ _. refl) old.now.trees ((format, m) ∷ [])
      alone) rows h in
      it.2 ∙ one_permutation (Int format ∷ []) it.0 (shown_somehow (picked 0 [] project []) shown ((format, m) ∷ []) it.0 it.1)

  -- its reading fails for memory or the disk alone
  format_fails : (e : Error) → MayRead old → FailsToQuery meta.SELECT_FORMAT.now [] old new e → IsFailure e
  format_fails e may = join_fails refl (format_reading f) old new there e may

-- ---- a desk

-- neither format is a later one
none_later : (format : Format) → ¬ (known_format <ℤ number_of format)
none_later format h = search rules

-- so its row is of no later one
pub never_newer : (format : Format) (old new : State) (T : Tables) (rows : List Row) → HoldsIn format old.now T
    → Shown meta.SELECT_FORMAT.now [] old new rows → ¬ IsNewer rows
never_newer format old new T rows has h newer =
    let kept = (format_kept old.now T format has).rows in
    let one = format_shown format old new kept.there (number_of format) T.meta rows kept.rows_are h in
    let row : newer.row ≡ Int (number_of format) ∷ [] = (let e = sym newer.alone ∙ one in cc) in
    let shown : Int newer.format ≡ Int (number_of format) = sym newer.is ∙ ap (λ r. column r 0) row in
    let same : newer.format ≡ number_of format = cc in
    none_later format (subst (λ n. known_format <ℤ n) same newer.above)

-- and the reading fails for memory or the disk alone
pub desk_fails : (format : Format) (old new : State) (T : Tables) (e : Error) → HoldsIn format old.now T → MayRead old
    → FailsToQuery meta.SELECT_FORMAT.now [] old new e → IsFailure e
desk_fails format old new T e has may = format_fails format old new (format_kept old.now T format has).rows.there e may

-- ---- a later format

-- a later format shows
pub later_is_newer : (old new : State) (rows : List Row) → IsOfLaterFormat old.now → Shown meta.SELECT_FORMAT.now [] old new rows → IsNewer rows
later_is_newer old new rows later h = record {
  row = Int later.format ∷ [];
  format = later.format;
  alone = elim later.schema [
    | inl todays ↦ format_shown Second old new todays later.format later.meta rows later.alone h
    | inr ones ↦ format_shown First old new ones later.format later.meta rows later.alone h
  ];
  is = refl;
  above = later.above;
}

-- and a reading of it fails for memory or the disk alone
pub later_fails : (old new : State) (e : Error) → IsOfLaterFormat old.now → MayRead old → FailsToQuery meta.SELECT_FORMAT.now [] old new e → IsFailure e
later_fails old new e later = elim later.schema [
  | inl todays ↦ format_fails Second old new todays e
  | inr ones ↦ format_fails First old new ones e
]
