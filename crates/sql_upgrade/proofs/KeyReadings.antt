-- Tables that are read for keys, one after the other.
use Rattle.std.proofs.Common.{◌⊎◌, inl, inr, ℕ, List, Option, Some, None, Result, Err, IfErr, IfOk, IfSome, IsSome, MatchOption, OnOk, refl, rules}
use Rattle.sqlite.specs.{Held.Held, Held.state, Order.Row, Store.Ghosts, State.HasCleanDisk, State.IsUnchanged, declared.error.Error.Error}
use Rattle.store_book.specs.IsBook.{IsBookOfStored, IsStoredBook}
use Rattle.store_columns.specs.declared.columns.StoredRows.{StoredRows}
use Rattle.desk_model.specs.Tables.{Tables}
use Rattle.sql_read.specs.{AllTables.FailsAtFirst, First.AreFirstShown, FirstRows.HasNoFirstBook, FirstRows.IsFirstReadable, Reads.Reads}
use Rattle.sql_read.specs.Failures.{FailsHere, HasTexts, IsMet, IsOutOfMemory, IsReadable, MayRead}
use Rattle.sql_read.proofs.{FirstChecked.FailsAtRows, FirstChecked.reads_err, HeldBooks.held_first_only, Results.fails_then}
use Rattle.sql_schema.specs.{Failing.IsFailure, Stays.Asks}
use Rattle.sql_tables.specs.Holds.{HoldsFirst}
use Rattle.sql_upgrade.specs.{Checked.AreChecked, declared.additions.Additions.Additions}

module _ {S A : Type 0} (g : Ghosts S) where
  -- one table was read, or its reading failed, or rows did not pass
  pub table_read : (text : List ℕ) (Fits : Row → Type 0) (N : Type 0) (P : A → Type 0) (old new : Held S) (r : Result (Option A) Error)
      → ((e : Error) → FailsHere g old text Fits e → FailsAtFirst g old e)
      → ((T : Tables) → HoldsFirst (state g old).now T → HasTexts T → IsReadable g old text Fits)
      → (HasCleanDisk (state g new) → IfOk r (λ found. MatchOption found N P))
      → (HasCleanDisk (state g new) → MayRead (state g old) → IsReadable g old text Fits → IfErr r IsFailure)
      → (HasCleanDisk (state g new) → IfErr r (λ e. IsOutOfMemory e ⊎ FailsHere g old text Fits e))
      → (HasCleanDisk (state g new) → IfErr r (IsMet (state g old) (state g new)))
      → (HasCleanDisk (state g new) → OnOk r (IsUnchanged (state g old) (state g new))) → Asks (state g old) (state g new)
      → Reads g old new (λ found. MatchOption found N P) (IsFirstReadable g old) (FailsAtRows g old) r
  table_read text Fits N P old new r at readable shown fails refused met same asks = record {
    shown = shown;
    fails = λ clean may is. fails clean may (readable is.tables is.holds is.texts);
    refused = λ clean. fails_then r (refused clean) (λ e h. elim h [
      | inl memory ↦ inl memory
      | inr here ↦ inr (at e here)
    ]);
    met = met;
    unchanged = same;
    asks = asks;
  }

  -- its reading failed
  pub table_failed : (text : List ℕ) (Fits : Row → Type 0) (P : Option A → Type 0) (old new : Held S) (e : Error)
      → (FailsHere g old text Fits e → FailsAtFirst g old e)
      → ((T : Tables) → HoldsFirst (state g old).now T → HasTexts T → IsReadable g old text Fits)
      → (HasCleanDisk (state g new) → MayRead (state g old) → IsReadable g old text Fits → IsFailure e)
      → (HasCleanDisk (state g new) → IsOutOfMemory e ⊎ FailsHere g old text Fits e)
      → (HasCleanDisk (state g new) → IsMet (state g old) (state g new) e) → Asks (state g old) (state g new)
      → Reads g old new P (IsFirstReadable g old) (FailsAtRows g old) (Err e)
  table_failed text Fits P old new e at readable fails refused met asks =
      reads_err g (λ clean may is. fails clean may (readable is.tables is.holds is.texts)) (λ clean. elim (refused clean) [
        | inl memory ↦ inl memory
        | inr here ↦ inr (at here)
      ]) met asks

-- where something is added, there is a book
pub has_checked_book : {S : Type 0} (g : Ghosts S) (N : Type 0) (conn : Held S) (found : Option Additions) → MatchOption found N (AreChecked g conn)
    → IsSome found
    → (stored : StoredRows) × AreFirstShown g conn stored × (T : Tables) × IsBookOfStored stored T
has_checked_book g N conn None is some = absurd (let never = some in cc)
has_checked_book g N conn (Some additions) is some = (is.stored, is.shown, is.book, is.is_book)

-- what is so of what was found
pub some_said : {A : Type 0} (N : Type 0) (P : A → Type 0) (found : Option A) → MatchOption found N P → IfSome found P
some_said N P found h = search rules

-- of a desk something is
pub is_found : {S : Type 0} (g : Ghosts S) (conn : Held S) (T : Tables) → HoldsFirst (state g conn).now T → IsStoredBook T → (found : Option Additions)
    → MatchOption found (HasNoFirstBook g conn) (AreChecked g conn) → IsSome found
is_found g conn T has book None none = absurd (none T (held_first_only g conn T book has))
is_found g conn T has book (Some additions) are = refl
