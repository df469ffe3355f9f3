-- What a store promises of loading a part for a call, and of saving changes.
use Rattle.std.specs.Prelude.{◌≡◌, ◌⊎◌, List, Option, Result, OnOk, IfOk, IfErr}
use Rattle.desk_model.specs.{Entry.History, Legal.Legal, Change.applied, Tables.Tables, Tables.picture, declared.call.Call.Call, declared.rows.Change.Change}
use Rattle.model_laws.specs.News.{AreKept}
use Rattle.model_parts.specs.{IsEnough.IsEnoughFor, Thinned.Thinning, Thinned.thinned}
use Rattle.store_book.specs.IsBook.{IsStoredBook}
use Rattle.store_api.specs.{Sight.Sight, Sight.Keeps, Sight.Reads, Sight.Unchanged, declared.fault.StorageFault.StorageFault}
use Rattle.store_api.specs.declared.fault.StorageFault.TheVariants as fault

-- the changes fit these tables, one after the other: each row in the place of another keeps its children, and with all of them
-- the tables are a book that a file can hold
pub record Fit (T : Tables) (changes : List Change) : Type 0 where
  pub kept : AreKept T changes
  pub book : IsStoredBook (applied changes T)

-- what was to be saved: changes, by a part of the tables before them
pub record Saving : Type 0 where
  pub part : Tables
  pub changes : List Change

-- what a fault comes from, by the store before and after: of a look-up, or of a saving
abbrev pub Causes : Type 0 → Type 1
Causes S = Option Saving → S → S → StorageFault → Type 0

-- the rows are some of those of these tables, of which they may lack what belongs to them
abbrev pub IsCutFrom : Tables → Tables → Type 0
IsCutFrom part T = (kept : Thinning) × (part ≡ thinned kept T)

module _ {S C : Type 0} (v : Sight S C) where
  -- ---- a part for a call

  -- the book is enough for the call, a part of whatever legal history's picture the store had
  abbrev pub IsPartOf : Call → S → Tables → Type 0
  IsPartOf call old book = (F : History) → Legal F → v.holds old (picture F) → IsEnoughFor call (picture F) book

  -- a part for the call was loaded, and nothing changed
  pub record Loads (call : Call) (old new : S) (result : Result Tables StorageFault) : Type 0 where
    pub reads : Reads v old new result
    pub part : v.is_honest new → IfOk result (IsPartOf call old)

  -- ---- changes

  -- whatever tables of this kind the store had, where the changes fit them it has them with the changes, and a stop leaves these alone
  abbrev pub HasSaved : (Tables → Type 0) → List Change → S → S → Type 0
  HasSaved Of changes old new = (T : Tables) → Of T → Fit T changes → v.holds old T → Keeps v new (applied changes T)

  -- the content has the tables of the store with the changes, where they are of this kind and the changes fit
  abbrev pub HasChanges : (Tables → Type 0) → List Change → S → C → Type 0
  HasChanges Of changes old c = (T : Tables) → Of T → Fit T changes → v.holds old T → v.has c (applied changes T)

  -- all changes were saved or, where memory was refused, none; after another fault a stop leaves all of them or none
  pub record SavesOf {R : Type 0} (Of : Tables → Type 0) (changes : List Change) (old new : S) (result : Result R StorageFault) : Type 0 where
    pub honest : v.is_honest new → v.is_honest old
    pub left : v.is_honest new → (c : C) → v.leaves new c → v.leaves old c ⊎ HasChanges Of changes old c
    pub saved : v.is_honest new → OnOk result (HasSaved Of changes old new)
    pub without_memory : IfErr result (λ why. why ≡ fault.Memory → Unchanged v old new)

  -- the same of those that the part was cut from
  abbrev pub SavesFrom : {R : Type 0} → Tables → List Change → S → S → Result R StorageFault → Type 0
  SavesFrom part changes old new result = SavesOf (IsCutFrom part) changes old new result
