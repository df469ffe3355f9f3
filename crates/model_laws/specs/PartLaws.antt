-- How a part of the tables answers and changes as the whole.
use Rattle.std.specs.Prelude.{ℕ, ◌≤◌, ◌≡◌, Bool, true, List, ◌∷◌, find}
use Rattle.std.specs.List.{filter}
use Rattle.desk_model.specs.Change.{applied, changes, recorded_changes, sweep_changes}
use Rattle.desk_model.specs.Kept.{Covers, CoversSweep, EachOf, HoldersKept, IsClosed, Kept, restricted}
use Rattle.desk_model.specs.{Allowed.may_on, Entry.History, Legal.EachFollows, Effect.effect, Effect.effects, Effect.swept, History.clock, History.record_all}
use Rattle.desk_model.specs.{Tables.Tables, Tables.picture, declared.entry.Entry.Entry, declared.objects.Nonce.Nonce, declared.rows.AccountRow.AccountRow}
use Rattle.desk_model.specs.{declared.rows.AuthorizationRow.AuthorizationRow, declared.rows.OrderRow.OrderRow}
use Rattle.model_laws.specs.Parts.{CoversAll, FreshKept, ReadsKept}

-- what is found by a test is the same where the rows that pass are kept
abbrev pub FindsSame : {Y : Type 0} → (X : Type 0) → ((X → Bool) → List X → Y) → Type 0
FindsSame X found =
    (test kept : X → Bool) (xs : List X) → EachOf (λ x. test x ≡ true → kept x ≡ true) xs →
    found test (filter kept xs) ≡ found test xs

-- what these entries record from this part of a picture makes the picture of the longer history
abbrev pub RecordsFrom : Tables → History → ℕ → List Entry → Type 0
RecordsFrom P F m es = applied (recorded_changes m P es) (picture F) ≡ picture (record_all m es F)

-- a part of the tables answers, moves and records as the whole, where it has what is looked for
pub record PartsAreEnough : Type 0 where
  -- in each table the first row that passes a test is found among the rows that are kept
  pub finds : FindsSame Nonce find × FindsSame AccountRow find × FindsSame AuthorizationRow find × FindsSame OrderRow find
  -- and so are all rows that pass it
  pub filters : FindsSame Nonce filter × FindsSame AccountRow filter × FindsSame AuthorizationRow filter × FindsSame OrderRow filter
  -- what may follow is the same where the rows that are read are kept
  pub may_follow : (k : Kept) (T : Tables) (e : Entry) → ReadsKept k T e → may_on (restricted k T) e ≡ may_on T e
  -- what entries record from a part that covers them makes the picture of the longer history
  pub recorded :
      (F : History) (k : Kept) (e : Entry) (es : List Entry) (m : ℕ) → clock F ≤ m → EachFollows (record_all m (e ∷ es) F) →
      IsClosed k (picture F) → CoversSweep k (picture F) m → CoversAll k m (swept m (picture F)) (e ∷ es) →
      RecordsFrom (restricted k (picture F)) F m (e ∷ es)
  -- the part, swept, is the part of the swept tables
  pub swept : (k : Kept) (T : Tables) (m : ℕ) → IsClosed k T → swept m (restricted k T) ≡ restricted k (swept m T)
  -- the part after an entry is the part of the tables after it, where the accounts of what it touches are kept
  pub effect :
      (k : Kept) (T : Tables) (m : ℕ) (e : Entry) → IsClosed k T → HoldersKept k T e → FreshKept k T m e →
      effect m (restricted k T) e ≡ restricted k (effect m T e)
  -- and so for entries in a row
  pub effects : (k : Kept) (m : ℕ) (T : Tables) (es : List Entry) → CoversAll k m T es → effects m (restricted k T) es ≡ restricted k (effects m T es)
  -- the part changes as the whole by the passing of time, where what falls is kept
  pub sweep_changes : (k : Kept) (T : Tables) (m : ℕ) → IsClosed k T → CoversSweep k T m → sweep_changes m (restricted k T) ≡ sweep_changes m T
  -- and by an entry, where what it touches is kept
  pub changes : (k : Kept) (T : Tables) (m : ℕ) (e : Entry) → IsClosed k T → Covers k T e → FreshKept k T m e → changes m (restricted k T) e ≡ changes m T e
