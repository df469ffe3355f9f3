-- How the tables follow the facts.
use Rattle.std.specs.Prelude.{ℕ, ◌≤◌, ◌≡◌, IsTrue, List, [], ◌∷◌}
use Rattle.desk_model.specs.{Allowed.may_on, Derived.status_faults, Entry.History, Limits.last_moment, Effect.effect, Effect.effects, Effect.swept}
use Rattle.desk_model.specs.{History.clock, History.record_all, Legal.EachFollows, Legal.IsFormed, Legal.may_follow, Tables.tables_at, Tables.picture}
use Rattle.desk_model.specs.{declared.entry.Entry.Entry}
use Rattle.model_laws.specs.Later.{IsLater}

-- each status that is stored is the one that its row's columns give
abbrev pub TablesHaveNoFaults : Type 0
TablesHaveNoFaults = (F : History) (t : ℕ) → EachFollows F → status_faults (tables_at F t) ≡ []

-- how the tables of a history change by the passing of time and by each entry
pub record TablesFollowFacts : Type 0 where
  -- the tables at a later moment are those of the earlier one, swept
  pub sweep : (F : History) (t m : ℕ) → t ≤ m → tables_at F m ≡ swept m (tables_at F t)
  -- the tables after an entry are its effect on those before it
  pub step :
      (F : History) (e : Entry) (m : ℕ) → EachFollows (record { date = m; entry = e } ∷ F) →
      tables_at (record { date = m; entry = e } ∷ F) m ≡ effect m (tables_at F m) e
  -- and so for entries in a row
  pub steps : (F : History) (es : List Entry) (m : ℕ) → EachFollows (record_all m es F) → tables_at (record_all m es F) m ≡ effects m (tables_at F m) es
  -- the picture of a longer history: the sweep of the one before, then the entries
  pub picture :
      (F : History) (e : Entry) (es : List Entry) (m : ℕ) → clock F ≤ m → EachFollows (record_all m (e ∷ es) F) →
      picture (record_all m (e ∷ es) F) ≡ effects m (swept m (picture F)) (e ∷ es)

-- which entry may follow a history can be told from its tables
pub record RowsSayWhatMayFollow : Type 0 where
  -- the tables at a moment say what may follow at it, but for the making of the desk
  pub allowed : (F : History) (e : Entry) (m : ℕ) → IsLater e → may_follow F e m ≡ may_on (tables_at F m) e
  -- what the tables say may follow makes the history longer, and keeps it legal
  pub legal :
      (F : History) (e : Entry) (m : ℕ) → EachFollows F → clock F ≤ m → m ≤ last_moment → IsLater e → IsFormed e → IsTrue (may_on (tables_at F m) e) →
      EachFollows (record { date = m; entry = e } ∷ F)
