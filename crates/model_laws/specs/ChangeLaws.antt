-- How changes make pictures.
use Rattle.std.specs.{Prelude.ℕ, Prelude.◌≤◌, Prelude.◌≡◌, Prelude.List, Prelude.◌∷◌, List.flat_map}
use Rattle.desk_model.specs.{Change.applied, Change.changes, Change.recorded_changes, Change.sweep_changes, Effect.effect, Effect.swept, Entry.History}
use Rattle.desk_model.specs.{Legal.EachFollows, Kept.EachOf, History.clock, History.record_all, Tables.Tables, Tables.tables_at, Tables.picture}
use Rattle.desk_model.specs.{declared.entry.Entry.Entry, declared.rows.AuthorizationRow.AuthorizationRow, declared.rows.Meta.Meta}
use Rattle.model_laws.specs.{News.AreKept, News.AreNewChildren, News.AreNews, News.IsNews, News.KeepsChildren, Ordered.Ascends, Ordered.IsOrdered}

-- what is recorded, as changes of rows, makes pictures, and which rows it puts
pub record ChangesMakePictures : Type 0 where
  -- the tables of a history stand by number
  pub ordered : (F : History) (t : ℕ) → IsOrdered (tables_at F t)
  -- and so do their challenges, through all authorizations
  pub challenges : (F : History) (t : ℕ) → Ascends (λ c. c.number) 1 (flat_map (λ (a : AuthorizationRow). a.challenges) (tables_at F t).authorizations)
  -- the changes of a sweep make the swept tables, whatever the meta row is
  pub sweep : (T : Tables) (m : ℕ) (M : Meta) → IsOrdered T → applied (sweep_changes m T) (record T { meta = M }) ≡ record (swept m T) { meta = M }
  -- the changes of an entry make its effect, whatever the meta row is
  pub entry : (T : Tables) (m : ℕ) (e : Entry) (M : Meta) → IsOrdered T → applied (changes m T e) (record T { meta = M }) ≡ record (effect m T e) { meta = M }
  -- no row is put where it stands already, by a sweep
  pub sweep_differs : (T : Tables) (m : ℕ) → IsOrdered T → EachOf (IsNews T) (sweep_changes m T)
  -- nor by an entry
  pub entry_differs : (T : Tables) (m : ℕ) (e : Entry) → IsOrdered T → EachOf (IsNews T) (changes m T e)
  -- and so in a whole record: each row that is put differs from the one that stands there by then
  pub news :
      (F : History) (e : Entry) (es : List Entry) (m : ℕ) → clock F ≤ m → EachFollows (record_all m (e ∷ es) F) →
      AreNews (picture F) (recorded_changes m (picture F) (e ∷ es))
  -- a row that a sweep puts in the place of another has its challenges, or lists what it lists
  pub sweep_children : (T : Tables) (m : ℕ) → IsOrdered T → EachOf (KeepsChildren T) (sweep_changes m T)
  -- and so by an entry
  pub entry_children : (T : Tables) (m : ℕ) (e : Entry) → IsOrdered T → EachOf (KeepsChildren T) (changes m T e)
  -- and so in a whole record
  pub kept :
      (F : History) (e : Entry) (es : List Entry) (m : ℕ) → clock F ≤ m → EachFollows (record_all m (e ∷ es) F) →
      AreKept (picture F) (recorded_changes m (picture F) (e ∷ es))
  -- and the challenges of each new authorization are in no row yet
  pub fresh :
      (F : History) (e : Entry) (es : List Entry) (m : ℕ) → clock F ≤ m → EachFollows (record_all m (e ∷ es) F) →
      AreNewChildren (picture F) (recorded_changes m (picture F) (e ∷ es))
  -- what a call records makes the picture of the longer history
  pub picture :
      (F : History) (e : Entry) (es : List Entry) (m : ℕ) → clock F ≤ m → EachFollows (record_all m (e ∷ es) F) →
      applied (recorded_changes m (picture F) (e ∷ es)) (picture F) ≡ picture (record_all m (e ∷ es) F)
