-- Saving over a connection is what is asked of a store.
use Rattle.std.proofs.Common.{◌≡◌, ℕ, ◌+◌, List, [], ◌∷◌, map, Option, Some, None, Bool, true, false, Result, Ok, Err, inl, inr, refl, sym, subst, ◌∙◌, arith}
use Rattle.std.proofs.lemmas.Bool.{eqb-true}
use Rattle.std.specs.{List.filter, Prelude.◌⊎◌, Prelude.◌==◌, Prelude.IfSome, Prelude.cond, Prelude.find, Prelude.option_map}
use Rattle.sqlite.specs.{Effect.Database, Held.state, Store.Ghosts, Tree.Trees, State.State, State.HasCleanDisk, State.IsUnchanged, State.Survives}
use Rattle.sqlite.proofs.StateLemmas.{survives_then}
use Rattle.model_laws.proofs.{Basics.each, RowLists.Above, RowLists.ascends_above}
use Rattle.model_laws.specs.Ordered.{Ascends}
use Rattle.desk_model.specs.{Change.applied, Tables.Tables, declared.rows.AccountRow.AccountRow, declared.rows.AuthorizationRow.AuthorizationRow}
use Rattle.desk_model.specs.{declared.rows.ChallengeRow.ChallengeRow, declared.rows.Change.Change, declared.rows.OrderRow.OrderRow}
use Rattle.sql_write.specs.{Committing.GoesBack, Committing.HasCommitted, Committing.IsBeforeCommit, Committing.IsLeft, declared.fault.SaveFault.SaveFault}
use Rattle.sql_write.specs.{Fitting.FitAfter, Fitting.Saves as Puts, Stored.HasSome, Stored.IsRow, Stored.IsMadeAs, Stored.AreFound, Stored.IsPartOf}
use Rattle.sql_schema.specs.Stays.{Asks}
use Rattle.model_parts.specs.Thinned.{with_challenges, with_orders}
use Rattle.model_parts.proofs.Lists.{filtered_each}
use Rattle.sql_write.proofs.{StoredRows.all_of, Numbered.find_none, OrderedFit.ordered_fit}
use Rattle.store_api.specs.Storing.{Fit, HasChanges, HasSaved, IsCutFrom, SavesOf}
use Rattle.store_api.specs.{Sight.Sight, declared.fault.StorageFault.StorageFault}
use Rattle.store_api.specs.declared.fault.StorageFault.TheVariants as fault
use Rattle.desk_store.proofs.NothingWritten.{desk_back, desk_unchanged, failed, honest_by, unchanged_by}
use Rattle.desk_store.specs.{Desks.IsDesk, Desks.store_sight, Known.IsKnownOf, declared.store.Store.Store}
use Rattle.sql_tables.specs.Holds.{AreRising}
use Rattle.desk_book.proofs.SweptRows.{find-moved}

-- the changes may be saved
may_save : (T : Tables) (changes : List Change) → Fit T changes → FitAfter T changes
may_save T changes fit = ordered_fit T changes fit.kept (record {
  orders = fit.book.book.in_order.orders;
  places = fit.book.book.in_order.places;
  challenges = fit.book.book.sound.distinct.challenges;
})

-- a database with the changes is a desk with the tables after them, where what is known stands in them
desk_after : (part : Tables) (T : Tables) (changes : List Change) (old new : Database) → IsPartOf part T → Fit T changes → IsDesk old T
    → Puts part changes old new → IsDesk new (applied changes T)
desk_after part T changes old new is_part fit was puts = record { holds = puts T was.holds is_part (may_save T changes fit); book = fit.book }

-- a call that was answered
abbrev done : Result (Unit {0}) StorageFault
done = Ok tt

module _ {S : Type 0} (g : Ghosts S) (part : Tables) where
  -- what a stop may leave of the commit has the changes
  pub changes_left : (changes : List Change) (old : Store S) (c : Trees) → IsLeft (Puts part changes (state g old.conn).now) c
      → HasChanges (store_sight g) (IsPartOf part) changes old c
  changes_left changes old c left T there fit has = (left.0, left.1, desk_after part T changes (state g old.conn).now left.0 there fit has.desk.desk left.2)

  -- what was committed has the changes
  pub saved_by : (changes : List Change) (old new : Store S) → ((T : Tables) → IsKnownOf old.known T → IsKnownOf new.known (applied changes T))
      → (state g new.conn).in_transaction ≡ false
      → (state g new.conn).step_limit ≡ (state g old.conn).step_limit
      → HasCommitted (state g old.conn) (state g new.conn) (Puts part changes) → HasSaved (store_sight g) (IsPartOf part) changes old new
  saved_by changes old new follows idle limit it T there fit has =
      let desk = desk_after part T changes (state g old.conn).now (state g new.conn).committed there fit has.desk.desk it.does in
      record {
        tables = record {
          desk = record {
            is_open = it.is_open;
            idle = idle;
            unlimited = limit ∙ has.desk.unlimited;
            settled = it.settled;
            desk = subst (λ db. IsDesk db (applied changes T)) (sym it.settled) desk;
          };
          known = follows T has.known;
        };
        left = λ c may. ((state g new.conn).committed, it.left c may, desk);
      }

  -- what a stop may leave of a save
  left_of : (changes : List Change) (old new : Store S) → Survives (state g old.conn) (state g new.conn) (IsLeft (Puts part changes (state g old.conn).now))
      → HasCleanDisk (state g new.conn) → (c : Trees) → (state g new.conn).may_leave c
      → (state g old.conn).may_leave c ⊎ HasChanges (store_sight g) (IsPartOf part) changes old c
  left_of changes old new survives clean c may =
      elim (survives.crash clean c may) [ inl was ↦ inl was | inr made ↦ inr (changes_left changes old c made) ]

  -- a save that was answered
  pub saves_ok : (changes : List Change) (old new : Store S) → ((T : Tables) → IsKnownOf old.known T → IsKnownOf new.known (applied changes T))
      → (state g new.conn).in_transaction ≡ false
      → Survives (state g old.conn) (state g new.conn) (IsLeft (Puts part changes (state g old.conn).now))
      → (HasCleanDisk (state g new.conn) → HasCommitted (state g old.conn) (state g new.conn) (Puts part changes))
      → SavesOf (store_sight g) (IsPartOf part) changes old new done
  saves_ok changes old new follows idle survives committed = record {
    honest = honest_by g old new survives;
    left = left_of changes old new survives;
    saved = λ clean. saved_by changes old new follows idle survives.limit (committed clean);
    without_memory = tt;
  }

  -- a save that failed, and the test whether the connection is still open
  pub saves_err : (changes : List Change) (old new : Store S) (mid : State) (why : StorageFault) (cause : SaveFault)
      → ((T : Tables) → IsKnownOf new.known T) → mid.in_transaction ≡ false
      → Survives (state g old.conn) mid (IsLeft (Puts part changes (state g old.conn).now)) → (HasCleanDisk mid → GoesBack (state g old.conn) mid)
      → (IsBeforeCommit cause → Survives (state g old.conn) mid (λ _. ⊥)) → Asks mid (state g new.conn)
      → (HasCleanDisk (state g new.conn) → why ≡ fault.Memory → IsUnchanged mid (state g new.conn)) → (why ≡ fault.Memory → IsBeforeCommit cause)
      → SavesOf (store_sight g) (IsPartOf part) changes old new (failed (Unit {0}) why)
  saves_err changes old new mid why cause known idle survives back early tested same before =
      let whole = survives_then (state g old.conn) mid (state g new.conn) _ _ (IsLeft (Puts part changes (state g old.conn).now))
      (λ _ _ left. left) (λ _ _ none. absurd none) survives tested.survives in
      record {
        honest = honest_by g old new whole;
        left = left_of changes old new whole;
        saved = λ clean. tt;
        without_memory = λ memory.
            unchanged_by g old new
            (survives_then (state g old.conn) mid (state g new.conn) _ _ (λ _. ⊥) (λ _ _ none. none)
            (λ _ _ none. none) (early (before memory)) tested.survives)
            (λ T _. known T)
            (λ clean T has.
            let unchanged = same clean memory in
            desk_unchanged mid (state g new.conn) T tested.survives.limit unchanged
            (desk_back (state g old.conn) mid T unchanged.0.was_open idle survives.limit (back (omega (arith, clean, tested.survives.clean))) has));
      }

-- ---- of other tables

-- what is saved of some tables is saved of those that are among them
pub saves_of : {S C R : Type 0} (v : Sight S C) (Of Those : Tables → Type 0) (changes : List Change) (old new : S) (result : Result R StorageFault)
    → ((T : Tables) → Those T → v.holds old T → Of T) → SavesOf v Of changes old new result → SavesOf v Those changes old new result
saves_of v Of Those changes old new (Ok saved) are it = record {
  honest = it.honest;
  left = λ h c l. elim (it.left h c l) [ inl was ↦ inl was | inr has ↦ inr (λ T those fit there. has T (are T those there) fit there) ];
  saved = λ h T those fit there. it.saved h T (are T those there) fit there;
  without_memory = tt;
}
saves_of v Of Those changes old new (Err why) are it = record {
  honest = it.honest;
  left = λ h c l. elim (it.left h c l) [ inl was ↦ inl was | inr has ↦ inr (λ T those fit there. has T (are T those there) fit there) ];
  saved = λ h. tt;
  without_memory = it.without_memory;
}

-- what is found among these rows is found among those
abbrev AreAmong : {X : Type 0} → (X → ℕ) → List X → List X → Type 0
AreAmong key part rows = (n : ℕ) → IfSome (find (λ r. key r == n) part) (λ x. find (λ r. key r == n) rows ≡ Some x)

-- so is that of rows that were chosen by number, of rows whose numbers rise
found_chosen : {X : Type 0} (key : X → ℕ) (test : ℕ → Bool) (m : ℕ) (rows : List X) → Ascends key m rows
    → AreAmong key (filter (λ r. test (key r)) rows) rows
found_chosen key test m [] up n = tt
found_chosen key test m (z ∷ zs) up n =
    go (test (key z)) (key z == n) refl (find (λ r. key r == n) (filter (λ r. test (key r)) zs)) refl
    (found_chosen key test (key z + 1) zs up.1 n)
  where
    none : (key z == n) ≡ true → find (λ r. key r == n) zs ≡ None
    none is = find_none key n zs
        (subst (λ k. Above key k zs) (eqb-true (key z) n is) (ascends_above key (key z) (key z + 1) zs (omega arith) up.1))

    go : (kept is : Bool) → (key z == n) ≡ is → (o : Option _) → find (λ r. key r == n) (filter (λ r. test (key r)) zs) ≡ o
        → IfSome o (λ x. find (λ r. key r == n) zs ≡ Some x)
        → IfSome (find (λ r. key r == n) (cond kept (z ∷ filter (λ r. test (key r)) zs) (filter (λ r. test (key r)) zs)))
        (λ x. find (λ r. key r == n) (z ∷ zs) ≡ Some x)
    go true true e o found h =
        subst (λ b. IfSome (cond b (Some z) (find (λ r. key r == n) (filter (λ r. test (key r)) zs)))
        (λ x. cond b (Some z) (find (λ r. key r == n) zs) ≡ Some x)) (sym e) refl
    go true false e o found h =
        subst (λ b. IfSome (cond b (Some z) (find (λ r. key r == n) (filter (λ r. test (key r)) zs)))
        (λ x. cond b (Some z) (find (λ r. key r == n) zs) ≡ Some x)) (sym e)
        (subst (λ f. IfSome f (λ x. find (λ r. key r == n) zs ≡ Some x)) (sym found) h)
    go false false e o found h =
        subst (λ b. IfSome (find (λ r. key r == n) (filter (λ r. test (key r)) zs)) (λ x. cond b (Some z) (find (λ r. key r == n) zs) ≡ Some x)) (sym e)
        (subst (λ f. IfSome f (λ x. find (λ r. key r == n) zs ≡ Some x)) (sym found) h)
    go false true e None found h =
        subst (λ f. IfSome f (λ x. find (λ r. key r == n) (z ∷ zs) ≡ Some x)) (sym found) tt
    go false true e (Some x) found h = absurd (let both : None ≡ Some x = sym (none e) ∙ h in cc)

-- they stand there
found_whole : {X : Type 0} (key : X → ℕ) (part rows : List X) → AreAmong key part rows → AreFound key IsRow part rows
found_whole key part rows among n = go (find (λ r. key r == n) part) (among n)
  where
    go : (o : Option _) → IfSome o (λ x. find (λ r. key r == n) rows ≡ Some x)
        → IfSome o (λ x. (y : _) × (find (λ r. key r == n) rows ≡ Some y) × IsRow x y)
    go None h = tt
    go (Some x) h = (x, h, refl)

-- and do so without some of what belongs to them
found_thin : {X : Type 0} (key : X → ℕ) (IsOf : X → X → Type 0) (thin : X → X) → ((x : X) → key (thin x) ≡ key x) → ((x : X) → IsOf (thin x) x)
    → (part rows : List X) → AreAmong key part rows → AreFound key IsOf (map thin part) rows
found_thin key IsOf thin same is part rows among n =
    subst (λ o. IfSome o (λ x. (y : _) × (find (λ r. key r == n) rows ≡ Some y) × IsOf x y))
    (sym (find-moved (λ r. key r == n) thin part (λ x i. same x i == n))) (go (find (λ r. key r == n) part) (among n))
  where
    go : (o : Option _) → IfSome o (λ x. find (λ r. key r == n) rows ≡ Some x)
        → IfSome (option_map thin o) (λ x. (y : _) × (find (λ r. key r == n) rows ≡ Some y) × IsOf x y)
    go None h = tt
    go (Some x) h = (x, h, is x)

-- an authorization with some challenges has some of its own
some_own : (c : ℕ → ChallengeRow → Bool) (x : AuthorizationRow) → HasSome (with_challenges c x) x
some_own c x = record {
  columns = refl;
  challenges = filtered_each _ (c x.number) x.challenges (each _ _ x.challenges (λ d own kept. own) (all_of x).challenges);
}

-- the rows of a part stand in the tables that it was cut from
pub part_found : (part T : Tables) → IsCutFrom part T → AreRising T → IsPartOf part T
part_found part T cut rising =
    subst (λ (P : Tables). IsPartOf P T) (sym cut.1) (record {
      meta = refl;
      accounts = found_whole (λ (a : AccountRow). a.number) _ T.accounts
          (found_chosen (λ (a : AccountRow). a.number) cut.0.rows.accounts 0 T.accounts rising.accounts);
      authorizations = found_thin (λ (a : AuthorizationRow). a.number) HasSome (with_challenges cut.0.challenges) (λ a. refl) (some_own cut.0.challenges) _
          T.authorizations (found_chosen (λ (a : AuthorizationRow). a.number) cut.0.rows.authorizations 0 T.authorizations rising.authorizations);
      orders = found_thin (λ (o : OrderRow). o.number) IsMadeAs (with_orders cut.0.whole) (λ o. refl) (λ o. refl) _ T.orders
          (found_chosen (λ (o : OrderRow). o.number) cut.0.rows.orders 0 T.orders rising.orders);
    })
