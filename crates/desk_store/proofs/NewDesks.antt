-- From the tables that are made to a desk.
use Rattle.std.proofs.Common.{◌≡◌, ℕ, Bool, true, false, List, [], ◌∷◌, length, ap, refl, sym, subst, ◌∙◌}
use Rattle.std.proofs.Math.Dec.{eqb-suc-zero}
use Rattle.std.specs.Prelude.{◌==◌, ◌||◌, not}
use Rattle.sqlite.specs.{Effect.Database, Schema.Schema, State.State, Tree.Trees}
use Rattle.desk_model.specs.{Legal.Legal, History.first_history, Terms.Terms, Tables.Tables, Tables.picture}
use Rattle.sql_write.specs.{Committing.HasCommitted, Committing.IsLeft, Making.MakesDesk, Making.tables_of}
use Rattle.sql_schema.specs.Schema.{no_schema}
use Rattle.sql_tables.specs.Holds.{Holds}
use Rattle.store_laws.proofs.FlatTexts.{picture_is_stored_book}
use Rattle.desk_store.specs.{Desks.IsDesk, Making.IsNewDesk, Making.Makes, Making.has_objects}

-- where neither is, each is not
neither : (a b : Bool) → (a || b) ≡ false → (a ≡ false) × (b ≡ false)
neither true b is = absurd (cc is)
neither false b is = (refl, is)

-- a list without an item is empty
no_items : {A : Type 0} (xs : List A) → not (length xs == 0) ≡ false → xs ≡ []
no_items [] is = refl
no_items (x ∷ xs) is = absurd (let e : true ≡ false = sym (ap not (eqb-suc-zero (length xs))) ∙ is in cc e)

-- a schema without an object is the empty one
pub bare_is_none : (schema : Schema) → has_objects schema ≡ false → schema ≡ no_schema
bare_is_none schema none =
    let both = neither (not (length schema.tables == 0) || not (length schema.indexes == 0)) (not (length schema.views == 0)) none in
    let first = neither (not (length schema.tables == 0)) (not (length schema.indexes == 0)) both.0 in
    λ i. record {
      tables = no_items schema.tables first.0 i;
      indexes = no_items schema.indexes first.1 i;
      views = no_items schema.views both.1 i;
    }

-- so it is of the one that was asked
pub asked_is_none : (schema shown : Schema) (some : Bool) → some ≡ has_objects shown → shown ≡ schema → some ≡ false → schema ≡ no_schema
asked_is_none schema shown some is same none = sym same ∙ bare_is_none shown (sym is ∙ none)

module _ (policy : Terms) (at : ℕ) (book : Tables) (is : book ≡ picture (first_history policy at)) (legal : Legal (first_history policy at)) where
  -- a new desk has its row of `meta` and no other row
  alone : tables_of book.meta ≡ picture (first_history policy at)
  alone = subst (λ (T : Tables). tables_of T.meta ≡ picture (first_history policy at)) (sym is) refl

  -- a database that was made is a desk
  new_desk : (old new : Database) → MakesDesk book.meta old new → old.schema ≡ no_schema → IsDesk new (picture (first_history policy at))
  new_desk old new makes none =
      record { holds = subst (Holds new) alone (makes none); book = picture_is_stored_book (first_history policy at) legal }

  -- what a stop in the commit leaves
  pub desk_left : (old : State) (trees : Trees) → IsLeft (MakesDesk book.meta old.now) trees → IsNewDesk policy at old trees
  desk_left old trees left none = (left.0, left.1, new_desk old.now left.0 left.2 none)

  -- what was committed
  pub desk_made : (old new : State) → new.in_transaction ≡ false → new.step_limit ≡ old.step_limit
      → HasCommitted old new (MakesDesk book.meta) → Makes policy at old new
  desk_made old new idle limit it none unlimited =
      let desk = new_desk old.now new.committed it.does none in
      record {
        desk = record {
          is_open = it.is_open;
          idle = idle;
          unlimited = limit ∙ unlimited;
          settled = it.settled;
          desk = subst (λ db. IsDesk db (picture (first_history policy at))) (sym it.settled) desk;
        };
        left = λ trees may. (new.committed, it.left trees may, desk);
      }
