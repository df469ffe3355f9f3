-- What follows for a database that holds the tables of a desk.
use Rattle.std.proofs.Common.{◌≡◌, ℕ, List, [], ◌∷◌, map, Bool, true, false, refl, sym, subst, ◌∙◌, arith, rules}
use Rattle.std.proofs.lemmas.List.Sorted.{IsPermutation-refl}
use Rattle.std.specs.Prelude.{MatchBool}
use Rattle.desk_model.specs.{declared.rows.Listed.Listed, declared.rows.Meta.Meta, Tables.Tables}
use Rattle.store_columns.specs.{declared.columns.Owned.Owned, Flat.challenge_rows, Flat.key_rows, Flat.listed_rows}
use Rattle.sqlite.specs.{Order.Row, Effect.Database, Effect.IsDatabase, State.State, State.IsUnchanged}
use Rattle.sqlite_catalog.proofs.ReadLemmas.{lists_once}
use Rattle.sql_schema.specs.{Defined.Defines, Schema.desk_schema, Schema.no_schema}
use Rattle.sql_tables.specs.Images.{account_image, authorization_image, challenge_image, key_image, meta_image, nonce_image, order_image}
use Rattle.sql_tables.specs.Layouts.{HasRows, account_layout, authorization_layout, challenge_layout, key_layout, meta_layout, nonce_layout, order_layout}
use Rattle.sql_tables.specs.{Effects.Puts, Sorted.sorted_by, Holds.AreRising, Holds.Holds, Holds.HoldsListed}
use Rattle.sql_tables.proofs.NoIndexes.{KeepsBut, beside, kept_at}

-- ---- table by table

module _ (db : Database) (T : Tables) (has : Holds db T) where
  -- the row of `meta`
  pub meta_held : HasRows meta_layout db (T.meta ∷ [])
  meta_held = record { schema = has.schema; rows_are = has.meta; rising = (omega arith, tt) }

  -- the nonces
  pub nonces_held : HasRows nonce_layout db T.nonces
  nonces_held = record { schema = has.schema; rows_are = has.nonces; rising = has.rising.nonces }

  -- the accounts
  pub accounts_held : HasRows account_layout db T.accounts
  accounts_held = record { schema = has.schema; rows_are = has.accounts; rising = has.rising.accounts }

  -- the orders
  pub orders_held : HasRows order_layout db T.orders
  orders_held = record { schema = has.schema; rows_are = has.orders; rising = has.rising.orders }

  -- the authorizations
  pub authorizations_held : HasRows authorization_layout db T.authorizations
  authorizations_held = record { schema = has.schema; rows_are = has.authorizations; rising = has.rising.authorizations }

-- ---- some tables

-- where each tree but these is as it was
module _ (moved : List ℕ) (old new : Database) (keeps : KeepsBut moved old new) where
  -- a tree has other rows, which are told, or is to have those that it had
  abbrev Told : ℕ → List Row → List Row → Type 0
  Told t was is = MatchBool (beside moved t) (was ≡ is) (new.trees t ≡ is)

  -- either way it has these
  told : (t : ℕ) (was is : List Row) → old.trees t ≡ was → Told t was is → new.trees t ≡ is
  told t was is held h = go (beside moved t) refl h
    where
      go : (b : Bool) → beside moved t ≡ b → MatchBool b (was ≡ is) (new.trees t ≡ is) → new.trees t ≡ is
      go true other same = keeps t other ∙ held ∙ same
      go false one rows = rows

  -- the same of what orders list
  abbrev ToldListed : List (Owned Listed) → List (Owned Listed) → Type 0
  ToldListed was is = MatchBool (beside moved 6) (was ≡ is) (HoldsListed (new.trees 6) is)

  told_listed : (was is : List (Owned Listed)) → HoldsListed (old.trees 6) was → ToldListed was is → HoldsListed (new.trees 6) is
  told_listed was is held h = go (beside moved 6) refl h
    where
      go : (b : Bool) → beside moved 6 ≡ b → MatchBool b (was ≡ is) (HoldsListed (new.trees 6) is) → HoldsListed (new.trees 6) is
      go true other same =
          subst (HoldsListed (new.trees 6)) same
          (record { numbered = held.numbered; has = keeps 6 other ∙ held.has; rising = held.rising; same = held.same })
      go false one rows = rows

  -- so it holds other tables
  pub holds_on : (T U : Tables) → Holds old T → IsDatabase new → new.schema ≡ desk_schema → AreRising U
      → Told 0 (meta_image T.meta ∷ []) (meta_image U.meta ∷ [])
      → Told 1 (map nonce_image T.nonces) (map nonce_image U.nonces)
      → Told 2 (map account_image T.accounts) (map account_image U.accounts)
      → Told 4 (map order_image T.orders) (map order_image U.orders)
      → Told 5 (map authorization_image T.authorizations) (map authorization_image U.authorizations)
      → ToldListed (listed_rows T.orders) (listed_rows U.orders)
      → Told 8 (map challenge_image (sorted_by challenge_layout.key (challenge_rows T.authorizations)))
      (map challenge_image (sorted_by challenge_layout.key (challenge_rows U.authorizations)))
      → Told 17 (map key_image (sorted_by key_layout.key (key_rows (challenge_rows T.authorizations))))
      (map key_image (sorted_by key_layout.key (key_rows (challenge_rows U.authorizations)))) → Holds new U
  holds_on T U has sound schema rising meta nonces accounts orders authorizations listed challenges keys = record {
    sound = sound;
    schema = schema;
    meta = told 0 _ _ has.meta meta;
    nonces = told 1 _ _ has.nonces nonces;
    accounts = told 2 _ _ has.accounts accounts;
    orders = told 4 _ _ has.orders orders;
    authorizations = told 5 _ _ has.authorizations authorizations;
    listed = told_listed _ _ has.listed listed;
    challenges = told 8 _ _ has.challenges challenges;
    keys = told 17 _ _ has.keys keys;
    rising = rising;
  }

-- ---- the same database

-- a call that changed nothing
pub holds_still : (old new : State) (T : Tables) → IsUnchanged old new → Holds old.now T → Holds new.now T
holds_still old new T same has = subst (λ db. Holds db T) (sym same.0.now_is) has

-- a database is told by its trees
pub same_database : (a b : Database) → a.trees ≡ b.trees → IsDatabase a → IsDatabase b → a ≡ b
same_database a b same p q = search (rules, lists_once)

-- so is what it holds
pub holds_again : (old found : Database) (T : Tables) → found.trees ≡ old.trees → IsDatabase found → Holds old T → Holds found T
holds_again old found T same sound has = subst (λ db. Holds db T) (same_database old found (sym same) has.sound sound) has

-- ---- a new desk

-- the definitions, then the row of `meta`
pub holds_first : (old mid new : Database) (meta : Meta) → Defines 16 old mid → Puts meta_layout meta mid new → old.schema ≡ no_schema
    → Holds new (record { meta = meta; nonces = []; accounts = []; authorizations = []; orders = [] })
holds_first old mid new meta defines puts none =
    let it = defines none in
    let e = it.empty in
    let p = puts [] (record { schema = it.schema; rows_are = e.0; rising = tt }) in
    let kept = kept_at 0 mid new p.others in
    record {
      sound = p.sound;
      schema = p.has.schema;
      meta = p.has.rows_are;
      nonces = kept 1 refl ∙ e.1.0;
      accounts = kept 2 refl ∙ e.1.1.0;
      orders = kept 4 refl ∙ e.1.1.1.0;
      authorizations = kept 5 refl ∙ e.1.1.1.1.0;
      listed = record { numbered = []; has = kept 6 refl ∙ e.1.1.1.1.1.0; rising = tt; same = IsPermutation-refl [] };
      challenges = kept 8 refl ∙ e.1.1.1.1.1.1.0;
      keys = kept 17 refl ∙ e.1.1.1.1.1.1.1.0;
      rising = record { nonces = tt; accounts = tt; orders = tt; authorizations = tt; challenges = tt; listed = tt };
    }
