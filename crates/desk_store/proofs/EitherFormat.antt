-- What the opening of a desk in either format leaves.
use Rattle.std.proofs.Common.{◌≡◌, ◌≢◌, Bool, Result, Ok, Err, inl, inr, true, false, refl, ap, sym, subst, ◌∙◌, arith}
use Rattle.std.specs.Prelude.{◌⊎◌, IfErr, IsTrue, OnErr}
use Rattle.sqlite.proofs.StateLemmas.{survives_then, survives_weaker}
use Rattle.sqlite.specs.State.{State, HasCleanDisk, IsUnchanged, Survives}
use Rattle.sqlite.specs.{Effect.Database, Schema.Schema, Store.Ghosts, Tree.Trees, Held.Held, Held.state}
use Rattle.sqlite_schema.specs.Names.{same_name}
use Rattle.desk_model.specs.Tables.{Tables}
use Rattle.sql_read.proofs.{BookChecks.table_still, BookChecks.first_still as fails_first, FirstLoading.first_before}
use Rattle.sql_read.specs.Only.{ShowsOnlyBook, ShowsOnlyFirstBook}
use Rattle.sql_write.specs.Committing.{GoesBack}
use Rattle.sql_schema.proofs.StaysLemmas.{stays_then, stays_unchanged}
use Rattle.sql_schema.specs.{Names.has_all_indexes, Names.uses_key_table, Schema.desk_schema, Schema.first_schema, Stays.Asks}
use Rattle.store_api.specs.Sight.{Keeps}
use Rattle.desk_store.specs.Opening.{IsUpgraded, IsWhole, IsWholeFirst, ShowsBook, ShowsFirstBook, ShowsNoBook, ShowsNoDesk, ShowsNoFirstBook}
use Rattle.desk_store.specs.{Desks.IsDesk, Desks.store_sight, Known.IsKnownOf, declared.open_fault.OpenFault.OpenFault, declared.store.Store.Store}
use Rattle.desk_store.specs.{declared.open_fault.OpenFault.TheVariants.NewerFormat, declared.open_fault.OpenFault.TheVariants.NotADesk}
use Rattle.desk_store.proofs.{NothingWritten.failed, Upgrading.first_unchanged}
use Rattle.sql_tables.specs.Holds.{Holds}
use Rattle.sql_upgrade.specs.FirstDesks.{HasFirst, HasSecond}

-- ---- which format

-- today's schema has the table of keys
pub uses_keys : (schema : Schema) → schema ≡ desk_schema → uses_key_table schema ≡ true
unfolding same_name
uses_keys schema is = ap uses_key_table is

-- that of format 1 has not
pub lacks_keys : (schema : Schema) → schema ≡ first_schema → uses_key_table schema ≡ false
unfolding same_name
lacks_keys schema is = ap uses_key_table is

-- today's has all indexes
pub desk_indexes : (schema : Schema) → schema ≡ desk_schema → has_all_indexes schema ≡ true
unfolding same_name
desk_indexes schema is = ap has_all_indexes is

-- and so that of format 1
pub first_indexes : (schema : Schema) → schema ≡ first_schema → has_all_indexes schema ≡ true
unfolding same_name
first_indexes schema is = ap has_all_indexes is

-- a test does not both hold and fail
pub not_both : {A : Type 0} (b c : Bool) → b ≡ c → c ≡ true → b ≡ false → A
not_both b c is holds fails = absurd (let never : true ≡ false = sym holds ∙ sym is ∙ fails in cc)

-- ---- a connection that was only asked

-- it goes back to the last commit
pub back_asked : (old new : State) → Asks old new → old.now ≡ old.committed → HasCleanDisk new → GoesBack old new
back_asked old new asks settled clean =
    let s = asks.stays clean in
    record { now = λ h. s.now h settled; committed = λ h. s.committed h }

-- a stop leaves no more
pub left_asked : (old new : State) → Asks old new → Survives old new (IsUpgraded old)
left_asked old new asks = survives_weaker old new _ _ (λ _ _ none. absurd none) asks.survives

-- ---- results

-- what is so anyhow
pub always_err : {R E P : Type 0} (result : Result R E) → P → OnErr result P
always_err (Ok done) p = tt
always_err (Err why) p = p

-- what is so of any fault
pub any_fault : {R E : Type 0} (P : E → Type 0) (result : Result R E) → ((why : E) → P why) → IfErr result P
any_fault P (Ok done) f = tt
any_fault P (Err why) f = f why

-- no desk and no later format: only one of these is left
pub refused_so : {R P : Type 0} (result : Result R OpenFault) → (result ≡ Err NotADesk → P) → result ≢ Err NewerFormat
    → IfErr result (λ why. (why ≡ NotADesk) ⊎ (why ≡ NewerFormat) → P)
refused_so (Ok done) none known = tt
refused_so {R} (Err why) none known = λ is. elim is [
  | inl no_desk ↦ none (ap (failed R) no_desk)
  | inr newer ↦ absurd (known (ap (failed R) newer))
]

-- ---- behind a call that changed nothing

module _ (old mid : State) (same : IsUnchanged old mid) where
  -- it goes back as far
  pub back_behind : (new : State) → GoesBack mid new → GoesBack old new
  back_behind new back = record { now = λ h. back.now h ∙ same.0.committed_is; committed = λ h. back.committed h ∙ same.0.committed_is }

  -- nothing is written that is not committed
  pub settled_behind : old.now ≡ old.committed → mid.now ≡ mid.committed
  settled_behind settled = same.0.now_is ∙ settled ∙ sym same.0.committed_is

  -- the table of keys is there as it was
  pub keys_behind : uses_key_table mid.now.schema ≡ uses_key_table old.now.schema
  keys_behind = ap (λ (db : Database). uses_key_table db.schema) same.0.now_is

  -- a stop leaves the same of an upgrade
  pub upgraded_behind : (trees : Trees) → mid.step_limit ≡ old.step_limit → IsUpgraded mid trees → IsUpgraded old trees
  upgraded_behind trees limit up = record {
    first = sym keys_behind ∙ up.first;
    desk = λ T has. up.desk T (first_unchanged old mid T limit same has);
  }

-- it asked, and where the table of keys is there it only asked again
pub asks_behind : (old mid new : State) → Asks old mid → (HasCleanDisk mid → IsUnchanged old mid) → new.in_transaction ≡ false
    → Survives mid new (IsUpgraded mid) → (IsTrue (uses_key_table mid.now.schema) → Asks mid new) → IsTrue (uses_key_table old.now.schema) → Asks old new
asks_behind old mid new asked same idle survives asks uses =
    let there : (clean : HasCleanDisk new) → HasCleanDisk mid = λ clean. let le = survives.clean in omega (arith, clean, le) in
    let still : (clean : HasCleanDisk mid) → IsTrue (uses_key_table mid.now.schema) = λ clean. keys_behind old mid (same clean) ∙ uses in
    record {
      survives = survives_then old mid new _ _ _ (λ _ _ none. none)
          (λ clean trees up. not_both _ _ refl (still (there clean)) up.first)
          asked.survives survives;
      stays = λ clean. stays_then old mid new (stays_unchanged old mid (same (there clean))) ((asks (still (there clean))).stays clean);
      idle = λ _. idle;
    }

-- ---- whole

module _ {S : Type 0} (g : Ghosts S) where
  -- the rows that it showed, and its indexes, are all
  pub whole_by : (conn : Held S) → IsTrue (has_all_indexes (state g conn).now.schema) → (book : Tables) × ShowsBook g conn book → IsWhole g conn
  whole_by conn indexes shows = record { indexes = indexes; book = shows.0; shows = shows.1 }

  -- and of format 1
  pub whole_first_by : (conn : Held S) → IsTrue (has_all_indexes (state g conn).now.schema) → (book : Tables) × ShowsFirstBook g conn book
      → IsWholeFirst g conn
  whole_first_by conn indexes shows = record { indexes = indexes; book = shows.0; shows = shows.1 }

  -- so it was before calls that changed nothing
  pub first_still : (old mid : Held S) → (state g mid).now ≡ (state g old).now → IsWholeFirst g mid → IsWholeFirst g old
  first_still old mid same whole = record {
    indexes = subst (λ (db : Database). IsTrue (has_all_indexes db.schema)) same whole.indexes;
    book = whole.book;
    shows = record { stored = whole.shows.stored; shown = first_before g old mid whole.shows.stored same whole.shows.shown; is_book = whole.shows.is_book };
  }

  -- that no book has the rows was so before a call that changed nothing, too
  pub no_book_still : (old mid : Held S) → (state g mid).now ≡ (state g old).now → ShowsNoBook g mid → ShowsNoBook g old
  no_book_still old mid same (inl it) = inl (record { error = it.error; fails = table_still g old mid it.error same it.fails; other = it.other })
  no_book_still old mid same (inr none) = inr (λ T only. none T (subst (λ db. ShowsOnlyBook g db T) (sym same) only))

  -- and of format 1
  pub no_first_still : (old mid : Held S) → (state g mid).now ≡ (state g old).now → ShowsNoFirstBook g mid → ShowsNoFirstBook g old
  no_first_still old mid same (inl it) = inl (record { error = it.error; fails = fails_first g old mid it.error same it.fails; other = it.other })
  no_first_still old mid same (inr none) = inr (λ T only. none T (subst (λ db. ShowsOnlyFirstBook g db T) (sym same) only))

  -- and that there is no desk
  pub no_desk_still : (old mid : Held S) → (state g mid).now ≡ (state g old).now → ShowsNoDesk g mid → ShowsNoDesk g old
  no_desk_still old mid same (inl lacks) = inl (subst (λ (db : Database). has_all_indexes db.schema ≡ false) same lacks)
  no_desk_still old mid same (inr (inl (uses, none))) =
      inr (inl (subst (λ (db : Database). IsTrue (uses_key_table db.schema)) same uses, no_book_still old mid same none))
  no_desk_still old mid same (inr (inr (lacks, none))) =
      inr (inr (subst (λ (db : Database). uses_key_table db.schema ≡ false) same lacks, no_first_still old mid same none))

-- ---- a store

-- the tables that were brought into today's format are the same desk
pub second_desk : (db : Database) (old : State) (T : Tables) → HasFirst old T → Holds db T → IsDesk db T
second_desk db old T has holds =
    record { holds = holds; book = has.desk.book }

-- and a store over them keeps them
pub keeps_second : {S : Type 0} (g : Ghosts S) (old : State) (store : Store S) (T : Tables) → IsKnownOf store.known T → HasFirst old T
    → HasSecond (state g store.conn) T → Keeps (store_sight g) store T
keeps_second g old store T known has second = record {
  tables = record {
    desk = record {
      is_open = second.is_open;
      idle = second.idle;
      unlimited = second.unlimited;
      settled = second.settled;
      desk = second_desk _ old T has second.holds;
    };
    known = known;
  };
  left = λ trees may. let left = second.left trees may in (left.0, left.1, second_desk left.0 old T has left.2);
}
