-- Rows that are read and checked one after the other.
use Rattle.std.proofs.Common.{◌≡◌, ℕ, inl, inr, List, [], ◌∷◌, ◌++◌, map, None, Option, Result, Ok, Err, append-nil, append_assoc, refl, sym, subst, ◌∙◌}
use Rattle.std.proofs.Common.{arith, rules}
use Rattle.std.proofs.lemmas.List.{map-append}
use Rattle.std.specs.Prelude.{Bool, IfSome, IsSome, OnErr, Some}
use Rattle.sqlite.specs.Given.{HasBegun, HasGiven, IsRefused, Returns}
use Rattle.sqlite.specs.State.{CommitsShowing, FailsToQuery, HasCleanDisk, IsUnchanged, Shown, Survives}
use Rattle.sqlite.specs.{Effect.Database, Listing.understood, Order.Row, Store.Ghosts, Schema.Schema, Held.Held, Held.state, declared.error.Error.Error}
use Rattle.sqlite.proofs.{Callers.unchanged_then, StateLemmas.survives_weaker}
use Rattle.model_laws.proofs.Basics.{each-append}
use Rattle.desk_model.specs.Kept.{EachOf}
use Rattle.store_columns.specs.Laws.{AreToldApart}
use Rattle.store_columns.proofs.RowsApart.{table-apart}
use Rattle.sql_schema.specs.Stays.{Asks}
use Rattle.sql_schema.proofs.StaysLemmas.{stays_unchanged}
use Rattle.sql_read.specs.Checking.{AreFirst, GoesOn, HasGivenRows, ShowsOnly, ShowsTable, Stops}
use Rattle.sql_read.specs.{Failures.IsMet, Selecting.IsQuery}
use Rattle.sql_read.proofs.{Asking.stays_failed, MetFaults.query_met, Selecting.commits_none, Selecting.none_understood}

-- a query shows nothing of a write
never_returns : (s : Schema) (text : List ℕ) → IsQuery text → Returns (understood s text) → ⊥
never_returns s text is h = search (rules, none_understood)

-- goes on by no rows
pub goes_nowhere : {K R : Type 0} (Passed : K → K → List R → Type 0) (check : K) → GoesOn Passed check check []
goes_nowhere Passed check first rows passed = subst (Passed first check) (sym (append-nil rows)) passed

-- by some rows and one more
pub goes_further : {K R : Type 0} (Passed : K → K → List R → Type 0) (before mid after : K) (more : List R) (row : R) → GoesOn Passed before mid more
    → GoesOn Passed mid after (row ∷ []) → GoesOn Passed before after (more ++ row ∷ [])
goes_further Passed before mid after more row on further first rows passed = search (rules, append_assoc)

module _ {S : Type 0} (g : Ghosts S) (text : List ℕ) (is : IsQuery text) where
  -- a query that did not begin
  pub asks_refused : {A : Type 0} (r : Result A Error) (old new : Held S) (e : Error) → r ≡ Err e → OnErr r (IsRefused g text [] old r new)
      → Asks (state g old) (state g new)
  asks_refused (Ok a) old new e was refused = absurd (cc was)
  asks_refused (Err d) old new e was refused = record {
    survives = survives_weaker _ _ _ _ (λ _ db may. commits_none text [] (state g old) db is may) refused.survives;
    stays = λ clean. stays_failed text [] (state g old) (state g new) d is (refused.err clean);
    idle = refused.mode;
  }

  -- failed as a query does
  pub refused_query : {A : Type 0} (r : Result A Error) (old new : Held S) (e : Error) → r ≡ Err e → OnErr r (IsRefused g text [] old r new)
      → HasCleanDisk (state g new) → FailsToQuery text [] (state g old) (state g new) e
  refused_query (Ok a) old new e was refused clean = absurd (cc was)
  refused_query (Err d) old new e was refused clean =
      let same : d ≡ e = cc in
      subst (FailsToQuery text [] (state g old) (state g new)) same (refused.err clean)

  -- its error is the disk's only where that met a fault
  pub met_refused : {A : Type 0} (r : Result A Error) (old new : Held S) (e : Error) → r ≡ Err e → OnErr r (IsRefused g text [] old r new)
      → HasCleanDisk (state g new) → IsMet (state g old) (state g new) e
  met_refused r old new e was refused clean =
      query_met text [] (state g old) (state g new) e is (refused_query r old new e was refused clean)

  -- one that did has given nothing yet
  pub begun_query : (old new : Held S) → HasBegun g text [] old new → HasGiven g text [] new [] × IsUnchanged (state g old) (state g new)
  begun_query old new (inl begun) = begun
  begun_query old new (inr (returned, shown, ended)) = absurd (never_returns _ text is returned)

  -- a query that has begun has only asked
  pub asks_begun : (old new : Held S) → (HasCleanDisk (state g new) → HasBegun g text [] old new)
      → (old.in_transaction ≡ Bool.false → new.in_transaction ≡ Bool.false)
      → Survives (state g old) (state g new) (CommitsShowing text [] (state g old)) → Asks (state g old) (state g new)
  asks_begun old new begun mode survives = record {
    survives = survives_weaker _ _ _ _ (λ _ db may. commits_none text [] (state g old) db is may) survives;
    stays = λ clean. stays_unchanged (state g old) (state g new) (begun_query old new (begun clean)).1;
    idle = mode;
  }

module _ {S C R K : Type 0} (g : Ghosts S) (text : List ℕ) (spelled : Row → C) (write : R → C) (IsStored : R → Type 0) (Passed : K → K → List R → Type 0) where
  -- no row was given yet
  pub given_none : (old new : Held S) (check : K) → HasGiven g text [] new [] × IsUnchanged (state g old) (state g new)
      → HasGivenRows g text spelled write IsStored old new (GoesOn Passed check check)
  given_none old new check begun = record {
    given = [];
    rows = [];
    gives = begun.0;
    same = begun.1;
    columns = refl;
    stored = tt;
    is = goes_nowhere Passed check;
  }

  -- one more was
  pub given_more : (old mid new : Held S) (before check after : K) (row : Row) → (so_far : HasGivenRows g text spelled write IsStored old mid
      (GoesOn Passed before check))
      → HasGiven g text [] new (so_far.given ++ row ∷ []) → IsUnchanged (state g mid) (state g new)
      → (found : R) × IsStored found × (spelled row ≡ write found) × GoesOn Passed check after (found ∷ [])
      → HasGivenRows g text spelled write IsStored old new (GoesOn Passed before after)
  given_more old mid new before check after row so_far gives same (found, stored, columns, on) = record {
    given = so_far.given ++ row ∷ [];
    rows = so_far.rows ++ found ∷ [];
    gives = gives;
    same = unchanged_then (state g old) (state g mid) (state g new) so_far.same same;
    columns = map-append spelled so_far.given (row ∷ [])
        ∙ (λ i. so_far.columns i ++ columns i ∷ [])
        ∙ sym (map-append write so_far.rows (found ∷ []));
    stored = each-append IsStored so_far.rows (found ∷ []) so_far.stored (stored, tt);
    is = goes_further Passed before check after so_far.rows found so_far.is on;
  }

  -- the last one was
  pub given_all : (old mid new : Held S) (before check : K) → (all : HasGivenRows g text spelled write IsStored old mid (GoesOn Passed before check))
      → Shown text [] (state g mid) (state g new) all.given → ShowsTable g text spelled write IsStored (state g old).now (GoesOn Passed before check)
  given_all old mid new before check all shown = record {
    rows = all.rows;
    shown = λ here is.
        record { before = mid; after = new; same = all.same.0.now_is ∙ sym is; rows = all.given; shown = shown; columns = sym all.columns };
    stored = all.stored;
    is = all.is;
  }

-- what is kept of a table whose rows all passed
pub whole_kept : {S C R K X : Type 0} (g : Ghosts S) (text : List ℕ) (spelled : Row → C) (write : R → C) (IsStored : R → Type 0)
    (Passed : K → K → List R → Type 0)
    (IsWhole : K → List R → X → Type 0) (db : Database) (check after : K) → Passed check check []
    → ShowsTable g text spelled write IsStored db (GoesOn Passed check after) → (kept : Option X)
    → IfSome kept (λ k. (first : K) (rows : List R) → Passed first after rows → IsWhole first rows k)
    → IfSome kept (λ k. ShowsTable g text spelled write IsStored db (λ rows. IsWhole check rows k))
whole_kept g text spelled write IsStored Passed IsWhole db check after h l kept e = search rules

-- ---- rows that do not pass

-- behind rows of a table, the row that is its next
pub record IsNext {C R : Type 0} (spelled : Row → C) (write : R → C) (Fits : Row → Type 0) (IsStored : R → Type 0) (row : Row)
    (rows all : List R) : Type 0 where
  pub next : R
  pub rest : List R
  pub are : all ≡ rows ++ next ∷ rest
  pub spells : spelled row ≡ write next
  pub fits : Fits row
  pub stored : IsStored next

-- where the rows that were given and one more are the first of all, that is the next
pub next_row : {C R : Type 0} (spelled : Row → C) (write : R → C) (Fits : Row → Type 0) (IsStored : R → Type 0) → AreToldApart write IsStored
    → (given : List Row) (row : Row) (rows all : List R) → map spelled given ≡ map write rows → EachOf IsStored rows → EachOf IsStored all
    → AreFirst spelled write Fits (given ++ row ∷ []) all → IsNext spelled write Fits IsStored row rows all
next_row spelled write Fits IsStored apart [] row [] [] same kept stored first = absurd first
next_row spelled write Fits IsStored apart [] row [] (x ∷ all) same kept stored first = grind arith
next_row spelled write Fits IsStored apart [] row (y ∷ rows) all same kept stored first = absurd (cc same)
next_row spelled write Fits IsStored apart (r ∷ given) row [] all same kept stored first = absurd (cc same)
next_row spelled write Fits IsStored apart (r ∷ given) row (y ∷ rows) [] same kept stored first = absurd first
next_row spelled write Fits IsStored apart (r ∷ given) row (y ∷ rows) (x ∷ all) same kept stored first =
    let one : spelled r ≡ write y = cc same in
    let others : map spelled given ≡ map write rows = cc same in
    let is : x ≡ y = apart x y stored.0 kept.0 (sym first.0 ∙ one) in
    let it = next_row spelled write Fits IsStored apart given row rows all others kept.1 stored.1 first.2 in
    record { next = it.next; rest = it.rest; are = λ i. is i ∷ it.are i; spells = it.spells; fits = it.fits; stored = it.stored }

module _ {S C R : Type 0} (g : Ghosts S) (text : List ℕ) (spelled : Row → C) (write : R → C) (Fits : Row → Type 0) (IsStored : R → Type 0)
    (apart : AreToldApart write IsStored) where
  -- a table shows the rows that it alone shows
  pub shown_same : {P : List R → Type 0} (conn : Held S) (table : ShowsTable g text spelled write IsStored (state g conn).now P) (all : List R)
      → EachOf IsStored all → ShowsOnly g text spelled write Fits (state g conn).now all → table.rows ≡ all
  shown_same conn table all stored only =
      let it = table.shown conn refl in
      table-apart write IsStored apart table.rows all table.stored stored (it.columns ∙ only.whole it.before it.after it.rows it.same it.shown)

  module _ {K : Type 0} (Passed : K → K → List R → Type 0) (AreAll : K → List R → Type 0) where
    -- a row that did not pass is of no whole table
    pub stops_all : (old mid new : Held S) (before check : K) (row : Row)
        → (so_far : HasGivenRows g text spelled write IsStored old mid (GoesOn Passed before check))
        → HasGiven g text [] new (so_far.given ++ row ∷ []) → IsUnchanged (state g mid) (state g new)
        → (Fits row → (found : R) → IsStored found → spelled row ≡ write found → Stops Passed AreAll check found)
        → (all : List R) → EachOf IsStored all → ShowsOnly g text spelled write Fits (state g old).now all → Passed before before [] → AreAll before all → ⊥
    stops_all old mid new before check row so_far gives same stops all stored only begun are =
        let first = only.first new (so_far.given ++ row ∷ []) (same.0.now_is ∙ so_far.same.0.now_is) gives in
        let it = next_row spelled write Fits IsStored apart so_far.given row so_far.rows all so_far.columns so_far.stored stored first in
        stops it.fits it.next it.stored it.spells before so_far.rows it.rest (so_far.is before [] begun) (subst (AreAll before) it.are are)

    -- nor are rows that passed, of which nothing is kept
    pub none_kept : {X : Type 0} (conn : Held S) (check after : K) → Passed check check []
        → ShowsTable g text spelled write IsStored (state g conn).now (GoesOn Passed check after) → (kept : Option X)
        → ((first : K) (rows : List R) → Passed first after rows → AreAll first rows → IsSome kept)
        → kept ≡ None → (all : List R) → EachOf IsStored all → ShowsOnly g text spelled write Fits (state g conn).now all → AreAll check all → ⊥
    none_kept conn check after begun table (Some kept) fine none all stored only are = absurd (cc none)
    none_kept conn check after begun table None fine none all stored only are =
        let same = shown_same conn table all stored only in
        let some = fine check table.rows (table.is check [] begun) (subst (AreAll check) (sym same) are) in
        absurd (cc some)
