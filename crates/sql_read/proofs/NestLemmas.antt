-- Rows that get their own under them, one after the other.
use Rattle.std.proofs.Common.{◌≡◌, List, [], ◌∷◌, ◌++◌, arith, map, refl, sym, ap, subst, ◌∙◌, IfErr, IsErrAnd, IsTrue, Result, rules}
use Rattle.sqlite.proofs.{StateLemmas.unchanged}
use Rattle.sqlite.specs.State.{HasCleanDisk, IsUnchanged, State}
use Rattle.desk_model.specs.{Kept.EachOf, Tables.Tables}
use Rattle.sql_schema.specs.Stays.{Asks}
use Rattle.sql_tables.specs.Holds.{Holds}
use Rattle.sql_tables.proofs.Holding.{holds_still}
use Rattle.sql_read.specs.{Failures.MayRead, Held.ForHeld, LookUpFaults.IsOfMemoryOrDisk, declared.fault.ReadFault.ReadFault}
use Rattle.store_book.specs.IsBook.{IsStoredBook}
use Rattle.sql_read.proofs.{Failing.may_read_still, Results.failed_as, LookUpFaults.caused_behind, LookUpFaults.failed, LookUpFaults.with_whole}

-- a map that ends in an item is that of a list that ends in one
pub record EndsIn {X Y : Type 0} (f : X → Y) (ys : List Y) (y : Y) (xs : List X) : Type 0 where
  pub front : List X
  pub last : X
  pub whole : xs ≡ front ++ last ∷ []
  pub fronts : ys ≡ map f front
  pub lasts : y ≡ f last

-- such a list ends in an item
pub ends_in : {X Y : Type 0} (f : X → Y) (ys : List Y) (y : Y) (xs : List X) → ys ++ y ∷ [] ≡ map f xs → EndsIn f ys y xs
ends_in f [] y [] same = absurd (cc same)
ends_in f [] y (x ∷ []) same = record { front = []; last = x; whole = refl; fronts = refl; lasts = (let e : y ≡ f x = cc same in e) }
ends_in f [] y (x ∷ z ∷ xs) same = absurd (cc same)
ends_in f (w ∷ ys) y [] same = absurd (cc same)
ends_in f (w ∷ ys) y (x ∷ xs) same =
    let here : w ≡ f x = cc same in
    let rest : ys ++ y ∷ [] ≡ map f xs = cc same in
    let it = ends_in f ys y xs rest in
    record {
      front = x ∷ it.front;
      last = it.last;
      whole = ap (λ l. x ∷ l) it.whole;
      fronts = λ i. here i ∷ it.fronts i;
      lasts = it.lasts;
    }

-- what holds of each item, the last apart
each_front : {X : Type 0} (P : X → Type 0) (xs : List X) (x : X) → EachOf P (xs ++ x ∷ []) → EachOf P xs × P x
each_front P [] x h = (tt, h.0)
each_front P (y ∷ ys) x h = let rest = each_front P ys x h.1 in ((h.0, rest.0), rest.1)

-- the rows so far are those whose bare rows were read
abbrev pub AreFilled : {X Y : Type 0} → (P : X → Type 0) (bare : X → Y) → List Y → List X → Type 0
AreFilled {X} P bare read rows = (xs : List X) → EachOf P xs → read ≡ map bare xs → rows ≡ xs

-- no row was filled yet
pub filled_none : {X Y : Type 0} (P : X → Type 0) (bare : X → Y) → AreFilled P bare [] []
filled_none P bare [] own are = refl
filled_none P bare (x ∷ xs) own are = absurd (cc are)

-- one row more
pub filled_more : {X Y : Type 0} (P : X → Type 0) (bare : X → Y) (read : List Y) (rows new : List X) (head : Y) (filled : X) → AreFilled P bare read rows
    → ((x : X) → P x → head ≡ bare x → filled ≡ x) → new ≡ rows ++ filled ∷ []
    → AreFilled P bare (read ++ head ∷ []) new
filled_more P bare read rows new head filled before fill pushed xs own are =
    let it = ends_in bare read head xs are in
    let parts = each_front P it.front it.last (subst (EachOf P) it.whole own) in
    let front : rows ≡ it.front = before it.front parts.0 it.fronts in
    pushed
    ∙ (λ i. front i ++ fill it.last parts.1 it.lasts i ∷ [])
    ∙ sym it.whole

-- ---- over the tables of a desk

-- rows were filled by calls that changed nothing, so as they stand under these
pub record Filled {X Y : Type 0} (P : Tables → X → Type 0) (bare : X → Y) (first now : State) (read : List Y) (rows : List X) : Type 0 where
  pub found : ForHeld first now (λ T. IsStoredBook T → IsTrue first.is_open → AreFilled (P T) bare read rows)
  pub unchanged : HasCleanDisk now → IsTrue first.is_open → IsUnchanged first now
  pub asks : Asks first now

-- none was yet
pub filled_first : {X Y : Type 0} (P : Tables → X → Type 0) (bare : X → Y) (first : State) (rows : List X) → rows ≡ [] → Filled P bare first first [] rows
filled_first P bare first rows none = search (rules, filled_none)

-- one more call changed nothing
pub filled_on : {X Y : Type 0} {P : Tables → X → Type 0} {bare : X → Y} {first old new : State} {read more : List Y} {rows filled : List X}
    → Filled P bare first old read rows → Asks old new → (HasCleanDisk new → IsTrue old.is_open → IsUnchanged old new)
    → (HasCleanDisk new → (T : Tables) → Holds old.now T → IsStoredBook T → IsTrue old.is_open → AreFilled (P T) bare read rows
    → AreFilled (P T) bare more filled)
    → Filled P bare first new more filled
filled_on {X} {Y} {P} {bare} {first} {old} {new} before asks same step = grind arith

-- or it failed, as it does under a row that is like the one that is filled
pub filled_failed : {X Y A : Type 0} {P : Tables → X → Type 0} {bare : X → Y} {first old new : State} {read : List Y} {rows : List X}
    → Filled P bare first old read rows → Asks old new → HasCleanDisk new → (T : Tables) → Holds first.now T → MayRead first
    → (head : Y) (after : List Y) (wholes : List X) → read ++ head ∷ after ≡ map bare wholes → EachOf (P T) wholes
    → (r : Result A ReadFault) (fault : ReadFault) → IsErrAnd r (λ x. x ≡ fault)
    → (Holds old.now T → MayRead old → (x : X) → P T x → head ≡ bare x → IsOfMemoryOrDisk old new fault)
    → IfErr r (IsOfMemoryOrDisk first new)
filled_failed {X} {Y} {A} {P} {bare} {first} {old} {new} {read} before asks clean T has may head after wholes are own r fault same fails =
    let clean_old : HasCleanDisk old = omega (arith, clean, asks.survives.clean) in
    let still = before.unchanged clean_old may.is_open in
    failed_as r fault (IsOfMemoryOrDisk first new)
    (caused_behind (failed (Unit {0}) fault) first old new before.asks
    (with_whole (P T) bare read head after wholes are own (fails (holds_still first old T still has) (may_read_still first old still before.asks may)))) same
