-- Rows put over those that are known to stand in their places.
use Rattle.std.specs.Prelude.{option_map, IfSome}
use Rattle.std.proofs.Common.{◌≡◌, ◌≢◌, inl, inr, ℕ, ◌++◌, List, [], ◌∷◌, Option, Some, None, Bool, Result, Ok, refl, sym, ap, subst, ◌∙◌, rules}
use Rattle.sqlite.specs.{Effect.Database, Order.Row, Store.Ghosts, Held.Held, Held.state}
use Rattle.sqlite_rules.specs.Lists.{Has}
use Rattle.store_columns.specs.declared.columns.Owned.{Owned}
use Rattle.model_laws.proofs.RowLists.{put_before, put_instead, put_past, puts_append}
use Rattle.model_laws.proofs.{Basics.each, Basics.each_parts, Distinctness.distinct_parts}
use Rattle.model_laws.specs.{Distinct.Distinct, Placing.puts}
use Rattle.desk_model.specs.{Change.put, Kept.EachOf}
use Rattle.sql_write.proofs.{InPlace.put_alike, Numbered.put_parts, PlacedRows.has_right, Written.nothing_written, Written.written_as, Written.written_with}
use Rattle.sql_write.specs.{Makes.PutsAllOver, Makes.PutsOver, Makes.Sets, Makes.AreFoundUnder, Makes.Writes, Write.write, Refusals.HasWritten, Statements.Sql}
use Rattle.sql_write.specs.{Statements.of_some, declared.fault.SaveFault.SaveFault, declared.stored.Write.Write, declared.stored.Difference.Difference}
use Rattle.sql_write.specs.{declared.stored.Difference.TheVariants.Same, declared.stored.Difference.TheVariants.Moved}
use Rattle.sql_tables.specs.{Sorted.sorted_by, Layouts.HasRows, Layouts.Layout}
use Rattle.sql_tables.proofs.Keyed.{put_ascends, ranked}

-- ---- rows that stay

module _ {X : Type 0} (key : X → ℕ) where
  -- the row that was put is there
  pub has_own : (x : X) (rows : List X) → Has (put key x rows) x
  has_own x rows = let it = put_parts key x rows in subst (λ rs. Has rs x) (sym it.put_is) (has_right it.pre (x ∷ it.post) x (inl refl))

  -- and one with another number still is
  pub has_other : (x z : X) (rows : List X) → key z ≢ key x → Has rows z → Has (put key x rows) z
  has_other x z [] differ h = absurd h
  has_other x z (y ∷ ys) differ h = elim (ranked (key y) (key x)) [
    | inl less ↦
        subst (λ rs. Has rs z) (sym (put_past key x y ys less.low)) (elim h [
          | inl here ↦ inl here
          | inr there ↦ inr (has_other x z ys differ there)
        ])
    | inr (inl tied) ↦
        subst (λ rs. Has rs z) (sym (put_instead key x y ys tied.same)) (elim h [
          | inl here ↦ absurd (differ (ap key here ∙ tied.same))
          | inr there ↦ inr there
        ])
    | inr (inr more) ↦ subst (λ rs. Has rs z) (sym (put_before key x y ys more.high)) (inr h)
  ]

  -- behind several with other numbers, too
  has_others : (xs : List X) (z : X) (rows : List X) → EachOf (λ x. key z ≢ key x) xs → Has rows z → Has (puts key xs rows) z
  has_others [] z rows differ h = h
  has_others (x ∷ xs) z rows differ h = has_others xs z (put key x rows) differ.1 (has_other x z rows differ.0 h)

  -- rows that differ in number are all among the sorted ones
  pub has_sorted : (xs : List X) (z : X) → Distinct key xs → Has xs z → Has (sorted_by key xs) z
  has_sorted [] z differ h = absurd h
  has_sorted (x ∷ xs) z differ (inl here) = subst (Has (sorted_by key (x ∷ xs))) (sym here) (has_own x (sorted_by key xs))
  has_sorted (x ∷ xs) z differ (inr there) =
      has_other x z (sorted_by key xs) (λ same. of_each xs z differ.0 there (sym same)) (has_sorted xs z differ.1 there)
    where
      of_each : (ys : List X) (w : X) → EachOf (λ y. key x ≢ key y) ys → Has ys w → key x ≢ key w
      of_each [] w all h same = absurd h
      of_each (y ∷ ys) w all (inl is) same = all.0 (same ∙ ap key is)
      of_each (y ∷ ys) w all (inr in_it) same = of_each ys w all.1 in_it same

-- ---- one row

-- of a row that differs so from the one that is known, the one keeps what the other has: these columns where it moved, all where it is the same
pub record Differs {X : Type 0} (L : Layout X) (kept : X → Row) (diff : X → Difference) (row : X) (stored : Option X) : Type 0 where
  pub updates : (old : X) → stored ≡ Some old → diff old ≡ Moved → kept old ≡ kept row
  pub same : (old : X) → stored ≡ Some old → L.key old ≡ L.key row → diff old ≡ Same → L.image old ≡ L.image row

-- what was written by how it differs puts it over that
over_stored : {X : Type 0} (L : Layout X) (kept : X → Row) (diff : X → Difference) (row : X) (new : Bool) (stored : Option X)
    → Differs L kept diff row stored
    → (a b : Database) → Sets L kept (write (option_map diff stored) new) row a b → PutsOver L stored row a b
over_stored L kept diff row new stored h a b k = search (rules, (put_alike L.key L.image), put_ascends)

-- ---- several rows

module _ {X : Type 0} (L : Layout X) (stored : X → Option X) where
  -- what stands under rows still does behind others
  found_behind : (xs ys : List X) (rows : List X) → EachOf (λ x. EachOf (λ y. L.key x ≢ L.key y) ys) xs → AreFoundUnder L stored rows ys
      → AreFoundUnder L stored (puts L.key xs rows) ys
  found_behind xs [] rows differ h = tt
  found_behind xs (y ∷ ys) rows differ h =
      (here (stored y) h.0, found_behind xs ys rows (each _ _ xs (λ x p. p.1) differ) h.1)
    where
      here : (o : Option X) → IfSome o (λ z. Has rows z × (L.key z ≡ L.key y)) → IfSome o (λ z. Has (puts L.key xs rows) z × (L.key z ≡ L.key y))
      here None it = tt
      here (Some z) it = (has_others L.key xs z rows (each _ _ xs (λ x p same. p.0 (sym same ∙ it.1)) differ) it.0, it.1)

  -- none
  pub over_none : (a : Database) → PutsAllOver L stored [] a a
  over_none a sound rows has stands differ = record { sound = sound; has = has; others = λ t other none. refl }

  -- one
  pub over_one : (x : X) (a b : Database) → PutsOver L (stored x) x a b → PutsAllOver L stored (x ∷ []) a b
  over_one x a b it sound rows has stands differ = it sound rows has stands.0

  -- some, and then others
  pub over_both : (xs ys : List X) (a b c : Database) → PutsAllOver L stored xs a b → PutsAllOver L stored ys b c → PutsAllOver L stored (xs ++ ys) a c
  over_both xs ys a b c first last sound rows has stands differ =
      let stand = each_parts _ xs ys stands in
      let parts = distinct_parts L.key xs ys differ in
      let one = first sound rows has stand.0 parts.0 in
      let two = last one.sound (puts L.key xs rows) one.has (found_behind xs ys rows parts.1 stand.1) parts.2 in
      record {
        sound = two.sound;
        has = subst (HasRows L c) (sym (puts_append L.key xs ys rows)) two.has;
        others = λ t other none. two.others t other none ∙ one.others t other none;
      }

-- ---- what a call wrote of one row

-- the call was told how to write it, by how it differs
module _ {S : Type 0} (g : Ghosts S) {X : Type 0} {L : Layout X} {kept : X → Row} {diff : X → Difference} {row : X} {stored : Option X}
    (differs : Differs L kept diff row stored) (new : Bool) (of : Write → List Sql) {told : Option Write} {found wanted : Option Difference}
    (like : option_map diff stored ≡ wanted) (by : told ≡ write found new) (are : found ≡ wanted) where
  -- it is what is done of the row
  set_as : {R : Type 0} {a b : Held S} {r : Result R SaveFault} {m : Option Write} → told ≡ m
      → HasWritten g (of_some of m) (Sets L kept m row) a b r → HasWritten g (of_some of (write wanted new)) (PutsOver L stored row) a b r
  set_as {a = a} {b = b} {r = r} {m = m} is it =
      let same : m ≡ write (option_map diff stored) new = sym is ∙ by ∙ ap (λ d. write d new) (are ∙ sym like) in
      written_with g _ _ (PutsOver L stored row) a b r (ap (of_some of) (same ∙ ap (λ d. write d new) like))
      (written_as g (of_some of m) (Sets L kept m row) (PutsOver L stored row) a b r
      (λ did. over_stored L kept diff row new stored differs (state g a).now (state g b).now
      (subst (λ o. Sets L kept o row (state g a).now (state g b).now) same did)) it)

  -- a row that is written in this write
  pub set_some : {R : Type 0} {a b : Held S} {r : Result R SaveFault} {m : Write} → told ≡ Some m → HasWritten g (of m) (Writes L kept m row) a b r
      → HasWritten g (of_some of (write wanted new)) (PutsOver L stored row) a b r
  set_some {m = m} is it = set_as {m = Some m} is it

  -- and one that is not
  pub set_none : {R : Type 0} {a : Held S} {u : R} → told ≡ None → HasWritten g (of_some of (write wanted new)) (PutsOver L stored row) a a (Ok u)
  set_none {a = a} {u = u} is = set_as {m = None} is (nothing_written g (Sets L kept None row) a u refl)

-- ---- what is known, under an owner

-- a difference of what is known is not of its owner
pub differs_under : {T D : Type 0} (n : ℕ) (diff : T → D) (o : Option T)
    → option_map (λ (x : Owned T). diff x.row) (option_map (λ t. record { owner = n; row = t }) o) ≡ option_map diff o
differs_under n diff o = search rules

-- the owner is this one
pub owner_is : {T : Type 0} (n : ℕ) (o : Option T) (x : Owned T) → option_map (λ t. record { owner = n; row = t }) o ≡ Some x → x.owner ≡ n
owner_is n o x h = search rules

-- nor of what stands beside it
pub differs_beside : {F T D : Type 0} (f : F) (diff : T → D) (o : Option T) → option_map (λ (x : F × T). diff x.1) (option_map (λ t. (f, t)) o) ≡ option_map
    diff o
differs_beside f diff o = search rules
