-- Rows put by number, and the places of those that stood there.
use Rattle.std.specs.{Prelude.◌==◌, Prelude.find, List.flat_map}
use Rattle.std.proofs.Common.{◌≡◌, ◌≢◌, ◌⊎◌, inl, inr, ℕ, List, [], ◌∷◌, ◌++◌, map, cond, Some, None, refl, sym, ap, subst, ◌∙◌, arith}
use Rattle.std.proofs.lemmas.{Bool.eq-eqb, Bool.ne_eqb, Grind.flat_map-append}
use Rattle.model_laws.proofs.RowLists.{Above, put_before, put_instead, put_past}
use Rattle.model_laws.specs.Distinct.{Distinct}
use Rattle.desk_model.specs.Change.{put}
use Rattle.sql_tables.proofs.{Keyed.ranked, Sorting.put_each, Sorting.put_each_over}

-- these numbers stand among those, in their order
abbrev pub AreWithin : List ℕ → List ℕ → Type 0
AreWithin [] ks = Unit {0}
AreWithin (j ∷ js) [] = ⊥
AreWithin (j ∷ js) (k ∷ ks) = ((j ≡ k) × AreWithin js ks) ⊎ AreWithin (j ∷ js) ks

-- among one more, too
pub within_more : (js ks : List ℕ) (k : ℕ) → AreWithin js ks → AreWithin js (k ∷ ks)
within_more [] ks k h = tt
within_more (j ∷ js) ks k h = inr h

-- without the first of them, too
within_rest : (j : ℕ) (js ks : List ℕ) → AreWithin (j ∷ js) ks → AreWithin js ks
within_rest j js [] h = absurd h
within_rest j js (k ∷ ks) (inl here) = within_more js ks k here.1
within_rest j js (k ∷ ks) (inr later) = within_more js ks k (within_rest j js ks later)

-- numbers stand among themselves
pub within_same : (js ks : List ℕ) → js ≡ ks → AreWithin js ks
within_same [] ks same = tt
within_same (j ∷ js) [] same = absurd (cc same)
within_same (j ∷ js) (k ∷ ks) same = inl (cc same, within_same js ks (cc same))

module _ {X : Type 0} (key : X → ℕ) where
  -- ---- look-ups

  -- the first row has the number
  pub find_here : (n : ℕ) (x : X) (xs : List X) → key x ≡ n → find (λ y. key y == n) (x ∷ xs) ≡ Some x
  find_here n x xs same = ap (λ b. cond b (Some x) (find (λ y. key y == n) xs)) (eq-eqb (key x) n same)

  -- it has another
  pub find_later : (n : ℕ) (x : X) (xs : List X) → key x ≢ n → find (λ y. key y == n) (x ∷ xs) ≡ find (λ y. key y == n) xs
  find_later n x xs apart = ap (λ b. cond b (Some x) (find (λ y. key y == n) xs)) (ne_eqb (key x) n apart)

  -- rows above the number
  pub find_none : (n : ℕ) (xs : List X) → Above key n xs → find (λ y. key y == n) xs ≡ None
  find_none n [] all = refl
  find_none n (x ∷ xs) all = find_later n x xs (λ e. omega (arith, e, all.0)) ∙ find_none n xs all.1

  -- ---- the parts beside a row

  -- a row that is put stands between two parts, which are all rows where none had its number
  pub record PutParts (x : X) (xs : List X) : Type 0 where
    pub pre : List X
    pub post : List X
    pub put_is : put key x xs ≡ pre ++ x ∷ post
    pub new : find (λ y. key y == key x) xs ≡ None → xs ≡ pre ++ post

  -- which it does
  pub put_parts : (x : X) (xs : List X) → PutParts x xs
  put_parts x [] = record { pre = []; post = []; put_is = refl; new = λ none. refl }
  put_parts x (y ∷ ys) = elim (ranked (key y) (key x)) [
    | inl less ↦
        let more = put_parts x ys in record {
          pre = y ∷ more.pre;
          post = more.post;
          put_is = put_past key x y ys less.low ∙ ap (λ zs. y ∷ zs) more.put_is;
          new = λ none. ap (λ zs. y ∷ zs) (more.new (sym (find_later (key x) y ys (λ e. omega (arith, e, less.low))) ∙ none));
        }
    | inr (inl tied) ↦ record {
      pre = [];
      post = ys;
      put_is = put_instead key x y ys tied.same;
      new = λ none. absurd (let some = sym (find_here (key x) y ys tied.same) ∙ none in cc);
    }
    | inr (inr more) ↦ record { pre = []; post = y ∷ ys; put_is = put_before key x y ys more.high; new = λ none. refl }
  ]

  -- what holds of the children of all rows holds of those of the row that was put
  pub part_of_put : {C : Type 0} (children : X → List C) (P : List C → Type 0) → ((cs ds : List C) → P (cs ++ ds) → P cs × P ds)
      → (x : X) (xs : List X) → P (flat_map children (put key x xs)) → P (children x)
  part_of_put children P parts x xs all =
      let it = put_parts x xs in
      let at = subst P (ap (flat_map children) it.put_is ∙ flat_map-append children it.pre (x ∷ it.post)) all in
      (parts (children x) (flat_map children it.post) (parts (flat_map children it.pre) (children x ++ flat_map children it.post) at).1).0

  -- ---- several rows

  -- a row whose number stands among those of rows that are put behind it
  put_among : (y : X) (js : List ℕ) (xs zs : List X) → AreWithin (key y ∷ js) (map key xs) → Distinct key xs
      → put_each key xs (put key y zs) ≡ put_each key xs zs
  put_among y js [] zs h apart = absurd h
  put_among y js (x ∷ xs) zs (inl here) apart = put_each_over key y x xs zs here.0 apart
  put_among y js (x ∷ xs) zs (inr later) apart = ap (put key x) (put_among y js xs zs later apart.1)

  -- rows take the places of those with their numbers, which are put before them
  pub put_each_within : (ys xs zs : List X) → AreWithin (map key ys) (map key xs) → Distinct key xs
      → put_each key xs (put_each key ys zs) ≡ put_each key xs zs
  put_each_within [] xs zs h apart = refl
  put_each_within (y ∷ ys) xs zs h apart =
      put_among y (map key ys) xs (put_each key ys zs) h apart ∙ put_each_within ys xs zs (within_rest (key y) (map key ys) (map key xs) h) apart
