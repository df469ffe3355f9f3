-- Rows under hidden numbers, told apart by order and place.
use Rattle.std.specs.{Prelude.◌==◌, List.AllByRecursion, List.flat_map, List.Sorted.IsPermutation}
use Rattle.std.proofs.Common.{◌≡◌, ◌≢◌, ◌⊎◌, inl, inr, ℕ, ◌+◌, ◌<◌, ◌≤◌, ◌++◌, List, [], ◌∷◌, map, fold, Bool, true, false, ◌&&◌, refl, sym, ap, subst, ◌∙◌}
use Rattle.std.proofs.Common.{arith, append-nil}
use Rattle.std.proofs.lemmas.{Bool.ne_eqb, List.append_assoc, List.map-append, List.Elements.All-from_recursion, List.Elements.recursion_from_All}
use Rattle.std.proofs.lemmas.{List.Sorted.All-permutation, List.Sorted.IsPermutation-sym}
use Rattle.sqlite_rules.specs.Lists.{Has}
use Rattle.store_columns.specs.declared.columns.Owned.{Owned}
use Rattle.model_laws.proofs.{Basics.eq_turn, RowLists.ascends_above, RowLists.ascends_from, RowLists.put_instead, RowLists.put_past, RowLists.puts_last}
use Rattle.model_laws.specs.Ordered.{Ascends, Below}
use Rattle.desk_model.specs.{Change.put, Kept.EachOf, declared.rows.Listed.Listed}
use Rattle.sql_write.specs.Makes.{ArePlaced, appended}
use Rattle.sql_tables.specs.{Effects.is_same_place, Holds.AreApart, Layouts.IsRising, Hidden.IsPlaced, Hidden.next, Hidden.number, Hidden.row_of}
use Rattle.sql_tables.proofs.{Keyed.put_ascends, Upsert.has_map, Upsert.image_of}

-- ---- members of lists

-- a longer list has what it had
has_more : {X : Type 0} (x : X) (xs ys : List X) → AllByRecursion (Has xs) ys → AllByRecursion (Has (x ∷ xs)) ys
has_more x xs [] h = tt
has_more x xs (y ∷ ys) h = (inr h.0, has_more x xs ys h.1)

-- a list has its items
has_all : {X : Type 0} (xs : List X) → AllByRecursion (Has xs) xs
has_all [] = tt
has_all (x ∷ xs) = (inl refl, has_more x xs xs (has_all xs))

-- what holds of all holds of one
all_at : {X : Type 0} (P : X → Type 0) (xs : List X) (x : X) → AllByRecursion P xs → Has xs x → P x
all_at P [] x all h = absurd h
all_at P (y ∷ ys) x all (inl here) = subst P (sym here) all.0
all_at P (y ∷ ys) x all (inr there) = all_at P ys x all.1 there

-- what holds of each holds of one
pub each_at : {X : Type 0} (P : X → Type 0) (xs : List X) (x : X) → EachOf P xs → Has xs x → P x
each_at P [] x all h = absurd h
each_at P (y ∷ ys) x all (inl here) = subst P (sym here) all.0
each_at P (y ∷ ys) x all (inr there) = each_at P ys x all.1 there

-- the same items in another order
pub has_through : {X : Type 0} (xs ys : List X) (x : X) → IsPermutation xs ys → Has ys x → Has xs x
has_through xs ys x updates h =
    all_at (Has xs) ys x (recursion_from_All (Has xs) ys (All-permutation (Has xs) xs ys updates (All-from_recursion (Has xs) xs (has_all xs)))) h

-- in the first of two lists
pub has_left : {X : Type 0} (xs ys : List X) (x : X) → Has xs x → Has (xs ++ ys) x
has_left [] ys x h = absurd h
has_left (z ∷ zs) ys x (inl here) = inl here
has_left (z ∷ zs) ys x (inr there) = inr (has_left zs ys x there)

-- in the second
pub has_right : {X : Type 0} (xs ys : List X) (x : X) → Has ys x → Has (xs ++ ys) x
has_right [] ys x h = h
has_right (z ∷ zs) ys x h = inr (has_right zs ys x h)

-- in what is made of an item
pub has_flat : {X Y : Type 0} (f : X → List Y) (xs : List X) (x : X) (y : Y) → Has xs x → Has (f x) y → Has (flat_map f xs) y
has_flat f [] x y h own = absurd h
has_flat f (z ∷ zs) x y (inl here) own = has_left (f z) (flat_map f zs) y (subst (λ w. Has (f w) y) here own)
has_flat f (z ∷ zs) x y (inr there) own = has_right (f z) (flat_map f zs) y (has_flat f zs x y there own)

-- in one of the two
pub has_parts : {X : Type 0} (xs ys : List X) (x : X) → Has (xs ++ ys) x → Has xs x ⊎ Has ys x
has_parts [] ys x h = inr h
has_parts (z ∷ zs) ys x (inl here) = inl (inl here)
has_parts (z ∷ zs) ys x (inr there) = grind (arith, (has_parts zs ys x there))

-- ---- places

-- from either side
same_turn : (a b : Owned Listed) → is_same_place a b ≡ is_same_place b a
same_turn a b = λ i. eq_turn a.owner b.owner i && eq_turn a.row.place b.row.place i

-- two orders have no place in common
pub owners_apart : (a b : Owned Listed) → a.owner ≢ b.owner → is_same_place a b ≡ false
owners_apart a b apart = λ i. ne_eqb a.owner b.owner apart i && (a.row.place == b.row.place)

-- a test that is true and false
true_false : {A : Type 0} (b : Bool) → b ≡ true → b ≡ false → A
true_false b is isnt = absurd (let e : true ≡ false = sym is ∙ isnt in cc)

-- rows that are apart are one where they have one place
one_place : (ls : List (Owned Listed)) (a b : Owned Listed) → AreApart ls → Has ls a → Has ls b → is_same_place a b ≡ true → a ≡ b
one_place [] a b apart in_a in_b tied = absurd in_a
one_place (l ∷ ls) a b apart (inl a_is) (inl b_is) tied = a_is ∙ sym b_is
one_place (l ∷ ls) a b apart (inl a_is) (inr b_in) tied =
    true_false (is_same_place a b) tied (ap (λ k. is_same_place k b) a_is ∙ each_at (λ k. is_same_place l k ≡ false) ls b apart.0 b_in)
one_place (l ∷ ls) a b apart (inr a_in) (inl b_is) tied =
    true_false (is_same_place a b) tied (ap (λ k. is_same_place a k) b_is ∙ same_turn a l ∙ each_at (λ k. is_same_place l k ≡ false) ls a apart.0 a_in)
one_place (l ∷ ls) a b apart (inr a_in) (inr b_in) tied = one_place ls a b apart.1 a_in b_in tied

-- ---- rows by hidden number

-- a row that is there is put where it is
put_there : {X : Type 0} (n : ℕ) (t : ℕ × X) (ts : List (ℕ × X)) → Ascends number n ts → Has ts t → put number t ts ≡ ts
put_there n t [] up h = absurd h
put_there n t (s ∷ ss) up (inl here) = put_instead number t s ss (sym (ap (λ u. u.0) here)) ∙ ap (λ u. u ∷ ss) here
put_there n t (s ∷ ss) up (inr there) =
    let low : s.0 < t.0 = each_at (λ u. s.0 < u.0) ss t (ascends_above number s.0 (s.0 + 1) ss (omega arith) up.1) there in
    put_past number t s ss low ∙ ap (λ us. s ∷ us) (put_there (s.0 + 1) t ss up.1 there)

-- the next number is above the first
above_first : {X : Type 0} (m n : ℕ) (ts : List (ℕ × X)) → m < n → Ascends number (m + 1) ts → m < fold (λ _ t. t.0 + 1) n ts
above_first m n [] low up = low
above_first m n (t ∷ ts) low up =
    let first : m + 1 ≤ t.0 = up.0 in
    above_first m (t.0 + 1) ts (omega arith) (ascends_from number (m + 1) (t.0 + 1) ts (omega arith) up.1)

-- all numbers are below the next
below_next : {X : Type 0} (m n : ℕ) (ts : List (ℕ × X)) → Ascends number m ts → Below number (fold (λ _ t. t.0 + 1) n ts) ts
below_next m n [] up = tt
below_next m n (t ∷ ts) up = (above_first t.0 (t.0 + 1) ts (omega arith) up.1, below_next (t.0 + 1) (t.0 + 1) ts up.1)

-- a row under the next number comes last
put_next : {X : Type 0} (x : X) (ts : List (ℕ × X)) → IsRising number ts → put number (next ts, x) ts ≡ ts ++ (next ts, x) ∷ []
put_next x ts up = puts_last number (next ts) ((next ts, x) ∷ []) ts (omega arith, tt) (below_next 0 1 ts up)

-- ---- rows placed

-- a row that is there stays as it is
stays_one : (L : List (Owned Listed)) (l : Owned Listed) (ts after : List (ℕ × Owned Listed)) → IsRising number ts → IsPermutation (map row_of ts) L
    → AreApart L → Has L l → IsPlaced is_same_place l ts after
    → after ≡ ts
stays_one L l ts after up same apart in_it (inl found) =
    let t = found.0 in
    let there : Has L t.1 = has_through L (map row_of ts) t.1 (IsPermutation-sym (map row_of ts) L same) (has_map row_of ts t found.1) in
    let is : l ≡ t.1 = one_place L l t.1 apart in_it there found.2 in
    found.3 ∙ ap (λ k. put number (t.0, k) ts) is ∙ put_there 0 t ts up found.1
stays_one L l ts after up same apart in_it (inr fresh) = grind (arith, image_of, (has_through (map row_of ts) L l same in_it))

-- and so do several
pub stays : (L ls : List (Owned Listed)) (ts after : List (ℕ × Owned Listed)) → IsRising number ts → IsPermutation (map row_of ts) L → AreApart L
    → ((l : Owned Listed) → Has ls l → Has L l) → ArePlaced ls ts after
    → after ≡ ts
stays L [] ts after up same apart inside placed = placed
stays L (l ∷ ls) ts after up same apart inside placed =
    let first = stays_one L l ts placed.0 up same apart (inside l (inl refl)) placed.1 in
    stays L ls ts after up same apart (λ k h. inside k (inr h)) (subst (λ mid. ArePlaced ls mid after) first placed.2)

-- rows that are new come last
pub new_rows : (ls : List (Owned Listed)) (ts after : List (ℕ × Owned Listed)) → IsRising number ts → AreApart ls
    → ((l : Owned Listed) → Has ls l → (t : ℕ × Owned Listed) → Has ts t → is_same_place l t.1 ≡ false) → ArePlaced ls ts after
    → map row_of after ≡ map row_of ts ++ ls
new_rows [] ts after up apart none placed = ap (map row_of) placed ∙ sym (append-nil (map row_of ts))
new_rows (l ∷ ls) ts after up apart none placed = elim (placed.1) [
  | inl found ↦ true_false (is_same_place l found.0.1) found.2 (none l (inl refl) found.0 found.1)
  | inr fresh ↦
      let last = put_next l ts up in
      let is : placed.0 ≡ ts ++ (next ts, l) ∷ [] = fresh.1 ∙ last in
      let rises : IsRising number (ts ++ (next ts, l) ∷ []) = subst (Ascends number 0) last (put_ascends number 0 (next ts, l) ts (omega arith) up) in
      let more = new_rows ls (ts ++ (next ts, l) ∷ []) after rises apart.1
      (λ k h t in_t. elim (has_parts ts ((next ts, l) ∷ []) t in_t) [
        | inl old ↦ none k (inr h) t old
        | inr (inl now) ↦
            ap (λ (u : ℕ × Owned Listed). is_same_place k u.1) now ∙ same_turn k l ∙ each_at (λ k. is_same_place l k ≡ false) ls k apart.0 h
        | inr (inr never) ↦ absurd never
      ])
      (subst (λ mid. ArePlaced ls mid after) is placed.2) in
      more ∙ ap (λ us. us ++ ls) (map-append row_of ts ((next ts, l) ∷ [])) ∙ append_assoc (map row_of ts) (l ∷ []) ls
]

-- rows that are appended come last
pub appended_rows : (ls : List (Owned Listed)) (ts : List (ℕ × Owned Listed)) → IsRising number ts → map row_of (appended ls ts) ≡ map row_of ts ++ ls
appended_rows [] ts up = sym (append-nil (map row_of ts))
appended_rows (l ∷ ls) ts up =
    appended_rows ls (put number (next ts, l) ts) (put_ascends number 0 (next ts, l) ts (omega arith) up)
    ∙ ap (λ us. map row_of us ++ ls) (put_next l ts up)
    ∙ ap (λ us. us ++ ls) (map-append row_of ts ((next ts, l) ∷ []))
    ∙ append_assoc (map row_of ts) (l ∷ []) ls
