-- Rows by number where one is put or removed, and the nonces that are known, in their places.
use Rattle.std.proofs.Common.{◌≡◌, ◌≢◌, ◌⊎◌, inl, inr, ℕ, zero, suc, Bool, true, false, not, List, [], ◌∷◌, cond, Option, None, Some, refl, sym, ap, subst, ◌∙◌}
use Rattle.std.proofs.{lemmas.Bool.eq-eqb, lemmas.Bool.eqb-true, lemmas.Bool.ne_eqb, lemmas.List.get_or-set_other}
use Rattle.std.specs.Prelude.{◌==◌, find, is_some, nat_lt, replicate, slice_index_or, slice_set, if◌then◌else◌}
use Rattle.desk_model.specs.{Change.put, Change.remove, declared.objects.Nonce.Nonce}
use Rattle.model_laws.proofs.{Local.find_kept}
use Rattle.desk_store.specs.Known.{AreThere, known_nonce, nonce_at, nonce_place, of_serial, without}

-- ---- rows by number

-- a row that is put is found
put_found : {X : Type 0} (number : X → ℕ) (x : X) (rows : List X) → find (λ y. number y == number x) (put number x rows) ≡ Some x
put_found number x [] = ap (λ b. cond b (Some x) None) (eq-eqb (number x) (number x) refl)
put_found {X} number x (y ∷ ys) = by (number x == number y) (nat_lt (number x) (number y)) refl (put_found number x ys)
  where
    first : (zs : List X) → find (λ z. number z == number x) (x ∷ zs) ≡ Some x
    first zs = ap (λ b. cond b (Some x) (find (λ z. number z == number x) zs)) (eq-eqb (number x) (number x) refl)

    by : (same less : Bool) → (number x == number y) ≡ same → find (λ z. number z == number x) (put number x ys) ≡ Some x
        → find (λ z. number z == number x) (cond same (x ∷ ys) (cond less (x ∷ y ∷ ys) (y ∷ put number x ys))) ≡ Some x
    by true less is ih = first ys
    by false true is ih = first (y ∷ ys)
    by false false is ih =
        ap (λ b. cond b (Some y) (find (λ z. number z == number x) (put number x ys)))
        (ne_eqb (number y) (number x) (λ same. absurd (let tied = eq-eqb (number x) (number y) (sym same) in cc)))
        ∙ ih

-- and hides no other one
put_beside : {X : Type 0} (number : X → ℕ) (x : X) (n : ℕ) (rows : List X) → number x ≢ n
    → find (λ y. number y == n) (put number x rows) ≡ find (λ y. number y == n) rows
put_beside number x n [] apart = ap (λ b. cond b (Some x) None) (ne_eqb (number x) n apart)
put_beside {X} number x n (y ∷ ys) apart = by (number x == number y) (nat_lt (number x) (number y)) refl (put_beside number x n ys apart)
  where
    past : (zs : List X) → find (λ z. number z == n) (x ∷ zs) ≡ find (λ z. number z == n) zs
    past zs = ap (λ b. cond b (Some x) (find (λ z. number z == n) zs)) (ne_eqb (number x) n apart)

    by : (same less : Bool) → (number x == number y) ≡ same → find (λ z. number z == n) (put number x ys) ≡ find (λ z. number z == n) ys
        → find (λ z. number z == n) (cond same (x ∷ ys) (cond less (x ∷ y ∷ ys) (y ∷ put number x ys))) ≡ find (λ z. number z == n) (y ∷ ys)
    by true less is ih =
        past ys
        ∙ sym (ap (λ b. cond b (Some y) (find (λ z. number z == n) ys))
        (ne_eqb (number y) n (λ same. apart (eqb-true (number x) (number y) is ∙ same))))
    by false true is ih = past (y ∷ ys)
    by false false is ih = ap (λ o. cond (number y == n) (Some y) o) ih

-- nor does one that is removed
removed_beside : {X : Type 0} (number : X → ℕ) (m n : ℕ) (rows : List X) → m ≢ n
    → find (λ y. number y == n) (remove number m rows) ≡ find (λ y. number y == n) rows
removed_beside number m n rows apart = find_kept number (λ k. not (m == k)) n rows (ap not (ne_eqb m n apart))

-- ---- nonces in their places

-- what stands in a place
abbrev nonce_in : List (Option Nonce) → ℕ → Option Nonce
nonce_in nonces p = slice_index_or nonces p None

-- where one value is in all places it stands in each
pub same_everywhere : {X : Type 0} (places p : ℕ) (x : X) → slice_index_or (replicate places x) p x ≡ x
same_everywhere zero p x = refl
same_everywhere (suc places) zero x = refl
same_everywhere (suc places) (suc p) x = same_everywhere places p x

-- so each that stands where all places are empty is there
pub none_there : (rows : List Nonce) → AreThere (replicate 8 None) rows
none_there rows x at = absurd (let e = sym (same_everywhere 8 (nonce_place x.serial) None) ∙ at in cc)

-- what is set in a place stands there, if there is one
set_in : (nonces : List (Option Nonce)) (p : ℕ) (v : Option Nonce) (x : Nonce) → nonce_in (slice_set nonces p v) p ≡ Some x → v ≡ Some x
set_in [] p v x at = absurd (let e = at in cc)
set_in (n ∷ nonces) zero v x at = at
set_in (n ∷ nonces) (suc p) v x at = set_in nonces p v x at

-- the one that is known is there
pub nonce_there : (nonces : List (Option Nonce)) (rows : List Nonce) (n : ℕ) (x : Nonce) → AreThere nonces rows → known_nonce nonces n ≡ Some x
    → find (λ y. y.serial == n) rows ≡ Some x
nonce_there nonces rows n x there known = by (nonce_at nonces n) refl known
  where
    by : (o : Option Nonce) → nonce_at nonces n ≡ o → of_serial n o ≡ Some x → find (λ y. y.serial == n) rows ≡ Some x
    by None at none = absurd (let e = none in cc)
    by (Some y) at is = go (y.serial == n) refl is
      where
        go : (b : Bool) → (y.serial == n) ≡ b → (if b then Some y else None) ≡ Some x → find (λ z. z.serial == n) rows ≡ Some x
        go true same one =
            let here : y.serial ≡ n = eqb-true y.serial n same in
            let found = there y (ap (nonce_at nonces) here ∙ at) in
            subst (λ k. find (λ z. z.serial == k) rows ≡ Some y) here found ∙ one
        go false same one = absurd (let e = one in cc)

-- what stands in the place of a serial once another may stand in one: that one, or what stood there
set_at : (nonces : List (Option Nonce)) (p n : ℕ) (v : Option Nonce) (y : Nonce) → nonce_at (slice_set nonces p v) n ≡ Some y
    → ((nonce_place n ≡ p) × (v ≡ Some y)) ⊎ ((nonce_place n ≢ p) × (nonce_at nonces n ≡ Some y))
set_at nonces p n v y at = by (nonce_place n == p) refl
  where
    by : (b : Bool) → (nonce_place n == p) ≡ b → ((nonce_place n ≡ p) × (v ≡ Some y)) ⊎ ((nonce_place n ≢ p) × (nonce_at nonces n ≡ Some y))
    by true is =
        let same = eqb-true (nonce_place n) p is in
        inl (same, set_in nonces p v y (subst (λ q. nonce_in (slice_set nonces p v) q ≡ Some y) same at))
    by false is =
        let apart : nonce_place n ≢ p = λ same. let e = sym (eq-eqb (nonce_place n) p same) ∙ is in cc in
        inr (apart, sym (get_or-set_other nonces p (nonce_place n) v None apart) ∙ at)

-- a nonce that is put
pub nonces_put : (nonces : List (Option Nonce)) (x : Nonce) (rows : List Nonce) → AreThere nonces rows
    → AreThere (slice_set nonces (nonce_place x.serial) (Some x)) (put (λ n. n.serial) x rows)
nonces_put nonces x rows there y at = elim (set_at nonces (nonce_place x.serial) y.serial (Some x) y at) [
  | inl here ↦
      let is : x ≡ y = let e = here.1 in cc in
      subst (λ z. find (λ n. n.serial == z.serial) (put (λ n. n.serial) x rows) ≡ Some z) is (put_found (λ n. n.serial) x rows)
  | inr other ↦
      put_beside (λ n. n.serial) x y.serial rows (λ same. other.0 (ap nonce_place (sym same))) ∙ there y other.1
]

-- a nonce that is removed
pub nonces_left : (nonces : List (Option Nonce)) (n : ℕ) (rows : List Nonce) → AreThere nonces rows
    → AreThere (without nonces n) (remove (λ y. y.serial) n rows)
nonces_left nonces n rows there = by (known_nonce nonces n) refl
  where
    kept : (y : Nonce) → nonce_at nonces y.serial ≡ Some y → n ≢ y.serial → find (λ z. z.serial == y.serial) (remove (λ z. z.serial) n rows) ≡ Some y
    kept y at apart = removed_beside (λ z. z.serial) n y.serial rows apart ∙ there y at

    by : (o : Option Nonce) → known_nonce nonces n ≡ o
        → AreThere (if is_some o then slice_set nonces (nonce_place n) None else nonces) (remove (λ y. y.serial) n rows)
    by None none y at = kept y at (λ same.
        let here : known_nonce nonces y.serial ≡ Some y =
        ap (of_serial y.serial) at ∙ ap (λ b. if b then Some y else None) (eq-eqb y.serial y.serial refl) in
        let e = sym none ∙ subst (λ k. known_nonce nonces k ≡ Some y) (sym same) here in cc)
    by (Some x) some y at = elim (set_at nonces (nonce_place n) y.serial None y at) [
      | inl here ↦ absurd (let e = here.1 in cc)
      | inr other ↦ kept y other.1 (λ same. other.0 (ap nonce_place (sym same)))
    ]
