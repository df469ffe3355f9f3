-- Rows that are nested under their owners are what their parents and their children make.
use Rattle.std.proofs.Common.{◌≡◌, ℕ, ◌+◌, ◌<◌, ◌≤◌, cond, List, [], ◌∷◌, ◌++◌, map, refl, ap, ◌∙◌, arith}
use Rattle.std.proofs.lemmas.Bool.{eq-eqb}
use Rattle.std.specs.List.{AllByRecursion}
use Rattle.model_laws.specs.Ordered.{Ascends}
use Rattle.store_columns.specs.{declared.columns.Owned.Owned, Flat.owned_by}
use Rattle.store_book.specs.Nesting.{IsNesting, child_rows, first_of, behind, nested}

-- an owner's row before others is the first of its rows
pub first-front : {T : Type 0} (n : ℕ) (t : T) (rs : List (Owned T)) → first_of n ((record { owner = n; row = t }) ∷ rs) ≡ t ∷ first_of n rs
first-front n t rs = ap (λ b. cond b (t ∷ first_of n rs) []) (eq-eqb n n refl)

-- and what is behind its rows is behind the others
pub behind-front : {T : Type 0} (n : ℕ) (t : T) (rs : List (Owned T)) → behind n ((record { owner = n; row = t }) ∷ rs) ≡ behind n rs
behind-front n t rs = ap (λ b. cond b (behind n rs) ((record { owner = n; row = t }) ∷ rs)) (eq-eqb n n refl)

-- rows of higher owners
abbrev AreAbove : {T : Type 0} → ℕ → List (Owned T) → Type 0
AreAbove n rs = AllByRecursion (λ r. n < r.owner) rs

-- none of them is the lower owner's
none-own : {T : Type 0} (n : ℕ) (rs : List (Owned T)) → AreAbove n rs → (first_of n rs ≡ []) × (behind n rs ≡ rs)
none-own n [] h = (refl, refl)
none-own {T} n (r ∷ rs) h = grind arith

-- the first rows of an owner are its own, before rows of higher owners
first-own : {T : Type 0} (n : ℕ) (ts : List T) (rs : List (Owned T)) → AreAbove n rs
    → (first_of n (owned_by n ts ++ rs) ≡ ts) × (behind n (owned_by n ts ++ rs) ≡ rs)
first-own n [] rs h = none-own n rs h
first-own n (t ∷ ts) rs h =
    let rest = first-own n ts rs h in
    (first-front n t (owned_by n ts ++ rs) ∙ ap (λ l. t ∷ l) rest.0, behind-front n t (owned_by n ts ++ rs) ∙ rest.1)

-- the children of rows by number are of higher owners than a lower number
children-above : {P T : Type 0} (number : P → ℕ) (children : P → List T) (k n : ℕ) (ps : List P) → k < n → Ascends number n ps
    → AreAbove k (child_rows number children ps)
children-above number children k n [] lt h = tt
children-above {P} {T} number children k n (p ∷ ps) lt h =
    let first : n ≤ number p = h.0 in
    own (children p) (omega arith) (children-above number children k (number p + 1) ps (omega arith) h.1)
  where
    own : (ts : List T) → k < number p → AreAbove k (child_rows number children ps) → AreAbove k (owned_by (number p) ts ++ child_rows number children ps)
    own [] above rest = rest
    own (t ∷ ts) above rest = (above, own ts above rest)

-- parents with children keep their order
pub nested_up : {P T : Type 0} (number : P → ℕ) (children : P → List T) (with_children : P → List T → P) → IsNesting number children with_children →
    (n : ℕ) (ps : List P) (rs : List (Owned T)) → Ascends number n ps → Ascends number n (nested number with_children ps rs)
nested_up number children with_children laws n [] rs up = tt
nested_up number children with_children laws n (p ∷ ps) rs up =
    grind (arith, (nested_up number children with_children laws (number p + 1) ps (behind (number p) rs) up.1))

-- rows by number are what their parents and their children make
pub nested-flat : {P T : Type 0} (number : P → ℕ) (children : P → List T) (with_children : P → List T → P) → IsNesting number children with_children →
    (n : ℕ) (ps : List P) → Ascends number n ps →
    nested number with_children (map (λ p. with_children p []) ps) (child_rows number children ps) ≡ ps
nested-flat number children with_children laws n [] h = refl
nested-flat number children with_children laws n (p ∷ ps) h =
    let above = children-above number children (number p) (number p + 1) ps (omega arith) h.1 in
    let own = first-own (number p) (children p) (child_rows number children ps) above in
    let k = laws.number_kept p [] in
    (λ i. with_children (with_children p []) (first_of (k i) (owned_by (number p) (children p) ++ child_rows number children ps))
    ∷ nested number with_children (map (λ p. with_children p []) ps) (behind (k i) (owned_by (number p) (children p) ++ child_rows number children ps)))
    ∙ (λ i. with_children (with_children p []) (own.0 i)
    ∷ nested number with_children (map (λ p. with_children p []) ps) (own.1 i))
    ∙ (λ i. (laws.last_are p [] (children p) ∙ laws.same p) i ∷ nested-flat number children with_children laws (number p + 1) ps h.1 i)
