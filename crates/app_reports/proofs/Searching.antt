-- Steps of a search for faults.
use Rattle.std.proofs.Common.{arith, ◌≡◌, ◌≢◌, ◌↔◌, ◌++◌, Bool, true, false, IsTrue, List, [], ◌∷◌, ℕ, ◌+◌, ◌<◌, refl, get_or, drop, length, subst}
use Rattle.std.proofs.lemmas.List.{at_drop_more}
use Rattle.std.specs.List.{flat_map}

-- one was found of them all, or none, and these are left
abbrev pub Searches : {A : Type 0} → Bool → List A → List A → Type 0
Searches false all left = all ≡ left
Searches true all left = all ≢ []

-- it finds one among the next
finds : {A : Type 0} (found : Bool) (all part rest : List A) → Searches found all (part ++ rest) → part ≢ [] → Searches true all rest
finds true all part rest s some = s
finds false all [] rest s some = absurd (some refl)
finds false all (x ∷ part) rest s some = λ none. cc (s, none)

-- it finds none among the next
passes : {A : Type 0} (found : Bool) (all part rest : List A) → Searches found all (part ++ rest) → (part ≢ [] → ⊥) → Searches found all rest
passes found all [] rest s none = s
passes found all (x ∷ part) rest s none = absurd (none (λ e. cc e))

-- a turn that finds one among those of the next kind
pub turn_found : {A K : Type 0} (f : K → List A) (kinds : List K) (i : ℕ) (d : K) (found : Bool) → i < length kinds →
    Searches found (flat_map f kinds) (flat_map f (drop i kinds)) → f (get_or kinds i d) ≢ [] →
    Searches true (flat_map f kinds) (flat_map f (drop (i + 1) kinds))
turn_found f kinds i d found below s some =
    finds found (flat_map f kinds) (f (get_or kinds i d)) (flat_map f (drop (i + 1) kinds))
    (subst (Searches found (flat_map f kinds)) (at_drop_more (flat_map f) kinds i d below) s) some

-- a turn that finds none
pub turn_passed : {A K : Type 0} (f : K → List A) (kinds : List K) (i : ℕ) (d : K) (found : Bool) → i < length kinds →
    Searches found (flat_map f kinds) (flat_map f (drop i kinds)) → (f (get_or kinds i d) ≢ [] → ⊥) →
    Searches found (flat_map f kinds) (flat_map f (drop (i + 1) kinds))
turn_passed f kinds i d found below s none =
    passes found (flat_map f kinds) (f (get_or kinds i d)) (flat_map f (drop (i + 1) kinds))
    (subst (Searches found (flat_map f kinds)) (at_drop_more (flat_map f) kinds i d below) s) none

-- at the end it tells whether there is one
pub tells : {A : Type 0} (found : Bool) (all : List A) → Searches found all [] → IsTrue found ↔ all ≢ []
tells found all s = grind arith
