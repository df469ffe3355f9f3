-- Values that are gathered in a loop, by what one more item shows.
use Rattle.std.proofs.Common.{◌≡◌, Bool, cond, List, [], ◌∷◌, map, filter, refl, arith, rules}
use Rattle.std.specs.List.{flat_map}

-- where each item shows one value
pub each-shows-one : {X Z : Type 0} (f : X → Z) (xs : List X) → flat_map (λ x. f x ∷ []) xs ≡ map f xs
each-shows-one f xs = search rules

-- where each that passes a test shows one
pub passing-show-one : {X Z : Type 0} (f : X → Z) (test : X → Bool) (xs : List X) →
    flat_map (λ x. cond (test x) (f x ∷ []) []) xs ≡ map f (filter test xs)
passing-show-one f test [] = refl
passing-show-one {X} f test (x ∷ xs) = grind (arith, (passing-show-one f test xs))
