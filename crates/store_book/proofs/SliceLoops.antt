-- Loops over a slice: what is left of it is one more row and the rest.
use Rattle.std.proofs.Common.{◌≡◌, ◌<◌, ◌+◌, ℕ, List, ◌∷◌, ◌++◌, length, take, drop, get_or, rules}
use Rattle.std.proofs.lemmas.List.{at_drop_more, take-append-drop}

-- what is left of a slice is one more and the rest
pub one-more : {X : Type 0} (xs : List X) (index : ℕ) (d : X) → index < length xs → drop index xs ≡ get_or xs index d ∷ drop (index + 1) xs
one-more xs index d more = at_drop_more (λ l. l) xs index d more

-- a row of a slice stands between those before it and those behind it
pub row-among : {X : Type 0} (xs : List X) (index : ℕ) (d row : X) → index < length xs → row ≡ get_or xs index d
    → take index xs ++ row ∷ drop (index + 1) xs ≡ xs
row-among xs index d row more is = search (rules, one-more, take-append-drop)
