-- What is found in a list.
use Rattle.std.proofs.Common.{◌≡◌, List, [], ◌∷◌, map, Some, Bool, true, arith}
use Rattle.std.specs.Prelude.{find}
use Rattle.desk_model.specs.Kept.{EachOf}

-- what is found passes the test
pub found_passes : {X : Type 0} (test : X → Bool) (xs : List X) (x : X) → find test xs ≡ Some x → test x ≡ true
found_passes test [] x h = cc
found_passes test (y ∷ ys) x h = grind (arith, (found_passes test ys x))

-- what holds of each item holds of the one that is found
pub each_found : {X : Type 0} (P : X → Type 0) (test : X → Bool) (xs : List X) (x : X) → EachOf P xs → find test xs ≡ Some x → P x
each_found P test [] x h is = cc
each_found P test (y ∷ ys) x h is = grind (arith, (each_found P test ys x h.1))

-- what is found is found among the moved items, where moving keeps the test
pub found_moved : {X : Type 0} (test : X → Bool) (move : X → X) → ((x : X) → test (move x) ≡ test x) → (xs : List X) (x : X) → find test xs ≡ Some x →
    find test (map move xs) ≡ Some (move x)
found_moved test move same [] x h = cc
found_moved test move same (y ∷ ys) x h = grind (arith, (found_moved test move same ys x))
