-- Rows that pass a test, each made into a change.
use Rattle.std.proofs.Common.{◌≡◌, Bool, true, List, [], ◌∷◌, ◌++◌, map, filter, append_assoc, arith}
use Rattle.std.proofs.lemmas.Bool.Decides.{nat_tests}

-- the change of a row that passes goes behind those before
pub change_added : {X Y C : Type 0} (test : X → Bool) (make : X → Y) (change : Y → C) (x : X) (done pushed all : List C) (before rest : List X) →
    test x ≡ true →
    pushed ≡ done ++ change (make x) ∷ [] →
    before ≡ x ∷ rest →
    done ++ map change (map make (filter test before)) ≡ all →
    pushed ++ map change (map make (filter test rest)) ≡ all
change_added test make change x done pushed all before rest passes is next h = grind (arith, nat_tests, append_assoc)
