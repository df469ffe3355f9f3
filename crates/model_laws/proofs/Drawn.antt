-- What a new order draws from random bytes.
use Rattle.std.proofs.Common.{◌≡◌, ℕ, suc, zero, List, [], ◌∷◌, length, refl, ap}
use Rattle.desk_model.specs.{Name.Name, Tables.Tables, Rules.pieces, Rules.wanted}

-- as many are wanted as there are names
pub length-wanted : (T : Tables) (account : ℕ) (ns : List Name) (random : List ℕ) → length (wanted T account ns random) ≡ length ns
length-wanted T account [] random = refl
length-wanted T account (n ∷ ns) random = ap suc (length-wanted T account ns _)

-- so many pieces
pub length-pieces : (k : ℕ) (random : List ℕ) → length (pieces k random) ≡ k
length-pieces zero random = refl
length-pieces (suc k) random = ap suc (length-pieces k _)
