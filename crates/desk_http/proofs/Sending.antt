-- A text that is written in pieces.
use Rattle.std.proofs.Common.{◌≡◌, ◌≤◌, ℕ, ◌+◌, ◌-◌, List, Option, arith}
use Rattle.std.proofs.{KnownBytes.Appends-trans, Math.Seq.take-add, lemmas.List.length-drop, lemmas.List.take_rest}
use Rattle.std.specs.{Prelude.drop, Prelude.length, Prelude.take, Io.KnownBytes.Appends}

-- one piece more of what is left
pub piece_more : (was mid is : Option (List ℕ)) (text : List ℕ) (done count next : ℕ) → next ≡ done + count → Appends was mid (take done text)
    → Appends mid is (take count (take (length text - done) (drop done text))) → Appends was is (take next text)
piece_more was mid is text done count next same before piece = grind (arith, take-add, Appends-trans, take_rest)

-- and it is no more than what is left
pub piece_within : (text : List ℕ) (done count next : ℕ) → next ≡ done + count → done ≤ length text
    → count ≤ length (take (length text - done) (drop done text)) → next ≤ length text
piece_within text done count next same within most = grind (arith, take_rest, length-drop)
