-- A body that was read behind what was begun of it.
use Rattle.std.proofs.Common.{◌≡◌, ◌<◌, ◌≤◌, ℕ, List, ◌++◌, take, drop, length, arith, sym, ◌∙◌, ap, Option, Some, None, Result}
use Rattle.std.proofs.Common.{Ok, Err, append_assoc, append-nil}
use Rattle.std.proofs.lemmas.List.{drop_all, length-append, length-take, take-append-le, take_all}
use Rattle.std.specs.{Prelude.IfOk, Prelude.IfSome, Prelude.option_map, Io.KnownBytes.IsAtEnd}
use Rattle.http_wire.specs.{Head.Adds, ParsedRequest.IsBody}

-- a body that was begun whole
pub begun_whole : {V E : Type 0} (items : V → List ℕ) (remaining : Option (List ℕ)) (begun : List ℕ) (count : ℕ) (res : Result (Option V) E)
    → count ≤ length begun
    → IfOk res (λ o. option_map items o ≡ Some (take count begun))
    → IfOk res (λ o. IfSome remaining (λ left. IsBody (begun ++ left) count (option_map items o)))
begun_whole items remaining begun count (Err e) le is = tt
begun_whole items None begun count (Ok o) le is = tt
begun_whole items (Some xs) begun count (Ok o) le is =
    rw is (omega (arith, length-append begun xs, le), sym (take-append-le count begun xs le))

-- a slice that was written whole is what was written
pub written_whole : (n : ℕ) (new old : List ℕ) → length old ≡ length new → length new ≤ n → take n (new ++ drop (length new) old) ≡ new
written_whole n new old long le =
    ap (λ l. take n (new ++ l)) (drop_all (length new) old (omega (arith, long))) ∙ (ap (take n) (append-nil new) ∙ take_all n new le)

-- what was read fills the body
pub read_whole : (remaining left : Option (List ℕ)) (begun old new : List ℕ) (count filled : ℕ) (body : List ℕ) → body ≡ new
    → take (length begun) old ≡ begun → length new ≡ count → count ≤ filled → Adds remaining left (take (length begun) old) (take filled new)
    → IfSome remaining (λ ys. IsBody (begun ++ ys) count (Some body))
read_whole None left begun old new count filled body is starts long le adds = tt
read_whole (Some xs) None begun old new count filled body is starts long le adds = absurd adds.2
read_whole (Some xs) (Some ys) begun old new count filled body is starts long le adds =
    let grown : new ≡ begun ++ adds.0 = sym (take_all filled new (omega (arith, le, long))) ∙ (adds.1 ∙ ap (λ l. l ++ adds.0) starts) in
    let whole : begun ++ xs ≡ new ++ ys = ap (λ l. begun ++ l) adds.2 ∙ (sym (append_assoc begun adds.0 ys) ∙ ap (λ l. l ++ ys) (sym grown)) in
    let fits : count ≤ length (begun ++ xs) = omega (arith, ap length whole, length-append new ys, long) in
    let front : new ≡ take count (begun ++ xs) =
    sym (ap (take count) whole ∙ (take-append-le count new ys (omega (arith, long)) ∙ take_all count new (omega (arith, long)))) in
    (fits, is ∙ front)

-- the input ended before
pub read_short : (remaining left : Option (List ℕ)) (begun old new : List ℕ) (count filled : ℕ) → take (length begun) old ≡ begun
    → length new ≡ count → filled < count
    → Adds remaining left (take (length begun) old) (take filled new) → IsAtEnd left → IfSome remaining (λ ys. IsBody (begun ++ ys) count None)
read_short None left begun old new count filled starts long less adds end = tt
read_short (Some xs) None begun old new count filled starts long less adds end = absurd adds.2
read_short (Some xs) (Some ys) begun old new count filled starts long less adds end =
    let all : xs ≡ adds.0 = adds.2 ∙ (ap (λ l. adds.0 ++ l) end ∙ append-nil adds.0) in
    let grown : take filled new ≡ begun ++ xs = adds.1 ∙ (ap (λ l. l ++ adds.0) starts ∙ ap (λ l. begun ++ l) (sym all)) in
    omega (arith, ap length grown, length-take filled new, long, less)
