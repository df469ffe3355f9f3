-- The functions that test a body and TXT records, and what they test.
use Rattle.std.proofs.Common.{◌≡◌, ◌↔◌, ℕ, true, List, [], ◌∷◌, ◌++◌, length, refl, sym, subst, ◌∙◌, arith, rules}
use Rattle.std.proofs.lemmas.List.Elements.{All-append, All-head, All-tail}
use Rattle.std.proofs.lemmas.List.Folds.{Any-from_list_any, length-prefix_len, list_any-from_Any}
use Rattle.std.proofs.{lemmas.List.reverse-append, lemmas.List.reverse-reverse, Math.Seq.drop-append_seam}
use Rattle.std.specs.{Prelude.IsTrue, Prelude.Any, Prelude.bytes_eq, Prelude.reverse, List.list_any, List.prefix_len}
use Rattle.desk_model.specs.Tokens.{IsBodyMatch, is_blank, without_blanks}
use Rattle.keys.proofs.Blanks.{AllBlank}

-- the blanks in front of a list are counted
prefix_blanks : (bs rest : List ℕ) → AllBlank bs → prefix_len is_blank rest ≡ 0 → prefix_len is_blank (bs ++ rest) ≡ length bs
prefix_blanks [] rest all stop = stop
prefix_blanks (b ∷ bs) rest all stop =
    let blank : is_blank b ≡ true = All-head (λ c. IsTrue (is_blank c)) b bs all in
    rw (blank, prefix_blanks bs rest (All-tail (λ c. IsTrue (is_blank c)) b bs all) stop) (omega arith)

-- no blank stands in front of what is no blank
no_blank : (c : ℕ) (cs : List ℕ) → (IsTrue (is_blank c) → ⊥) → prefix_len is_blank (c ∷ cs) ≡ 0
no_blank c cs not = search rules

-- a text that does not end in a blank begins with none when reversed
stops : (e backwards : List ℕ) → e ≡ reverse backwards → ((front : List ℕ) (c : ℕ) → e ≡ front ++ c ∷ [] → IsTrue (is_blank c) → ⊥)
    → prefix_len is_blank backwards ≡ 0
stops e [] whole trimmed = refl
stops e (c ∷ cs) whole trimmed = no_blank c cs (trimmed (reverse cs) c (whole ∙ reverse-append (c ∷ []) cs))

-- a blank alone is blanks
one_blank : (b : ℕ) → IsTrue (is_blank b) → AllBlank (b ∷ [])
one_blank b h k l g = search rules

-- blanks stay blanks when they are reversed
blanks_turned : (bs : List ℕ) → AllBlank bs → AllBlank (reverse bs)
blanks_turned [] all = all
blanks_turned (b ∷ bs) all =
    let rest = blanks_turned bs (All-tail (λ c. IsTrue (is_blank c)) b bs all) in
    let last = one_blank b (All-head (λ c. IsTrue (is_blank c)) b bs all) in
    subst AllBlank (sym (reverse-append (b ∷ []) bs)) (All-append (λ c. IsTrue (is_blank c)) (reverse bs) (b ∷ []) rest last)

-- a body without the blanks at its end is the text that it matches
pub without_blanks-matched : (body expected : List ℕ) → IsBodyMatch body expected → without_blanks body ≡ expected
without_blanks-matched body expected m = search (
  rules,
  reverse-append,
  stops,
  reverse-reverse,
  prefix_blanks,
  blanks_turned,
  length-prefix_len,
  drop-append_seam,
)

-- a list that has an equal one
pub Any-records : (records : List (List ℕ)) (expected : List ℕ) → IsTrue (list_any (λ r. bytes_eq r expected) records) ↔ Any (λ r. r ≡ expected) records
Any-records records expected = search (rules, Any-from_list_any, list_any-from_Any)
