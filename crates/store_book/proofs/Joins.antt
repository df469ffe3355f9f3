-- Challenges joined with the keys of their answers have these rows, and no others have.
use Rattle.std.proofs.Common.{◌≡◌, ◌≢◌, ℕ, List, [], ◌∷◌, map, Option, Some, None, refl, sym, ap, subst, ◌∙◌, arith, cond}
use Rattle.std.proofs.{lemmas.List.Sorted.IsPermutation-sym, lemmas.List.Sorted.IsPermutation-trans, lemmas.Bool.eq-eqb, lemmas.Bool.ne_eqb}
use Rattle.desk_model.specs.{Kept.EachOf, declared.objects.Answer.Answer, declared.rows.ChallengeRow.ChallengeRow}
use Rattle.std.specs.{List.cons_option, List.Sorted.IsPermutation, Prelude.◌==◌, Prelude.find}
use Rattle.store_columns.specs.{Flat.answer_key, Flat.bare_row, Flat.key_rows, declared.columns.AnswerKey.AnswerKey}
use Rattle.store_columns.specs.{declared.columns.BareChallenge.BareChallenge, declared.columns.Owned.Owned}
use Rattle.model_laws.specs.Distinct.{Distinct}
use Rattle.store_book.specs.{BookRows.AreKeys, BookRows.answered_numbers, Joining.joined}
use Rattle.store_book.proofs.{KeyedRows.key_numbers, KeyedRows.each_moved, Swapped.lifted, Swapped.picked-permutation}
use Rattle.model_laws.proofs.Basics.{each, each_both}

-- the number of a challenge
abbrev number : Owned ChallengeRow → ℕ
number c = c.row.number

-- a challenge with this answer
abbrev answered_so : Owned ChallengeRow → Option Answer → Owned ChallengeRow
answered_so c o = record c { row = record c.row { answered = o } }

-- challenges joined with their own keys are as they were
joined_back : (cs : List (Owned ChallengeRow)) → joined (map bare_row cs) (key_rows cs) ≡ cs
joined_back [] = refl
joined_back (c ∷ cs) = grind (arith, (joined_back cs))

-- where there is a key for each challenge that was answered, in their order, those that are joined have these rows
pub joined_has : (cs : List (Owned BareChallenge)) (ks : List AnswerKey) → AreKeys (answered_numbers cs) ks
    → (map bare_row (joined cs ks) ≡ cs) × (key_rows (joined cs ks) ≡ ks)
joined_has [] [] same = (refl, refl)
joined_has [] (k ∷ ks) same = absurd (cc same)
joined_has (c ∷ cs) ks same = grind (arith, (joined_has cs))

-- ---- no other challenges have the same rows

-- of rows that differ in number each is found by its own
found_by_number : {X : Type 0} (key : X → ℕ) (ys : List X) → Distinct key ys → EachOf (λ y. find (λ z. key z == key y) ys ≡ Some y) ys
found_by_number key [] distinct = tt
found_by_number key (y ∷ ys) distinct = (
  ap (λ b. cond b (Some y) (find (λ z. key z == key y) ys)) (eq-eqb (key y) (key y) refl),
  each _ _ ys (λ z both. ap (λ b. cond b (Some y) (find (λ w. key w == key z) ys)) (ne_eqb (key y) (key z) both.0) ∙ both.1)
      (each_both _ _ ys distinct.0 (found_by_number key ys distinct.1)),
)

-- rows of the same numbers, each of which is found by it among the same rows, are equal
same_numbered : {X : Type 0} (key : X → ℕ) (all xs ys : List X) → EachOf (λ x. find (λ z. key z == key x) all ≡ Some x) xs
    → EachOf (λ y. find (λ z. key z == key y) all ≡ Some y) ys → map key xs ≡ map key ys → xs ≡ ys
same_numbered key all [] [] found also same = refl
same_numbered key all [] (y ∷ ys) found also same = absurd (cc same)
same_numbered key all (x ∷ xs) [] found also same = absurd (cc same)
same_numbered key all (x ∷ xs) (y ∷ ys) found also same =
    let numbers : key x ≡ key y = cc same in
    let rest : map key xs ≡ map key ys = cc same in
    let first : x ≡ y = cc (sym found.0 ∙ ap (λ n. find (λ z. key z == n) all) numbers ∙ also.0) in
    λ i. first i ∷ same_numbered key all xs ys found.1 also.1 rest i

-- keys of challenges that differ in number do so, too
keys_distinct : (cs : List (Owned ChallengeRow)) → Distinct number cs → Distinct (λ k. k.challenge) (key_rows cs)
keys_distinct [] h = tt
keys_distinct (c ∷ cs) h = by c.row.answered (keys_distinct cs h.1) (others cs h.0)
  where
    others : (ds : List (Owned ChallengeRow)) → EachOf (λ d. c.row.number ≢ d.row.number) ds → EachOf (λ k. c.row.number ≢ k.challenge) (key_rows ds)
    others [] all = tt
    others (d ∷ ds) all = of d.row.answered (others ds all.1)
      where
        of : (o : Option Answer) → EachOf (λ k. c.row.number ≢ k.challenge) (key_rows ds)
            → EachOf (λ k. c.row.number ≢ k.challenge) (cons_option (answer_key (answered_so d o).row) (key_rows ds))
        of None more = more
        of (Some a) more = (all.0, more)

    by : (o : Option Answer) → Distinct (λ k. k.challenge) (key_rows cs) → EachOf (λ k. c.row.number ≢ k.challenge) (key_rows cs)
        → Distinct (λ k. k.challenge) (cons_option (answer_key (answered_so c o).row) (key_rows cs))
    by l g e = grind arith

-- challenges with the same rows, none of whose numbers stands twice, stand in any order
pub same_rows : (ones others : List (Owned ChallengeRow)) → Distinct number ones → IsPermutation (map bare_row others) (map bare_row ones)
    → IsPermutation (key_rows others) (key_rows ones) → IsPermutation ones others
same_rows ones others apart bare keys =
    let it = lifted bare_row others (map bare_row ones) bare in
    let own : IsPermutation (key_rows ones) (key_rows it.0) =
    IsPermutation-trans (key_rows ones) (key_rows others) (key_rows it.0) (IsPermutation-sym (key_rows others) (key_rows ones) keys)
    (picked-permutation (λ (c : Owned ChallengeRow). answer_key c.row) others it.0 it.1) in
    let found = found_by_number (λ (k : AnswerKey). k.challenge) (key_rows ones) (keys_distinct ones apart) in
    let keys_same : key_rows it.0 ≡ key_rows ones =
    same_numbered (λ (k : AnswerKey). k.challenge) (key_rows ones) (key_rows it.0) (key_rows ones)
    (each_moved _ (key_rows ones) (key_rows it.0) own found) found (key_numbers it.0 ∙ ap answered_numbers it.2 ∙ sym (key_numbers ones)) in
    let same : it.0 ≡ ones = sym (joined_back it.0) ∙ (λ i. joined (it.2 i) (keys_same i)) ∙ joined_back ones in
    subst (λ l. IsPermutation l others) same (IsPermutation-sym others it.0 it.1)
