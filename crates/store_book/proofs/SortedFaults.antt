-- The faults of challenges, sorted by number, are those of the sorted challenges.
use Rattle.std.proofs.Common.{◌≡◌, ℕ, ◌≤◌, cond, List, [], ◌∷◌, filter, nat_cmp, refl, sym, ap, ◌∙◌, arith}
use Rattle.std.proofs.lemmas.Bool.Decides.{nat_tests}
use Rattle.std.specs.{List.flat_map, List.Sorted.IsNonDecreasingBy, List.Sorted.IsStableByKey}
use Rattle.desk_model.specs.declared.rows.{ChallengeRow.ChallengeRow, StatusFault.StatusFault}
use Rattle.desk_model.specs.Derived.{challenge_faults, insert_challenge, sorted_challenges}
use Rattle.store_book.specs.FaultNumbers.{fault_number}
use Rattle.store_book.proofs.StableSorts.{are_even, AreAtLeast, Rises, at_least-le, rises-from_sort, same_from_ties}

abbrev number_of : ChallengeRow → ℕ
number_of c = c.number

-- the challenges of one number
abbrev of_number : ℕ → List ChallengeRow → List ChallengeRow
of_number k cs = filter (λ c. are_even k c.number) cs

-- the faults of one number
abbrev faults_of_number : ℕ → List StatusFault → List StatusFault
faults_of_number k fs = filter (λ f. are_even k (fault_number f)) fs

-- an insertion keeps the order of those of one number
of_number-insert : (k : ℕ) (c : ChallengeRow) (ds : List ChallengeRow) → of_number k (insert_challenge c ds) ≡ of_number k (c ∷ ds)
of_number-insert k c [] = refl
of_number-insert k c (d ∷ ds) = grind (arith, (of_number-insert k c ds))

-- so does the sort
of_number-sorted : (k : ℕ) (cs : List ChallengeRow) → of_number k (sorted_challenges cs) ≡ of_number k cs
of_number-sorted k [] = refl
of_number-sorted k (c ∷ cs) = of_number-insert k c (sorted_challenges cs) ∙ ap (λ l. cond (are_even k c.number) (c ∷ l) l) (of_number-sorted k cs)

-- the faults of one number are those of the challenges of that number
faults-of_number : (k : ℕ) (cs : List ChallengeRow) → faults_of_number k (flat_map challenge_faults cs) ≡ flat_map challenge_faults (of_number k cs)
faults-of_number k [] = refl
faults-of_number k (c ∷ cs) = grind (arith, nat_tests, (faults-of_number k cs))

-- an insertion of a number that is at least this one
at_least-insert : (n : ℕ) (c : ChallengeRow) (ds : List ChallengeRow) → n ≤ c.number → AreAtLeast number_of n ds →
    AreAtLeast number_of n (insert_challenge c ds)
at_least-insert n c [] le h = (le, tt)
at_least-insert n c (d ∷ ds) le h = grind (arith, (at_least-insert n c ds le h.1))

-- what rises does so after an insertion
rises-insert : (c : ChallengeRow) (ds : List ChallengeRow) → Rises number_of ds → Rises number_of (insert_challenge c ds)
rises-insert c [] h = (tt, tt)
rises-insert c (d ∷ ds) h = grind (arith, at_least-le, at_least-insert, (rises-insert c ds h.1))

-- sorted challenges rise
rises-sorted : (cs : List ChallengeRow) → Rises number_of (sorted_challenges cs)
rises-sorted [] = tt
rises-sorted (c ∷ cs) = rises-insert c (sorted_challenges cs) (rises-sorted cs)

-- the faults of challenges from a number on are of such numbers
at_least-faults : (n : ℕ) (cs : List ChallengeRow) → AreAtLeast number_of n cs → AreAtLeast fault_number n (flat_map challenge_faults cs)
at_least-faults n [] h = tt
at_least-faults n (c ∷ cs) h = grind (arith, (at_least-faults n cs h.1))

-- the faults of challenges that rise do so too
rises-faults : (cs : List ChallengeRow) → Rises number_of cs → Rises fault_number (flat_map challenge_faults cs)
rises-faults [] h = tt
rises-faults (c ∷ cs) h = grind (arith, at_least-faults, (rises-faults cs h.1))

-- a stable sort of the faults by number gives the faults of the sorted challenges
pub sorted-faults : (cs : List ChallengeRow) (found fs : List StatusFault) → found ≡ flat_map challenge_faults cs → IsNonDecreasingBy fault_number fs →
    IsStableByKey fault_number nat_cmp found fs → fs ≡ flat_map challenge_faults (sorted_challenges cs)
sorted-faults cs found fs are up stable =
    same_from_ties fault_number fs (flat_map challenge_faults (sorted_challenges cs))
    (rises-from_sort fault_number fs up) (rises-faults (sorted_challenges cs) (rises-sorted cs))
    (λ x. stable x
    ∙ ap (faults_of_number (fault_number x)) are
    ∙ faults-of_number (fault_number x) cs
    ∙ ap (flat_map challenge_faults) (sym (of_number-sorted (fault_number x) cs))
    ∙ sym (faults-of_number (fault_number x) (sorted_challenges cs)))
