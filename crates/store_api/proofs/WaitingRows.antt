-- Challenges that wait, and the authorizations under which they are put.
use Rattle.std.proofs.Common.{◌≡◌, ℕ, List, [], ◌∷◌, ◌++◌, map, find, Some, None, refl, sym, ap, ◌∙◌, Bool, append-nil, append_assoc, arith, rules}
use Rattle.std.proofs.lemmas.Simd.{map-map}
use Rattle.std.specs.{Prelude.◌==◌, List.filter}
use Rattle.desk_model.specs.{Change.put, Tables.Tables, declared.rows.AuthorizationRow.AuthorizationRow, declared.rows.ChallengeRow.ChallengeRow}
use Rattle.model_laws.specs.{Ordered.Ascends, Ordered.IsOrdered, Placing.puts}
use Rattle.model_laws.proofs.{Basics.each, Basics.map-each, RowLists.ascends_filter, RowLists.ascends_map, RowLists.puts_moved}
use Rattle.model_parts.specs.{IsEnough.has_work, LookUps.AreWaiting, Thinned.waiting_challenges, Thinned.with_challenges, Thinned.without_challenges}
use Rattle.model_parts.proofs.Lists.{filtered_each}
use Rattle.store_api.proofs.Lacking.{rows_one}
use Rattle.store_api.specs.Nesting.{joined, nested}
use Rattle.store_columns.specs.declared.columns.JoinedChallenge.{JoinedChallenge}

-- ---- the challenges of rows

-- a challenge behind the number of its authorization
abbrev pub numbered : JoinedChallenge → ℕ × ChallengeRow
numbered w = (w.authorization.number, w.challenge)

-- the challenge
abbrev second : ℕ × ChallengeRow → ChallengeRow
second p = p.1

-- whether the number is this one
abbrev is_under : ℕ → ℕ × ChallengeRow → Bool
is_under n p = p.0 == n

-- those under a number
abbrev under_number : ℕ → List (ℕ × ChallengeRow) → List ChallengeRow
under_number n ps = map second (filter (is_under n) ps)

-- ---- a challenge under its authorization

-- its number stays
joined_number : (c : ℕ × ChallengeRow) (r : AuthorizationRow) → (joined c r).number ≡ r.number
joined_number c r = search rules

-- so the numbers ascend as before
pub joined_ascend : (c : ℕ × ChallengeRow) (rows : List AuthorizationRow) → Ascends (λ r. r.number) 1 rows → Ascends (λ r. r.number) 1 (map (joined c) rows)
joined_ascend c rows up = ascends_map (λ (r : AuthorizationRow). r.number) (λ (r : AuthorizationRow). r.number) (joined c) (joined_number c) 1 rows up

-- an authorization with one challenge more
abbrev with_more : ChallengeRow → AuthorizationRow → AuthorizationRow
with_more c r = record r { challenges = r.challenges ++ c ∷ [] }

-- it is put
pub put_joined : (c : ℕ × ChallengeRow) (r : AuthorizationRow) (rows : List AuthorizationRow) → Ascends (λ r. r.number) 1 rows →
    find (λ r. r.number == c.0) rows ≡ Some r →
    put (λ r. r.number) (with_more c.1 r) rows ≡ map (joined c) rows
put_joined c r rows up found =
    ap (λ rs. puts (λ (x : AuthorizationRow). x.number) (map (with_more c.1) rs) rows)
    (sym (rows_one (λ (x : AuthorizationRow). x.number) 1 c.0 r rows up found))
    ∙ puts_moved (λ (x : AuthorizationRow). x.number) (λ (x : AuthorizationRow). x.number == c.0) (with_more c.1) (λ x. refl) 1 rows up

-- where there is none, nothing changes
pub none_joined : (c : ℕ × ChallengeRow) (rows : List AuthorizationRow) → find (λ r. r.number == c.0) rows ≡ None → rows ≡ map (joined c) rows
none_joined c [] none = refl
none_joined c (r ∷ rs) none = grind (arith, (none_joined c rs))

-- ---- all of them

-- an authorization with those of the challenges that are its own
abbrev with_own : List (ℕ × ChallengeRow) → AuthorizationRow → AuthorizationRow
with_own cs r = record r { challenges = r.challenges ++ under_number r.number cs }

-- those that get each challenge of theirs, one after the other
nested_own : (cs : List (ℕ × ChallengeRow)) (rows : List AuthorizationRow) → nested cs rows ≡ map (with_own cs) rows
nested_own [] [] = refl
nested_own [] (r ∷ rs) = λ i. record r { challenges = sym (append-nil r.challenges) i } ∷ nested_own [] rs i
nested_own (c ∷ cs) rows = nested_own cs (map (joined c) rows) ∙ each_row rows
  where
    one : (r : AuthorizationRow) → with_own cs (joined c r) ≡ with_own (c ∷ cs) r
    one h = grind (arith, append_assoc)

    each_row : (rs : List AuthorizationRow) → map (with_own cs) (map (joined c) rs) ≡ map (with_own (c ∷ cs)) rs
    each_row [] = refl
    each_row (r ∷ rs) = λ i. one r i ∷ each_row rs i

-- the authorizations with work get the challenges that wait
pub nested_working : (T : Tables) (cs : List (ℕ × ChallengeRow)) → AreWaiting T cs →
    nested cs (map without_challenges (filter has_work T.authorizations)) ≡ map (with_challenges waiting_challenges) (filter has_work T.authorizations)
nested_working T cs are =
    nested_own cs (map without_challenges (filter has_work T.authorizations))
    ∙ map-map (with_own cs) without_challenges (filter has_work T.authorizations)
    ∙ map-each (λ r. with_own cs (without_challenges r)) (with_challenges waiting_challenges) (filter has_work T.authorizations)
    (filtered_each _ has_work T.authorizations (each _ _ T.authorizations (λ r own yes i. record r { challenges = own i }) are.own))

-- which stand by number
pub working_ascend : (T : Tables) → IsOrdered T → Ascends (λ r. r.number) 1 (map without_challenges (filter has_work T.authorizations))
working_ascend T h =
    ascends_map (λ (r : AuthorizationRow). r.number) (λ (r : AuthorizationRow). r.number) without_challenges (λ r. refl) 1 (filter has_work T.authorizations)
    (ascends_filter (λ (r : AuthorizationRow). r.number) has_work 1 T.authorizations h.authorizations.0)
