-- The challenges that wait, each counted beside its authorization, are as many as those of the authorizations that are stored as pending.
use Rattle.std.proofs.Common.{◌≡◌, ℕ, ◌+◌, Bool, cond, List, [], ◌∷◌, length, map, filter, sum, count_by, refl, sym, ap, ◌∙◌, arith}
use Rattle.std.proofs.lemmas.List.{Concat.length-flat_map, length-map, Sums.length-filter, Sums.sum-map, Sums.sum_by-append, Sums.sum_by-cons}
use Rattle.std.proofs.lemmas.Simd.{map-map}
use Rattle.std.specs.{Prelude.◌==◌, List.sum_by}
use Rattle.app_tasks.specs.Metrics.{challenges_waiting}
use Rattle.desk_model.specs.{Authorization.is_pending, Kept.EachOf, Tables.Tables, declared.rows.AuthorizationRow.AuthorizationRow}
use Rattle.model_laws.proofs.{Basics.each, Basics.eq_turn, Basics.map-each, Local.filters_swap}
use Rattle.model_parts.proofs.Lists.{filtered_each}
use Rattle.model_parts.specs.{LookUps.AreWaiting, LookUps.bare_authorizations, LookUps.waiting_of, Thinned.without_challenges}
use Rattle.store_api.proofs.WaitingRows.{numbered}
use Rattle.store_columns.specs.declared.columns.JoinedChallenge.{JoinedChallenge}

-- ---- sums

-- terms of nothing add up to nothing
sum_of_zeros : {X : Type 0} (xs : List X) → sum_by (λ x. 0) xs ≡ 0
sum_of_zeros [] = refl
sum_of_zeros {X} (x ∷ xs) = let whole = sum_by-cons (λ (y : X). 0) x xs in let rest = sum_of_zeros xs in omega arith

-- terms that are equal add up to the same
sums_same : {X : Type 0} (f g : X → ℕ) (xs : List X) → EachOf (λ x. f x ≡ g x) xs → sum_by f xs ≡ sum_by g xs
sums_same f g xs same = sym (sum-map f xs) ∙ ap sum (map-each f g xs same) ∙ sum-map g xs

-- how many mapped items pass
count_by-map : {X Y : Type 0} (p : Y → Bool) (f : X → Y) (xs : List X) → count_by p (map f xs) ≡ count_by (λ x. p (f x)) xs
count_by-map p f xs =
    sym (sum-map (λ y. cond (p y) 1 0) (map f xs))
    ∙ ap sum (map-map (λ y. cond (p y) 1 0) f xs)
    ∙ sum-map (λ x. cond (p (f x)) 1 0) xs

-- one y more counts once more at each x that passes with it
counts_more : {X Y : Type 0} (test : X → Y → Bool) (y : Y) (ys : List Y) (xs : List X) →
    sum_by (λ x. count_by (test x) (y ∷ ys)) xs ≡ count_by (λ x. test x y) xs + sum_by (λ x. count_by (test x) ys) xs
counts_more test y ys [] = refl
counts_more test y ys (x ∷ xs) =
    let whole = sum_by-cons (λ x. count_by (test x) (y ∷ ys)) x xs in
    let here = sum_by-cons (λ y. cond (test x y) 1 0) y ys in
    let more = sum_by-cons (λ x. cond (test x y) 1 0) x xs in
    let rest = sum_by-cons (λ x. count_by (test x) ys) x xs in
    let ih = counts_more test y ys xs in
    omega arith

-- ---- items under rows

-- where each item passes as often as the rows of its number do, as many items pass as are under the rows that pass
counted_under : {X Y : Type 0} (number : X → ℕ) (passes : X → Bool) (key : Y → ℕ) (test : Y → Bool) (rows : List X) (items : List Y) →
    EachOf (λ y. count_by passes (filter (λ x. number x == key y) rows) ≡ count_by test (y ∷ [])) items →
    count_by test items ≡ sum_by (λ x. count_by (λ y. key y == number x) items) (filter passes rows)
counted_under number passes key test rows [] one = sym (sum_of_zeros (filter passes rows))
counted_under number passes key test rows (y ∷ ys) one =
    sum_by-append (λ y. cond (test y) 1 0) (y ∷ []) ys
    ∙ (λ i. sym found i + counted_under number passes key test rows ys one.1 i)
    ∙ sym (counts_more (λ x y. key y == number x) y ys (filter passes rows))
  where
    found : count_by (λ x. key y == number x) (filter passes rows) ≡ count_by test (y ∷ [])
    found =
        (λ i. count_by (λ x. eq_turn (key y) (number x) i) (filter passes rows))
        ∙ sym (length-filter (λ x. number x == key y) (filter passes rows))
        ∙ ap length (filters_swap (λ x. number x == key y) passes rows)
        ∙ length-filter passes (filter (λ x. number x == key y) rows)
        ∙ one.0

-- ---- challenges under authorizations

-- whether an authorization is stored as pending
abbrev pends : AuthorizationRow → Bool
pends a = is_pending a.status

-- an authorization that stands alone under its number passes as often as it does beside a challenge
one_pends : (T : Tables) (a : AuthorizationRow) → bare_authorizations T a.number ≡ a ∷ [] →
    count_by pends (filter (λ r. r.number == a.number) T.authorizations) ≡ count_by pends (a ∷ [])
one_pends T a one =
    sym (count_by-map pends without_challenges (filter (λ r. r.number == a.number) T.authorizations))
    ∙ ap (count_by pends) one

-- those that are found under a number are those of its authorization
found_under : (ws : List JoinedChallenge) (r : AuthorizationRow) →
    map (λ p. p.1) (filter (λ p. p.0 == r.number) (map numbered ws)) ≡ waiting_of r →
    count_by (λ w. w.authorization.number == r.number) ws ≡ length (waiting_of r)
found_under ws r own =
    sym (count_by-map (λ p. p.0 == r.number) numbered ws)
    ∙ sym (length-filter (λ p. p.0 == r.number) (map numbered ws))
    ∙ sym (length-map (filter (λ p. p.0 == r.number) (map numbered ws)) (λ p. p.1))
    ∙ ap length own

-- so those that are found beside a pending authorization are as many as wait
pub waiting_counted : (T : Tables) (ws : List JoinedChallenge) → AreWaiting T (map numbered ws) →
    EachOf (λ w. bare_authorizations T w.authorization.number ≡ w.authorization ∷ []) ws →
    count_by (λ w. is_pending w.authorization.status) ws ≡ length (challenges_waiting T)
waiting_counted T ws are found =
    counted_under (λ a. a.number) pends (λ w. w.authorization.number) (λ w. pends w.authorization) T.authorizations ws
    (each _ _ ws (λ w one. one_pends T w.authorization one) found)
    ∙ sums_same (λ r. count_by (λ w. w.authorization.number == r.number) ws) (λ r. length (waiting_of r)) (filter pends T.authorizations)
    (filtered_each _ pends T.authorizations (each _ _ T.authorizations (λ r own yes. found_under ws r own) are.own))
    ∙ sym (length-flat_map waiting_of (filter pends T.authorizations))
