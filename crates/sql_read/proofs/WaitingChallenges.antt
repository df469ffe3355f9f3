-- The challenges that wait, found by number, are those of each authorization in their order.
use Rattle.std.proofs.Common.{◌≡◌, ℕ, Bool, List, [], ◌∷◌, map, filter, refl, sym, ap, ◌∙◌, arith, rules}
use Rattle.std.proofs.{lemmas.List.Sorted.list_any-IsPermutation, lemmas.Simd.map-map}
use Rattle.std.specs.{Prelude.◌==◌, Prelude.◌&&◌, List.list_any}
use Rattle.sqlite_trees.proofs.ListLemmas.{filter-map}
use Rattle.store_columns.specs.{Flat.challenge_rows, declared.columns.Owned.Owned}
use Rattle.model_laws.specs.{Distinct.Distinct, Ordered.Ascends}
use Rattle.model_laws.proofs.Basics.{each, list_any-map}
use Rattle.desk_model.specs.{Kept.EachOf, Legal.is_processing_challenge, Tables.Tables, declared.rows.ChallengeRow.ChallengeRow}
use Rattle.model_parts.specs.LookUps.{AreNumbers, AreWaiting, owners_processing}
use Rattle.model_parts.proofs.{Found.any_filter, Loading.any_flat}
use Rattle.sql_tables.specs.{Layouts.challenge_layout, Sorted.sorted_by}
use Rattle.sql_tables.proofs.Sorting.{filter_ascending, sorted_moves}
use Rattle.sql_read.proofs.UnderLemmas.{authorizations_have, own_ascend}
use Rattle.sql_read.specs.Under.{rows_under}

-- a challenge that waits
abbrev pub waits : Owned ChallengeRow → Bool
waits c = is_processing_challenge c.row.status

-- one of the challenges that wait, and of an owner that passes
any_owner : (T : Tables) (p : ℕ → Bool) → list_any (λ c. waits c && p c.owner) (challenge_rows T.authorizations) ≡ list_any p (owners_processing T)
any_owner T p = search (rules, any_flat, list_any-map, any_filter)

-- a challenge behind the number of its authorization
abbrev pub numbered : Owned ChallengeRow → ℕ × ChallengeRow
numbered c = (c.owner, c.row)

-- those that are found, by number
abbrev pub found_waiting : Tables → List (Owned ChallengeRow)
found_waiting T = filter (λ c. is_processing_challenge c.row.status) (sorted_by challenge_layout.key (challenge_rows T.authorizations))

-- their owners
owners_wait : (T : Tables) → Distinct challenge_layout.key (challenge_rows T.authorizations) →
    AreNumbers (map (λ p. p.0) (map numbered (found_waiting T))) (owners_processing T)
owners_wait T apart p =
    let cs : List (Owned ChallengeRow) = challenge_rows T.authorizations in
    ap (list_any p) (map-map (λ p. p.0) numbered (found_waiting T))
    ∙ list_any-map p (λ (c : Owned ChallengeRow). c.owner) (found_waiting T)
    ∙ any_filter waits (λ c. p c.owner) (sorted_by challenge_layout.key cs)
    ∙ list_any-IsPermutation (λ c. waits c && p c.owner) (sorted_by challenge_layout.key cs) cs (sorted_moves challenge_layout.key cs apart)
    ∙ any_owner T p

-- two tests, in either order
pub filter_turned : {X : Type 0} (p q : X → Bool) (xs : List X) → filter p (filter q xs) ≡ filter q (filter p xs)
filter_turned p q [] = refl
filter_turned p q (x ∷ xs) = grind (arith, (filter_turned p q xs))

-- those of one authorization
own_wait : (T : Tables) → Distinct challenge_layout.key (challenge_rows T.authorizations) → (n : ℕ) →
    Ascends challenge_layout.key 1 (filter (λ c. c.owner == n) (challenge_rows T.authorizations)) →
    map (λ p. p.1) (filter (λ p. p.0 == n) (map numbered (found_waiting T)))
    ≡ filter (λ c. is_processing_challenge c.status) (rows_under n (challenge_rows T.authorizations))
own_wait T apart n up =
    let cs : List (Owned ChallengeRow) = challenge_rows T.authorizations in
    let own = λ (c : Owned ChallengeRow). c.owner == n in
    ap (map (λ p. p.1)) (filter-map (λ p. p.0 == n) numbered (found_waiting T))
    ∙ map-map (λ p. p.1) numbered (filter own (found_waiting T))
    ∙ ap (map (λ (c : Owned ChallengeRow). c.row))
    (filter_turned own waits (sorted_by challenge_layout.key cs) ∙ ap (filter waits) (filter_ascending challenge_layout.key own 1 cs apart up))
    ∙ sym (filter-map (λ (c : ChallengeRow). is_processing_challenge c.status) (λ (c : Owned ChallengeRow). c.row) (filter own cs))

-- they are those that wait
pub are_waiting : (T : Tables) → Distinct challenge_layout.key (challenge_rows T.authorizations) → Ascends (λ a. a.number) 0 T.authorizations →
    EachOf (λ a. Ascends (λ c. c.number) 1 a.challenges) T.authorizations → AreWaiting T (map numbered (found_waiting T))
are_waiting T apart up challenges_up =
    record {
      owners = owners_wait T apart;
      own = each _ _ T.authorizations (λ r has.
          own_wait T apart r.number (own_ascend r.number 0 T.authorizations up challenges_up)
          ∙ ap (filter (λ (c : ChallengeRow). is_processing_challenge c.status)) has)
          (authorizations_have 0 T.authorizations up);
    }
