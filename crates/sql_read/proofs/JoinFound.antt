-- What the look-up of challenges that wait finds: each, beside its authorization.
use Rattle.std.proofs.Common.{◌≡◌, pos, List, [], ◌∷◌, map, filter, refl, subst, sym, ap, ◌∙◌}
use Rattle.std.proofs.{lemmas.List.Sorted.IsPermutation-refl, lemmas.Simd.map-map}
use Rattle.std.specs.Prelude.{◌==◌}
use Rattle.sqlite.specs.{Held.Held, Held.state, Store.Ghosts, declared.types.Value.TheVariants.Int}
use Rattle.store_columns.specs.{Flat.answer_key, Flat.bare, Flat.challenge_rows, Flat.without_challenges, declared.columns.JoinedChallenge.JoinedChallenge}
use Rattle.model_laws.proofs.{Basics.each, Basics.each-map, Basics.map-each, Keeps.each-filter, RowLists.ascends_filter}
use Rattle.model_parts.specs.LookUps.{AreWaiting, bare_authorizations}
use Rattle.desk_model.specs.{Kept.EachOf, Tables.Tables, declared.rows.AuthorizationRow.AuthorizationRow}
use Rattle.store_book.specs.IsBook.{IsStoredBook}
use Rattle.sql_schema.specs.declared.challenges.TheConstants as chall
use Rattle.sql_tables.specs.{Holds.Holds, Sorted.sorted_by, Layouts.challenge_layout}
use Rattle.sql_tables.proofs.Sorting.{each_sorted, sorted_rises}
use Rattle.sql_read.specs.{Joined.joined_row, declared.formats.Format.TheVariants.Second}
use Rattle.sql_read.proofs.Beside.{IsOwned, Pair, each_beside, each_pair, firsts, joined_facts, owner, owners_there, pairs, pairs_strictly, parts}
use Rattle.sql_read.proofs.KeyedFound.{all_challenges, all_keys, challenges_there, keyed_stored, keyed_texts}
use Rattle.sql_read.proofs.WaitingChallenges.{are_waiting, found_waiting, numbered, waits}
use Rattle.sql_read.proofs.{Answered.ranks, Answered.strictly, FoundRows.FindsIn, FoundRows.are_kept, FoundRows.finds_matched, JoinRows.asked}
use Rattle.sql_read.proofs.{JoinRows.joined_match, KeptRows.authorizations_kept, LookUpReadings.joined_reading, TableFacts.authorization_facts}

-- ---- in a database

-- the challenges that wait, beside their authorizations
abbrev pub waiting_pairs : Tables → List Pair
waiting_pairs T = pairs owner (λ a. a.number) T.authorizations (found_waiting T)

-- a challenge with its authorization
abbrev pub waiting_of : Pair → JoinedChallenge
waiting_of x = record { authorization = without_challenges x.1; challenge = x.0.row }

-- those that wait, each with its authorization
abbrev pub waiting_rows : Tables → List JoinedChallenge
waiting_rows T = map waiting_of (waiting_pairs T)

module _ {S : Type 0} (g : Ghosts S) (old : Held S) (T : Tables) (has : Holds (state g old).now T) where
  -- each has one authorization
  pub owned : EachOf (IsOwned T.authorizations) (found_waiting T)
  owned =
      let all = challenge_rows T.authorizations in
      each-filter (IsOwned T.authorizations) waits (sorted_by challenge_layout.key all)
      (each_sorted challenge_layout.key (IsOwned T.authorizations) all (owners_there 0 T.authorizations has.rising.authorizations))

  -- the parts show them
  parts_are : map joined_row (waiting_rows T) ≡ map parts (waiting_pairs T)
  parts_are =
      map-map joined_row waiting_of (waiting_pairs T)
      ∙ map-each (λ x. joined_row (waiting_of x)) parts (waiting_pairs T)
      (each _ _ (waiting_pairs T) (λ x it i. ((record { owner = it.1 i; row = bare x.0.row }, without_challenges x.1), answer_key x.0.row))
      (each_beside owner (λ a. a.number) T.authorizations (found_waiting T) owned))

  -- they are found
  pub joined_find : IsStoredBook T → FindsIn joined_facts g (chall.SELECT_JOINED.now, asked) old (map joined_row (waiting_rows T))
  joined_find book =
      let cs = found_waiting T in
      let kept = are_kept authorization_facts (authorizations_kept _ T Second has) book in
      let challenges = all_challenges T in
      subst (FindsIn joined_facts g (chall.SELECT_JOINED.now, asked) old) (sym parts_are) (finds_matched joined_facts g joined_reading refl old has.schema
      (joined_match _ challenges (all_keys T) (challenges_there g old T has book) T.authorizations has.authorizations)
      (λ x. Int (pos x.0.row.number) ∷ []) (waiting_pairs T) (
        each _ _ (waiting_pairs T) (λ x p. ((p.0.0, p.1), p.0.1))
            (each_pair owner (λ a. a.number) T.authorizations _ _ cs (each-filter _ waits challenges (keyed_stored g old T has book)) kept.0),
        each_pair owner (λ a. a.number) T.authorizations _ _ cs (each-filter _ waits challenges (keyed_texts g old T has book)) kept.1,
      ) (IsPermutation-refl _)
      (pairs_strictly owner (λ a. a.number) T.authorizations (ranks challenge_layout.key (λ _. [])) cs owned
      (strictly challenge_layout.key (λ _. []) 0 cs
      (ascends_filter challenge_layout.key waits 0 challenges (sorted_rises challenge_layout.key (challenge_rows T.authorizations))))))

  -- ---- in the tables

  -- they are those that wait in the model, each with its authorization
  pub are_found : IsStoredBook T → AreWaiting T (map (λ w. (w.authorization.number, w.challenge)) (waiting_rows T))
      × EachOf (λ w. bare_authorizations T w.authorization.number ≡ w.authorization ∷ []) (waiting_rows T)
  are_found book =
      let xs = waiting_pairs T in
      let beside = each_beside owner (λ a. a.number) T.authorizations (found_waiting T) owned in
      let same : map (λ (w : JoinedChallenge). (w.authorization.number, w.challenge)) (waiting_rows T) ≡ map numbered (found_waiting T) =
      map-map (λ (w : JoinedChallenge). (w.authorization.number, w.challenge)) waiting_of xs
      ∙ map-each (λ (x : Pair). (x.1.number, x.0.row)) (λ (x : Pair). numbered x.0) xs (each _ _ xs (λ x it i. (it.1 i, x.0.row)) beside)
      ∙ sym (map-map numbered (λ (x : Pair). x.0) xs)
      ∙ ap (map numbered) (firsts owner (λ a. a.number) T.authorizations (found_waiting T) owned) in (
        subst (AreWaiting T) (sym same) (are_waiting T has.rising.challenges has.rising.authorizations book.book.in_order.challenges),
        each-map (λ (w : JoinedChallenge). bare_authorizations T w.authorization.number ≡ w.authorization ∷ []) waiting_of xs
            (each _ _ xs
            (λ x it.
            ap (λ n. map without_challenges (filter (λ (r : AuthorizationRow). r.number == n) T.authorizations)) it.1
            ∙ ap (map without_challenges) it.0)
            beside),
      )
