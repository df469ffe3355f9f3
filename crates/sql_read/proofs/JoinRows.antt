-- What the join shows: each challenge that waits, beside the one authorization of its number, and beside the key of its answer, where it has one.
use Rattle.std.proofs.Common.{◌≡◌, ◌&&◌, pos, true, cond, List, [], ◌∷◌, map, filter, flat_map, ◌∙◌, arith, rules}
use Rattle.std.specs.{Prelude.◌==◌, List.list_all}
use Rattle.sqlite.specs.declared.types.Value.TheVariants.{Int}
use Rattle.sqlite_value.specs.Order.{Row}
use Rattle.sqlite_trees.specs.Tree.{Trees}
use Rattle.sqlite_sql.specs.{Query.Output, Query.Query, Query.inner, Query.left, Query.matches, Query.output, Query.end, Term.holds}
use Rattle.store_columns.specs.{Flat.answer_key, declared.columns.AnswerKey.AnswerKey, declared.columns.Owned.Owned}
use Rattle.model_laws.proofs.Basics.{each_all}
use Rattle.desk_model.specs.{Document.challenge_status_text, declared.rows.AuthorizationRow.AuthorizationRow, declared.rows.ChallengeRow.ChallengeRow}
use Rattle.sql_tables.specs.Images.{authorization_image, challenge_image}
use Rattle.sql_read.proofs.Beside.{Pair, joined_facts, map-pairs, owner, pairs, told_by}
use Rattle.sql_read.proofs.{KeyedRows.HasChallenges, KeyedRows.HasOwnKey, KeyedRows.key_cells, KeyedRows.with_key, Answered.all_rows, Answered.by}
use Rattle.sql_read.proofs.{Answered.picked_from, JoinParts.join_from, JoinParts.join_tests, JoinParts.joined_project, JoinParts.on_key, LookUpReadings.text}
use Rattle.sql_read.proofs.{SideBySide.spread, SideBySide.tests_first, TableFacts.cells, Tests.number_test, Tests.number_text_test, WaitingChallenges.waits}
use Rattle.desk_model.specs.declared.status.ChallengeStatus.TheVariants as challenge

-- what is asked for
abbrev pub asked : Row
asked = text (challenge_status_text challenge.Processing)

-- the statement
abbrev pub join_query : Query
join_query = picked_from all_rows join_from join_tests joined_project (by 0 ∷ [])

-- a pair beside the number that it is ordered by
abbrev pub shown : Pair → Output
shown x = (Int (pos x.0.row.number) ∷ [], cells joined_facts x)

-- SQL's tests of a pair are the model's
passes_as : (x : Pair) (key : Row)
    → list_all (holds (asked ∷ challenge_image x.0 ∷ authorization_image x.1 ∷ key ∷ [])) join_tests ≡ ((x.1.number == x.0.owner) && waits x.0)
passes_as x key = search (rules, number_text_test)

-- the statement shows it so
shows : (x : Pair) → output join_query (asked ∷ challenge_image x.0 ∷ authorization_image x.1 ∷ key_cells (answer_key x.0.row) ∷ []) ≡ shown x
shows x = grind arith

module _ (db : Trees) (cs : List (Owned ChallengeRow)) (keys : List AnswerKey) (there : HasChallenges db cs keys) (rows : List AuthorizationRow)
    (rows_are : db 5 ≡ map authorization_image rows) where
  -- of all authorizations those of the challenge's number, where it waits
  with_owner : (c : Owned ChallengeRow) → HasOwnKey keys c
      → map (output join_query) (matches db join_tests (inner 5 (left 17 (on_key 3 1) end)) (asked ∷ challenge_image c ∷ []))
      ≡ cond (waits c) (flat_map (λ a. shown (c, a) ∷ []) (told_by owner (λ a. a.number) rows c)) []
  with_owner c own =
      spread join_query db join_tests (left 17 (on_key 3 1) end) (asked ∷ challenge_image c ∷ []) authorization_image 5
      (λ a. (a.number == c.owner) && waits c) (λ a. shown (c, a) ∷ []) rows rows_are (λ _. Unit {0}) (each_all _ rows (λ _. tt)) (λ a _.
      with_key join_query db keys there.keys_are (asked ∷ challenge_image c ∷ authorization_image a ∷ []) join_tests (on_key 3 1) c
      ((a.number == c.owner) && waits c) (shown (c, a)) (λ k. number_test k.challenge c.row.number) (passes_as (c, a)) own (shows (c, a)))
      ∙ tests_first (λ a. shown (c, a) ∷ []) (λ a. a.number == c.owner) true (waits c) rows

  -- of all challenges those that wait
  pub joined_match : map (output join_query) (matches db join_tests join_from (asked ∷ []))
      ≡ map shown (pairs owner (λ a. a.number) rows (filter waits cs))
  joined_match =
      spread join_query db join_tests (inner 5 (left 17 (on_key 3 1) end)) (asked ∷ []) challenge_image 8 waits
      (λ c. flat_map (λ a. shown (c, a) ∷ []) (told_by owner (λ a. a.number) rows c)) cs there.challenges (HasOwnKey keys) there.own with_owner
      ∙ map-pairs owner (λ a. a.number) rows shown (filter waits cs)
