-- What look-ups of challenges find: each beside the key of its answer, where it has one.
use Rattle.std.proofs.Common.{◌==◌, ℕ, pos, Bool, List, [], ◌∷◌, map, filter, refl, subst, ◌∙◌, arith}
use Rattle.std.proofs.lemmas.List.Sorted.{IsPermutation-refl}
use Rattle.std.specs.Prelude.{nat_lt}
use Rattle.sqlite.specs.{Held.Held, Held.state, Store.Ghosts, declared.types.Value.TheVariants.Int}
use Rattle.sqlite_sql.specs.{Program.overlay, Term.Term}
use Rattle.sqlite_value.specs.Order.{Row}
use Rattle.store_columns.specs.{Flat.answer_key, Flat.challenge_rows, Flat.key_rows, Limits.IfRecorded, Limits.IsStoredKey, TextColumns.HasTextChallenge}
use Rattle.store_columns.specs.{declared.columns.AnswerKey.AnswerKey, declared.columns.Owned.Owned}
use Rattle.model_laws.proofs.{Basics.each, Basics.each_both, Keeps.each-filter, RowLists.ascends_filter}
use Rattle.desk_model.specs.{Kept.EachOf, Tables.Tables, declared.rows.ChallengeRow.ChallengeRow}
use Rattle.store_book.specs.IsBook.{IsStoredBook}
use Rattle.sql_schema.specs.Schema.{desk_schema}
use Rattle.sql_tables.specs.{Holds.Holds, Sorted.sorted_by, Layouts.challenge_layout, Layouts.key_layout}
use Rattle.sql_tables.proofs.{AnswerKeys.keys_apart, Sorting.each_sorted, Sorting.filter_ascending, Sorting.filter_number, Sorting.sorted_rises}
use Rattle.sql_read.specs.{Bounded.bounded, Joined.keyed_row, Queries.number, declared.formats.Format.TheVariants.Second}
use Rattle.sql_read.proofs.{AboveRows.challenges_from, LookUpReadings.challenge_above_reading, LookUpReadings.challenges_of_reading, TableFacts.challenge_facts}
use Rattle.sql_read.proofs.{Answered.IsReadingFrom, Answered.cut, JoinParts.keyed_from, KeyedRows.keyed_facts, KeyedRows.keyed_match, UnderLemmas.own_ascend}
use Rattle.sql_read.proofs.{Answered.by, FoundRows.FindsIn, KeyRows.keys_own, KeyedRows.AreTest, TableFacts.cells, Tests.above_test, Tests.number_test}
use Rattle.sql_read.proofs.{Answered.strictly, FoundRows.are_kept, KeyedRows.HasOwnKey, TableFacts.columns, Tests.above_bounded, Tests.same_bounded}
use Rattle.sql_read.proofs.{FoundRows.finds_matched, JoinParts.IsStoredKeyed, JoinParts.keyed_project, KeptRows.challenges_kept, KeyedRows.HasChallenges}
use Rattle.sql_schema.specs.declared.challenges.TheConstants as chall

-- ---- challenges in a database

-- by number
abbrev pub all_challenges : Tables → List (Owned ChallengeRow)
all_challenges T = sorted_by challenge_layout.key (challenge_rows T.authorizations)

-- the keys of their answers
abbrev pub all_keys : Tables → List AnswerKey
all_keys T = sorted_by key_layout.key (key_rows (challenge_rows T.authorizations))

-- the key of each answer is in its limits
stored_keys : (cs : List (Owned ChallengeRow)) → EachOf IsStoredKey (key_rows cs) → EachOf (λ c. IfRecorded IsStoredKey (answer_key c.row)) cs
stored_keys [] h = tt
stored_keys (c ∷ cs) h = grind (arith, (stored_keys cs))

module _ {S : Type 0} (g : Ghosts S) (old : Held S) (T : Tables) (has : Holds (state g old).now T) where
  -- each has its own key
  pub own_keys : EachOf (HasOwnKey (all_keys T)) (all_challenges T)
  own_keys =
      let all = challenge_rows T.authorizations in
      each_sorted challenge_layout.key (HasOwnKey (all_keys T)) all
      (each _ _ all (λ c own. filter_number key_layout.key c.row.number (key_rows all) (keys_apart all has.rising.challenges) ∙ own)
      (keys_own all has.rising.challenges))

  module _ (book : IsStoredBook T) where
    -- each is in its limits, beside its key
    pub keyed_stored : EachOf (λ c. IsStoredKeyed (keyed_row c)) (all_challenges T)
    keyed_stored =
        let all = challenge_rows T.authorizations in
        each_both _ _ (all_challenges T) (are_kept challenge_facts (challenges_kept _ T Second has) book).0
        (each_sorted challenge_layout.key (λ c. IfRecorded IsStoredKey (answer_key c.row)) all (stored_keys all book.stored.keys))

    -- its texts are UTF-8
    pub keyed_texts : EachOf (λ c. HasTextChallenge (columns challenge_facts.rows c)) (all_challenges T)
    keyed_texts = (are_kept challenge_facts (challenges_kept _ T Second has) book).1

    -- what stands in the two tables
    pub challenges_there : HasChallenges (overlay (state g old).now.trees []) (all_challenges T) (all_keys T)
    challenges_there = record {
      challenges = has.challenges;
      keys_are = has.keys;
      own = own_keys;
      stored = each _ _ (all_challenges T) (λ c k. k.0) keyed_stored;
    }

    -- those that pass a test are found, by number
    keyed_find : {limit : Term} {text : List ℕ} {tests : List Term} {params : Row}
        → IsReadingFrom desk_schema limit text keyed_from tests keyed_project (by 0 ∷ []) params
        → (test : Owned ChallengeRow → Bool) → AreTest tests params test
        → FindsIn keyed_facts g (text, params) old (map keyed_row (cut limit params (filter test (all_challenges T))))
    keyed_find {tests = tests} {params = params} reading test passes =
        let xs = filter test (all_challenges T) in
        finds_matched keyed_facts g reading refl old has.schema (keyed_match tests params test passes _ (all_challenges T) (all_keys T) challenges_there)
        (λ c. Int (pos c.row.number) ∷ []) xs (each-filter _ test (all_challenges T) keyed_stored, each-filter _ test (all_challenges T) keyed_texts)
        (IsPermutation-refl _)
        (strictly challenge_layout.key (cells keyed_facts) 0 xs
        (ascends_filter challenge_layout.key test 0 (all_challenges T) (sorted_rises challenge_layout.key (challenge_rows T.authorizations))))

    -- those of an authorization
    pub challenges_of_find : (n : ℕ)
        → FindsIn keyed_facts g (chall.SELECT_OF.now, number n) old (map keyed_row (filter (λ c. c.owner == n) (challenge_rows T.authorizations)))
    challenges_of_find n =
        subst (λ cs. FindsIn keyed_facts g (chall.SELECT_OF.now, number n) old (map keyed_row cs))
        (filter_ascending challenge_layout.key (λ c. c.owner == n) 1 (challenge_rows T.authorizations) has.rising.challenges
        (own_ascend n 0 T.authorizations has.rising.authorizations book.book.in_order.challenges))
        (keyed_find (challenges_of_reading n) (λ c. c.owner == n) (λ c k key. number_test c.owner (bounded n) ∙ same_bounded c.owner n k.authorization.1))

    -- the first above a number
    pub challenge_above_find : (n : ℕ) → FindsIn keyed_facts g (chall.SELECT_ABOVE.now, number n) old (map keyed_row (challenges_from T n))
    challenge_above_find n =
        keyed_find (challenge_above_reading n) (λ c. nat_lt n c.row.number)
        (λ c k key. above_test c.row.number (bounded n) ∙ above_bounded c.row.number n k.number.1)
