-- What a join with the keys of answers shows: each challenge that passes the tests, beside the key of its answer, where it has one.
use Rattle.std.proofs.Common.{◌≡◌, ◌++◌, ◌==◌, pos, Bool, cond, if◌then◌else◌, List, [], ◌∷◌, map, filter, flat_map, Option, None, Some, option_map}
use Rattle.std.proofs.Common.{option_to_list, ap, ◌∙◌, append-nil, rules}
use Rattle.std.proofs.lemmas.List.Concat.{flat_map_single}
use Rattle.std.specs.List.{list_all}
use Rattle.sqlite.specs.declared.types.Value.TheVariants.{Int}
use Rattle.sqlite_value.specs.Order.{Row, column}
use Rattle.sqlite_trees.specs.Tree.{Trees}
use Rattle.sqlite_trees.proofs.ListLemmas.{filter-map}
use Rattle.sqlite_sql.specs.{Query.Output, Query.Query, Query.end, Query.left, Query.matches, Query.or_nulls, Query.output, Term.Env, Term.Term, Term.holds}
use Rattle.store_columns.specs.{Columns.challenge_columns, Columns.key_columns, Flat.answer_key, Flat.bare_row, Limits.IsStoredChallenge}
use Rattle.store_columns.specs.{TextColumns.HasTextChallenge, declared.columns.AnswerKey.AnswerKey, declared.columns.Owned.Owned}
use Rattle.model_laws.proofs.Basics.{each_both}
use Rattle.desk_model.specs.{Kept.EachOf, declared.rows.ChallengeRow.ChallengeRow}
use Rattle.sql_tables.specs.Images.{challenge_image, challenge_params, key_image}
use Rattle.sql_read.specs.{Joined.keyed_row, Spelled.FitsKeyed, Spelled.keyed_in}
use Rattle.sql_read.proofs.JoinParts.{IsStoredKeyed, Keyed, KeyedColumns, key_or_nulls, keyed-apart, keyed_back, keyed_columns, keyed_fits, keyed_from}
use Rattle.sql_read.proofs.JoinParts.{keyed_params, keyed_project, on_key}
use Rattle.sql_read.proofs.{Answered.all_rows, Answered.by, Answered.picked_from, SideBySide.shown_if, SideBySide.spread, TableFacts.RowFacts, TableFacts.cells}
use Rattle.sql_read.proofs.{TableFacts.facts_of, Tests.number_test}

-- ---- keys

-- the key of an answer as its table has it, or what reads as NULL
abbrev pub key_cells : Option AnswerKey → Row
key_cells None = []
key_cells (Some k) = key_image k

-- the key of its answer alone has the number of a challenge
abbrev pub HasOwnKey : List AnswerKey → Owned ChallengeRow → Type 0
HasOwnKey keys c = filter (λ k. k.challenge == c.row.number) keys ≡ option_to_list (answer_key c.row)

-- where there is none, NULL stands in its place
key_stands : (o : Option AnswerKey) → or_nulls (map key_image (option_to_list o)) ≡ key_cells o ∷ []
key_stands o = search rules

-- and is shown
pub key_shows : (o : Option AnswerKey) → column (key_cells o) 0 ∷ column (key_cells o) 2 ∷ [] ≡ key_or_nulls (option_map key_columns o)
key_shows o = search rules

-- ---- rows side by side

-- rows that pass are shown beside the key of the challenge among them
pub with_key : (q : Query) (db : Trees) (keys : List AnswerKey) → db 17 ≡ map key_image keys → (env : Env) (tests on : List Term)
    (c : Owned ChallengeRow) (passed : Bool) (o : Output) → ((k : AnswerKey) → list_all (holds (env ++ key_image k ∷ [])) on ≡ (k.challenge == c.row.number))
    → ((key : Row) → list_all (holds (env ++ key ∷ [])) tests ≡ passed) → HasOwnKey keys c → output q (env ++ key_cells (answer_key c.row) ∷ []) ≡ o
    → map (output q) (matches db tests (left 17 on end) env) ≡ cond passed (o ∷ []) []
with_key q db keys keys_are env tests on c passed o is_its passes own shows =
    let tried : Row → List Env = λ r. if list_all (holds (env ++ r ∷ [])) tests then (env ++ r ∷ []) ∷ [] else [] in
    let its = λ (r : Row). list_all (holds (env ++ r ∷ [])) on in
    let key = key_cells (answer_key c.row) in
    ap (map (output q))
    (ap (λ rs. flat_map tried (or_nulls (filter its rs))) keys_are
    ∙ ap (λ rs. flat_map tried (or_nulls rs))
    (filter-map its key_image keys
    ∙ (λ i. map key_image (filter (λ k. is_its k i) keys))
    ∙ ap (map key_image) own)
    ∙ ap (flat_map tried) (key_stands (answer_key c.row))
    ∙ append-nil (tried key))
    ∙ shown_if q (list_all (holds (env ++ key ∷ [])) tests) passed (env ++ key ∷ []) o (passes key) shows

-- ---- challenges beside their keys

-- what is known of a challenge beside the key of its answer
abbrev pub keyed_facts : RowFacts (Owned ChallengeRow) Keyed KeyedColumns
keyed_facts =
    facts_of keyed_row keyed_columns keyed_in keyed_params keyed_back IsStoredKeyed keyed-apart (λ c. HasTextChallenge c.0) FitsKeyed
    keyed_fits

-- what stands in the two tables
pub record HasChallenges (db : Trees) (cs : List (Owned ChallengeRow)) (keys : List AnswerKey) : Type 0 where
  pub challenges : db 8 ≡ map challenge_image cs
  pub keys_are : db 17 ≡ map key_image keys
  pub own : EachOf (HasOwnKey keys) cs
  pub stored : EachOf (λ c. IsStoredChallenge (bare_row c)) cs

-- SQL's tests are this one, of a challenge in its limits
abbrev pub AreTest : List Term → Row → (Owned ChallengeRow → Bool) → Type 0
AreTest tests params test =
    (c : Owned ChallengeRow) → IsStoredChallenge (bare_row c) → (key : Row) → list_all (holds (params ∷ challenge_image c ∷ key ∷ [])) tests ≡ test c

-- a challenge beside the number that it is ordered by
abbrev numbered : Owned ChallengeRow → Output
numbered c = (Int (pos c.row.number) ∷ [], cells keyed_facts c)

-- those that pass are shown
pub keyed_match : (tests : List Term) (params : Row) (test : Owned ChallengeRow → Bool) → AreTest tests params test → (db : Trees)
    (cs : List (Owned ChallengeRow)) (keys : List AnswerKey) → HasChallenges db cs keys
    → map (output (picked_from all_rows keyed_from tests keyed_project (by 0 ∷ []))) (matches db tests keyed_from (params ∷ [])) ≡ map numbered (filter test cs)
keyed_match tests params test passes db cs keys has =
    let q = picked_from all_rows keyed_from tests keyed_project (by 0 ∷ []) in
    spread q db tests (left 17 (on_key 2 1) end) (params ∷ []) challenge_image 8 test (λ c. numbered c ∷ []) cs has.challenges
    (λ c. HasOwnKey keys c × IsStoredChallenge (bare_row c)) (each_both _ _ cs has.own has.stored) (λ c p.
    with_key q db keys has.keys_are (params ∷ challenge_image c ∷ []) tests (on_key 2 1) c (test c) (numbered c)
    (λ k. number_test k.challenge c.row.number) (passes c p.1) p.0
    (λ i. (Int (pos c.row.number) ∷ [], challenge_params (challenge_columns (bare_row c)) ++ key_shows (answer_key c.row) i)))
    ∙ flat_map_single numbered (filter test cs)
