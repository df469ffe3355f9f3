-- The first challenge above a number, of whatever authorization.
use Rattle.std.proofs.Common.{◌≡◌, ℕ, List, [], ◌∷◌, ◌++◌, map, filter, refl, ◌∙◌, arith, rules}
use Rattle.std.proofs.{lemmas.List.map-append}
use Rattle.std.specs.{Prelude.nat_lt, List.flat_map}
use Rattle.sqlite_trees.proofs.ListLemmas.{filter-map}
use Rattle.store_columns.specs.{Flat.challenge_rows, Flat.owned_by, declared.columns.Owned.Owned}
use Rattle.model_laws.specs.Distinct.{Distinct}
use Rattle.desk_model.specs.Derived.{insert_challenge, sorted_challenges}
use Rattle.desk_model.specs.{Change.put, Tables.Tables, declared.rows.AuthorizationRow.AuthorizationRow, declared.rows.ChallengeRow.ChallengeRow}
use Rattle.model_parts.specs.Above.{challenges_above, first_of}
use Rattle.sql_tables.specs.{Layouts.challenge_layout, Sorted.sorted_by}
use Rattle.sql_tables.proofs.{Sorting.IsApart, Sorting.each_sorted}
use Rattle.sql_read.proofs.UnderLemmas.{own_rows}

-- ---- challenges without their owners

-- of all authorizations
rows_owned : (rs : List AuthorizationRow) → map (λ (c : Owned ChallengeRow). c.row) (challenge_rows rs) ≡ flat_map (λ (r : AuthorizationRow). r.challenges) rs
rows_owned [] = refl
rows_owned (r ∷ rs) =
    map-append (λ (c : Owned ChallengeRow). c.row) (owned_by r.number r.challenges) (challenge_rows rs)
    ∙ (λ i. own_rows r.number r.challenges i ++ rows_owned rs i)

-- a challenge is put where it is inserted, where none has its number
put_inserted : (c : Owned ChallengeRow) (ds : List (Owned ChallengeRow)) → IsApart challenge_layout.key c ds
    → map (λ (d : Owned ChallengeRow). d.row) (put challenge_layout.key c ds) ≡ insert_challenge c.row (map (λ (d : Owned ChallengeRow). d.row) ds)
put_inserted c [] apart = refl
put_inserted c (d ∷ ds) apart = grind (arith, (put_inserted c ds apart.1))

-- so the sorted ones are those of the model
sorted_owned : (cs : List (Owned ChallengeRow)) → Distinct challenge_layout.key cs
    → map (λ (c : Owned ChallengeRow). c.row) (sorted_by challenge_layout.key cs) ≡ sorted_challenges (map (λ (c : Owned ChallengeRow). c.row) cs)
sorted_owned [] apart = refl
sorted_owned (c ∷ cs) apart = grind (arith, put_inserted, each_sorted, (sorted_owned cs apart.1))

-- the first above a number, under its authorization
abbrev pub challenges_from : Tables → ℕ → List (Owned ChallengeRow)
challenges_from T n = first_of (filter (λ c. nat_lt n c.row.number) (sorted_by challenge_layout.key (challenge_rows T.authorizations)))

-- by itself it is the first of the model
pub first_challenge : (T : Tables) (n : ℕ) → Distinct challenge_layout.key (challenge_rows T.authorizations)
    → map (λ (c : Owned ChallengeRow). c.row) (challenges_from T n) ≡ first_of (challenges_above T n)
first_challenge T n apart = search (rules, filter-map, sorted_owned, rows_owned)
