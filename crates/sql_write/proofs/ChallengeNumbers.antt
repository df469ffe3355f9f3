-- The numbers of challenges, under their authorizations and without them.
use Rattle.std.specs.List.{flat_map}
use Rattle.std.proofs.Common.{◌≡◌, ℕ, ◌++◌, List, [], ◌∷◌, map, refl, sym, ap, subst, ◌∙◌, arith}
use Rattle.std.proofs.{lemmas.List.map-append}
use Rattle.store_columns.specs.Flat.{challenge_rows, owned_by}
use Rattle.model_laws.proofs.Distinctness.{distinct-map, map-distinct}
use Rattle.model_laws.specs.Distinct.{Distinct}
use Rattle.desk_model.specs.declared.rows.{AuthorizationRow.AuthorizationRow, ChallengeRow.ChallengeRow}
use Rattle.sql_tables.specs.Layouts.{challenge_layout}

-- the numbers of the challenges of one authorization
abbrev numbers_in : AuthorizationRow → List ℕ
numbers_in a = map (λ c. c.number) a.challenges

-- the numbers of challenges, with or without their owner
pub keys_owned : (n : ℕ) (cs : List ChallengeRow) → map challenge_layout.key (owned_by n cs) ≡ map (λ c. c.number) cs
keys_owned n [] = refl
keys_owned n (c ∷ cs) = ap (λ ks. c.number ∷ ks) (keys_owned n cs)

-- through all authorizations
keys_of_all : (rows : List AuthorizationRow) → map challenge_layout.key (challenge_rows rows) ≡ flat_map numbers_in rows
keys_of_all [] = refl
keys_of_all (a ∷ rows) =
    map-append challenge_layout.key (owned_by a.number a.challenges) (challenge_rows rows)
    ∙ (λ i. keys_owned a.number a.challenges i ++ keys_of_all rows i)

-- those of the challenges alone
numbers_of_all : (rows : List AuthorizationRow) → map (λ c. c.number) (flat_map (λ (a : AuthorizationRow). a.challenges) rows) ≡ flat_map numbers_in rows
numbers_of_all [] = refl
numbers_of_all (a ∷ rows) = grind (arith, map-append, (numbers_of_all rows))

-- rows that differ in number have numbers that differ
pub numbers_differ : (rows : List AuthorizationRow) → Distinct challenge_layout.key (challenge_rows rows) → Distinct (λ n. n) (flat_map numbers_in rows)
numbers_differ rows apart = subst (Distinct (λ n. n)) (keys_of_all rows) (distinct-map (λ n. n) challenge_layout.key (challenge_rows rows) apart)

-- and rows whose numbers differ do
pub rows_differ : (rows : List AuthorizationRow) → Distinct (λ n. n) (flat_map numbers_in rows) → Distinct challenge_layout.key (challenge_rows rows)
rows_differ rows apart = map-distinct challenge_layout.key (challenge_rows rows) (subst (Distinct (λ n. n)) (sym (keys_of_all rows)) apart)

-- challenges that differ in number do so under their authorizations
pub challenges_differ_under : (rows : List AuthorizationRow) → Distinct (λ c. c.number) (flat_map (λ a. a.challenges) rows)
    → Distinct challenge_layout.key (challenge_rows rows)
challenges_differ_under rows apart =
    let all = flat_map (λ (a : AuthorizationRow). a.challenges) rows in
    rows_differ rows (subst (Distinct (λ n. n)) (numbers_of_all rows) (distinct-map (λ n. n) (λ c. c.number) all apart))
