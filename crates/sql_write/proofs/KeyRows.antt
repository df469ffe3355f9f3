-- The keys of answers, beside the challenges that they belong to.
use Rattle.std.specs.List.{flat_map}
use Rattle.std.proofs.Common.{◌≡◌, ℕ, List, [], ◌∷◌, map, refl, arith, rules}
use Rattle.std.proofs.{lemmas.List.Elements.filter_map-append}
use Rattle.store_columns.specs.{Flat.challenge_rows, Flat.key_rows, Flat.owned_by}
use Rattle.model_laws.specs.News.{KeepChallenges}
use Rattle.desk_model.specs.declared.{rows.AuthorizationRow.AuthorizationRow, rows.ChallengeRow.ChallengeRow}
use Rattle.sql_write.proofs.Numbered.{AreWithin, within_more}
use Rattle.sql_tables.specs.Layouts.{key_layout}

-- authorization by authorization
pub keys_flat : (rows : List AuthorizationRow) → key_rows (challenge_rows rows) ≡ flat_map (λ a. key_rows (owned_by a.number a.challenges)) rows
keys_flat [] = refl
keys_flat (a ∷ rows) = grind (arith, filter_map-append, (keys_flat rows))

-- where no challenge loses its answer, the numbers stand among those that come
pub keys_within : (n m : ℕ) (cs ds : List ChallengeRow) → KeepChallenges cs ds
    → AreWithin (map key_layout.key (key_rows (owned_by n cs))) (map key_layout.key (key_rows (owned_by m ds)))
keys_within n m [] ds kept = tt
keys_within n m (c ∷ cs) [] kept = absurd (cc (kept.numbers))
keys_within n m (c ∷ cs) (d ∷ ds) kept = grind (arith, within_more, (keys_within n m cs ds (record { numbers = cc (kept.numbers); answers = kept.answers.1 })))
