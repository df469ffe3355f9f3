-- The keys of answers differ in number where the challenges do.
use Rattle.std.specs.{Prelude.option_map, List.cons_option}
use Rattle.std.proofs.Common.{◌≢◌, ℕ, List, [], ◌∷◌, Option, Some, None, arith}
use Rattle.store_columns.specs.{Flat.key_rows, declared.columns.AnswerKey.AnswerKey, declared.columns.Owned.Owned}
use Rattle.model_laws.specs.Distinct.{Distinct}
use Rattle.desk_model.specs.{Kept.EachOf, declared.objects.Answer.Answer, declared.rows.ChallengeRow.ChallengeRow}
use Rattle.sql_tables.specs.Layouts.{challenge_layout, key_layout}

-- the key of an answer, where there is one
abbrev key_of : ℕ → Option Answer → Option AnswerKey
key_of n answer = option_map (λ a. record { challenge = n; thumb = a.thumb }) answer

-- a number that no challenge has is no key's
keys_other : (n : ℕ) (rows : List (Owned ChallengeRow)) → EachOf (λ c. n ≢ challenge_layout.key c) rows → EachOf (λ k. n ≢ key_layout.key k) (key_rows rows)
keys_other n [] apart = tt
keys_other n (c ∷ cs) apart = grind (arith, (keys_other n cs apart.1))

-- so the keys differ
pub keys_apart : (rows : List (Owned ChallengeRow)) → Distinct challenge_layout.key rows → Distinct key_layout.key (key_rows rows)
keys_apart [] apart = tt
keys_apart (c ∷ cs) apart = by c.row.answered (keys_apart cs apart.1)
  where
    by : (a : Option Answer) → Distinct key_layout.key (key_rows cs) → Distinct key_layout.key (cons_option (key_of c.row.number a) (key_rows cs))
    by None rest = rest
    by (Some a) rest = (keys_other c.row.number cs apart.0, rest)
