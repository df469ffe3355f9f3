-- Challenges, each with the key of its answer.
use Rattle.std.specs.Prelude.{ℕ, List, [], ◌∷◌, Option, None, Some}
use Rattle.store_columns.specs.Flat.{with_answer}
use Rattle.store_columns.specs.declared.columns.{AnswerKey.AnswerKey, BareChallenge.BareChallenge, Owned.Owned}
use Rattle.desk_model.specs.declared.{objects.Answer.Answer, rows.ChallengeRow.ChallengeRow}

-- the answer of a challenge that was answered at this moment, or not, under the first of these keys, and the keys behind it
abbrev pub split_by : Option ℕ → List AnswerKey → Option Answer × List AnswerKey
split_by None ks = (None, ks)
split_by (Some date) [] = (None, [])
split_by (Some date) (k ∷ ks) = (Some (record { date = date; thumb = k.thumb }), ks)

-- the challenges, each that was answered with the next of the keys
abbrev pub joined : List (Owned BareChallenge) → List AnswerKey → List (Owned ChallengeRow)
joined [] ks = []
joined (c ∷ cs) ks =
    (record { owner = c.owner; row = with_answer c.row (split_by c.row.answered ks).0 }) ∷ joined cs (split_by c.row.answered ks).1
