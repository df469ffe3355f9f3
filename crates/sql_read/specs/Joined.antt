-- The rows of joins: each challenge beside the key of its answer, where it has one, and beside its authorization.
use Rattle.std.specs.Prelude.{Option, List, [], ◌∷◌, map}
use Rattle.store_columns.specs.Flat.{answer_key, bare, bare_row}
use Rattle.store_columns.specs.declared.columns.{AnswerKey.AnswerKey, BareChallenge.BareChallenge, JoinedChallenge.JoinedChallenge, Owned.Owned}
use Rattle.desk_model.specs.declared.rows.{AuthorizationRow.AuthorizationRow, ChallengeRow.ChallengeRow}

-- the parts of a challenge, each as its table has it
abbrev pub keyed_row : Owned ChallengeRow → Owned BareChallenge × Option AnswerKey
keyed_row c = (bare_row c, answer_key c.row)

-- those of a challenge beside its authorization
abbrev pub joined_row : JoinedChallenge → (Owned BareChallenge × AuthorizationRow) × Option AnswerKey
joined_row w = ((record { owner = w.authorization.number; row = bare w.challenge }, w.authorization), answer_key w.challenge)

-- the authorization of the first, with all these challenges
abbrev pub gathered : List JoinedChallenge → List AuthorizationRow
gathered [] = []
gathered (w ∷ ws) = record w.authorization { challenges = map (λ x. x.challenge) (w ∷ ws) } ∷ []
