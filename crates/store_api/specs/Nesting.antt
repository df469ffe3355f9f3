-- Challenges put under their authorizations, each behind the number of its own.
use Rattle.std.specs.Prelude.{ℕ, ◌==◌, List, [], ◌∷◌, ◌++◌, map, if◌then◌else◌}
use Rattle.desk_model.specs.declared.rows.{AuthorizationRow.AuthorizationRow, ChallengeRow.ChallengeRow}

-- an authorization with the challenge, where it is its own
abbrev pub joined : ℕ × ChallengeRow → AuthorizationRow → AuthorizationRow
joined c r = if r.number == c.0 then record r { challenges = r.challenges ++ c.1 ∷ [] } else r

-- authorizations with each of these challenges that is theirs
abbrev pub nested : List (ℕ × ChallengeRow) → List AuthorizationRow → List AuthorizationRow
nested [] rows = rows
nested (c ∷ cs) rows = nested cs (map (joined c) rows)
