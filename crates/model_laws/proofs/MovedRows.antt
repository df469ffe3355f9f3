-- What an entry leaves of the rows that it moves.
use Rattle.std.proofs.Common.{◌≡◌, ℕ, List, arith}
use Rattle.desk_model.specs.Effect.{has_row, moved_authorization, noted_challenge}
use Rattle.desk_model.specs.declared.{entry.Entry.Entry, rows.AccountRow.AccountRow, rows.AuthorizationRow.AuthorizationRow, rows.ChallengeRow.ChallengeRow}
use Rattle.model_laws.proofs.Basics.{list_any-map}

-- an entry leaves the number of a challenge
pub challenge_number : (e : Entry) (m : ℕ) (key : List ℕ) (c : ChallengeRow) → (noted_challenge e m key c).number ≡ c.number
challenge_number e m key c = grind arith

-- the challenges of an authorization keep their numbers
pub has_row-moved : (n : ℕ) (e : Entry) (m : ℕ) (accounts : List AccountRow) (a : AuthorizationRow) → has_row n (moved_authorization e m accounts a)
    ≡ has_row n a
has_row-moved n e m accounts a = grind (arith, list_any-map, challenge_number)
