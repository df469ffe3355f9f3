-- What a check goes by: the numbers of the rows that it finds, and all challenges.
use Rattle.std.specs.{Prelude.ℕ, Prelude.List, List.flat_map}
use Rattle.desk_model.specs.declared.rows.{StatusFault.StatusFault, AuthorizationRow.AuthorizationRow, ChallengeRow.ChallengeRow}
use Rattle.desk_model.specs.declared.rows.StatusFault.TheVariants as fault

-- the number of the row with the fault
abbrev pub fault_number : StatusFault → ℕ
fault_number (fault.Account number stored derived) = number
fault_number (fault.Order number stored derived) = number
fault_number (fault.Authz number stored derived) = number
fault_number (fault.Chall number stored derived) = number

-- the challenges of authorizations, in their order
abbrev pub challenges_of : List AuthorizationRow → List ChallengeRow
challenges_of rows = flat_map (λ a. a.challenges) rows
