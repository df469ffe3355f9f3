-- The texts of facts, as the columns of a file keep them.
use Rattle.std.specs.Prelude.{ℕ, List, codes}
use Rattle.desk_model.specs.declared.{entry.Ending.Ending, entry.Outcome.Outcome, status.EndKind.EndKind}
use Rattle.desk_model.specs.declared.entry.Ending.TheVariants as ending
use Rattle.desk_model.specs.declared.entry.Outcome.TheVariants as outcome
use Rattle.desk_model.specs.declared.status.EndKind.TheVariants as end

-- how an account ended
abbrev pub ending_text : Ending → List ℕ
ending_text ending.Deactivated = codes "deactivated"
ending_text ending.Revoked = codes "revoked"

-- how an authorization ended
abbrev pub end_kind_text : EndKind → List ℕ
end_kind_text end.Invalid = codes "invalid"
end_kind_text end.Deactivated = codes "deactivated"
end_kind_text end.Revoked = codes "revoked"

-- what a validation showed
abbrev pub outcome_text : Outcome → List ℕ
outcome_text outcome.Good = codes "good"
outcome_text outcome.IncorrectResponse = codes "incorrectResponse"
outcome_text outcome.Connection = codes "connection"
outcome_text outcome.Dns = codes "dns"
