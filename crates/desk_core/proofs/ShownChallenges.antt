-- The moment of a challenge that is found has a text.
use Rattle.std.proofs.Common.{◌≡◌, ℕ, Some, sym}
use Rattle.std.specs.Prelude.{◌==◌}
use Rattle.model_laws.proofs.Finds.{each_found}
use Rattle.desk_model.specs.{Questions.challenge_of, declared.rows.AuthorizationRow.AuthorizationRow, declared.rows.ChallengeRow.ChallengeRow}
use Rattle.core_replies.specs.Shown.{HasDatedReport, HasMoments}

-- a challenge of an authorization whose moments have texts
pub challenge_text : (n : ℕ) (a : AuthorizationRow) (c : ChallengeRow) → HasMoments a → Some c ≡ challenge_of n a → HasDatedReport c.reported
challenge_text n a c texts found = each_found (λ k. HasDatedReport k.reported) (λ k. n == k.number) a.challenges c texts.reports (sym found)
