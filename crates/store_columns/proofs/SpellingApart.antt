-- Different statuses and kinds have different texts: each is found again by its text.
use Rattle.std.proofs.Common.{◌≡◌, ℕ, List, [], ◌∷◌, Option, Some, sym, ap, ◌∙◌, arith}
use Rattle.std.proofs.{lemmas.Option.same_Some, lemmas.Bool.Decides.nat_tests}
use Rattle.std.specs.Prelude.{bytes_eq, find}
use Rattle.desk_model.specs.Document.{account_status_text, authorization_status_text, challenge_status_text, kind_text, order_status_text}
use Rattle.desk_model.specs.Facts.{ending_text, end_kind_text, outcome_text}
use Rattle.desk_model.specs.declared.entry.Ending.TheVariants as ending
use Rattle.desk_model.specs.declared.entry.Outcome.TheVariants as outcome
use Rattle.desk_model.specs.declared.status.EndKind.TheVariants as end
use Rattle.desk_model.specs.declared.status.Kind.TheVariants as kind
use Rattle.desk_model.specs.declared.status.AccountStatus.TheVariants as account
use Rattle.desk_model.specs.declared.status.AuthzStatus.TheVariants as authz
use Rattle.desk_model.specs.declared.status.ChallengeStatus.TheVariants as chall
use Rattle.desk_model.specs.declared.status.OrderStatus.TheVariants as order

-- the first that has this text
abbrev pub found_by : {X : Type 0} → (X → List ℕ) → List X → List ℕ → Option X
found_by text all wanted = find (λ x. bytes_eq (text x) wanted) all

-- each of the values is found among these by its text
unfoldable pub AreSpelled : {X : Type 0} → (X → List ℕ) → List X → Type 0
AreSpelled {X} text all = (x : X) → found_by text all (text x) ≡ Some x

-- so their texts tell them apart
pub told_apart : {X : Type 0} (text : X → List ℕ) (all : List X) → AreSpelled text all → (x y : X) → text x ≡ text y → x ≡ y
unfolding AreSpelled
told_apart text all found x y same = same_Some x y (sym (found x) ∙ ap (found_by text all) same ∙ found y)

-- the statuses of an account
pub account_statuses : AreSpelled account_status_text (account.Valid ∷ account.Deactivated ∷ account.Revoked ∷ [])
unfolding AreSpelled
account_statuses h = grind (arith, nat_tests)

-- of an order
pub order_statuses : AreSpelled order_status_text (order.Pending ∷ order.Ready ∷ order.Processing ∷ order.Valid ∷ order.Invalid ∷ [])
unfolding AreSpelled
order_statuses h = grind (arith, nat_tests)

-- of an authorization
pub authorization_statuses : AreSpelled authorization_status_text
    (authz.Pending ∷ authz.Valid ∷ authz.Invalid ∷ authz.Deactivated ∷ authz.Expired ∷ authz.Revoked ∷ [])
unfolding AreSpelled
authorization_statuses h = grind (arith, nat_tests)

-- of a challenge
pub challenge_statuses : AreSpelled challenge_status_text (chall.Pending ∷ chall.Processing ∷ chall.Valid ∷ chall.Invalid ∷ [])
unfolding AreSpelled
challenge_statuses h = grind (arith, nat_tests)

-- the kinds of a challenge
pub kinds : AreSpelled kind_text (kind.Http01 ∷ kind.Dns01 ∷ [])
unfolding AreSpelled
kinds h = grind (arith, nat_tests)

-- how an account ends
pub endings : AreSpelled ending_text (ending.Deactivated ∷ ending.Revoked ∷ [])
unfolding AreSpelled
endings h = grind (arith, nat_tests)

-- how an authorization ends
pub end_kinds : AreSpelled end_kind_text (end.Invalid ∷ end.Deactivated ∷ end.Revoked ∷ [])
unfolding AreSpelled
end_kinds h = grind (arith, nat_tests)

-- what a validation shows
pub outcomes : AreSpelled outcome_text (outcome.Good ∷ outcome.IncorrectResponse ∷ outcome.Connection ∷ outcome.Dns ∷ [])
unfolding AreSpelled
outcomes h = grind (arith, nat_tests)
