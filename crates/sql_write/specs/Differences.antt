-- How a row differs from the one that stands in its place, table by table.
use Rattle.std.specs.Prelude.{ℕ, List, ◌==◌, ◌&&◌, Bool, true, false, Option, Some, None, bytes_eq}
use Rattle.store_columns.specs.declared.columns.AnswerKey.{AnswerKey}
use Rattle.desk_model.specs.{Document.authorization_status_text, Document.challenge_status_text, Document.kind_text, Facts.end_kind_text, Facts.outcome_text}
use Rattle.desk_model.specs.{Name.same_name, declared.objects.Answer.Answer, declared.objects.AuthorizationEnd.AuthorizationEnd, declared.objects.Report.Report}
use Rattle.desk_model.specs.declared.rows.{AccountRow.AccountRow, AuthorizationRow.AuthorizationRow, ChallengeRow.ChallengeRow, Meta.Meta, OrderRow.OrderRow}
use Rattle.sql_write.specs.{Write.difference, declared.stored.Difference.Difference}

-- ---- what a row was made with

-- the terms of a desk
abbrev pub keeps_policy : Meta → Meta → Bool
keeps_policy old row =
    bytes_eq old.policy.base row.policy.base
    && ((old.policy.nonce_life == row.policy.nonce_life)
    && ((old.policy.order_life == row.policy.order_life) && (old.policy.authz_life == row.policy.authz_life)))

-- the account and the dates of an order
abbrev pub keeps_order : OrderRow → OrderRow → Bool
keeps_order old row = (old.account == row.account) && ((old.made == row.made) && (old.expires == row.expires))

-- the account, the name and the dates of an authorization
abbrev pub keeps_authorization : AuthorizationRow → AuthorizationRow → Bool
keeps_authorization old row =
    (old.account == row.account) && (same_name old.name row.name && ((old.made == row.made) && (old.expires == row.expires)))

-- the type and the token of a challenge
abbrev pub keeps_challenge : ChallengeRow → ChallengeRow → Bool
keeps_challenge old row = bytes_eq (kind_text old.kind) (kind_text row.kind) && bytes_eq old.token row.token

-- ---- what calls move

-- two facts that are recorded are the same so, or neither is recorded
abbrev pub is_same_fact : {X : Type 0} → (X → X → Bool) → Option X → Option X → Bool
is_same_fact same None None = true
is_same_fact same None (Some b) = false
is_same_fact same (Some a) None = false
is_same_fact same (Some a) (Some b) = same a b

-- two that are dated and have a text
abbrev pub is_same_dated : {X : Type 0} → (X → ℕ) → (X → List ℕ) → Option X → Option X → Bool
is_same_dated date text = is_same_fact (λ a b. (date a == date b) && bytes_eq (text a) (text b))

-- the end of an authorization
abbrev pub is_same_end : Option AuthorizationEnd → Option AuthorizationEnd → Bool
is_same_end = is_same_dated (λ e. e.date) (λ e. end_kind_text e.kind)

-- the date of an answer
abbrev pub is_same_date : Option Answer → Option Answer → Bool
is_same_date = is_same_fact (λ (a b : Answer). a.date == b.date)

-- a report
abbrev pub is_same_report : Option Report → Option Report → Bool
is_same_report = is_same_dated (λ r. r.date) (λ r. outcome_text r.outcome)

-- an authorization, without its challenges
abbrev pub is_same_authorization : AuthorizationRow → AuthorizationRow → Bool
is_same_authorization old row =
    is_same_end old.ended row.ended && bytes_eq (authorization_status_text old.status) (authorization_status_text row.status)

-- a challenge, without the key of its answer
abbrev pub is_same_challenge : ChallengeRow → ChallengeRow → Bool
is_same_challenge old row =
    is_same_date old.answered row.answered
    && (is_same_report old.reported row.reported && bytes_eq (challenge_status_text old.status) (challenge_status_text row.status))

-- ---- a row

abbrev pub meta_difference : Meta → Meta → Difference
meta_difference old row = difference (keeps_policy old row) false

abbrev pub account_difference : AccountRow → AccountRow → Difference
account_difference old row = difference (old.opened == row.opened) false

abbrev pub order_difference : OrderRow → OrderRow → Difference
order_difference old row = difference (keeps_order old row) false

abbrev pub authorization_difference : AuthorizationRow → AuthorizationRow → Difference
authorization_difference old row = difference (keeps_authorization old row) (is_same_authorization old row)

abbrev pub challenge_difference : ChallengeRow → ChallengeRow → Difference
challenge_difference old row = difference (keeps_challenge old row) (is_same_challenge old row)

abbrev pub key_difference : AnswerKey → AnswerKey → Difference
key_difference old row = difference (bytes_eq old.thumb row.thumb) true
