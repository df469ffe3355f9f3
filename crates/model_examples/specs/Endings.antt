-- The end of an account, and of what it has (RFC 8555, 7.1.6, 7.3.6).
use Rattle.std.specs.Prelude.{◌≡◌, ℕ, List, [], ◌∷◌, map, false, codes}
use Rattle.desk_model.specs.{Tables.picture, declared.status.OrderStatus.OrderStatus, declared.status.AuthzStatus.AuthzStatus}
use Rattle.desk_model.specs.declared.status.OrderStatus.TheVariants as order
use Rattle.desk_model.specs.declared.status.AuthzStatus.TheVariants as authz
use Rattle.desk_model.specs.declared.call.Ask.TheVariants as ask
use Rattle.desk_model.specs.declared.call.OfficeAsk.TheVariants as office
use Rattle.desk_model.specs.declared.call.Target.TheVariants as to
use Rattle.model_examples.specs.Computed.{Gives, plain, shows, Problem, Answers, Reads, Refuses}
use Rattle.model_examples.specs.Entries.{Entry, account_ended, ordered, answered, reported, good, incorrect_response, authorization_ended, finalized, certified}
use Rattle.model_examples.specs.Entries.{deactivated, revoked, History}
use Rattle.model_examples.specs.Calls.{on, account_desk, asked, request, wants}
use Rattle.model_examples.specs.{Offices.Notes, Offices.Repeats, Offices.Turns, Texts.unauthorized, Texts.unfit_report, Texts.nothing_here}

-- an order of this name
abbrev pub order_of : List ℕ → Entry
order_of base = ordered 1 (wants base ∷ [])

-- five orders: pending, ready, invalid after a bad report, processing and valid
abbrev pub busy_desk : History
busy_desk = on 0 (certified 5 (codes "chain")) ∷ on 0 (finalized 5 (1 ∷ [])) ∷ on 0 (finalized 4 (1 ∷ []))
    ∷ on 0 (reported 9 good) ∷ on 0 (answered 9) ∷ on 0 (reported 7 good) ∷ on 0 (answered 7)
    ∷ on 0 (reported 5 incorrect_response) ∷ on 0 (answered 5) ∷ on 0 (reported 3 good) ∷ on 0 (answered 3)
    ∷ on 0 (order_of (codes "e.example")) ∷ on 0 (order_of (codes "d.example")) ∷ on 0 (order_of (codes "c.example"))
    ∷ on 0 (order_of (codes "b.example")) ∷ on 0 (order_of (codes "a.example")) ∷ account_desk

-- the statuses of the orders at the clock, by number
abbrev pub order_statuses : History → List OrderStatus
order_statuses F = map (λ o. o.status) (picture F).orders

-- those of the authorizations
abbrev pub authorization_statuses : History → List AuthzStatus
authorization_statuses F = map (λ a. a.status) (picture F).authorizations

-- the desk after it
abbrev pub deactivated_desk : History
deactivated_desk = on 0 (account_ended 1 deactivated) ∷ busy_desk

-- ---- the operator

-- the document of the account, revoked
abbrev pub revoked_account : List ℕ
revoked_account = codes "{\"contact\":[],\"orders\":\"https://ca.example/account/1/orders\",\"status\":\"revoked\"}"

-- the desk after it
abbrev pub revoked_desk : History
revoked_desk = on 0 (account_ended 1 revoked) ∷ busy_desk

-- the authorization of b.example, revoked
abbrev pub revoked_authorization : List ℕ
revoked_authorization =
    codes "{\"challenges\":[{\"status\":\"valid\",\"token\":\"AAAAAAAAAAAAAAAAAAAAAA\",\"type\":\"http-01\",\"url\":\"https://ca.example/chall/3\",\"validated\":\"1970-01-01T00:00:00Z\"}],\"expires\":\"1970-01-31T00:00:00Z\",\"identifier\":{\"type\":\"dns\",\"value\":\"b.example\"},\"status\":\"revoked\"}"

-- the end of an account and what it does to its orders and authorizations
pub record AccountsEnd : Type 0 where
  -- the statuses of the orders while the account is valid
  pub orders_before : order_statuses busy_desk ≡ order.Pending ∷ order.Ready ∷ order.Invalid ∷ order.Processing ∷ order.Valid ∷ []
  -- and of their authorizations
  pub authorizations_before : authorization_statuses busy_desk ≡ authz.Pending ∷ authz.Valid ∷ authz.Invalid ∷ authz.Valid ∷ authz.Valid ∷ []
  -- the orders of an account, by number, without those that are invalid (7.1.2.1)
  pub orders_listed : Reads busy_desk (request (to.Orders 1) [])
      (codes "{\"orders\":[\"https://ca.example/order/1\",\"https://ca.example/order/2\",\"https://ca.example/order/4\",\"https://ca.example/order/5\"]}")
  -- the account is deactivated by its client
  pub account_deactivated : Answers busy_desk (request (to.Account 1) (codes "{\"contact\":1,\"status\":\"deactivated\"}"))
      (shows (codes "{\"contact\":[],\"orders\":\"https://ca.example/account/1/orders\",\"status\":\"deactivated\"}")) (account_ended 1 deactivated ∷ [])
  -- then no order of it goes on, and the valid one stays
  pub orders_after : order_statuses deactivated_desk ≡ order.Invalid ∷ order.Invalid ∷ order.Invalid ∷ order.Invalid ∷ order.Valid ∷ []
  -- its pending and valid authorizations are deactivated
  pub authorizations_after : authorization_statuses deactivated_desk ≡ authz.Deactivated ∷ authz.Deactivated ∷ authz.Invalid ∷ authz.Deactivated
      ∷ authz.Deactivated ∷ []
  -- its next request is refused
  pub next_request : Refuses deactivated_desk (request (to.Order 5) []) 401 unauthorized
  -- newAccount too
  pub next_new_account : Refuses deactivated_desk (request to.NewAccount (codes "{}")) 401 unauthorized
  -- ---- the operator
  -- the operator revokes an account
  pub account_revoked : Notes busy_desk (office.RevokeAccount 1) revoked_account (account_ended 1 revoked)
  -- its authorizations take that end
  pub authorizations_of_revoked : authorization_statuses revoked_desk ≡ authz.Revoked ∷ authz.Revoked ∷ authz.Invalid ∷ authz.Revoked ∷ authz.Revoked ∷ []
  -- again: nothing changes
  pub account_revoked_again : Repeats revoked_desk (office.RevokeAccount 1) revoked_account
  -- an account that its client ended is not revoked
  pub deactivated_is_not_revoked : Turns deactivated_desk (office.RevokeAccount 1) 409 unfit_report
  -- an account that was never opened
  pub unknown_account_revoked : Turns busy_desk (office.RevokeAccount 2) 404 nothing_here
  -- the operator revokes an authorization
  pub authorization_revoked : Notes busy_desk (office.RevokeAuthz 2) revoked_authorization (authorization_ended 2 revoked)
  -- again: nothing changes
  pub authorization_revoked_again : Repeats (on 0 (authorization_ended 2 revoked) ∷ busy_desk) (office.RevokeAuthz 2) revoked_authorization
  -- one that ended otherwise is not revoked
  pub invalid_is_not_revoked : Turns busy_desk (office.RevokeAuthz 3) 409 unfit_report
  -- nor one past its moment
  pub expired_is_not_revoked : Gives busy_desk (asked 2592001 0 (ask.Office (office.RevokeAuthz 1))) (plain 409 (Problem false unfit_report)) []
  -- an authorization that was never made
  pub unknown_authorization_revoked : Turns busy_desk (office.RevokeAuthz 6) 404 nothing_here
