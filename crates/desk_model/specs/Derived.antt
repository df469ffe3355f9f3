-- The status that a row ought to have, from its dated columns and the statuses stored beside it.
use Rattle.std.specs.Prelude.{ℕ, ◌==◌, nat_le, List, [], ◌∷◌, ◌++◌, map, Bool, cond, ◌||◌, nat_lt, Option, Some, None, is_some, find}
use Rattle.std.specs.List.{flat_map, list_any, list_all}
use Rattle.desk_model.specs.Authorization.{authorization_status_by, challenge_status_by, is_over, is_valid, is_good}
use Rattle.desk_model.specs.Tables.{Tables, AccountRow, ChallengeRow, AuthorizationRow, OrderRow, Listed}
use Rattle.desk_model.specs.{Lookup.holds, Account.status_of, Order.order_status_by, declared.status.AccountStatus.AccountStatus}
use Rattle.desk_model.specs.{declared.status.OrderStatus.OrderStatus, declared.status.AuthzStatus.AuthzStatus, declared.status.ChallengeStatus.ChallengeStatus}
use Rattle.desk_model.specs.declared.status.AccountStatus.TheVariants as account
use Rattle.desk_model.specs.declared.status.OrderStatus.TheVariants as order
use Rattle.desk_model.specs.declared.status.AuthzStatus.TheVariants as authz
use Rattle.desk_model.specs.declared.status.ChallengeStatus.TheVariants as chall
use Rattle.desk_model.specs.declared.rows.StatusFault.TheVariants as fault
pub use Rattle.desk_model.specs.declared.rows.StatusFault.{StatusFault}

abbrev pub derived_account : AccountRow → AccountStatus
derived_account row = status_of row.ended

abbrev pub derived_challenge : ChallengeRow → ChallengeStatus
derived_challenge row = challenge_status_by row.reported (is_some row.answered)

-- a good report stands on one of its challenges
abbrev pub is_proved : AuthorizationRow → Bool
is_proved row = list_any (λ c. holds (λ r. is_good r.outcome) c.reported) row.challenges

abbrev pub derived_authorization : ℕ → AuthorizationRow → AuthzStatus
derived_authorization t row = authorization_status_by row.ended (nat_lt row.expires t) (is_proved row)

abbrev pub and_status : Option AuthorizationRow → List AuthzStatus → List AuthzStatus
and_status None rest = rest
and_status (Some row) rest = row.status ∷ rest

abbrev pub authorization_numbered : ℕ → List AuthorizationRow → Option AuthorizationRow
authorization_numbered n rows = find (λ a. a.number == n) rows

-- the numbers of the listed authorizations, by their places
abbrev pub numbers_of : List Listed → List ℕ
numbers_of listed = map (λ l. l.authorization) listed

-- the stored statuses of the authorizations of these numbers
abbrev pub stored_statuses : List AuthorizationRow → List ℕ → List AuthzStatus
stored_statuses rows [] = []
stored_statuses rows (n ∷ ns) = and_status (authorization_numbered n rows) (stored_statuses rows ns)

-- an order that lists nothing counts as one whose authorizations are all valid
abbrev pub derived_order : ℕ → List AuthorizationRow → OrderRow → OrderStatus
derived_order t rows row =
    order_status_by
    (is_some row.certified)
    (is_some row.failed || (nat_lt row.expires t || list_any is_over (stored_statuses rows (numbers_of row.listed))))
    (is_some row.finalized)
    (list_all is_valid (stored_statuses rows (numbers_of row.listed)))

-- the rows with the statuses that they ought to have
abbrev pub restated_authorization : ℕ → AuthorizationRow → AuthorizationRow
restated_authorization t row = record row { status = derived_authorization t row }

abbrev pub restated_order : ℕ → List AuthorizationRow → OrderRow → OrderRow
restated_order t rows row = record row { status = derived_order t rows row }

-- ---- status faults: rows whose stored status differs

abbrev pub account_code : AccountStatus → ℕ
account_code status = elim status [ account.Valid ↦ 0 | account.Deactivated ↦ 1 | account.Revoked ↦ 2 ]

abbrev pub order_code : OrderStatus → ℕ
order_code status = elim status [ order.Pending ↦ 0 | order.Ready ↦ 1 | order.Processing ↦ 2 | order.Valid ↦ 3 | order.Invalid ↦ 4 ]

abbrev pub authz_code : AuthzStatus → ℕ
authz_code status =
    elim status [ authz.Pending ↦ 0 | authz.Valid ↦ 1 | authz.Invalid ↦ 2 | authz.Deactivated ↦ 3 | authz.Expired ↦ 4 | authz.Revoked ↦ 5 ]

abbrev pub chall_code : ChallengeStatus → ℕ
chall_code status = elim status [ chall.Pending ↦ 0 | chall.Processing ↦ 1 | chall.Valid ↦ 2 | chall.Invalid ↦ 3 ]

abbrev pub unless : Bool → StatusFault → List StatusFault
unless b f = cond b [] (f ∷ [])

abbrev pub account_faults : AccountRow → List StatusFault
account_faults row = unless (account_code row.status == account_code (derived_account row)) (fault.Account row.number row.status (derived_account row))

abbrev pub order_faults : ℕ → List AuthorizationRow → OrderRow → List StatusFault
order_faults t rows row = unless (order_code row.status == order_code (derived_order t rows row)) (fault.Order row.number row.status (derived_order t rows row))

abbrev pub authorization_faults : ℕ → AuthorizationRow → List StatusFault
authorization_faults t row = unless (authz_code row.status == authz_code (derived_authorization t row))
    (fault.Authz row.number row.status (derived_authorization t row))

abbrev pub challenge_faults : ChallengeRow → List StatusFault
challenge_faults row = unless (chall_code row.status == chall_code (derived_challenge row)) (fault.Chall row.number row.status (derived_challenge row))

-- challenges by number, those of one number in the order of their authorizations
abbrev pub insert_challenge : ChallengeRow → List ChallengeRow → List ChallengeRow
insert_challenge c [] = c ∷ []
insert_challenge c (d ∷ ds) = cond (nat_le c.number d.number) (c ∷ d ∷ ds) (d ∷ insert_challenge c ds)

abbrev pub sorted_challenges : List ChallengeRow → List ChallengeRow
sorted_challenges [] = []
sorted_challenges (c ∷ cs) = insert_challenge c (sorted_challenges cs)

-- by kind, then number
abbrev pub status_faults : Tables → List StatusFault
status_faults T =
    flat_map account_faults T.accounts
    ++ (flat_map (order_faults T.meta.counters.clock T.authorizations) T.orders
    ++ (flat_map (authorization_faults T.meta.counters.clock) T.authorizations
    ++ flat_map challenge_faults (sorted_challenges (flat_map (λ a. a.challenges) T.authorizations))))
