-- What a decision asks of the tables.
use Rattle.std.specs.Prelude.{ℕ, ◌+◌, ◌==◌, ◌&&◌, nat_le, List, Bool, Option, find, bytes_eq}
use Rattle.desk_model.specs.Tables.{Tables, AccountRow, ChallengeRow, AuthorizationRow, OrderRow}
use Rattle.desk_model.specs.{Authorization.is_valid, Nonce.Nonce, Effect.has_row, Name.Name, Name.same_name}

abbrev pub nonce_on : Tables → ℕ → Option Nonce
nonce_on T serial = find (λ n. n.serial == serial) T.nonces

abbrev pub account_on : Tables → ℕ → Option AccountRow
account_on T n = find (λ a. a.number == n) T.accounts

abbrev pub account_with_key : Tables → List ℕ → Option AccountRow
account_with_key T key = find (λ a. bytes_eq a.key key) T.accounts

abbrev pub order_on : Tables → ℕ → Option OrderRow
order_on T n = find (λ o. o.number == n) T.orders

abbrev pub authorization_on : Tables → ℕ → Option AuthorizationRow
authorization_on T n = find (λ a. a.number == n) T.authorizations

-- the authorization that a challenge is of
abbrev pub owner_on : Tables → ℕ → Option AuthorizationRow
owner_on T challenge = find (has_row challenge) T.authorizations

-- when an order expires that is made at the moment of the tables
abbrev pub order_end : Tables → ℕ
order_end T = T.meta.counters.clock + T.meta.policy.order_life

-- an authorization of the account for the name that is valid and does not expire before this moment
abbrev pub serves : (account : ℕ) → Name → (expires : ℕ) → AuthorizationRow → Bool
serves account name expires row = is_valid row.status && ((row.account == account) && (same_name row.name name && nat_le expires row.expires))

-- the authorization that an order of the account, made now, uses again for the name (RFC 8555, 7.4): the one of the least number
abbrev pub serving_on : Tables → (account : ℕ) → Name → Option AuthorizationRow
serving_on T account name = find (serves account name (order_end T)) T.authorizations

abbrev pub challenge_of : ℕ → AuthorizationRow → Option ChallengeRow
challenge_of n a = find (λ c. n == c.number) a.challenges
