-- Tables whose rows, policy and clock are the same, and the numbers last given, but for the nonces'.
use Rattle.std.specs.Prelude.{◌≡◌}
use Rattle.desk_model.specs.Tables.{Tables}

-- the tables differ in their nonces at most
pub record SameRows (T U : Tables) : Type 0 where
  pub accounts : T.accounts ≡ U.accounts
  pub authorizations : T.authorizations ≡ U.authorizations
  pub orders : T.orders ≡ U.orders
  pub policy : T.meta.policy ≡ U.meta.policy
  pub clock : T.meta.counters.clock ≡ U.meta.counters.clock
  pub last_accounts : T.meta.counters.accounts ≡ U.meta.counters.accounts
  pub last_orders : T.meta.counters.orders ≡ U.meta.counters.orders
  pub last_authorizations : T.meta.counters.authorizations ≡ U.meta.counters.authorizations
  pub last_challenges : T.meta.counters.challenges ≡ U.meta.counters.challenges
