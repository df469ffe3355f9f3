-- Two parts of the row of `meta`: what the operator fixes, and what is counted.
use Rattle.std.specs.Prelude.{◌≡◌, pos, IsTrue}
use Rattle.desk_model.specs.{Terms.Terms, Terms.are_terms, declared.rows.Counters.Counters}
use Rattle.store_columns.specs.{Limits.IsCounter, Limits.IsMoment, declared.columns.MetaColumns.MetaColumns}

-- the columns hold this policy
pub record IsPolicy (columns : MetaColumns) (policy : Terms) : Type 0 where
  pub allowed : IsTrue (are_terms policy)
  pub base : columns.base ≡ policy.base
  pub nonce_life : columns.nonce_life ≡ pos policy.nonce_life
  pub order_life : columns.order_life ≡ pos policy.order_life
  pub authz_life : columns.authz_life ≡ pos policy.authz_life

-- the columns hold this clock and these counters
pub record AreCounters (columns : MetaColumns) (counters : Counters) : Type 0 where
  pub clock : (columns.clock ≡ pos counters.clock) × IsMoment counters.clock
  pub nonces : (columns.nonces ≡ pos counters.nonces) × IsCounter counters.nonces
  pub accounts : (columns.accounts ≡ pos counters.accounts) × IsCounter counters.accounts
  pub orders : (columns.orders ≡ pos counters.orders) × IsCounter counters.orders
  pub authorizations : (columns.authzs ≡ pos counters.authorizations) × IsCounter counters.authorizations
  pub challenges : (columns.challs ≡ pos counters.challenges) × IsCounter counters.challenges
