-- What an ask names.
use Rattle.std.specs.Prelude.{ℕ, ◌≡◌, List, Bool, option_to_list}
use Rattle.store_api.specs.declared.named.Named.{Named}

-- these numbers are named, and the orders or the authorizations of the account are asked for
pub record Names (accounts orders authorizations challenges : List ℕ) (asks_orders asks_authorizations : Bool) (named : Named) : Type 0 where
  pub account : option_to_list named.account ≡ accounts
  pub order : option_to_list named.order ≡ orders
  pub authorization : option_to_list named.authorization ≡ authorizations
  pub challenge : option_to_list named.challenge ≡ challenges
  pub orders_asked : named.asks_orders ≡ asks_orders
  pub authorizations_asked : named.asks_authorizations ≡ asks_authorizations
