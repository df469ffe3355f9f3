-- What of a row is bound as a number.
use Rattle.store_columns.specs.declared.columns.{AccountColumns.AccountColumns, AuthzColumns.AuthzColumns, ChallColumns.ChallColumns, MetaColumns.MetaColumns}
use Rattle.store_columns.specs.declared.columns.{OrderColumns.OrderColumns}
use Rattle.sql_write.specs.declared.{accounts.AccountNumbers.AccountNumbers, authorizations.AuthorizationNumbers.AuthorizationNumbers}
use Rattle.sql_write.specs.declared.{authorizations.ChallengeNumbers.ChallengeNumbers, meta.MetaNumbers.MetaNumbers, orders.OrderNumbers.OrderNumbers}

-- the numbers of the row of `meta` with these columns
abbrev pub meta_numbers : MetaColumns → MetaNumbers
meta_numbers c =
    record {
      nonce_life = c.nonce_life;
      order_life = c.order_life;
      authz_life = c.authz_life;
      clock = c.clock;
      nonces = c.nonces;
      accounts = c.accounts;
      orders = c.orders;
      authzs = c.authzs;
      challs = c.challs;
    }

-- the numbers and dates of an account
abbrev pub account_numbers : AccountColumns → AccountNumbers
account_numbers c = record { number = c.num; opened = c.opened; ended = c.ended }

-- of an order
abbrev pub order_numbers : OrderColumns → OrderNumbers
order_numbers c =
    record { number = c.num; account = c.account; made = c.made; expires = c.expires; finalized = c.finalized; certified = c.certified; failed = c.failed }

-- of an authorization
abbrev pub authorization_numbers : AuthzColumns → AuthorizationNumbers
authorization_numbers c = record { number = c.num; account = c.account; made = c.made; expires = c.expires; ended = c.ended }

-- of a challenge
abbrev pub challenge_numbers : ChallColumns → ChallengeNumbers
challenge_numbers c = record { number = c.num; authorization = c.authz; answered = c.answered; reported = c.reported }
