-- The text of each query, and what its parameters are bound to.
use Rattle.std.specs.Prelude.{ℕ, List, [], ◌∷◌, pos}
use Rattle.sqlite.specs.{Order.Row, Values.bound, declared.types.Value.TheVariants.Int, declared.types.Value.TheVariants.Text}
use Rattle.desk_model.specs.Document.{authorization_status_text, order_status_text}
use Rattle.desk_model.specs.declared.status.OrderStatus.TheVariants as order
use Rattle.model_parts.specs.{declared.queries.AccountsWhere.AccountsWhere, declared.queries.AuthorizationsWhere.AuthorizationsWhere}
use Rattle.model_parts.specs.{declared.queries.NoncesWhere.NoncesWhere, declared.queries.OrdersWhere.OrdersWhere}
use Rattle.model_parts.specs.declared.queries.AccountsWhere.TheVariants as accounts_by
use Rattle.model_parts.specs.declared.queries.AuthorizationsWhere.TheVariants as authorizations_by
use Rattle.model_parts.specs.declared.queries.NoncesWhere.TheVariants as nonces_by
use Rattle.model_parts.specs.declared.queries.OrdersWhere.TheVariants as orders_by
use Rattle.sql_schema.specs.declared.accounts.TheConstants as account
use Rattle.sql_schema.specs.declared.authorizations.TheConstants as authz
use Rattle.sql_schema.specs.declared.nonces.TheConstants as nonce
use Rattle.sql_schema.specs.declared.orders.TheConstants as ord
use Rattle.sql_read.specs.{Bounded.bounded, declared.rows.Params.Params, declared.rows.Query.Query}
use Rattle.sql_read.specs.declared.rows.Params.TheVariants as params

-- what parameters are bound to
abbrev pub bound_by : Params → Row
bound_by params.None = bound []
bound_by (params.One value) = bound (value ∷ [])
bound_by (params.Two value other) = bound (value ∷ other ∷ [])

-- what a query asks
abbrev pub asked : Query → List ℕ × Row
asked query = (query.text.now, bound_by query.params)

-- one number
abbrev pub number : ℕ → Row
number n = Int (pos (bounded n)) ∷ []

-- of nonces
abbrev pub nonce_query : NoncesWhere → List ℕ × Row
nonce_query nonces_by.Any = (nonce.SELECT.now, [])
nonce_query (nonces_by.Serial n) = (nonce.SELECT_NUMBERED.now, number n)
nonce_query (nonces_by.IssuedBefore t) = (nonce.SELECT_BEFORE.now, number t)

-- of accounts
abbrev pub account_query : AccountsWhere → List ℕ × Row
account_query accounts_by.Any = (account.SELECT.now, [])
account_query (accounts_by.Number n) = (account.SELECT_NUMBERED.now, number n)
account_query (accounts_by.Key key) = (account.SELECT_WITH_KEY.now, Text key.now ∷ [])

-- of orders
abbrev pub order_query : OrdersWhere → List ℕ × Row
order_query orders_by.Any = (ord.SELECT.now, [])
order_query (orders_by.Number n) = (ord.SELECT_NUMBERED.now, number n)
order_query (orders_by.Past status m) = (ord.SELECT_PAST.now, Text (order_status_text status) ∷ number m)
order_query orders_by.Processing = (ord.SELECT_WITH_STATUS.now, Text (order_status_text order.Processing) ∷ [])

-- of authorizations
abbrev pub authorization_query : AuthorizationsWhere → List ℕ × Row
authorization_query authorizations_by.Any = (authz.SELECT.now, [])
authorization_query (authorizations_by.Number n) = (authz.SELECT_NUMBERED.now, number n)
authorization_query (authorizations_by.Account n) = (authz.SELECT_OF.now, number n)
authorization_query (authorizations_by.Named n base) = (authz.SELECT_NAMED.now, Int (pos (bounded n)) ∷ Text base.now ∷ [])
authorization_query (authorizations_by.Past status m) = (authz.SELECT_PAST.now, Text (authorization_status_text status) ∷ number m)
