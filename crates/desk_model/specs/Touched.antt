-- The rows that a call touches: what it names, what falls by the passing of time, and what hangs on these.
use Rattle.std.specs.Prelude.{ℕ, max, ◌==◌, ◌&&◌, ◌||◌, not, nat_lt, Bool, []}
use Rattle.std.specs.List.{filter, list_any}
use Rattle.desk_model.specs.Effect.{is_live_order, is_overdue, lasts}
use Rattle.desk_model.specs.Asked.{carries, has_key, has_new_key, names_account, names_order, names_authorization, names_owner, asks_orders}
use Rattle.desk_model.specs.Asked.{asks_authorizations, asks_name}
use Rattle.desk_model.specs.{Derived.numbers_of, Tables.Tables, declared.rows.AccountRow.AccountRow, declared.rows.AuthorizationRow.AuthorizationRow}
use Rattle.desk_model.specs.{declared.rows.OrderRow.OrderRow, declared.call.Ask.Ask, declared.call.Call.Call, declared.objects.Nonce.Nonce}
use Rattle.desk_model.specs.declared.call.Ask.TheVariants as ask
use Rattle.desk_model.specs.declared.call.OfficeAsk.TheVariants as office

-- the nonce that the request carries, and each past its life
abbrev pub is_touched_nonce : Tables → ℕ → Ask → Nonce → Bool
is_touched_nonce T m a x = carries a x.serial || not (lasts T.meta.policy m x)

-- the account with the request's key, the one with the key that an account is to get, and the one that is named
abbrev pub is_named_account : Ask → AccountRow → Bool
is_named_account a x = has_key a x.key || (has_new_key a x.key || names_account a x.number)

-- the order that is named
abbrev pub is_named_order : Ask → OrderRow → Bool
is_named_order a o = names_order a o.number

-- the authorization that is named, or whose challenge is
abbrev pub is_named_authorization : Ask → AuthorizationRow → Bool
is_named_authorization a r = names_authorization a r.number || names_owner a r

-- an order of one of these accounts, where the orders of an account are asked for
abbrev pub is_own_order : Tables → Ask → OrderRow → Bool
is_own_order T a o = asks_orders a && list_any (λ x. is_named_account a x && (o.account == x.number)) T.accounts

-- an authorization of one of these accounts, where the account may end
abbrev pub is_own_authorization : Tables → Ask → AuthorizationRow → Bool
is_own_authorization T a r = asks_authorizations a && list_any (λ x. is_named_account a x && (r.account == x.number)) T.accounts

-- an authorization of one of these accounts, for a name that a new order asks for: it may be used again
abbrev pub is_asked_authorization : Tables → Ask → AuthorizationRow → Bool
is_asked_authorization T a r = asks_name a r.name && list_any (λ x. is_named_account a x && (r.account == x.number)) T.accounts

-- an order that is not over, past its moment
abbrev pub is_past_order : ℕ → OrderRow → Bool
is_past_order m o = is_live_order o.status && nat_lt o.expires m

-- an authorization of these rules, or one that is pending or valid, past its moment
abbrev pub is_first_authorization : Tables → ℕ → Ask → AuthorizationRow → Bool
is_first_authorization T m a r = is_named_authorization a r || (is_own_authorization T a r || is_overdue m r)

abbrev pub lists : OrderRow → ℕ → Bool
lists o n = list_any (λ j. j == n) (numbers_of o.listed)

-- an order of these rules, or one that lists such an authorization
abbrev pub is_touched_order : Tables → ℕ → Ask → OrderRow → Bool
is_touched_order T m a o =
    (is_named_order a o || (is_own_order T a o || is_past_order m o))
    || list_any (λ r. is_first_authorization T m a r && lists o r.number) T.authorizations

-- an authorization of these rules, one that such an order lists, or one that a new order asks for
abbrev pub is_touched_authorization : Tables → ℕ → Ask → AuthorizationRow → Bool
is_touched_authorization T m a r =
    is_first_authorization T m a r || (list_any (λ o. is_touched_order T m a o && lists o r.number) T.orders || is_asked_authorization T a r)

-- an account of these rules, or that of such an order or authorization
abbrev pub is_touched_account : Tables → ℕ → Ask → AccountRow → Bool
is_touched_account T m a x =
    is_named_account a x
    || (list_any (λ o. is_touched_order T m a o && (o.account == x.number)) T.orders
    || list_any (λ r. is_touched_authorization T m a r && (r.account == x.number)) T.authorizations)

-- these rows; with an authorization go its challenges, with an order the places of its authorizations
abbrev pub touched_rows : Tables → ℕ → Ask → Tables
touched_rows T m a =
    record {
      meta = T.meta;
      nonces = filter (is_touched_nonce T m a) T.nonces;
      accounts = filter (is_touched_account T m a) T.accounts;
      authorizations = filter (is_touched_authorization T m a) T.authorizations;
      orders = filter (is_touched_order T m a) T.orders;
    }

abbrev pub only_meta : Tables → Tables
only_meta T = record { meta = T.meta; nonces = []; accounts = []; authorizations = []; orders = [] }

-- the directory shows no row, and the work lists may show each
abbrev pub touched_at : Tables → ℕ → Ask → Tables
touched_at T m (ask.Office office.Directory) = only_meta T
touched_at T m (ask.Office office.ChallengeWork) = T
touched_at T m (ask.Office office.OrderWork) = T
touched_at T m a = touched_rows T m a

-- at the moment at which the call acts
abbrev pub touched : Tables → Call → Tables
touched T call = touched_at T (max call.at T.meta.counters.clock) call.ask
