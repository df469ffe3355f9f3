-- Fewer rows than a call touches, which are enough for it: what it names, what falls by the passing of time, and what decides a status that may change.
use Rattle.std.specs.Prelude.{ℕ, ◌≡◌, ◌==◌, ◌&&◌, ◌||◌, not, Bool, true, false, List, [], map, if◌then◌else◌}
use Rattle.std.specs.List.{filter, list_any}
use Rattle.desk_model.specs.Touched.{is_named_account, is_named_authorization, is_named_order, is_own_authorization, is_past_order, is_touched_nonce, lists}
use Rattle.desk_model.specs.{Asked.asks_name, Asked.asks_orders, Derived.restated_authorization, Derived.restated_order, Effect.is_overdue, Effect.swept}
use Rattle.desk_model.specs.{Kept.EachOf, Lookup.holds, Payload.account_change, Rules.nothing, Tables.Tables, declared.call.Ask.Ask}
use Rattle.desk_model.specs.{declared.call.Target.Target, declared.payload.AccountChange.AccountChange, declared.rows.AccountRow.AccountRow}
use Rattle.desk_model.specs.{declared.rows.AuthorizationRow.AuthorizationRow, declared.rows.OrderRow.OrderRow}
use Rattle.model_parts.specs.Thinned.{whole_if}
use Rattle.desk_model.specs.declared.call.Ask.TheVariants as ask
use Rattle.desk_model.specs.declared.call.OfficeAsk.TheVariants as office
use Rattle.desk_model.specs.declared.call.Target.TheVariants as to
use Rattle.desk_model.specs.declared.payload.AccountChange.TheVariants as change

-- ---- what an ask may change, and what it needs of orders

abbrev pub is_end : AccountChange → Bool
is_end change.Deactivate = true
is_end _ = false

-- the account ends, or the authorization is not only read; an answer changes the status of its challenge alone
abbrev pub target_changes_statuses : Target → List ℕ → Bool
target_changes_statuses (to.Account k) payload = holds is_end (account_change payload)
target_changes_statuses (to.Authz k) payload = not (nothing payload)
target_changes_statuses _ payload = false

-- statuses of authorizations may change, and with them those of orders
abbrev pub changes_statuses : Ask → Bool
changes_statuses (ask.Signed s) = target_changes_statuses s.target s.payload
changes_statuses (ask.Office (office.Report k finding)) = true
changes_statuses (ask.Office (office.RevokeAuthz k)) = true
changes_statuses (ask.Office (office.RevokeAccount k)) = true
changes_statuses _ = false

-- the list of an account's orders shows their numbers alone, and a certificate stands in its order
abbrev pub target_needs_listed : Target → Bool
target_needs_listed (to.Orders k) = false
target_needs_listed (to.Cert k) = false
target_needs_listed _ = true

-- with the orders that are named, what they list is needed
abbrev pub needs_listed : Ask → Bool
needs_listed (ask.Signed s) = target_needs_listed s.target
needs_listed _ = true

-- with the authorization that is named its account is needed, but for a report, where the key's thumbprint stands with the answer, and for its end by the
-- operator
abbrev pub needs_holders : Ask → Bool
needs_holders (ask.Office (office.Report k finding)) = false
needs_holders (ask.Office (office.RevokeAuthz k)) = false
needs_holders _ = true

-- ---- rows

-- the authorization that is named, or whose challenge is, and those of an account that ends
abbrev pub is_moved_authorization : Tables → Ask → AuthorizationRow → Bool
is_moved_authorization T a r = is_named_authorization a r || (changes_statuses a && is_own_authorization T a r)

-- an account that is named, or that of such an authorization, where it is needed
abbrev pub is_needed_account : Tables → Ask → AccountRow → Bool
is_needed_account T a x =
    is_named_account a x || (needs_holders a && list_any (λ r. is_moved_authorization T a r && (r.account == x.number)) T.authorizations)

-- an authorization whose status may change
abbrev pub is_restated_authorization : Tables → ℕ → Ask → AuthorizationRow → Bool
is_restated_authorization T m a r = is_overdue m r || (changes_statuses a && is_moved_authorization T a r)

-- an order whose status may change, or that is named: what it lists is needed
abbrev pub is_opened_order : Tables → ℕ → Ask → OrderRow → Bool
is_opened_order T m a o =
    (is_past_order m o || list_any (λ r. is_restated_authorization T m a r && lists o r.number) T.authorizations)
    || (needs_listed a && is_named_order a o)

-- such an order, one that is named, and one of these accounts, where an account's orders are asked for
abbrev pub is_needed_order : Tables → ℕ → Ask → OrderRow → Bool
is_needed_order T m a o =
    is_opened_order T m a o
    || (is_named_order a o || (asks_orders a && list_any (λ x. is_needed_account T a x && (o.account == x.number)) T.accounts))

-- an authorization of these accounts, for a name that a new order asks for
abbrev pub is_wanted_authorization : Tables → Ask → AuthorizationRow → Bool
is_wanted_authorization T a r = asks_name a r.name && list_any (λ x. is_needed_account T a x && (r.account == x.number)) T.accounts

-- what may change, what orders are opened for, and what is named or wanted
abbrev pub is_needed_authorization : Tables → ℕ → Ask → AuthorizationRow → Bool
is_needed_authorization T m a r =
    (is_restated_authorization T m a r || list_any (λ o. is_opened_order T m a o && lists o r.number) T.orders)
    || (is_moved_authorization T a r || is_wanted_authorization T a r)

-- these rows
abbrev pub minimal_rows : Tables → ℕ → Ask → Tables
minimal_rows T m a =
    record {
      meta = T.meta;
      nonces = filter (is_touched_nonce T m a) T.nonces;
      accounts = filter (is_needed_account T a) T.accounts;
      authorizations = filter (is_needed_authorization T m a) T.authorizations;
      orders = filter (is_needed_order T m a) T.orders;
    }

-- ---- what they may lack

-- an order that is opened or named, and so needed whole
abbrev pub is_whole_order : Tables → ℕ → Ask → OrderRow → Bool
is_whole_order T m a o = is_opened_order T m a o || is_named_order a o

-- of one that is only listed with those of its account the summary is enough
abbrev pub as_needed : Tables → ℕ → Ask → OrderRow → OrderRow
as_needed T m a o = whole_if (is_whole_order T m a o) o

-- an authorization that may change, or that is named or wanted, and so needed with its challenges
abbrev pub is_whole_authorization : Tables → ℕ → Ask → AuthorizationRow → Bool
is_whole_authorization T m a r = is_restated_authorization T m a r || (is_moved_authorization T a r || is_wanted_authorization T a r)

-- one that an order only lists is not
abbrev pub authorization_as_needed : Tables → ℕ → Ask → AuthorizationRow → AuthorizationRow
authorization_as_needed T m a r = record r { challenges = if is_whole_authorization T m a r then r.challenges else [] }

-- the rows, as they are needed
abbrev pub needed_rows : Tables → ℕ → Ask → Tables
needed_rows T m a =
    record (minimal_rows T m a) {
      authorizations = map (authorization_as_needed T m a) (filter (is_needed_authorization T m a) T.authorizations);
      orders = map (as_needed T m a) (filter (is_needed_order T m a) T.orders);
    }

-- ---- what is asked of the tables

-- each status of an authorization and of an order is the one that its row's columns give at the moment
pub record IsStated (m : ℕ) (T : Tables) : Type 0 where
  pub authorizations : EachOf (λ r. restated_authorization m r ≡ r) T.authorizations
  pub orders : EachOf (λ o. restated_order m T.authorizations o ≡ o) T.orders

-- for an answer to a challenge, which then changes no order: so it is at the moment
abbrev pub IsStatedTo : Target → ℕ → Tables → Type 0
IsStatedTo (to.Chall k) m T = IsStated m (swept m T)
IsStatedTo _ m T = Unit {0}

abbrev pub IsStatedFor : Ask → ℕ → Tables → Type 0
IsStatedFor (ask.Signed s) m T = IsStatedTo s.target m T
IsStatedFor _ m T = Unit {0}
