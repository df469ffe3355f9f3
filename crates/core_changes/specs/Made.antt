-- The rows that a new account and a new order bring.
use Rattle.std.specs.Prelude.{ℕ, ◌+◌, ◌≡◌, List, length, map, None, true}
use Rattle.model_laws.specs.Reused.{OfReused}
use Rattle.desk_model.specs.Authorization.{count_challenges, is_valid, made_for}
use Rattle.desk_model.specs.{Derived.authorization_numbered, Derived.restated_authorization, Effect.fresh_authorization, Effect.fresh_order, Kept.EachOf}
use Rattle.desk_model.specs.{Lookup.holds, Terms.Terms, Order.listed_by, Order.made_status, declared.objects.Authorization.Authorization}
use Rattle.desk_model.specs.{declared.objects.Order.Order, declared.rows.AuthorizationRow.AuthorizationRow, declared.rows.AccountRow.AccountRow}
use Rattle.desk_model.specs.{declared.rows.Counters.Counters, declared.rows.OrderRow.OrderRow, declared.entry.Wanted.Wanted}
use Rattle.desk_model.specs.declared.status.AccountStatus.TheVariants as account

-- the row of the next account
abbrev pub next_account : Counters → List ℕ → List (List ℕ) → AccountRow
next_account C key contacts = record { number = C.accounts + 1; key = key; contacts = contacts; opened = C.clock; ended = None; status = account.Valid }

-- an authorization that is made at m
abbrev pub made_row : ℕ → Authorization → AuthorizationRow
made_row m a = restated_authorization m (fresh_authorization a)

abbrev pub made_rows : ℕ → List Authorization → List AuthorizationRow
made_rows m made = map (λ a. made_row m a) made

-- what is made next for these names, by the policy and the counters
abbrev pub next_authorizations : Terms → Counters → ℕ → List Wanted → List Authorization
next_authorizations P C account wanted = made_for account C.clock (C.clock + P.authz_life) wanted (C.authorizations + 1) (C.challenges + 1)

-- the rows of the next order and of its authorizations
abbrev pub next_rows : Terms → Counters → ℕ → List Wanted → List AuthorizationRow
next_rows P C account wanted = made_rows C.clock (next_authorizations P C account wanted)

-- an order that is made next; the authorizations made with it are numbered from `first`
abbrev pub made_order : Terms → Counters → ℕ → List Wanted → (first : ℕ) → OrderRow
made_order P C account wanted first =
    let o : Order =
    record { number = C.orders + 1; account = account; made = C.clock; expires = C.clock + P.order_life; authorizations = listed_by wanted first } in
    record (fresh_order o) { status = made_status wanted }

abbrev pub next_order : Terms → Counters → ℕ → List Wanted → OrderRow
next_order P C account wanted = made_order P C account wanted (C.authorizations + 1)

-- the authorizations that the names use again are valid in these rows
abbrev pub AreReusable : List AuthorizationRow → List Wanted → Type 0
AreReusable rows wanted = EachOf (OfReused (λ n. holds (λ r. is_valid r.status) (authorization_numbered n rows) ≡ true)) wanted

-- the counters after it
abbrev pub ordered_counters : Terms → Counters → ℕ → List Wanted → Counters
ordered_counters P C account wanted =
    record C {
      orders = C.orders + 1;
      authorizations = C.authorizations + length (next_authorizations P C account wanted);
      challenges = C.challenges + count_challenges (next_authorizations P C account wanted);
    }
