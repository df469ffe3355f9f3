use Rattle.std.proofs.Common.{◌≡◌, ℕ, true, filter, List, [], ◌∷◌, ap, refl, rules}
use Rattle.model_laws.specs.{Ordered.Ascends, Placing.puts}
use Rattle.model_laws.proofs.RowLists.{puts_ascending}
use Rattle.store_api.proofs.Found.{fails_behind, finds_as, finds_fourth, finds_put, finds_then}
use Rattle.store_api.proofs.all_rows.add_all_rows.Goals as goal
use Rattle.desk_model.specs.declared.{objects.Nonce.Nonce, rows.AccountRow.AccountRow, rows.AuthorizationRow.AuthorizationRow, rows.OrderRow.OrderRow}
use Rattle.model_parts.specs.LookUps.{accounts_where, authorizations_where, nonces_where, orders_where}
use Rattle.model_parts.specs.declared.queries.AccountsWhere.TheVariants as accounts
use Rattle.model_parts.specs.declared.queries.AuthorizationsWhere.TheVariants as authorizations
use Rattle.model_parts.specs.declared.queries.NoncesWhere.TheVariants as nonces
use Rattle.model_parts.specs.declared.queries.OrdersWhere.TheVariants as orders

-- a test that each row passes leaves all of them
all_pass : {X : Type 0} (xs : List X) → filter (λ x. true) xs ≡ xs
all_pass [] = refl
all_pass (x ∷ xs) = ap (λ l. x ∷ l) (all_pass xs)

-- the rows of a table that are put into an empty one are the table
all_put : {X : Type 0} (number : X → ℕ) (xs rows later : List X) → Ascends number 1 xs → later ≡ puts number (filter (λ x. true) xs) rows → rows ≡ [] →
    later ≡ xs
all_put number xs rows later ascends put_now none = search (rules, all_pass, puts_ascending)

pub returns : goal.returns
returns g c =
    let nonces = finds_as c.in_ok-add_found.was (finds_put (λ (n : Nonce). n.serial) (λ rows. rows.items) (λ T. nonces_where T nonces.Any) _ _
    c.find_nonces.ensures c.add_found.ensures.put c.add_found.ensures.lacks c.add_found.ensures.fails) in
    let accounts = finds_as c.in_ok-add_found-2.was (finds_put (λ (x : AccountRow). x.number) (λ rows. rows.items) (λ T. accounts_where T accounts.Any) _ _
    c.find_accounts.ensures c.add_found-2.ensures.put c.add_found-2.ensures.lacks c.add_found-2.ensures.fails) in
    let authorizations = finds_as c.in_ok-add_found-3.was (finds_put (λ (a : AuthorizationRow). a.number) (λ rows. rows.items)
    (λ T. authorizations_where T authorizations.Any) _ _
    c.find_authorizations.ensures c.add_found-3.ensures.put c.add_found-3.ensures.lacks c.add_found-3.ensures.fails) in
    let orders = finds_put (λ (o : OrderRow). o.number) (λ rows. rows.items) (λ T. orders_where T orders.Any) _ _ c.find_orders.ensures
    c.add_found-4.ensures.put c.add_found-4.ensures.lacks c.add_found-4.ensures.fails in
    finds_fourth c.add_found-4.result nonces accounts authorizations orders (λ T nonces accounts authorizations orders ordered none. record {
      nonces = all_put (λ (n : Nonce). n.serial) _ _ _ ordered.nonces.0 nonces none.nonces;
      accounts = all_put (λ (x : AccountRow). x.number) _ _ _ ordered.accounts.0 accounts none.accounts;
      authorizations = all_put (λ (a : AuthorizationRow). a.number) _ _ _ ordered.authorizations.0 authorizations none.authorizations;
      orders = all_put (λ (o : OrderRow). o.number) _ _ _ ordered.orders.0 orders none.orders;
    })

pub returns-in_err-add_found-2 : goal.returns-in_err-add_found-2
returns-in_err-add_found-2 g c = fails_behind _ (finds_as c.in_ok-add_found.was
    (finds_put (λ (n : Nonce). n.serial) (λ rows. rows.items) (λ T. nonces_where T nonces.Any) _ _ c.find_nonces.ensures c.add_found.ensures.put
    c.add_found.ensures.lacks c.add_found.ensures.fails)) (finds_as c.in_err-add_found-2.was
    (finds_put (λ (x : AccountRow). x.number) (λ rows. rows.items) (λ T. accounts_where T accounts.Any) _ _ c.find_accounts.ensures c.add_found-2.ensures.put
    c.add_found-2.ensures.lacks c.add_found-2.ensures.fails))
    c.from_residual-in_err-add_found-2.ensures.1

pub returns-in_err-add_found-3 : goal.returns-in_err-add_found-3
returns-in_err-add_found-3 g c = fails_behind _ (finds_then _ (finds_as c.in_ok-add_found.was
    (finds_put (λ (n : Nonce). n.serial) (λ rows. rows.items) (λ T. nonces_where T nonces.Any) _ _ c.find_nonces.ensures c.add_found.ensures.put
    c.add_found.ensures.lacks c.add_found.ensures.fails)) (finds_as c.in_ok-add_found-2.was
    (finds_put (λ (x : AccountRow). x.number) (λ rows. rows.items) (λ T. accounts_where T accounts.Any) _ _ c.find_accounts.ensures c.add_found-2.ensures.put
    c.add_found-2.ensures.lacks c.add_found-2.ensures.fails))
    (λ T first second. second)) (finds_as c.in_err-add_found-3.was
    (finds_put (λ (a : AuthorizationRow). a.number) (λ rows. rows.items) (λ T. authorizations_where T authorizations.Any) _ _ c.find_authorizations.ensures
    c.add_found-3.ensures.put c.add_found-3.ensures.lacks c.add_found-3.ensures.fails))
    c.from_residual-in_err-add_found-3.ensures.1
