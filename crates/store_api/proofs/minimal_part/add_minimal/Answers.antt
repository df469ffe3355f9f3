use Rattle.std.proofs.Common.{ap, map, ◌∙◌, ◌++◌, []}
use Rattle.model_laws.specs.Placing.{puts}
use Rattle.identifiers.specs.Parsed.{ask_of}
use Rattle.store_api.proofs.MinimalRows.{movable_are, opened_are, restated_are, holders_missing, named_missing}
use Rattle.store_api.proofs.Found.{fails_behind, finds_both, finds_fourth}
use Rattle.store_api.proofs.{Gathered.put_into_none, Lacking.needed_authorizations, Lacking.needed_orders}
use Rattle.std.specs.{List.flat_map, Prelude.if◌then◌else◌, Prelude.not}
use Rattle.desk_model.specs.{Derived.numbers_of, Tables.Tables, declared.objects.Nonce.Nonce, declared.rows.AccountRow.AccountRow}
use Rattle.desk_model.specs.{declared.rows.AuthorizationRow.AuthorizationRow, declared.rows.OrderRow.OrderRow}
use Rattle.store_api.proofs.minimal_part.add_minimal.Goals as goal
use Rattle.store_api.specs.Needing.{lacking, missings, with_named}
use Rattle.model_parts.proofs.MinimalPartLoading.{loaded_minimal}
use Rattle.model_parts.specs.LookUps.{accounts_numbered, bare_authorizations, summaries_of, orders_numbered}
use Rattle.model_parts.specs.MinimalPartLoaded.{moved_authorizations, opened_orders, restated_authorizations}
use Rattle.model_parts.specs.Loaded.{authorizations_asked_of, found_nonces}

pub returns : goal.returns
returns g c =
    finds_fourth c.add_alone.result (finds_both _ c.in_ok-add_nonces.ensures c.in_ok-add_holders.ensures) c.in_ok-add_statuses.ensures
    c.in_ok-add_others.ensures c.add_alone.ensures
    (λ T first statuses others alone ordered same none no_moved.
    let ask = ask_of c.args.ask.now in
    let needs = c.args.needs.now in
    let m = needs.moment in
    let is = c.requires in
    let account = λ (x : AccountRow). x.number in
    let authorization = λ (r : AuthorizationRow). r.number in
    let order = λ (o : OrderRow). o.number in
    let named = ap (with_named T ask) none.accounts ∙ named_missing T ask ordered in
    let movable =
    put_into_none authorization (moved_authorizations T ask) _ _
    (first.1.0 ∙ ap (λ l. puts authorization l c.args.movable.now) (movable_are T m ask needs is _ named)) no_moved in
    let accounts =
    first.1.1
    ∙ (λ i. missings account (accounts_numbered T) (if is.holders i then map (λ (r : AuthorizationRow). r.account) (movable i) else []) (named i))
    ∙ holders_missing T ask ordered in
    let restated =
    statuses.0
    ∙ ap (λ rows. puts authorization rows c.args.rows.now.authorizations) (restated_are T m ask needs is _ movable)
    ∙ ap (puts authorization (restated_authorizations T m ask)) none.authorizations in
    let opens =
    put_into_none order (opened_orders T m ask) _ _
    (statuses.1 ∙ ap (λ l. puts order l c.args.rows.now.orders) (opened_are T m ask needs is _ restated)) none.orders in
    let few = loaded_minimal T m ask ordered in
    record {
      nonces = put_into_none (λ (n : Nonce). n.serial) (found_nonces T m ask) _ _ (first.0 same) none.nonces ∙ ap (λ (B : Tables). B.nonces) few;
      accounts = accounts ∙ ap (λ (B : Tables). B.accounts) few;
      authorizations =
          others
          ∙ (λ i. missings authorization (bare_authorizations T) (flat_map (λ (o : OrderRow). numbers_of o.listed) (opens i))
          (puts authorization (movable i ++ authorizations_asked_of T (is.names i) (accounts i)) (restated i)))
          ∙ needed_authorizations T m ask ordered;
      orders =
          alone
          ∙ (λ i. lacking order (if is.named.orders_asked i then flat_map (λ (x : AccountRow). summaries_of T x.number) (accounts i) else [])
          (puts order (if not (is.listed i) then flat_map (orders_numbered T) (is.named.order i) else []) (opens i)))
          ∙ needed_orders T m ask ordered;
    })

pub returns-in_err-add_statuses : goal.returns-in_err-add_statuses
returns-in_err-add_statuses g c =
    fails_behind _ (finds_both _ c.in_ok-add_nonces.ensures c.in_ok-add_holders.ensures) c.in_err-add_statuses.ensures
    c.from_residual-in_err-add_statuses.ensures.1

pub returns-in_err-add_others : goal.returns-in_err-add_others
returns-in_err-add_others g c =
    fails_behind _ (finds_both _ (finds_both _ c.in_ok-add_nonces.ensures c.in_ok-add_holders.ensures) c.in_ok-add_statuses.ensures)
    c.in_err-add_others.ensures c.from_residual-in_err-add_others.ensures.1
