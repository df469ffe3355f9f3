use Rattle.std.proofs.Common.{◌≡◌, ℕ, List, [], ◌∷◌, map, refl, ap, ◌∙◌, rules}
use Rattle.std.proofs.lemmas.Result.{err_from_is_err_and}
use Rattle.model_laws.proofs.RowLists.{ascends_map}
use Rattle.model_laws.specs.Ordered.{Ascends}
use Rattle.desk_model.specs.declared.rows.{AccountRow.AccountRow, AuthorizationRow.AuthorizationRow, Counters.Counters, Meta.Meta, OrderRow.OrderRow}
use Rattle.store_book.specs.{BookRows.AreAuthorizations, BookRows.AreChallenges, BookRows.AreOrders, BookRows.Rise, Passing.ArePlaced, Passing.IsOnlyRow}
use Rattle.store_book.proofs.checking.check_tables.Goals as goal

-- the counters that were kept of the one row are the book's
counters_kept : (kept : Counters) (rows : List Meta) (meta : Meta) → IsOnlyRow kept rows → rows ≡ meta ∷ [] → kept ≡ meta.counters
counters_kept kept rows meta is are = search rules

-- numbers that ascend rise
rises : {X : Type 0} (number : X → ℕ) (xs : List X) → Ascends number 1 xs → Rise (map number xs)
rises number xs up = ascends_map number (λ n. n) number (λ x. refl) 1 xs up

-- what holds of these holds of their equals
same_three : {A B C : Type 0} (P : A → B → C → Type 0) {a d : A} {b e : B} {x y : C} → a ≡ d → b ≡ e → x ≡ y → P d e y → P a b x
same_three P p q r h = rw (p, q, r) h

pub returns-in_err-orders : goal.returns-in_err-orders
returns-in_err-orders c =
    let p = err_from_is_err_and c.from_residual-in_err-orders.result c.from_residual-in_err-orders.ensures.1 in
    rw (p.1, p.2) (λ e meta are.
    let last = counters_kept c.in_ok-last.last c.as_slice.result.now meta c.in_ok-last.ensures (c.as_slice.ensures ∙ are.metas) in
    c.in_err-orders.ensures e (same_three (λ n owners rows. Rise owners × AreOrders n owners rows)
    (ap (λ k. k.last) c.new-check-3.ensures.counter ∙ ap (λ k. k.orders) last)
    (c.new-check-3.ensures.owners ∙ c.in_ok-accounts.ensures.1 ∙ ap (map (λ a. a.number)) c.as_slice-3.ensures) c.as_slice-4.ensures
    (rises (λ (a : AccountRow). a.number) c.args.rows.now.accounts are.accounts.table.0, are.orders)))

pub returns-in_err-authzs : goal.returns-in_err-authzs
returns-in_err-authzs c =
    let p = err_from_is_err_and c.from_residual-in_err-authzs.result c.from_residual-in_err-authzs.ensures.1 in
    rw (p.1, p.2) (λ e meta are.
    let last = counters_kept c.in_ok-last.last c.as_slice.result.now meta c.in_ok-last.ensures (c.as_slice.ensures ∙ are.metas) in
    c.in_err-authzs.ensures e (same_three (λ n owners rows. Rise owners × AreAuthorizations n owners rows)
    (ap (λ k. k.last) c.new-check-4.ensures.counter ∙ ap (λ k. k.authorizations) last)
    (c.new-check-4.ensures.owners ∙ c.in_ok-accounts.ensures.1 ∙ ap (map (λ a. a.number)) c.as_slice-3.ensures) c.as_slice-5.ensures
    (rises (λ (a : AccountRow). a.number) c.args.rows.now.accounts are.accounts.table.0, are.authorizations)))

pub returns-in_err-check_rows-2 : goal.returns-in_err-check_rows-2
returns-in_err-check_rows-2 c =
    let p = err_from_is_err_and c.from_residual-in_err-check_rows-2.result c.from_residual-in_err-check_rows-2.ensures.1 in
    rw (p.1, p.2) (λ e meta are.
    c.in_err-check_rows-2.ensures e (rw (c.new-check-5.ensures.order, c.new-check-5.ensures.place)
    (same_three (ArePlaced 0 0)
    (c.new-check-5.ensures.orders ∙ c.in_ok-orders.ensures.1 ∙ ap (map (λ o. o.number)) c.as_slice-4.ensures)
    (c.new-check-5.ensures.authorizations ∙ c.in_ok-authzs.ensures.1 ∙ ap (map (λ a. a.number)) c.as_slice-5.ensures) c.as_slice-6.ensures
    (record {
      orders_rise = rises (λ (o : OrderRow). o.number) c.args.rows.now.orders are.orders.table.0;
      authorizations_rise = rises (λ (a : AuthorizationRow). a.number) c.args.rows.now.authorizations are.authorizations.table.0;
      placed = c.requires;
      listed = are.listed;
    }))))

pub returns-in_err-answered : goal.returns-in_err-answered
returns-in_err-answered c =
    let p = err_from_is_err_and c.from_residual-in_err-answered.result c.from_residual-in_err-answered.ensures.1 in
    rw (p.1, p.2) (λ e meta are.
    let last = counters_kept c.in_ok-last.last c.as_slice.result.now meta c.in_ok-last.ensures (c.as_slice.ensures ∙ are.metas) in
    c.in_err-answered.ensures e (same_three (λ n owners rows. Rise owners × AreChallenges n owners rows)
    (ap (λ k. k.last) c.new-check-6.ensures.counter ∙ ap (λ k. k.challenges) last)
    (c.new-check-6.ensures.authorizations ∙ c.in_ok-authzs.ensures.1 ∙ ap (map (λ a. a.number)) c.as_slice-5.ensures) c.as_slice-7.ensures
    (rises (λ (a : AuthorizationRow). a.number) c.args.rows.now.authorizations are.authorizations.table.0, are.challenges)))
