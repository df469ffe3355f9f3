-- What a book's rows are to the checks of its tables, behind those before them.
use Rattle.std.proofs.Common.{◌≡◌, ℕ, List, [], ◌∷◌, map, refl, sym, subst₂, rules}
use Rattle.store_columns.specs.declared.columns.FlatRows.{FlatRows}
use Rattle.model_laws.specs.Ordered.{Ascends}
use Rattle.model_laws.proofs.RowLists.{ascends_map}
use Rattle.desk_model.specs.declared.rows.{Counters.Counters, Meta.Meta}
use Rattle.store_book.specs.BookRows.{AreAuthorizations, AreBookRows, AreChallenges, AreOrders, Rise}
use Rattle.store_book.specs.{ByKey.AreByKey, Passing.ArePlaced, Passing.IsOnlyRow}

-- the counters that were kept of the one row are the book's
pub counters_kept : (kept : Counters) (rows : List Meta) (meta : Meta) → IsOnlyRow kept rows → rows ≡ meta ∷ [] → kept ≡ meta.counters
counters_kept kept rows meta is are = search rules

-- the numbers of rows that ascend rise
rise : {X : Type 0} (number : X → ℕ) (xs : List X) → Ascends number 1 xs → Rise (map number xs)
rise number xs up = ascends_map number (λ n. n) number (λ x. refl) 1 xs up

module _ {meta : Meta} {rows : FlatRows} (are : AreBookRows meta rows) where
  -- the orders, of the accounts that were kept
  pub all_orders : (n : ℕ) (owners : List ℕ) → n ≡ meta.counters.orders → owners ≡ map (λ a. a.number) rows.accounts
      → Rise owners × AreOrders n owners rows.orders
  all_orders n owners counted kept =
      subst₂ (λ n l. Rise l × AreOrders n l rows.orders) (sym counted) (sym kept) (rise (λ a. a.number) rows.accounts are.accounts.table.0, are.orders)

  -- the authorizations
  pub all_authorizations : (n : ℕ) (owners : List ℕ) → n ≡ meta.counters.authorizations → owners ≡ map (λ a. a.number) rows.accounts
      → Rise owners × AreAuthorizations n owners rows.authorizations
  all_authorizations n owners counted kept =
      subst₂ (λ n l. Rise l × AreAuthorizations n l rows.authorizations) (sym counted) (sym kept)
      (rise (λ a. a.number) rows.accounts are.accounts.table.0, are.authorizations)

  -- what the orders list
  pub all_listed : (by_key : AreByKey rows) (order place : ℕ) (orders authorizations : List ℕ) → order ≡ 0 → place ≡ 0
      → orders ≡ map (λ o. o.number) rows.orders
      → authorizations ≡ map (λ a. a.number) rows.authorizations → ArePlaced order place orders authorizations rows.listed
  all_listed by_key order place orders authorizations zero none kept held =
      let placed : ArePlaced 0 0 (map (λ o. o.number) rows.orders) (map (λ a. a.number) rows.authorizations) rows.listed =
      record {
        orders_rise = rise (λ o. o.number) rows.orders are.orders.table.0;
        authorizations_rise = rise (λ a. a.number) rows.authorizations are.authorizations.table.0;
        placed = by_key.listed;
        listed = are.listed;
      } in
      subst₂ (λ o p. ArePlaced o p orders authorizations rows.listed) (sym zero) (sym none)
      (subst₂ (λ os bs. ArePlaced 0 0 os bs rows.listed) (sym kept) (sym held) placed)

  -- the challenges
  pub all_challenges : (n : ℕ) (owners : List ℕ) → n ≡ meta.counters.challenges → owners ≡ map (λ a. a.number) rows.authorizations
      → Rise owners × AreChallenges n owners rows.challenges
  all_challenges n owners counted kept =
      subst₂ (λ n l. Rise l × AreChallenges n l rows.challenges) (sym counted) (sym kept)
      (rise (λ a. a.number) rows.authorizations are.authorizations.table.0, are.challenges)
