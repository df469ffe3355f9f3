use Rattle.std.proofs.Common.{◌≡◌, sym, subst, subst₂, ◌∙◌}
use Rattle.model_laws.specs.Ordered.{Ascends}
use Rattle.desk_model.specs.{declared.objects.Nonce.Nonce, declared.rows.AccountRow.AccountRow, declared.rows.AuthorizationRow.AuthorizationRow}
use Rattle.desk_model.specs.{declared.rows.ChallengeRow.ChallengeRow, declared.rows.Listed.Listed, declared.rows.OrderRow.OrderRow}
use Rattle.store_book.specs.{IsBook.IsBookOf, Joining.joined, Nesting.IsNestOf}
use Rattle.store_book.proofs.InOrder.{authorizations_nest, book, orders_nest, tables_of}
use Rattle.store_book.proofs.stored_book.book_of_rows.Goals as goal

pub table_of-requires : goal.table_of-requires
table_of-requires c = subst (Ascends (λ (n : Nonce). n.serial) 1) (sym c.into_vec.ensures) c.requires.passed.1.nonces.0

pub table_of-requires-2 : goal.table_of-requires-2
table_of-requires-2 c = subst (Ascends (λ (a : AccountRow). a.number) 1) (sym c.into_vec-2.ensures) c.requires.passed.1.accounts.table.0

pub nested_table_of-requires : goal.nested_table_of-requires
nested_table_of-requires c =
    subst (Ascends (λ (a : AuthorizationRow). a.number) 1) (sym c.into_vec-3.ensures) c.requires.passed.1.authorizations.table.0

pub nested_table_of-requires-2 : goal.nested_table_of-requires-2
nested_table_of-requires-2 c = subst (Ascends (λ (o : OrderRow). o.number) 1) (sym c.into_vec-4.ensures) c.requires.passed.1.orders.table.0

pub returns : goal.returns
returns c =
    let meta = c.requires.passed.0 in
    let are = c.requires.passed.1 in
    let stored = c.requires.stored in
    let rows = c.args.rows in
    let T = tables_of meta rows in
    let first : c.in_ok-meta.meta ≡ meta = (let both = sym c.in_ok-meta.ensures ∙ are.metas in cc) in
    let whole = c.in_ok-challenges.ensures ∙ (λ i. joined (c.as_slice.ensures i) (c.as_slice-2.ensures i)) in
    let authorizations = c.in_ok-authorizations.ensures T.authorizations
    (subst₂ (λ ps cs. IsNestOf (λ (a : AuthorizationRow). a.number) (λ a. a.challenges) (λ (a : AuthorizationRow) cs. record a { challenges = cs })
    (λ (c : ChallengeRow). c.number) ps cs T.authorizations) (sym c.into_vec-3.ensures) (sym whole) (authorizations_nest meta rows stored are)) in
    let orders = c.in_ok-orders.ensures T.orders
    (subst₂ (λ ps ls. IsNestOf (λ (o : OrderRow). o.number) (λ o. o.listed) (λ (o : OrderRow) ls. record o { listed = ls })
    (λ (l : Listed). l.place) ps ls T.orders) (sym c.into_vec-4.ensures) (sym c.into_vec-5.ensures) (orders_nest meta rows stored are)) in
    subst (IsBookOf rows) (sym (c.of_tables.ensures ∙ (λ i. record {
      meta = first i;
      nonces = (c.in_ok-nonces.ensures ∙ c.into_vec.ensures) i;
      accounts = (c.in_ok-accounts.ensures ∙ c.into_vec-2.ensures) i;
      authorizations = authorizations i;
      orders = orders i;
    }))) (book meta rows stored are)
