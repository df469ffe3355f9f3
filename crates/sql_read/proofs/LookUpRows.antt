-- What each look-up finds, whether by number, by a column, by a status or above a number.
use Rattle.std.proofs.Common.{◌≡◌, ℕ, [], ◌∷◌, true, map, refl, subst, ◌∙◌, rules}
use Rattle.std.proofs.lemmas.List.{map-id}
use Rattle.std.specs.Prelude.{◌==◌, nat_lt}
use Rattle.sqlite.specs.{Held.Held, Held.state, Store.Ghosts}
use Rattle.store_columns.specs.Flat.{summarized, without_challenges, without_listed}
use Rattle.store_columns.specs.Limits.{IsStoredAccount, IsStoredAuthorization, IsStoredNonce, IsStoredOrder}
use Rattle.desk_model.specs.{Tables.Tables, declared.objects.Nonce.Nonce, declared.rows.AccountRow.AccountRow, declared.rows.AuthorizationRow.AuthorizationRow}
use Rattle.desk_model.specs.declared.rows.OrderRow.{OrderRow}
use Rattle.model_parts.specs.{Above.accounts_above, Above.authorizations_above, LookUps.nonces_where, LookUps.wants_account, LookUps.wants_authorization}
use Rattle.model_parts.specs.{Above.first_of, LookUps.authorizations_where, declared.queries.NoncesWhere.NoncesWhere, declared.queries.OrdersWhere.OrdersWhere}
use Rattle.model_parts.specs.{Above.orders_above, LookUps.orders_of, LookUps.orders_where, LookUps.wants_nonce, LookUps.wants_order}
use Rattle.model_parts.specs.{LookUps.accounts_where, declared.queries.AccountsWhere.AccountsWhere, declared.queries.AuthorizationsWhere.AuthorizationsWhere}
use Rattle.sql_tables.specs.Holds.{Holds}
use Rattle.sql_read.specs.Queries.{account_query, authorization_query, nonce_query, number, order_query}
use Rattle.sql_read.specs.{Bounded.bounded, declared.formats.Format.TheVariants.Second}
use Rattle.store_book.specs.IsBook.{IsStoredBook}
use Rattle.sql_read.proofs.KeptRows.{accounts_kept, authorizations_kept, meta_kept, nonces_kept, orders_kept, summaries_kept}
use Rattle.sql_read.proofs.LookUpReadings.{account_above_reading, account_tests, accounts_asked, authorization_above_reading, authorization_tests}
use Rattle.sql_read.proofs.LookUpReadings.{authorizations_asked, nonce_tests, nonces_asked, order_above_reading, order_tests, orders_asked, summaries_reading}
use Rattle.sql_read.proofs.Tests.{above_bounded, above_test, below_test, number_test, number_text_test, same_bounded, text_below_test, text_test}
use Rattle.sql_read.proofs.TableFacts.{account_facts, authorization_facts, meta_facts, nonce_facts, order_facts, picks, summary_facts}
use Rattle.sql_read.proofs.{FoundRows.FindsIn, FoundRows.finds, Readings.meta_reading}
use Rattle.sql_schema.specs.declared.accounts.TheConstants as account
use Rattle.sql_schema.specs.declared.authorizations.TheConstants as authz
use Rattle.sql_schema.specs.declared.meta.TheConstants as meta
use Rattle.sql_schema.specs.declared.orders.TheConstants as ord

-- ---- SQL's tests are the model's, on rows in their limits

-- of nonces
nonce_agrees : (which : NoncesWhere) (x : Nonce) → IsStoredNonce x → picks nonce_facts (nonce_tests which) (nonce_query which).1 x ≡ wants_nonce which x
nonce_agrees which x h = search (rules, number_test, below_test)

-- of accounts
account_agrees : (which : AccountsWhere) (x : AccountRow) → IsStoredAccount x
    → picks account_facts (account_tests which) (account_query which).1 x ≡ wants_account which x
account_agrees which x h = search (rules, number_test, text_test)

-- of orders
order_agrees : (which : OrdersWhere) (x : OrderRow) → IsStoredOrder (without_listed x)
    → picks order_facts (order_tests which) (order_query which).1 x ≡ wants_order which x
order_agrees which x h = search (rules, number_test, text_below_test, text_test)

-- of authorizations
authorization_agrees : (which : AuthorizationsWhere) (x : AuthorizationRow) → IsStoredAuthorization (without_challenges x)
    → picks authorization_facts (authorization_tests which) (authorization_query which).1 x ≡ wants_authorization which x
authorization_agrees which x h = search (rules, number_test, number_text_test, text_below_test)

module _ {S : Type 0} (g : Ghosts S) (old : Held S) (T : Tables) (has : Holds (state g old).now T) (book : IsStoredBook T) where
  -- ---- queries

  -- the desk's own row
  pub meta_find : FindsIn meta_facts.rows g (meta.SELECT.now, []) old (T.meta ∷ [])
  meta_find = finds meta_facts g (meta_reading Second) (λ _. true) (λ _ _. refl) old T book (T.meta ∷ []) (meta_kept _ T has)

  -- of nonces
  pub nonces_find : (which : NoncesWhere) → FindsIn nonce_facts.rows g (nonce_query which) old (nonces_where T which)
  nonces_find which =
      subst (FindsIn nonce_facts.rows g (nonce_query which) old) (map-id (nonces_where T which))
      (finds nonce_facts g (nonces_asked which) (wants_nonce which) (nonce_agrees which) old T book T.nonces (nonces_kept _ T Second has))

  -- of accounts
  pub accounts_find : (which : AccountsWhere) → FindsIn account_facts.rows g (account_query which) old (accounts_where T which)
  accounts_find which =
      subst (FindsIn account_facts.rows g (account_query which) old) (map-id (accounts_where T which))
      (finds account_facts g (accounts_asked which) (wants_account which) (account_agrees which) old T book T.accounts (accounts_kept _ T Second has))

  -- of orders, without what they list
  pub orders_find : (which : OrdersWhere) → FindsIn order_facts.rows g (order_query which) old (map without_listed (orders_where T which))
  orders_find which =
      finds order_facts g (orders_asked which) (wants_order which) (order_agrees which) old T book T.orders (orders_kept _ T Second has)

  -- of the orders of an account, in summary
  pub summaries_find : (n : ℕ) → FindsIn summary_facts.rows g (ord.SELECT_SUMMARIES_OF.now, number n) old (map summarized (orders_of T n))
  summaries_find n =
      finds summary_facts g (summaries_reading n) (λ x. x.account == n)
      (λ x k. number_test x.account (bounded n) ∙ same_bounded x.account n k.account.1) old T book T.orders (summaries_kept _ T has)

  -- of authorizations, without their challenges
  pub authorizations_find : (which : AuthorizationsWhere)
      → FindsIn authorization_facts.rows g (authorization_query which) old (map without_challenges (authorizations_where T which))
  authorizations_find which =
      finds authorization_facts g (authorizations_asked which) (wants_authorization which)
      (authorization_agrees which) old T book T.authorizations (authorizations_kept _ T Second has)

  -- ---- the first row above a number

  -- an account
  pub account_above_find : (n : ℕ) → FindsIn account_facts.rows g (account.SELECT_ABOVE.now, number n) old (first_of (accounts_above T n))
  account_above_find n =
      subst (FindsIn account_facts.rows g (account.SELECT_ABOVE.now, number n) old) (map-id (first_of (accounts_above T n)))
      (finds account_facts g (account_above_reading n) (λ x. nat_lt n x.number)
      (λ x k. above_test x.number (bounded n) ∙ above_bounded x.number n k.number.1) old T book T.accounts (accounts_kept _ T Second has))

  -- an order, without what it lists
  pub order_above_find : (n : ℕ) → FindsIn order_facts.rows g (ord.SELECT_ABOVE.now, number n) old (map without_listed (first_of (orders_above T n)))
  order_above_find n =
      finds order_facts g (order_above_reading n) (λ x. nat_lt n x.number)
      (λ x k. above_test x.number (bounded n) ∙ above_bounded x.number n k.number.1) old T book T.orders (orders_kept _ T Second has)

  -- an authorization, without its challenges
  pub authorization_above_find : (n : ℕ)
      → FindsIn authorization_facts.rows g (authz.SELECT_ABOVE.now, number n) old (map without_challenges (first_of (authorizations_above T n)))
  authorization_above_find n =
      finds authorization_facts g (authorization_above_reading n) (λ x. nat_lt n x.number)
      (λ x k. above_test x.number (bounded n) ∙ above_bounded x.number n k.number.1) old T book T.authorizations (authorizations_kept _ T Second has)
