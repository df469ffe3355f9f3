-- What the look-ups mean: one statement each, with as many parameters as are given, that compares no values of other kinds.
use Rattle.std.proofs.Common.{ℕ, List, [], ◌∷◌, refl}
use Rattle.sqlite.specs.{Listing.understood, Order.Row, declared.types.Value.TheVariants.Text}
use Rattle.sqlite_value.specs.declared.keys.Collation.TheVariants.{Binary}
use Rattle.sqlite_sql.specs.{declared.ops.BinaryOp.TheVariants.Compare, declared.ops.CompareOp.TheVariants.Eq, declared.ops.CompareOp.TheVariants.Gt}
use Rattle.sqlite_sql.specs.{declared.ops.CompareOp.TheVariants.Lt, Term.Term, Term.col, Term.op2}
use Rattle.sqlite_tied.specs.Compute.{everything}
use Rattle.desk_model.specs.Document.{authorization_status_text, challenge_status_text, order_status_text}
use Rattle.desk_model.specs.{declared.status.AuthzStatus.AuthzStatus, declared.status.OrderStatus.OrderStatus}
use Rattle.desk_model.specs.declared.status.ChallengeStatus.TheVariants as challenge
use Rattle.desk_model.specs.declared.status.OrderStatus.TheVariants as order
use Rattle.model_parts.specs.{declared.queries.AccountsWhere.AccountsWhere, declared.queries.AuthorizationsWhere.AuthorizationsWhere}
use Rattle.model_parts.specs.{declared.queries.NoncesWhere.NoncesWhere, declared.queries.OrdersWhere.OrdersWhere}
use Rattle.model_parts.specs.declared.queries.AccountsWhere.TheVariants as accounts_by
use Rattle.model_parts.specs.declared.queries.AuthorizationsWhere.TheVariants as authorizations_by
use Rattle.model_parts.specs.declared.queries.NoncesWhere.TheVariants as nonces_by
use Rattle.model_parts.specs.declared.queries.OrdersWhere.TheVariants as orders_by
use Rattle.sql_schema.specs.Schema.{desk_schema}
use Rattle.sql_schema.specs.declared.accounts.TheConstants as account
use Rattle.sql_schema.specs.declared.authorizations.TheConstants as authz
use Rattle.sql_schema.specs.declared.challenges.TheConstants as chall
use Rattle.sql_schema.specs.declared.nonces.TheConstants as nonce
use Rattle.sql_schema.specs.declared.orders.TheConstants as ord
use Rattle.sql_schema.specs.declared.listed.TheConstants as ord_authz
use Rattle.sql_read.specs.Queries.{account_query, authorization_query, nonce_query, number, order_query}
use Rattle.sql_read.specs.declared.formats.Format.TheVariants.{Second}
use Rattle.sql_read.proofs.Answered.{IsReading, IsReadingFrom, all_rows, by, first_row}
use Rattle.sql_read.proofs.JoinParts.{beside_from, beside_project, beside_tests, by_other, join_from, join_tests, joined_project, keyed_from, keyed_project}
use Rattle.sql_read.proofs.JoinParts.{listing_from, listing_project, listing_tests}
use Rattle.sql_read.proofs.PlaceParts.{place_from, place_order, place_project, place_tests}
use Rattle.sql_read.proofs.Readings.{accounts_reading, authorizations_reading, nonces_reading, orders_reading}
use Rattle.sql_read.proofs.TableColumns.{authorization_status_at, listed_project, order_status_at}
use Rattle.sql_read.proofs.TableFacts.{IsReadingOf, account_facts, authorization_facts, nonce_facts, order_facts, summary_facts}

-- ---- tests, and what they are given

-- a column is the first parameter
abbrev pub is_equal : ℕ → List Term
is_equal place = op2 (Compare Eq Binary) (col 1 place) (col 0 0) ∷ []

-- a column is below the first parameter
abbrev pub is_lower : ℕ → List Term
is_lower place = op2 (Compare Lt Binary) (col 1 place) (col 0 0) ∷ []

-- the number is above the first parameter
abbrev pub is_higher : List Term
is_higher = op2 (Compare Gt Binary) (col 1 0) (col 0 0) ∷ []

-- one column is the first parameter, and another is below the second
abbrev pub past : ℕ → ℕ → List Term
past status end = op2 (Compare Eq Binary) (col 1 status) (col 0 0) ∷ op2 (Compare Lt Binary) (col 1 end) (col 0 1) ∷ []

-- one column is the first parameter, and another is the second
abbrev pub are_equal : ℕ → ℕ → List Term
are_equal one other = op2 (Compare Eq Binary) (col 1 one) (col 0 0) ∷ op2 (Compare Eq Binary) (col 1 other) (col 0 1) ∷ []

-- a text
abbrev pub text : List ℕ → Row
text t = Text t ∷ []

-- ---- queries

-- how a query tests nonces
abbrev pub nonce_tests : NoncesWhere → List Term
nonce_tests nonces_by.Any = []
nonce_tests (nonces_by.Serial n) = is_equal 0
nonce_tests (nonces_by.IssuedBefore t) = is_lower 3

-- what each query of nonces means
pub nonces_asked : (which : NoncesWhere) → IsReadingOf nonce_facts desk_schema all_rows (nonce_query which).0 (nonce_tests which) (nonce_query which).1
unfolding understood everything
nonces_asked nonces_by.Any = nonces_reading Second
nonces_asked (nonces_by.Serial n) = record { names = _; means = refl; selecting = refl; sizes = refl; typed = refl }
nonces_asked (nonces_by.IssuedBefore t) = record { names = _; means = refl; selecting = refl; sizes = refl; typed = refl }

-- accounts
abbrev pub account_tests : AccountsWhere → List Term
account_tests accounts_by.Any = []
account_tests (accounts_by.Number n) = is_equal 0
account_tests (accounts_by.Key key) = is_equal 2

-- what each query of accounts means
pub accounts_asked : (which : AccountsWhere)
    → IsReadingOf account_facts desk_schema all_rows (account_query which).0 (account_tests which) (account_query which).1
unfolding understood everything
accounts_asked accounts_by.Any = accounts_reading Second
accounts_asked (accounts_by.Number n) = record { names = _; means = refl; selecting = refl; sizes = refl; typed = refl }
accounts_asked (accounts_by.Key key) = record { names = _; means = refl; selecting = refl; sizes = refl; typed = refl }

-- orders
abbrev pub order_tests : OrdersWhere → List Term
order_tests orders_by.Any = []
order_tests (orders_by.Number n) = is_equal 0
order_tests (orders_by.Past status m) = past order_status_at 4
order_tests orders_by.Processing = is_equal order_status_at

-- what each query of orders means
pub orders_asked : (which : OrdersWhere) → IsReadingOf order_facts desk_schema all_rows (order_query which).0 (order_tests which) (order_query which).1
unfolding understood everything
orders_asked orders_by.Any = orders_reading Second
orders_asked (orders_by.Number n) = record { names = _; means = refl; selecting = refl; sizes = refl; typed = refl }
orders_asked (orders_by.Past status m) = record { names = _; means = refl; selecting = refl; sizes = refl; typed = refl }
orders_asked orders_by.Processing = record { names = _; means = refl; selecting = refl; sizes = refl; typed = refl }

-- the orders of an account, in summary
pub summaries_reading : (n : ℕ) → IsReadingOf summary_facts desk_schema all_rows ord.SELECT_SUMMARIES_OF.now (is_equal 2) (number n)
unfolding understood everything
summaries_reading n = record { names = _; means = refl; selecting = refl; sizes = refl; typed = refl }

-- authorizations
abbrev pub authorization_tests : AuthorizationsWhere → List Term
authorization_tests authorizations_by.Any = []
authorization_tests (authorizations_by.Number n) = is_equal 0
authorization_tests (authorizations_by.Account n) = is_equal 2
authorization_tests (authorizations_by.Named n base) = are_equal 2 3
authorization_tests (authorizations_by.Past status m) = past authorization_status_at 6

-- what each query of authorizations means
pub authorizations_asked : (which : AuthorizationsWhere)
    → IsReadingOf authorization_facts desk_schema all_rows (authorization_query which).0 (authorization_tests which) (authorization_query which).1
unfolding understood everything
authorizations_asked authorizations_by.Any = authorizations_reading Second
authorizations_asked (authorizations_by.Number n) = record { names = _; means = refl; selecting = refl; sizes = refl; typed = refl }
authorizations_asked (authorizations_by.Account n) = record { names = _; means = refl; selecting = refl; sizes = refl; typed = refl }
authorizations_asked (authorizations_by.Named n base) = record { names = _; means = refl; selecting = refl; sizes = refl; typed = refl }
authorizations_asked (authorizations_by.Past status m) = record { names = _; means = refl; selecting = refl; sizes = refl; typed = refl }

-- ---- rows that belong to others

-- what an order lists
pub listed_by_reading : (n : ℕ)
    → IsReading desk_schema all_rows ord_authz.SELECT_OF.now 6 (is_equal 1) listed_project (by 1 ∷ by 2 ∷ []) (number n)
unfolding understood everything
listed_by_reading n = record { names = _; means = refl; selecting = refl; sizes = refl; typed = refl }

-- the orders of what lists an authorization
pub listing_reading : (n : ℕ)
    → IsReadingFrom desk_schema all_rows ord.SELECT_LISTING.now listing_from listing_tests listing_project (by 1 ∷ by 2 ∷ []) (number n)
unfolding understood everything
listing_reading n = record { names = _; means = refl; selecting = refl; sizes = refl; typed = refl }

-- what the orders that wait list, joined with the authorizations that stand there
pub places_reading : IsReadingFrom desk_schema all_rows ord_authz.SELECT_JOINED.now place_from place_tests place_project place_order
    (text (order_status_text order.Processing))
unfolding understood everything
places_reading = record { names = _; means = refl; selecting = refl; sizes = refl; typed = refl }

-- challenges of an authorization, each beside the key of its answer
pub challenges_of_reading : (n : ℕ)
    → IsReadingFrom desk_schema all_rows chall.SELECT_OF.now keyed_from (is_equal 2) keyed_project (by 0 ∷ []) (number n)
unfolding understood everything
challenges_of_reading n = record { names = _; means = refl; selecting = refl; sizes = refl; typed = refl }

-- that wait, joined with their authorizations and the keys of their answers
pub joined_reading : IsReadingFrom desk_schema all_rows chall.SELECT_JOINED.now join_from join_tests joined_project (by 0 ∷ [])
    (text (challenge_status_text challenge.Processing))
unfolding understood everything
joined_reading = record { names = _; means = refl; selecting = refl; sizes = refl; typed = refl }

-- of the authorization of one of them, joined with it and with the keys of their answers
pub beside_reading : (n : ℕ) → IsReadingFrom desk_schema all_rows chall.SELECT_BESIDE.now beside_from beside_tests beside_project by_other (number n)
unfolding understood everything
beside_reading n = record { names = _; means = refl; selecting = refl; sizes = refl; typed = refl }

-- ---- the first row above a number

-- of accounts
pub account_above_reading : (n : ℕ) → IsReadingOf account_facts desk_schema first_row account.SELECT_ABOVE.now is_higher (number n)
unfolding understood everything
account_above_reading n = record { names = _; means = refl; selecting = refl; sizes = refl; typed = refl }

-- of orders
pub order_above_reading : (n : ℕ) → IsReadingOf order_facts desk_schema first_row ord.SELECT_ABOVE.now is_higher (number n)
unfolding understood everything
order_above_reading n = record { names = _; means = refl; selecting = refl; sizes = refl; typed = refl }

-- of authorizations
pub authorization_above_reading : (n : ℕ) → IsReadingOf authorization_facts desk_schema first_row authz.SELECT_ABOVE.now is_higher (number n)
unfolding understood everything
authorization_above_reading n = record { names = _; means = refl; selecting = refl; sizes = refl; typed = refl }

-- of challenges, beside the key of its answer
pub challenge_above_reading : (n : ℕ)
    → IsReadingFrom desk_schema first_row chall.SELECT_ABOVE.now keyed_from is_higher keyed_project (by 0 ∷ []) (number n)
unfolding understood everything
challenge_above_reading n = record { names = _; means = refl; selecting = refl; sizes = refl; typed = refl }

-- ---- the earliest moment

-- of nonces
pub issue_reading : IsReading desk_schema first_row nonce.SELECT_EARLIEST.now 1 [] (col 1 3 ∷ []) (by 3 ∷ []) []
unfolding understood everything
issue_reading = record { names = _; means = refl; selecting = refl; sizes = refl; typed = refl }

-- of orders
pub order_end_reading : (s : OrderStatus) → IsReading desk_schema first_row ord.SELECT_EARLIEST.now 4 (is_equal order_status_at) (col 1 4 ∷ []) (by 4 ∷ [])
    (text (order_status_text s))
unfolding understood everything
order_end_reading s = record { names = _; means = refl; selecting = refl; sizes = refl; typed = refl }

-- of authorizations
pub authorization_end_reading : (s : AuthzStatus) → IsReading desk_schema first_row authz.SELECT_EARLIEST.now 5 (is_equal authorization_status_at)
    (col 1 6 ∷ []) (by 6 ∷ []) (text (authorization_status_text s))
unfolding understood everything
authorization_end_reading s = record { names = _; means = refl; selecting = refl; sizes = refl; typed = refl }
