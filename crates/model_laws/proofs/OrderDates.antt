-- The dated columns of an order: what an entry leaves of them, how rows differ by them, and that none is later than the clock.
use Rattle.std.proofs.{Common.◌≡◌, Common.◌≤◌, Common.ℕ, Common.false, Common.not, Common.arith, Common.rules, lemmas.Bool.Decides.nat_tests}
use Rattle.std.specs.Prelude.{◌==◌, IfSome}
use Rattle.desk_model.specs.Order.{certifying, failing, finalizing}
use Rattle.desk_model.specs.{Change.order_differs, Derived.order_code, Entry.History, Tables.order_row, Effect.names_order, Effect.noted_order, History.clock}
use Rattle.desk_model.specs.{declared.entry.Entry.Entry, declared.objects.Order.Order, declared.rows.OrderRow.OrderRow, declared.status.OrderStatus.OrderStatus}
use Rattle.model_laws.specs.DateLaws.{IsOrderDatedBy}
use Rattle.model_laws.proofs.StatedFacts.{first_dated}

-- an order that the entry does not name keeps its facts
pub order_unnoted : (e : Entry) (m : ℕ) (row : OrderRow) → names_order e row.number ≡ false → noted_order e m row ≡ row
order_unnoted e m row h = grind arith

-- ---- how rows differ

-- a row that does not differ after an entry keeps its facts and the code of its status
pub order_dates_kept : (e : Entry) (m : ℕ) (row : OrderRow) (s : OrderStatus) → order_differs row (record (noted_order e m row) { status = s }) ≡ false →
    (noted_order e m row ≡ row) × (not (order_code row.status == order_code s) ≡ false)
order_dates_kept e m row s h = grind (arith, nat_tests)

-- a row with the same facts differs by its status alone
pub order_status_differs : (row : OrderRow) (s : OrderStatus) → order_differs row (record row { status = s }) ≡ not (order_code row.status == order_code s)
order_status_differs row s = grind arith

-- ---- when they are dated

-- the CSR that an entry brings has its date
csr_dated : (n : ℕ) (e : Entry) (date : ℕ) → IfSome (finalizing n e date) (λ x. x.date ≤ date)
csr_dated n e date = grind arith

-- the certificate
certificate_dated : (n : ℕ) (e : Entry) (date : ℕ) → IfSome (certifying n e date) (λ x. x.date ≤ date)
certificate_dated n e date = grind arith

-- the failure
failure_dated : (n : ℕ) (e : Entry) (date : ℕ) → IfSome (failing n e date) (λ x. x.date ≤ date)
failure_dated n e date = grind arith

-- no date of an order is after the latest recorded moment
pub order_dated : (F : History) (t : ℕ) (o : Order) → o.made ≤ clock F → IsOrderDatedBy (clock F) (order_row F t o)
order_dated F t o made = search (rules, first_dated, csr_dated, certificate_dated, failure_dated)
