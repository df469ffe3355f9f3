-- An order that is valid or invalid keeps its row.
use Rattle.std.proofs.Common.{◌≡◌, ℕ, List, [], ◌∷◌, Some, refl, true, false, arith}
use Rattle.std.proofs.lemmas.Bool.{and_parts}
use Rattle.std.specs.{Prelude.◌==◌, List.list_any}
use Rattle.desk_model.specs.declared.entry.Entry.TheVariants.{Finalized as finalized, Certified as certified, Failed as failed}
use Rattle.desk_model.specs.Derived.{authorization_numbered, derived_order, stored_statuses}
use Rattle.desk_model.specs.{declared.entry.Entry.Entry, declared.rows.AuthorizationRow.AuthorizationRow, declared.rows.OrderRow.OrderRow}
use Rattle.desk_model.specs.{declared.status.OrderStatus.OrderStatus, Authorization.is_over, Order.is_ready, Order.is_processing, Allowed.may_on}
use Rattle.desk_model.specs.{Questions.order_on, Tables.Tables, Life.is_final_order, Lookup.holds, Effect.moved_order, Effect.names_order}
use Rattle.model_laws.proofs.{OrderDates.order_unnoted, Finds.each_found}
use Rattle.model_lives.proofs.EndedRows.{IsStated, shut}

-- an order that is ready has not ended
ready_lasts : (s : OrderStatus) → is_ready s ≡ true → is_final_order s ≡ true → ⊥
ready_lasts s h k = grind arith

-- nor has one that is processing
processing_lasts : (s : OrderStatus) → is_processing s ≡ true → is_final_order s ≡ true → ⊥
processing_lasts s h k = grind arith

-- what names an order that is processing names none that has ended
unnamed_processing : (T : Tables) (k n : ℕ) (row : OrderRow) → order_on T n ≡ Some row → is_final_order row.status ≡ true →
    holds (λ o. is_processing o.status) (order_on T k) ≡ true → (k == row.number) ≡ false
unnamed_processing T k n row found ended may =
    shut (λ (o : OrderRow). o.number) (λ o. is_processing o.status) (λ o. is_final_order o.status) (λ o. processing_lasts o.status)
    T.orders k n row found ended may

-- an entry that may follow names no order that has ended
unnamed : (T : Tables) (e : Entry) (n : ℕ) (row : OrderRow) → may_on T e ≡ true → order_on T n ≡ Some row → is_final_order row.status ≡ true →
    names_order e row.number ≡ false
unnamed T (finalized k csr) n row may found ended =
    shut (λ (o : OrderRow). o.number) (λ o. is_ready o.status) (λ o. is_final_order o.status) (λ o. ready_lasts o.status)
    T.orders k n row found ended (and_parts _ _ may).0
unnamed T (certified k bytes) n row may found ended = unnamed_processing T k n row found ended (and_parts _ _ may).0
unnamed T (failed k problem) n row may found ended = unnamed_processing T k n row found ended (and_parts _ _ may).0
unnamed T _ n row may found ended = refl

-- ---- statuses

-- authorizations that are over keep their rows in the later list
abbrev pub OverStays : (rows later : List AuthorizationRow) → Type 0
OverStays rows later =
    (n : ℕ) (row : AuthorizationRow) → authorization_numbered n rows ≡ Some row → is_over row.status ≡ true → authorization_numbered n later ≡ Some row

-- one that is lost stays lost
lost_stays : (rows later : List AuthorizationRow) → OverStays rows later → (ns : List ℕ) → list_any is_over (stored_statuses rows ns) ≡ true →
    list_any is_over (stored_statuses later ns) ≡ true
lost_stays rows later stays [] h = h
lost_stays rows later stays (n ∷ ns) h = grind (arith, (lost_stays rows later stays ns))

-- an order that has ended keeps its status
status_stays : (m : ℕ) (rows later : List AuthorizationRow) (row : OrderRow) → OverStays rows later → row.status ≡ derived_order m rows row →
    is_final_order row.status ≡ true →
    derived_order m later row ≡ row.status
status_stays m rows later row stays stated ended = grind (arith, lost_stays)

-- an order that has ended keeps its row
pub order_stays : (T : Tables) (e : Entry) (m n : ℕ) (row : OrderRow) (later : List AuthorizationRow) → IsStated m T → may_on T e ≡ true →
    order_on T n ≡ Some row → is_final_order row.status ≡ true → OverStays T.authorizations later →
    moved_order e m T.authorizations later row ≡ row
order_stays T e m n row later stated may found ended stays = grind (arith, each_found, order_unnoted, unnamed, status_stays)
