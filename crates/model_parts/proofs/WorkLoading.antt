-- What the look-ups of the lists of work find is what is enough for them.
use Rattle.std.proofs.Common.{◌≡◌, ℕ, List, [], filter, ◌∙◌, rules}
use Rattle.std.specs.{Prelude.◌==◌, List.flat_map, List.list_any}
use Rattle.desk_model.specs.{Order.is_processing, Tables.Tables, declared.rows.OrderRow.OrderRow}
use Rattle.model_laws.specs.{Ordered.IsOrdered, Placing.puts}
use Rattle.model_laws.proofs.Basics.{each, eq_turn, list_any-map, list_any-same}
use Rattle.model_parts.specs.LookUps.{AreNumbers, authorizations_numbered, orders_processing, owners_processing}
use Rattle.model_parts.specs.{IsEnough.has_work, IsEnough.is_worked_on, Loaded.listed_authorizations}
use Rattle.model_parts.proofs.Loading.{any_beside, any_flat, authorizations_at, authorizations_listed, of_authorization, of_order}
use Rattle.model_parts.proofs.{Cut.at_number, Cut.numbered, Found.IsFound, Found.any_filter, Found.found_filter, Found.found_same, Found.found_table}

-- a number is an owner's where the authorization that has it has work
owner_has_work : (T : Tables) (n : ℕ) → list_any (λ j. n == j) (owners_processing T) ≡ at_number of_authorization has_work T.authorizations n
owner_has_work T n = search (rules, any_flat, list_any-same, list_any-map, any_filter, any_beside, eq_turn)

-- the authorizations of the owners' numbers are those with work
pub work_loaded : (T : Tables) (numbers : List ℕ) → IsOrdered T → AreNumbers numbers (owners_processing T) →
    puts of_authorization (flat_map (authorizations_numbered T) numbers) [] ≡ filter has_work T.authorizations
work_loaded T numbers h same =
    found_table of_authorization has_work 1 T.authorizations _ h.authorizations.0
    (found_same (authorizations_at T h numbers)
    (each _ _ T.authorizations (λ r e. same (λ j. r.number == j) ∙ owner_has_work T r.number ∙ e)
    (numbered of_authorization has_work 1 T.authorizations h.authorizations.0)))

-- the orders that wait for a certificate
processing_found : (T : Tables) → IsOrdered T → IsFound of_order (λ o. is_processing o.status) T.orders (orders_processing T)
processing_found T h = found_filter h.orders.0

-- the orders that are found, as a table
pub processing_loaded : (T : Tables) → IsOrdered T → puts of_order (orders_processing T) [] ≡ orders_processing T
processing_loaded T h = found_table of_order (λ o. is_processing o.status) 1 T.orders _ h.orders.0 (processing_found T h)

-- and what they list
pub listed_loaded : (T : Tables) → IsOrdered T →
    puts of_authorization (listed_authorizations T (orders_processing T)) [] ≡ filter (is_worked_on T) T.authorizations
listed_loaded T h =
    found_table of_authorization (is_worked_on T) 1 T.authorizations _ h.authorizations.0
    (authorizations_listed T (λ (o : OrderRow). is_processing o.status) (orders_processing T) h (processing_found T h))
