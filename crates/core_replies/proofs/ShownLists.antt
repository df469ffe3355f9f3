-- The lists of a book at a moment, as the tables at that moment have them.
use Rattle.std.proofs.Common.{◌≡◌, ℕ, List, [], ◌∷◌, rules}
use Rattle.std.specs.{Prelude.codes, List.flat_map}
use Rattle.desk_model.specs.{Document.challenge_work, Document.order_work, Document.orders_document, Effect.swept, Tables.Tables}
use Rattle.desk_model.specs.{declared.rows.AuthorizationRow.AuthorizationRow, declared.rows.OrderRow.OrderRow, Json.document, Json.list}
use Rattle.core_replies.specs.Shown.{listed_order, order_work_at, work_at}
use Rattle.core_replies.proofs.ShownWork.{challenges-waiting, orders-listed, orders-waiting}

-- the orders of an account
pub orders-are : (m account : ℕ) (T S : Tables) (rows : List OrderRow) → rows ≡ T.orders → swept m T ≡ S →
    document ((codes "orders", list (flat_map (listed_order T m account) rows)) ∷ []) ≡ orders_document S account
orders-are m account T S rows those then = search (rules, orders-listed)

-- what waits for the validator
pub challenges-are : (m : ℕ) (T S : Tables) (rows : List AuthorizationRow) → rows ≡ T.authorizations → swept m T ≡ S →
    document ((codes "challenges", list (flat_map (work_at m) rows)) ∷ []) ≡ challenge_work S
challenges-are m T S rows those then = search (rules, challenges-waiting)

-- what waits for the signing office
pub work-is : (m : ℕ) (T S : Tables) (rows : List OrderRow) → rows ≡ T.orders → swept m T ≡ S →
    document ((codes "orders", list (flat_map (order_work_at m T) rows)) ∷ []) ≡ order_work S
work-is m T S rows those then = search (rules, orders-waiting)
