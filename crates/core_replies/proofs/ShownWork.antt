-- What the lists of orders and of work show at a moment, by the rows that stand.
use Rattle.std.proofs.Common.{◌≡◌, ℕ, List, [], ◌∷◌, ◌++◌, map, filter, Bool, true, cond, refl, sym, ap, ◌∙◌, arith, rules}
use Rattle.std.proofs.lemmas.Simd.{map-map}
use Rattle.std.specs.{List.flat_map}
use Rattle.serde_json.specs.Data.{string, number}
use Rattle.desk_model.specs.Document.{rows_of, listed_rows, order_url, is_listed, work_document, work_of, order_work_document}
use Rattle.desk_model.specs.{Name.Name, Names.shown_name, Tables.Tables, Order.is_processing, Authorization.is_pending, Legal.is_processing_challenge}
use Rattle.desk_model.specs.{Effect.swept, Effect.swept_authorization, Effect.swept_order, Derived.authorization_numbered, Derived.numbers_of}
use Rattle.desk_model.specs.{declared.rows.AuthorizationRow.AuthorizationRow, declared.rows.Listed.Listed, declared.rows.OrderRow.OrderRow}
use Rattle.core_replies.specs.Shown.{answered, listed_name, listed_order, order_work_at, work_at}
use Rattle.core_replies.proofs.Gathered.{passing-show-one}
use Rattle.desk_book.proofs.SweptRows.{swept_order-status, swept_authorization_on}

-- ---- names

-- the passing of time moves no name
pub swept-names : (m : ℕ) (T : Tables) (numbers : List ℕ) →
    map (λ a. a.name) (rows_of (swept m T).authorizations numbers) ≡ map (λ a. a.name) (rows_of T.authorizations numbers)
swept-names m T [] = refl
swept-names m T (n ∷ ns) = grind (arith, swept_authorization_on, (swept-names m T ns))

-- the names of the authorizations that these places list
pub listed-names : (rows : List AuthorizationRow) (places : List Listed) →
    flat_map (λ l. listed_name (authorization_numbered l.authorization rows)) places ≡ map (λ a. string (shown_name a.name)) (rows_of rows (numbers_of places))
listed-names rows [] = refl
listed-names rows (l ∷ ls) = grind (arith, (listed-names rows ls))

-- ---- lists of rows that were moved

-- what is given of the moved rows that pass
pub map-filter-map : {X Y Z : Type 0} (f : Y → Z) (p : Y → Bool) (move : X → Y) (g : X → Z) → ((x : X) → f (move x) ≡ g x) → (xs : List X) →
    map f (filter p (map move xs)) ≡ map g (filter (λ x. p (move x)) xs)
map-filter-map f p move g same [] = refl
map-filter-map {X} f p move g same (x ∷ xs) = grind (arith, (map-filter-map f p move g same xs))

flat_map-map : {X Y Z : Type 0} (f : Y → List Z) (move : X → Y) (g : X → List Z) → ((x : X) → f (move x) ≡ g x) → (xs : List X) →
    flat_map f (map move xs) ≡ flat_map g xs
flat_map-map f move g same [] = refl
flat_map-map f move g same (x ∷ xs) = ap (λ l. l ++ flat_map f (map move xs)) (same x) ∙ ap (λ l. g x ++ l) (flat_map-map f move g same xs)

-- the orders of an account
pub orders-listed : (m account : ℕ) (T : Tables) →
    map (λ o. string (order_url T.meta.policy o.number)) (filter (is_listed account) (swept m T).orders) ≡ flat_map (listed_order T m account) T.orders
orders-listed m account T =
    map-filter-map (λ (o : OrderRow). string (order_url T.meta.policy o.number)) (is_listed account) (swept_order m T.authorizations)
    (λ o. string (order_url T.meta.policy o.number))
    (λ o. sym (ap (λ (r : OrderRow). string (order_url T.meta.policy r.number)) (swept_order-status m T.authorizations o)))
    T.orders
    ∙ sym (passing-show-one (λ (o : OrderRow). string (order_url T.meta.policy o.number))
    (λ o. is_listed account (swept_order m T.authorizations o)) T.orders)

-- those of a pending authorization
pub answered-waiting : (m : ℕ) (a : AuthorizationRow) → is_pending (swept_authorization m a).status ≡ true →
    flat_map (answered a) a.challenges ≡ work_at m a
answered-waiting m a pending =
    passing-show-one (work_document a) (λ c. is_processing_challenge c.status) a.challenges
    ∙ sym (ap (λ b. cond b (map (work_document a) (filter (λ c. is_processing_challenge c.status) a.challenges)) []) pending)

-- the challenges that wait for the validator
pub challenges-waiting : (m : ℕ) (T : Tables) → flat_map work_of (swept m T).authorizations ≡ flat_map (work_at m) T.authorizations
challenges-waiting m T = search (rules, flat_map-map)

-- the names of an order that waits for the signing office
names-waiting : (m : ℕ) (T : Tables) (o : OrderRow) →
    map (λ a. string (shown_name a.name)) (listed_rows (swept m T) o) ≡ map (λ a. string (shown_name a.name)) (listed_rows T o)
names-waiting m T o =
    sym (map-map (λ (n : Name). string (shown_name n)) (λ (a : AuthorizationRow). a.name) (listed_rows (swept m T) o))
    ∙ ap (map (λ (n : Name). string (shown_name n))) (swept-names m T (map (λ l. l.authorization) o.listed))
    ∙ map-map (λ (n : Name). string (shown_name n)) (λ (a : AuthorizationRow). a.name) (listed_rows T o)

order-waiting : (m : ℕ) (T : Tables) (o : OrderRow) → order_work_document (swept m T) (swept_order m T.authorizations o) ≡ order_work_document T o
order-waiting m T o = search (rules, names-waiting)

-- the orders that wait for the signing office
pub orders-waiting : (m : ℕ) (T : Tables) →
    map (order_work_document (swept m T)) (filter (λ o. is_processing o.status) (swept m T).orders)
    ≡ flat_map (order_work_at m T) T.orders
orders-waiting m T =
    map-filter-map (order_work_document (swept m T)) (λ o. is_processing o.status) (swept_order m T.authorizations) (order_work_document T)
    (order-waiting m T) T.orders
    ∙ sym (passing-show-one (order_work_document T) (λ o. is_processing (swept_order m T.authorizations o).status) T.orders)
