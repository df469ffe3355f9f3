-- The documents of replies are plain: their compact texts read back as them.
use Rattle.std.proofs.Common.{◌≡◌, ℕ, List, [], ◌∷◌, ◌++◌, filter, Bool, true, refl, ap, arith, rules}
use Rattle.std.specs.{Prelude.◌&&◌, Prelude.◌==◌, List.flat_map, List.slice_split}
use Rattle.serde_json.specs.{Data.Data, Data.string, View.items_of}
use Rattle.desk_model.proofs.PlainData.{each_plain}
use Rattle.desk_model.specs.Document.{order_with_names, account_document}
use Rattle.desk_model.specs.Document.{authorization_document, orders_document, work_of, challenge_work, order_work_document, order_work}
use Rattle.desk_model.specs.Document.{key_members, key_document}
use Rattle.desk_model.specs.{Plain.is_document, Plain.is_plain, Plain.items_are_plain, Plain.members_are_plain, Json.members, Terms.Terms, Name.Name}
use Rattle.desk_model.specs.{Order.is_processing, Tables.Tables, declared.rows.OrderRow.OrderRow}
use Rattle.desk_model.specs.{declared.rows.AuthorizationRow.AuthorizationRow, declared.rows.AccountRow.AccountRow}

-- the document of an account
pub account_plain : (t : Terms) (row : AccountRow) → is_document (account_document t row) ≡ true
account_plain t row = ap (λ b. b && true) (each_plain 6 string (λ _. refl) row.contacts)

-- the document of an order
pub order_plain : (t : Terms) (names : List Name) (o : OrderRow) → is_document (order_with_names t names o) ≡ true
order_plain t names o = search (rules, each_plain)

-- the document of an authorization
pub authorization_plain : (t : Terms) (a : AuthorizationRow) → is_document (authorization_document t a) ≡ true
authorization_plain t a = search (rules, each_plain)

-- the orders of an account
pub orders_plain : (T : Tables) (account : ℕ) → is_document (orders_document T account) ≡ true
orders_plain T account = search (rules, each_plain)

joined_plain : (n : ℕ) (xs ys : List Data) → items_are_plain n (items_of xs) ≡ true → items_are_plain n (items_of ys) ≡ true
    → items_are_plain n (items_of (xs ++ ys)) ≡ true
joined_plain n [] ys p q = q
joined_plain n (x ∷ xs) ys p q = by (is_plain n x) p (λ r. joined_plain n xs ys r q)
  where
    by : (b : Bool) → (b && items_are_plain n (items_of xs)) ≡ true
        → (items_are_plain n (items_of xs) ≡ true → items_are_plain n (items_of (xs ++ ys)) ≡ true) →
        (b && items_are_plain n (items_of (xs ++ ys))) ≡ true
    by b h k = grind arith

work_plain : (rows : List AuthorizationRow) → items_are_plain 6 (items_of (flat_map work_of rows)) ≡ true
work_plain [] = refl
work_plain (a ∷ rows) = grind (arith, joined_plain, each_plain, (work_plain rows))

-- what waits for the validator
pub challenge_work_plain : (T : Tables) → is_document (challenge_work T) ≡ true
challenge_work_plain T = ap (λ b. b && true) (work_plain T.authorizations)

order_work_document_plain : (T : Tables) (o : OrderRow) → is_plain 6 (order_work_document T o) ≡ true
order_work_document_plain T o = search (rules, each_plain)

-- what waits for the signing office
pub order_work_plain : (T : Tables) → is_document (order_work T) ≡ true
order_work_plain T = ap (λ b. b && true) (each_plain 6 (order_work_document T) (order_work_document_plain T) (filter (λ o. is_processing o.status) T.orders))

key_members_plain : (parts : List (List ℕ)) → members_are_plain 7 (members (key_members parts)) ≡ true
key_members_plain (before ∷ name ∷ between ∷ value ∷ rest) = key_members_plain rest
key_members_plain _ = refl

-- the document of a key
pub key_plain : (text : List ℕ) → is_document (key_document text) ≡ true
key_plain text = key_members_plain (slice_split (λ c. c == 34) text)
