-- What a move shows is among the rows that it touches.
use Rattle.std.proofs.Common.{◌≡◌, ℕ, List, [], ◌∷◌, map, true, refl, arith, rules}
use Rattle.std.specs.Prelude.{◌==◌, find}
use Rattle.desk_model.specs.Effect.{effect, has_row, names_order, swept, moved_authorization, moved_order, touches_account, touches_authorization}
use Rattle.desk_model.specs.Questions.{account_on, authorization_on, order_on, owner_on}
use Rattle.desk_model.specs.{Tables.Tables, Entry.entry_of, declared.entry.Entry.Entry, declared.entry.Move.Move, declared.rows.AccountRow.AccountRow}
use Rattle.desk_model.specs.{declared.rows.AuthorizationRow.AuthorizationRow, declared.rows.OrderRow.OrderRow, Document.listed_rows, Document.rows_of}
use Rattle.core_changes.specs.Moved.{accounts_moved, authorizations_moved, orders_moved}
use Rattle.core_changes.proofs.{RowMoves.find-touched, Moving.makes_nothing}
use Rattle.desk_book.proofs.SweptRows.{find-moved}

-- ---- the tables after a move

moving_orders : (m : ℕ) (T : Tables) (v : Move) → (let e : Entry = entry_of v in
    (effect m T e).orders ≡ map (moved_order e m T.authorizations (map (moved_authorization e m T.accounts) T.authorizations)) T.orders)
moving_orders m T v = search rules

-- the policy
pub policy_moved : (m : ℕ) (B : Tables) (v : Move) → (effect m (swept m B) (entry_of v)).meta.policy ≡ B.meta.policy
policy_moved m B v = (makes_nothing m (swept m B) v).policy

-- ---- names

-- rows that keep their numbers and names have the same names in the places of an order
names_kept : (f : AuthorizationRow → AuthorizationRow) → ((a : AuthorizationRow) → (f a).number ≡ a.number) → ((a : AuthorizationRow) → (f a).name ≡ a.name) →
    (rows : List AuthorizationRow) (ns : List ℕ) → map (λ a. a.name) (rows_of (map f rows) ns) ≡ map (λ a. a.name) (rows_of rows ns)
names_kept f numbered named rows [] = refl
names_kept f numbered named rows (n ∷ ns) = grind (arith, find-moved, (names_kept f numbered named rows ns))

-- at the moment
pub names_at : (m : ℕ) (B : Tables) (row : OrderRow) → map (λ a. a.name) (listed_rows (swept m B) row) ≡ map (λ a. a.name) (listed_rows B row)
names_at m B row = search (rules, names_kept)

-- and after a move
pub names_moved : (m : ℕ) (B : Tables) (v : Move) (row : OrderRow) →
    map (λ a. a.name) (listed_rows (effect m (swept m B) (entry_of v)) row) ≡ map (λ a. a.name) (listed_rows B row)
names_moved m B v row = search (rules, names_kept, names_at)

-- ---- what is looked up in them, where the move touches it

-- the account of a number
pub account_moved : (m : ℕ) (B : Tables) (v : Move) (n : ℕ) → ((a : AccountRow) → (a.number == n) ≡ true → touches_account (entry_of v) a ≡ true) →
    account_on (effect m (swept m B) (entry_of v)) n ≡ find (λ a. a.number == n) (accounts_moved (entry_of v) m B.accounts)
account_moved m B v n those = search (rules, find-touched)

-- the authorization of a number
pub authorization_moved : (m : ℕ) (B : Tables) (v : Move) (n : ℕ)
    → ((a : AuthorizationRow) → (a.number == n) ≡ true → touches_authorization (entry_of v) a ≡ true) →
    authorization_on (effect m (swept m B) (entry_of v)) n ≡ find (λ a. a.number == n) (authorizations_moved (entry_of v) m B.accounts B.authorizations)
authorization_moved m B v n those = search (rules, find-touched)

-- the authorization that a challenge is of
pub owner_moved : (m : ℕ) (B : Tables) (v : Move) (n : ℕ) → ((a : AuthorizationRow) → has_row n a ≡ true → touches_authorization (entry_of v) a ≡ true) →
    owner_on (effect m (swept m B) (entry_of v)) n ≡ find (has_row n) (authorizations_moved (entry_of v) m B.accounts B.authorizations)
owner_moved m B v n those = search (rules, find-touched)

-- the order of a number, which the move names
pub order_moved : (m : ℕ) (B : Tables) (v : Move) (n : ℕ) → ((k : ℕ) → (k == n) ≡ true → names_order (entry_of v) k ≡ true) →
    order_on (effect m (swept m B) (entry_of v)) n ≡ find (λ o. o.number == n) (orders_moved (entry_of v) m B.accounts B.authorizations B.orders)
order_moved m B v n those = grind (arith, find-touched, (moving_orders m (swept m B) v))
