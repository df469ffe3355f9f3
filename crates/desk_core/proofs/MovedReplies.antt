-- What a move names, among the rows that it touches.
use Rattle.std.proofs.Common.{◌≡◌, ℕ, List, ap, sym, ◌∙◌, rules}
use Rattle.std.specs.Prelude.{◌==◌, find}
use Rattle.model_laws.proofs.Basics.{eq_turn}
use Rattle.desk_model.specs.Effect.{effect, has_row, names_order, swept, touches_account, touches_authorization}
use Rattle.desk_model.specs.{Entry.entry_of, Tables.Tables, Questions.account_on, Questions.authorization_on, Questions.order_on, Questions.owner_on}
use Rattle.desk_model.specs.declared.{entry.Move.Move, rows.AccountRow.AccountRow, rows.AuthorizationRow.AuthorizationRow, rows.OrderRow.OrderRow}
use Rattle.core_changes.specs.Moved.{accounts_moved, authorizations_moved, orders_moved}
use Rattle.core_changes.proofs.ShownAfter.{account_moved, authorization_moved, names_at, names_moved, order_moved, owner_moved, policy_moved}
use Rattle.desk_core.specs.Named.{IsNamedAs}

-- the account that the move is of
pub account_there : (m : ℕ) (B : Tables) (v : Move) (n : ℕ) (xs : List AccountRow) → ((a : AccountRow) → touches_account (entry_of v) a ≡ (n == a.number)) →
    xs ≡ accounts_moved (entry_of v) m B.accounts → find (λ a. a.number == n) xs ≡ account_on (effect m (swept m B) (entry_of v)) n
account_there m B v n xs touched is = search (rules, account_moved)

-- the authorization that it is of
pub authorization_there : (m : ℕ) (B : Tables) (v : Move) (n : ℕ) (xs : List AuthorizationRow)
    → ((a : AuthorizationRow) → touches_authorization (entry_of v) a ≡ (n == a.number)) →
    xs ≡ authorizations_moved (entry_of v) m B.accounts B.authorizations → find (λ a. a.number == n) xs ≡ authorization_on (effect m (swept m B) (entry_of v)) n
authorization_there m B v n xs touched is = search (rules, authorization_moved)

-- that of the challenge that it is of
pub owner_there : (m : ℕ) (B : Tables) (v : Move) (n : ℕ) (xs : List AuthorizationRow)
    → ((a : AuthorizationRow) → touches_authorization (entry_of v) a ≡ has_row n a) →
    xs ≡ authorizations_moved (entry_of v) m B.accounts B.authorizations → find (has_row n) xs ≡ owner_on (effect m (swept m B) (entry_of v)) n
owner_there m B v n xs touched is = ap (find (has_row n)) is ∙ sym (owner_moved m B v n (λ a same. touched a ∙ same))

-- the order that it is of
pub order_there : (m : ℕ) (B : Tables) (v : Move) (n : ℕ) (xs : List OrderRow) → ((k : ℕ) → names_order (entry_of v) k ≡ (n == k)) →
    xs ≡ orders_moved (entry_of v) m B.accounts B.authorizations B.orders → find (λ o. o.number == n) xs ≡ order_on (effect m (swept m B) (entry_of v)) n
order_there m B v n xs named is =
    ap (find (λ o. o.number == n)) is ∙ sym (order_moved m B v n (λ k same. named k ∙ eq_turn n k ∙ same))

-- after a move the names are those of the book
pub named_after : (m : ℕ) (B : Tables) (v : Move) → IsNamedAs (effect m (swept m B) (entry_of v)) B
named_after m B v = record { policy = policy_moved m B v; names = names_moved m B v }

-- and at a moment
pub named_at : (m : ℕ) (B T : Tables) → T ≡ swept m B → IsNamedAs T B
named_at m B T is = search (rules, names_at)
