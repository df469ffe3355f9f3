-- What a move names, where it was there, is among the rows that it touches.
use Rattle.std.proofs.Common.{◌≡◌, ℕ, List, [], ◌∷◌, map, Bool, true, filter, refl, arith, rules}
use Rattle.std.specs.Prelude.{◌==◌, find, IsSome}
use Rattle.model_laws.proofs.Basics.{list_any-map, list_any-same}
use Rattle.desk_model.specs.Effect.{has_row, names_order, swept, touches_account, touches_authorization}
use Rattle.desk_model.specs.{Entry.entry_of, Tables.Tables, declared.entry.Entry.Entry, declared.entry.Move.Move, declared.rows.AccountRow.AccountRow}
use Rattle.desk_model.specs.{declared.rows.AuthorizationRow.AuthorizationRow, declared.rows.OrderRow.OrderRow}
use Rattle.desk_model.specs.declared.entry.Move.TheVariants as move
use Rattle.core_changes.specs.Moved.{AreMoved, accounts_moved, authorizations_moved, orders_moved, swept_rows}
use Rattle.desk_core.specs.There.{IsAmong}

-- a row that is found, and touched, is found among the touched ones, which keep what it is found by
still_found : {X : Type 0} (test touched : X → Bool) (move : X → X) → ((x : X) → test (move x) ≡ test x)
    → ((x : X) → test x ≡ true → touched x ≡ true) → (xs : List X) →
    IsSome (find test xs) → IsSome (find test (map move (filter touched xs)))
still_found test touched move kept those [] h = h
still_found {X} test touched move kept those (x ∷ xs) h = grind (arith, (still_found test touched move kept those xs))

-- the account of a number
account_stays : (e : Entry) (m n : ℕ) (rows : List AccountRow) → ((a : AccountRow) → touches_account e a ≡ (n == a.number)) →
    IsSome (find (λ a. a.number == n) rows) → IsSome (find (λ a. a.number == n) (accounts_moved e m rows))
account_stays e m n rows touched h = search (rules, still_found)

-- the authorization of a number
authorization_stays : (e : Entry) (m n : ℕ) (accounts : List AccountRow) (rows : List AuthorizationRow)
    → ((a : AuthorizationRow) → touches_authorization e a ≡ (n == a.number)) →
    IsSome (find (λ a. a.number == n) (swept_rows m rows)) → IsSome (find (λ a. a.number == n) (authorizations_moved e m accounts rows))
authorization_stays e m n accounts rows touched h = search (rules, still_found)

-- that of a challenge
owner_stays : (e : Entry) (m n : ℕ) (accounts : List AccountRow) (rows : List AuthorizationRow)
    → ((a : AuthorizationRow) → touches_authorization e a ≡ has_row n a) →
    IsSome (find (has_row n) (swept_rows m rows)) → IsSome (find (has_row n) (authorizations_moved e m accounts rows))
owner_stays e m n accounts rows touched h = search (rules, still_found, list_any-map, list_any-same)

-- the order of a number
order_stays : (e : Entry) (m n : ℕ) (B : Tables) → ((k : ℕ) → names_order e k ≡ (n == k)) →
    IsSome (find (λ o. o.number == n) (swept m B).orders) → IsSome (find (λ o. o.number == n) (orders_moved e m B.accounts B.authorizations B.orders))
order_stays e m n B named h = search (rules, still_found)

-- each move
stays : (m : ℕ) (B : Tables) (v : Move) → IsAmong v (swept m B).accounts (swept m B).authorizations (swept m B).orders →
    IsAmong v (accounts_moved (entry_of v) m B.accounts) (authorizations_moved (entry_of v) m B.accounts B.authorizations)
    (orders_moved (entry_of v) m B.accounts B.authorizations B.orders)
stays m B (move.ContactsChanged n contacts) h = account_stays (entry_of (move.ContactsChanged n contacts)) m n B.accounts (λ a. refl) h
stays m B (move.KeyChanged n key) h = account_stays (entry_of (move.KeyChanged n key)) m n B.accounts (λ a. refl) h
stays m B (move.AccountEnded n ending) h = account_stays (entry_of (move.AccountEnded n ending)) m n B.accounts (λ a. refl) h
stays m B (move.Answered n) h = owner_stays (entry_of (move.Answered n)) m n B.accounts B.authorizations (λ a. refl) h
stays m B (move.Reported n outcome) h = owner_stays (entry_of (move.Reported n outcome)) m n B.accounts B.authorizations (λ a. refl) h
stays m B (move.AuthorizationEnded n ending) h = authorization_stays (entry_of (move.AuthorizationEnded n ending)) m n B.accounts B.authorizations (λ a. refl) h
stays m B (move.Finalized n csr) h = order_stays (entry_of (move.Finalized n csr)) m n B (λ k. refl) h
stays m B (move.Certified n certificate) h = order_stays (entry_of (move.Certified n certificate)) m n B (λ k. refl) h
stays m B (move.Failed n problem) h = order_stays (entry_of (move.Failed n problem)) m n B (λ k. refl) h

pub among_moved : (m : ℕ) (B : Tables) (v : Move) (xs : List AccountRow) (ys : List AuthorizationRow) (zs : List OrderRow) →
    IsAmong v (swept m B).accounts (swept m B).authorizations (swept m B).orders → AreMoved m B (entry_of v) xs ys zs → IsAmong v xs ys zs
among_moved m B v xs ys zs h rows = search (rules, stays)
