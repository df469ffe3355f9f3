-- Authorizations and orders are of accounts that were opened.
use Rattle.std.proofs.Common.{◌≡◌, ℕ, ◌+◌, List, [], ◌∷◌, length, true, arith}
use Rattle.std.specs.Prelude.{◌==◌, IsSome}
use Rattle.desk_model.specs.Account.{account_by_number, account_status, accounts, is_valid, opened_by}
use Rattle.desk_model.specs.{Authorization.authorizations, Entry.History, Kept.EachOf, Legal.EachFollows, Legal.may_follow, Order.orders}
use Rattle.desk_model.specs.{declared.entry.Dated.Dated, declared.entry.Entry.TheVariants.Ordered as ordered, declared.entry.Wanted.Wanted}
use Rattle.model_laws.proofs.{Basics.each, Basics.each-append, Basics.still_some, Basics.there, NewOrders.each_authorization, NewOrders.may_be_ordered}

-- the number is that of an account
abbrev pub HasAccount : History → ℕ → Type 0
HasAccount F n = IsSome (account_by_number n F)

-- an account stays
pub stays : (e : Dated) (F : History) (n : ℕ) → HasAccount F n → HasAccount (e ∷ F) n
stays e F n h = still_some (λ a. a.number == n) (accounts F) (opened_by e.entry e.date (length (accounts F) + 1)) h

-- the account that an order is made for
pub orders_for : (F : History) (k m : ℕ) (ws : List Wanted) → may_follow F (ordered k ws) m ≡ true →
    HasAccount (record { date = m; entry = ordered k ws } ∷ F) k
orders_for F k m ws may =
    stays (record { date = m; entry = ordered k ws }) F k
    (there (λ a. is_valid (account_status a F)) (account_by_number k F) (may_be_ordered F m k ws may).holder)

-- each authorization is of an account
pub authorizations_have_accounts : (F : History) → EachFollows F → EachOf (λ a. HasAccount F a.account) (authorizations F)
authorizations_have_accounts =
    each_authorization (λ F a. HasAccount F a.account) (λ e F a. stays e F a.account)
    (λ F account m ws h name tokens n c few is. orders_for F account m ws h.0.allowed)

-- and each order
pub orders_have_accounts : (F : History) → EachFollows F → EachOf (λ o. HasAccount F o.account) (orders F)
orders_have_accounts [] h = tt
orders_have_accounts (e ∷ F) h = grind (arith, each-append, each, stays, (orders_have_accounts F h.1))
