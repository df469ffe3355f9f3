-- What is recorded, as data: the rows that are put, where they differ from those that stood there, and the nonces that are
-- removed.
use Rattle.std.specs.Prelude.{ℕ, ◌+◌, List, [], ◌∷◌, ◌++◌, map, Bool, not, cond, ◌&&◌, ◌||◌, ◌==◌, nat_lt, Option, is_none, is_some, bytes_eq}
use Rattle.std.specs.{Cmp.Lexicographic.pointwise, List.filter, List.list_any, List.zip}
use Rattle.desk_model.specs.Tables.{AccountRow, AuthorizationRow, ChallengeRow, OrderRow, Tables}
use Rattle.desk_model.specs.Derived.{account_code, chall_code, authz_code, order_code, restated_authorization, restated_order}
use Rattle.desk_model.specs.Effect.{noted_account, noted_authorization, noted_order, touches_account, touches_authorization, touches_order, fresh_account}
use Rattle.desk_model.specs.Effect.{fresh_authorization, fresh_order, new_authorizations, authorizations_after, lasts, is_overdue, falls, effect, effects}
use Rattle.desk_model.specs.Effect.{swept}
use Rattle.desk_model.specs.{Entry.Entry, Entry.spent, Nonce.Nonce, Nonce.issued_by, Account.opened_by, Order.ordered_by}
use Rattle.desk_model.specs.declared.status.OrderStatus.TheVariants as order
use Rattle.desk_model.specs.declared.status.AuthzStatus.TheVariants as authz
pub use Rattle.desk_model.specs.declared.rows.Change.{Change}
pub use Rattle.desk_model.specs.declared.rows.Change.TheVariants.{PutMeta, PutNonce, RemoveNonce, PutAccount, PutAuthorization, PutOrder}

-- the rows with this one in its place by number
abbrev pub put : {X : Type 0} → (X → ℕ) → X → List X → List X
put number x [] = x ∷ []
put number x (y ∷ ys) = cond (number x == number y) (x ∷ ys) (cond (nat_lt (number x) (number y)) (x ∷ y ∷ ys) (y ∷ put number x ys))

abbrev pub remove : {X : Type 0} → (X → ℕ) → ℕ → List X → List X
remove number n rows = filter (λ r. not (n == number r)) rows

abbrev pub applied_one : Change → Tables → Tables
applied_one (PutMeta x) T = record T { meta = x }
applied_one (PutNonce x) T = record T { nonces = put (λ n. n.serial) x T.nonces }
applied_one (RemoveNonce n) T = record T { nonces = remove (λ n. n.serial) n T.nonces }
applied_one (PutAccount x) T = record T { accounts = put (λ a. a.number) x T.accounts }
applied_one (PutAuthorization x) T = record T { authorizations = put (λ a. a.number) x T.authorizations }
applied_one (PutOrder x) T = record T { orders = put (λ o. o.number) x T.orders }

abbrev pub applied : List Change → Tables → Tables
applied [] T = T
applied (c ∷ cs) T = applied cs (applied_one c T)

-- ---- what an entry changes

abbrev pub spent_by : Entry → List ℕ
spent_by (spent n) = n ∷ []
spent_by _ = []

-- ---- the rows that it puts

-- there was no fact, and then there is one
abbrev pub is_gained : {X : Type 0} → (before after : Option X) → Bool
is_gained before after = is_none before && is_some after

-- an account's row differs in its key, its contacts, its end or its status
abbrev pub account_differs : (before after : AccountRow) → Bool
account_differs before after =
    not (bytes_eq before.key after.key)
    || (not (pointwise bytes_eq before.contacts after.contacts)
    || (is_gained before.ended after.ended || not (account_code before.status == account_code after.status)))

-- a challenge's row differs in its answer, its report or its status
abbrev pub challenge_differs : (before after : ChallengeRow) → Bool
challenge_differs before after =
    is_gained before.answered after.answered
    || (is_gained before.reported after.reported || not (chall_code before.status == chall_code after.status))

-- an authorization's row differs in its end, its status or one of its challenges
abbrev pub authorization_differs : (before after : AuthorizationRow) → Bool
authorization_differs before after =
    is_gained before.ended after.ended
    || (not (authz_code before.status == authz_code after.status)
    || list_any (λ p. challenge_differs p.0 p.1) (zip before.challenges after.challenges))

-- an order's row differs in its CSR, its certificate, its failure or its status
abbrev pub order_differs : (before after : OrderRow) → Bool
order_differs before after =
    is_gained before.finalized after.finalized
    || (is_gained before.certified after.certified
    || (is_gained before.failed after.failed || not (order_code before.status == order_code after.status)))

-- the rows that are touched, moved, where this makes them differ
abbrev pub moved_rows : {X : Type 0} → (touched : X → Bool) → (differs : X → X → Bool) → (move : X → X) → List X → List X
moved_rows touched differs move rows = map move (filter (λ r. touched r && differs r (move r)) rows)

-- each table gets the rows that are moved, then the new ones
abbrev pub nonces_put : Tables → Entry → ℕ → List Nonce
nonces_put T e m = issued_by e m (T.meta.counters.nonces + 1)

abbrev pub accounts_put : Tables → Entry → ℕ → List AccountRow
accounts_put T e m =
    moved_rows (touches_account e) account_differs (noted_account e m) T.accounts
    ++ map fresh_account (opened_by e m (T.meta.counters.accounts + 1))

abbrev pub authorizations_put : Tables → Entry → ℕ → List AuthorizationRow
authorizations_put T e m =
    moved_rows (touches_authorization e) authorization_differs (λ r. restated_authorization m (noted_authorization e m T.accounts r)) T.authorizations
    ++ map (λ a. restated_authorization m (fresh_authorization a)) (new_authorizations T e m)

abbrev pub orders_put : Tables → Entry → ℕ → List OrderRow
orders_put T e m =
    moved_rows (touches_order e T.authorizations) order_differs (λ r. restated_order m (authorizations_after T e m) (noted_order e m r)) T.orders
    ++ map (λ o. restated_order m (authorizations_after T e m) (fresh_order o))
    (ordered_by e m T.meta.policy (T.meta.counters.authorizations + 1) (T.meta.counters.orders + 1))

-- all of them, and the nonce that is removed
abbrev pub changes : ℕ → Tables → Entry → List Change
changes m T e =
    map RemoveNonce (spent_by e)
    ++ (map PutNonce (nonces_put T e m)
    ++ (map PutAccount (accounts_put T e m)
    ++ (map PutAuthorization (authorizations_put T e m)
    ++ map PutOrder (orders_put T e m))))

-- what the passing of time changes
abbrev pub nonces_gone : ℕ → Tables → List ℕ
nonces_gone m T = map (λ n. n.serial) (filter (λ n. not (lasts T.meta.policy m n)) T.nonces)

abbrev pub authorizations_expired : ℕ → Tables → List AuthorizationRow
authorizations_expired m T = map (λ (r : AuthorizationRow). record r { status = authz.Expired }) (filter (is_overdue m) T.authorizations)

abbrev pub orders_fallen : ℕ → Tables → List OrderRow
orders_fallen m T = map (λ (r : OrderRow). record r { status = order.Invalid }) (filter (falls m T.authorizations) T.orders)

abbrev pub sweep_changes : ℕ → Tables → List Change
sweep_changes m T =
    map RemoveNonce (nonces_gone m T) ++ (map PutAuthorization (authorizations_expired m T) ++ map PutOrder (orders_fallen m T))

abbrev pub all_changes : ℕ → Tables → List Entry → List Change
all_changes m T [] = []
all_changes m T (e ∷ es) = changes m T e ++ all_changes m (effect m T e) es

-- what a call records, nothing without an entry: what the passing of time changes, then entry by entry, and at the end the meta
-- row after all of them
abbrev pub recorded_changes : ℕ → Tables → List Entry → List Change
recorded_changes m T [] = []
recorded_changes m T (e ∷ es) =
    sweep_changes m T ++ (all_changes m (swept m T) (e ∷ es) ++ PutMeta (effects m (swept m T) (e ∷ es)).meta ∷ [])
