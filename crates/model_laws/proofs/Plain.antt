-- A signed request spends a nonce and issues one before its own entry: these two touch no other table.
use Rattle.std.proofs.Common.{◌≡◌, ℕ, ◌+◌, List, [], ◌∷◌, ◌++◌, map, refl, sym, ap, subst, true, false, cond, arith}
use Rattle.desk_model.specs.Effect.{effect, moved_order, lists_one, new_authorizations, touches_account, touches_authorization, touches_order}
use Rattle.desk_model.specs.{Tables.Tables, Order.listed_by, Derived.numbers_of, Kept.Kept, Kept.EachOf}
use Rattle.desk_model.specs.{Kept.IsClosed, Kept.Covers, declared.objects.Authorization.Authorization, declared.rows.AccountRow.AccountRow}
use Rattle.desk_model.specs.{declared.rows.AuthorizationRow.AuthorizationRow, declared.rows.OrderRow.OrderRow}
use Rattle.desk_model.specs.declared.entry.Entry.{Entry, TheVariants.Issued as issued, TheVariants.Spent as spent, TheVariants.Ordered as ordered}
use Rattle.model_laws.proofs.{RowLists.numbered_ascends, Basics.each_all, Chain.up_kept}
use Rattle.model_laws.proofs.OrderFacts.{each_listed, made_by_numbered, numbers_listed}
use Rattle.model_laws.specs.Parts.{FreshKept, ReusedKept, CoversAll}

-- no listed row passes a test that none passes
pub nothing_touched : (rows : List AuthorizationRow) (ns : List ℕ) → lists_one (λ a. false) rows ns ≡ false
nothing_touched rows [] = refl
nothing_touched rows (n ∷ ns) = grind (arith, (nothing_touched rows ns))

-- rows that stay what they are
kept_rows : {X : Type 0} (f : X → X) (xs : List X) → ((x : X) → f x ≡ x) → map f xs ++ [] ≡ xs
kept_rows f [] h = refl
kept_rows f (x ∷ xs) h = λ i. h x i ∷ kept_rows f xs h i

-- the entry changes the meta row and the nonces
abbrev pub LeavesRows : ℕ → Tables → Entry → Type 0
LeavesRows m T e = effect m T e ≡ record T { meta = (effect m T e).meta; nonces = (effect m T e).nonces }

-- so does one that moves no account and no authorization, and touches no order
leaves_rows : (m : ℕ) (T : Tables) (e : Entry) → (effect m T e).accounts ≡ T.accounts → (effect m T e).authorizations ≡ T.authorizations →
    ((o : OrderRow) → moved_order e m T.authorizations (effect m T e).authorizations o ≡ o) →
    (effect m T e).orders ≡ map (moved_order e m T.authorizations (effect m T e).authorizations) T.orders ++ [] → LeavesRows m T e
leaves_rows m T e accounts authorizations stays orders = grind (arith, kept_rows)

-- an order that lists no row which passes a test that none passes is not touched
order_stays : (T : Tables) (move : OrderRow → OrderRow) (o : OrderRow) → cond (lists_one (λ a. false) T.authorizations (numbers_of o.listed)) (move o) o ≡ o
order_stays T move o = ap (λ b. cond b (move o) o) (nothing_touched T.authorizations (numbers_of o.listed))

-- a nonce that is spent
pub spent_effect : (m : ℕ) (T : Tables) (n : ℕ) → LeavesRows m T (spent n)
spent_effect m T n = leaves_rows m T (spent n) (kept_rows _ T.accounts (λ a. refl)) (kept_rows _ T.authorizations (λ r. refl)) (order_stays T _) refl

-- and one that is issued
pub issued_effect : (m : ℕ) (T : Tables) (r : List ℕ) → LeavesRows m T (issued r)
issued_effect m T r = leaves_rows m T (issued r) (kept_rows _ T.accounts (λ a. refl)) (kept_rows _ T.authorizations (λ r. refl)) (order_stays T _) refl

-- ---- what holds of a part stays so

-- a closed part stays closed
pub left_closed : (k : Kept) (m : ℕ) (T : Tables) (e : Entry) → LeavesRows m T e → IsClosed k T → IsClosed k (effect m T e)
left_closed k m T e left h = grind arith

-- where a nonce is spent
pub spent_closed : (k : Kept) (m : ℕ) (T : Tables) (n : ℕ) → IsClosed k T → IsClosed k (effect m T (spent n))
spent_closed k m T n h = left_closed k m T (spent n) (spent_effect m T n) h

-- and where one is issued
pub issued_closed : (k : Kept) (m : ℕ) (T : Tables) (r : List ℕ) → IsClosed k T → IsClosed k (effect m T (issued r))
issued_closed k m T r h = left_closed k m T (issued r) (issued_effect m T r) h

-- a part that covers an entry covers it behind such an entry
pub left_covers : (k : Kept) (m : ℕ) (T : Tables) (first e : Entry) → LeavesRows m T first → Covers k T e → Covers k (effect m T first) e
left_covers k m T first e left h =
    subst (λ U. Covers k U e) (sym left)
    (record { accounts = h.accounts; authorizations = h.authorizations; orders = h.orders; holders = h.holders })

-- the entry touches nothing of the tables
abbrev TouchesNone : Tables → Entry → Type 0
TouchesNone T e =
    ((a : AccountRow) → touches_account e a ≡ false) × ((r : AuthorizationRow) → touches_authorization e r ≡ false)
    × ((o : OrderRow) → touches_order e T.authorizations o ≡ false)

-- each part covers such an entry
none_covered : (k : Kept) (T : Tables) (e : Entry) → TouchesNone T e → Covers k T e
none_covered k T e none = grind (arith, each_all)

-- the spending of a nonce
pub covers_spent : (k : Kept) (T : Tables) (n : ℕ) → Covers k T (spent n)
covers_spent k T n = none_covered k T (spent n) (λ a. refl, λ r. refl, λ o. nothing_touched T.authorizations (numbers_of o.listed))

-- and the issuing of one
pub covers_issued : (k : Kept) (T : Tables) (r : List ℕ) → Covers k T (issued r)
covers_issued k T r = none_covered k T (issued r) (λ a. refl, λ r. refl, λ o. nothing_touched T.authorizations (numbers_of o.listed))

-- a new order lists new authorizations, and those that it uses again
pub fresh_kept : (k : Kept) (T : Tables) (m : ℕ) (e : Entry) → IsClosed k T → ReusedKept k e → FreshKept k T m e
fresh_kept k T m (ordered account ws) h again =
    let first : ℕ = T.meta.counters.authorizations + 1 in
    let made : List Authorization = new_authorizations T (ordered account ws) m in (
      subst (EachOf (λ n. k.authorizations n ≡ true)) (sym (numbers_listed 1 (listed_by ws first)))
          (each_listed (λ n. k.authorizations n ≡ true) account m (m + T.meta.policy.authz_life) ws first (T.meta.counters.challenges + 1)
          (up_kept (λ (a : Authorization). a.number) k.authorizations T.meta.counters.authorizations h.new_authorizations first (omega arith) made
          (numbered_ascends (λ a. a.number) first made
          (made_by_numbered (ordered account ws) m T.meta.policy.authz_life first (T.meta.counters.challenges + 1)))) again),
      tt,
    )
fresh_kept k T m _ h again = tt

-- a part covers the entries of nonces, and then what it covered before
pub nonces_covered : (k : Kept) (m : ℕ) (T : Tables) (n : ℕ) (r : List ℕ) (es : List Entry) → IsClosed k T →
    CoversAll k m (effect m (effect m T (spent n)) (issued r)) es → CoversAll k m T (spent n ∷ issued r ∷ es)
nonces_covered k m T n r es closed rest = (closed, covers_spent k T n, tt, (spent_closed k m T n closed, covers_issued k (effect m T (spent n)) r, tt, rest))
