-- What an entry and a sweep put: rows that differ from those that they were moved from, with the same children, and new ones.
use Rattle.std.proofs.Common.{◌≡◌, ◌≢◌, ℕ, ◌+◌, List, [], ◌∷◌, ◌++◌, map, Option, Some, refl, sym, ap, ◌∙◌, true, false, Bool, arith}
use Rattle.std.proofs.lemmas.Option.{IfSome_then}
use Rattle.std.specs.Prelude.{IfSome, ◌==◌, find}
use Rattle.desk_model.specs.Effect.{noted_challenge, noted_authorization, touches_account, touches_authorization, authorizations_after, fresh_authorization}
use Rattle.desk_model.specs.Effect.{noted_account, noted_order, touches_order, effect, fresh_account, fresh_order, is_overdue, falls, swept}
use Rattle.desk_model.specs.Change.{account_differs, authorization_differs, order_differs, spent_by, authorizations_put, authorizations_expired, orders_fallen}
use Rattle.desk_model.specs.Change.{nonces_put, accounts_put, orders_put, changes, nonces_gone, sweep_changes}
use Rattle.desk_model.specs.declared.rows.Change.TheVariants.{PutNonce, RemoveNonce, PutAccount, PutAuthorization, PutOrder}
use Rattle.desk_model.specs.{Account.opened_by, Authorization.made_by, Nonce.issued_by, Order.ordered_by, Tables.Tables, Kept.EachOf, Derived.restated_order}
use Rattle.desk_model.specs.{Terms.Terms, declared.entry.Entry.Entry, declared.objects.Nonce.Nonce, declared.rows.Change.Change, Derived.restated_authorization}
use Rattle.desk_model.specs.{declared.rows.AuthorizationRow.AuthorizationRow, declared.rows.OrderRow.OrderRow, declared.rows.ChallengeRow.ChallengeRow}
use Rattle.model_laws.specs.{News.IsNews, News.KeepChallenges, News.KeepsChildren, News.StayAnswered, Ordered.Ascends, Ordered.Below, Ordered.IsOrdered}
use Rattle.model_laws.proofs.Differing.{account_differs_not, account_unmoved, authorization_differs_not, authorization_unmoved, order_differs_not}
use Rattle.model_laws.proofs.Differing.{order_unmoved}
use Rattle.model_laws.proofs.{Basics.each, Basics.each_all, Basics.each-append, Basics.each-map, MovedRows.challenge_number, OrderFacts.made_by_numbered}
use Rattle.model_laws.proofs.{PutRows.IsPut, PutRows.all_put, PutRows.moved_put, PutRows.new_put, RowLists.ascends_map, RowLists.numbered_ascends}
use Rattle.desk_model.specs.declared.status.AuthzStatus.TheVariants as authz
use Rattle.desk_model.specs.declared.status.OrderStatus.TheVariants as order

-- ---- moved rows

-- an authorization is moved to another row, with the same challenges
abbrev pub MovedAuthorization : AuthorizationRow → AuthorizationRow → Type 0
MovedAuthorization x y = (x ≢ y) × KeepChallenges x.challenges y.challenges

-- an order to another row that lists the same
abbrev pub MovedOrder : OrderRow → OrderRow → Type 0
MovedOrder x y = (x ≢ y) × (x.listed ≡ y.listed)

-- a row that is put was moved from the one that stands in its place, if any does
abbrev pub IsMove : Tables → Change → Type 0
IsMove T (PutNonce y) = IfSome (find (λ x. x.serial == y.serial) T.nonces) (λ x. x ≢ y)
IsMove T (PutAccount y) = IfSome (find (λ x. x.number == y.number) T.accounts) (λ x. x ≢ y)
IsMove T (PutAuthorization y) = IfSome (find (λ x. x.number == y.number) T.authorizations) (λ x. MovedAuthorization x y)
IsMove T (PutOrder y) = IfSome (find (λ x. x.number == y.number) T.orders) (λ x. MovedOrder x y)
IsMove T _ = Unit {0}

-- where another row stands, this one does not
another : {X : Type 0} (o : Option X) (y : X) → IfSome o (λ x. x ≢ y) → o ≢ Some y
another o y h e = grind arith

-- what is moved is news
pub is_news : (T : Tables) (c : Change) → IsMove T c → IsNews T c
is_news T (PutNonce y) h = another _ y h
is_news T (PutAccount y) h = another _ y h
is_news T (PutAuthorization y) h = another _ y (IfSome_then _ h (λ x (p : MovedAuthorization x y). p.0))
is_news T (PutOrder y) h = another _ y (IfSome_then _ h (λ x (p : MovedOrder x y). p.0))
is_news T _ h = tt

-- and keeps its children
pub keeps_children : (T : Tables) (c : Change) → IsMove T c → KeepsChildren T c
keeps_children T (PutAuthorization y) h = IfSome_then _ h (λ x (p : MovedAuthorization x y). p.1)
keeps_children T (PutOrder y) h = IfSome_then _ h (λ x (p : MovedOrder x y). p.1)
keeps_children T _ h = tt

-- rows that differ are other rows
others : {X : Type 0} (differs : X → X → Bool) → ((x : X) → differs x x ≡ false) → (x y : X) → differs x y ≡ true → x ≢ y
others differs never x y h e = let no : differs x y ≡ false = ap (differs x) (sym e) ∙ never x in cc

-- an entry leaves the numbers of challenges
challenge_numbers : (e : Entry) (m : ℕ) (key : List ℕ) (cs : List ChallengeRow) → map (λ c. c.number) cs
    ≡ map (λ c. c.number) (map (noted_challenge e m key) cs)
challenge_numbers e m key [] = refl
challenge_numbers e m key (c ∷ cs) = λ i. sym (challenge_number e m key c) i ∷ challenge_numbers e m key cs i

-- challenges that are as they were
stay_same : (cs : List ChallengeRow) → StayAnswered cs cs
stay_same [] = tt
stay_same (c ∷ cs) = (λ h. h, stay_same cs)

-- an entry takes no answer away
stay_noted : (e : Entry) (m : ℕ) (key : List ℕ) (cs : List ChallengeRow) → StayAnswered cs (map (noted_challenge e m key) cs)
stay_noted e m key [] = tt
stay_noted e m key (c ∷ cs) = grind (arith, (stay_noted e m key cs))

-- an authorization that expires is another row
expires : (m : ℕ) (row : AuthorizationRow) → is_overdue m row ≡ true → row ≢ record row { status = authz.Expired }
expires m row h e = grind arith

-- an order that falls is another row
fails : (m : ℕ) (rows : List AuthorizationRow) (row : OrderRow) → falls m rows row ≡ true → row ≢ record row { status = order.Invalid }
fails m rows row h e = grind arith

-- ---- the new rows ascend

-- a new nonce's serial goes on counting
pub issued_up : (e : Entry) (m n : ℕ) → Ascends (λ x. x.serial) n (issued_by e m n)
issued_up e m n = grind arith

-- and a new account's number
pub opened_up : (e : Entry) (m n : ℕ) → Ascends (λ x. x.number) n (map fresh_account (opened_by e m n))
opened_up e m n = grind arith

-- and a new order's
pub ordered_up : (e : Entry) (m : ℕ) (t : Terms) (first n : ℕ) (rows : List AuthorizationRow) →
    Ascends (λ x. x.number) n (map (λ o. restated_order m rows (fresh_order o)) (ordered_by e m t first n))
ordered_up e m t first n rows = grind arith

-- and those of new authorizations
pub made_up : (e : Entry) (m life n c : ℕ) → Ascends (λ x. x.number) n (map (λ a. restated_authorization m (fresh_authorization a)) (made_by e m life n c))
made_up e m life n c = grind (arith, ascends_map, numbered_ascends, (made_by_numbered e m life n c))

-- ---- what is put into each table

module _ (T : Tables) (h : IsOrdered T) (m : ℕ) where
  -- nonces, by an entry
  pub nonces_are_put : (e : Entry) (rows : List Nonce) → Below (λ n. n.serial) (T.meta.counters.nonces + 1) rows →
      IsPut (λ n. n.serial) (λ x y. x ≢ y) rows (nonces_put T e m) (rows ++ nonces_put T e m)
  nonces_are_put e rows below =
      new_put (λ n. n.serial) _ T.meta.counters.nonces rows (nonces_put T e m) below (issued_up e m (T.meta.counters.nonces + 1))

  -- accounts
  pub accounts_are_put : (e : Entry) → IsPut (λ a. a.number) (λ x y. x ≢ y) T.accounts (accounts_put T e m) (effect m T e).accounts
  accounts_are_put e =
      all_put (λ a. a.number) _ (noted_account e m) (λ a. refl) (touches_account e) account_differs (account_unmoved e m)
      (λ x. others account_differs account_differs_not x (noted_account e m x)) T.meta.counters.accounts T.accounts _ h.accounts
      (opened_up e m (T.meta.counters.accounts + 1))

  -- authorizations
  pub authorizations_are_put : (e : Entry) →
      IsPut (λ a. a.number) MovedAuthorization T.authorizations (authorizations_put T e m) (effect m T e).authorizations
  authorizations_are_put e =
      let move : AuthorizationRow → AuthorizationRow = λ r. restated_authorization m (noted_authorization e m T.accounts r) in
      all_put (λ a. a.number) MovedAuthorization move (λ a. refl) (touches_authorization e) authorization_differs (authorization_unmoved e m T.accounts)
      (λ x d. (
        others authorization_differs authorization_differs_not x (move x) d,
        record { numbers = challenge_numbers e m _ x.challenges; answers = stay_noted e m _ x.challenges },
      )) T.meta.counters.authorizations T.authorizations _ h.authorizations
      (made_up e m T.meta.policy.authz_life (T.meta.counters.authorizations + 1) (T.meta.counters.challenges + 1))

  -- orders
  pub orders_are_put : (e : Entry) → IsPut (λ o. o.number) MovedOrder T.orders (orders_put T e m) (effect m T e).orders
  orders_are_put e =
      let move : OrderRow → OrderRow = λ r. restated_order m (authorizations_after T e m) (noted_order e m r) in
      all_put (λ o. o.number) MovedOrder move (λ o. refl) (touches_order e T.authorizations) order_differs (order_unmoved e m (authorizations_after T e m))
      (λ x d. (others order_differs order_differs_not x (move x) d, refl)) T.meta.counters.orders T.orders _ h.orders
      (ordered_up e m T.meta.policy (T.meta.counters.authorizations + 1) (T.meta.counters.orders + 1) (authorizations_after T e m))

  -- authorizations that expire
  pub expired_are_put : IsPut (λ a. a.number) MovedAuthorization T.authorizations (authorizations_expired m T) (swept m T).authorizations
  expired_are_put =
      moved_put (λ a. a.number) MovedAuthorization (λ (r : AuthorizationRow). record r { status = authz.Expired }) (λ a. refl) (is_overdue m)
      (λ x overdue. (expires m x overdue, record { numbers = refl; answers = stay_same x.challenges })) T.authorizations h.authorizations.0

  -- orders that fall
  pub fallen_are_put : IsPut (λ o. o.number) MovedOrder T.orders (orders_fallen m T) (swept m T).orders
  fallen_are_put =
      moved_put (λ o. o.number) MovedOrder (λ (r : OrderRow). record r { status = order.Invalid }) (λ o. refl) (falls m T.authorizations)
      (λ x fallen. (fails m T.authorizations x fallen, refl)) T.orders h.orders.0

-- ---- all changes, beside the tables before them

-- what holds of each change of an entry
pub each_change : (P : Change → Type 0) (T : Tables) (m : ℕ) (e : Entry) → EachOf (λ n. P (RemoveNonce n)) (spent_by e) →
    EachOf (λ x. P (PutNonce x)) (nonces_put T e m) → EachOf (λ x. P (PutAccount x)) (accounts_put T e m) →
    EachOf (λ x. P (PutAuthorization x)) (authorizations_put T e m) → EachOf (λ x. P (PutOrder x)) (orders_put T e m) → EachOf P (changes m T e)
each_change P T m e removed nonces accounts authorizations orders = grind (
  arith,
  each-append,
  (each-map P PutAccount (accounts_put T e m) accounts),
  (each-map P PutAuthorization (authorizations_put T e m) authorizations),
  (each-map P PutOrder (orders_put T e m) orders),
)

-- the changes of an entry are moves
entry_moves : (T : Tables) (m : ℕ) (e : Entry) → IsOrdered T → EachOf (IsMove T) (changes m T e)
entry_moves T m e h =
    each_change (IsMove T) T m e (each_all _ (spent_by e) (λ n. tt)) (nonces_are_put T h m e T.nonces h.nonces.1).each
    (accounts_are_put T h m e).each (authorizations_are_put T h m e).each (orders_are_put T h m e).each

-- what an entry puts differs from what stands there
pub puts_differ : (T : Tables) (m : ℕ) (e : Entry) → IsOrdered T → EachOf (IsNews T) (changes m T e)
puts_differ T m e h = each _ _ (changes m T e) (is_news T) (entry_moves T m e h)

-- and keeps its children
pub puts_keep_children : (T : Tables) (m : ℕ) (e : Entry) → IsOrdered T → EachOf (KeepsChildren T) (changes m T e)
puts_keep_children T m e h = each _ _ (changes m T e) (keeps_children T) (entry_moves T m e h)

-- what holds of each change of a sweep
pub each_sweep : (P : Change → Type 0) (T : Tables) (m : ℕ) → EachOf (λ n. P (RemoveNonce n)) (nonces_gone m T) →
    EachOf (λ x. P (PutAuthorization x)) (authorizations_expired m T) → EachOf (λ x. P (PutOrder x)) (orders_fallen m T) →
    EachOf P (sweep_changes m T)
each_sweep P T m removed authorizations orders = grind (
  arith,
  each-append,
  (each-map P RemoveNonce (nonces_gone m T) removed),
  (each-map P PutAuthorization (authorizations_expired m T) authorizations),
  (each-map P PutOrder (orders_fallen m T) orders),
)

-- the changes of a sweep are moves
sweep_moves : (T : Tables) (m : ℕ) → IsOrdered T → EachOf (IsMove T) (sweep_changes m T)
sweep_moves T m h = each_sweep (IsMove T) T m (each_all _ (nonces_gone m T) (λ n. tt)) (expired_are_put T h m).each (fallen_are_put T h m).each

-- what a sweep puts differs from what stands there
pub swept_puts_differ : (T : Tables) (m : ℕ) → IsOrdered T → EachOf (IsNews T) (sweep_changes m T)
swept_puts_differ T m h = each _ _ (sweep_changes m T) (is_news T) (sweep_moves T m h)

-- and keeps its children
pub swept_puts_keep_children : (T : Tables) (m : ℕ) → IsOrdered T → EachOf (KeepsChildren T) (sweep_changes m T)
swept_puts_keep_children T m h = each _ _ (sweep_changes m T) (keeps_children T) (sweep_moves T m h)
