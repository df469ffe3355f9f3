-- A part that holds what is touched records the same changes as the whole.
use Rattle.std.proofs.Common.{◌≡◌, ℕ, ◌+◌, List, [], ◌∷◌, ◌++◌, map, filter, refl, sym, ap, ◌∙◌, true, Bool, cond, arith, rules}
use Rattle.std.proofs.{lemmas.Bool.and_parts, lemmas.List.Folds.find-append}
use Rattle.std.specs.{Prelude.◌==◌, Prelude.◌&&◌, Prelude.◌||◌, Prelude.find, Option.option_or}
use Rattle.desk_model.specs.Derived.{numbers_of, authorization_numbered, stored_statuses, and_status, restated_authorization, restated_order}
use Rattle.desk_model.specs.Effect.{noted_account, noted_authorization, noted_order, touches_account, touches_authorization, touches_order, lists_one}
use Rattle.desk_model.specs.Effect.{moved_authorization, fresh_account, fresh_authorization, fresh_order, new_authorizations, authorizations_after, swept}
use Rattle.desk_model.specs.Effect.{swept_authorization, swept_order, is_overdue, falls}
use Rattle.desk_model.specs.Change.{moved_rows, account_differs, authorization_differs, order_differs, spent_by, nonces_put, changes, sweep_changes}
use Rattle.desk_model.specs.Change.{nonces_gone, authorizations_expired, orders_fallen}
use Rattle.desk_model.specs.Kept.{Kept, restricted, EachOf, IsClosed, Covers, CoversSweep, HoldersKept}
use Rattle.desk_model.specs.declared.rows.Change.TheVariants.{PutNonce, RemoveNonce, PutAccount, PutAuthorization, PutOrder}
use Rattle.desk_model.specs.{Lookup.holds, Account.opened_by, Order.ordered_by, Tables.Tables, declared.entry.Entry.Entry, declared.objects.Order.Order}
use Rattle.desk_model.specs.{declared.rows.AccountRow.AccountRow, declared.rows.AuthorizationRow.AuthorizationRow, declared.rows.OrderRow.OrderRow}
use Rattle.model_laws.specs.Parts.{FreshKept}
use Rattle.model_laws.proofs.{Basics.each, Basics.each_all, Basics.map-each, Basics.one_kept, OrderFacts.restated_alike, RowFacts.authorization_untouched}

-- ---- lists

-- the picked rows of a part, moved, are those of the whole
picked : {X Y : Type 0} (kept p q : X → Bool) (f g : X → Y) (xs : List X) → EachOf (λ x. kept x ≡ true → (p x ≡ q x) × (f x ≡ g x)) xs →
    EachOf (λ x. q x ≡ true → kept x ≡ true) xs →
    map f (filter p (filter kept xs)) ≡ map g (filter q xs)
picked kept p q f g [] h k = refl
picked kept p q f g (x ∷ xs) h k = grind (arith, (picked kept p q f g xs h.1 k.1))

-- the rows of a part, moved, are the part of the moved rows
pub moved_part : {X : Type 0} (kept : X → Bool) (f g : X → X) (xs : List X) → ((x : X) → kept (g x) ≡ kept x) →
    EachOf (λ x. kept x ≡ true → f x ≡ g x) xs →
    map f (filter kept xs) ≡ filter kept (map g xs)
moved_part kept f g [] same h = refl
moved_part kept f g (x ∷ xs) same h = grind (arith, (moved_part kept f g xs same h.1))

-- ---- look-ups

-- a number that is kept is found in the part as in the whole
pub find_kept : {X : Type 0} (number : X → ℕ) (kept : ℕ → Bool) (n : ℕ) (xs : List X) → kept n ≡ true →
    find (λ x. number x == n) (filter (λ x. kept (number x)) xs) ≡ find (λ x. number x == n) xs
find_kept number kept n [] h = refl
find_kept number kept n (x ∷ xs) h = grind (arith, (find_kept number kept n xs h))

-- the authorizations of these numbers are the same in both lists
abbrev SameFor : List AuthorizationRow → List AuthorizationRow → List ℕ → Type 0
SameFor rows others ns = EachOf (λ n. authorization_numbered n rows ≡ authorization_numbered n others) ns

-- orders list the same, where the look-ups agree
lists_same : (test : AuthorizationRow → Bool) (rows others : List AuthorizationRow) (ns : List ℕ) → SameFor rows others ns →
    lists_one test rows ns ≡ lists_one test others ns
lists_same test rows others [] h = refl
lists_same test rows others (n ∷ ns) h = λ i. holds test (h.0 i) || lists_same test rows others ns h.1 i

-- and the stored statuses are the same
statuses_same : (rows others : List AuthorizationRow) (ns : List ℕ) → SameFor rows others ns → stored_statuses rows ns ≡ stored_statuses others ns
statuses_same rows others [] h = refl
statuses_same rows others (n ∷ ns) h = λ i. and_status (h.0 i) (statuses_same rows others ns h.1 i)

-- and an order gets the same status
pub restated_same : (m : ℕ) (rows others : List AuthorizationRow) (row : OrderRow) → SameFor rows others (numbers_of row.listed) →
    restated_order m rows row ≡ restated_order m others row
restated_same m rows others row h = restated_alike m rows others row (statuses_same rows others (numbers_of row.listed) h)

-- the look-ups agree for kept authorizations
kept_before : (k : Kept) (T : Tables) (ns : List ℕ) → EachOf (λ n. k.authorizations n ≡ true) ns → SameFor (restricted k T).authorizations T.authorizations ns
kept_before k T ns h = each _ _ ns (λ n yes. find_kept (λ (a : AuthorizationRow). a.number) k.authorizations n T.authorizations yes) h

-- a moved authorization keeps its number
pub moved_number : (e : Entry) (m : ℕ) (accounts : List AccountRow) (row : AuthorizationRow) → (moved_authorization e m accounts row).number ≡ row.number
moved_number e m accounts row = one_kept (λ (a : AuthorizationRow). a.number) (touches_authorization e row) _ row refl

-- an authorization is noted by the part as by the whole, if its account is kept where the entry touches it
noted_same : (k : Kept) (T : Tables) (e : Entry) (m : ℕ) (a : AuthorizationRow) → (touches_authorization e a ≡ true → k.accounts a.account ≡ true) →
    noted_authorization e m (restricted k T).accounts a ≡ noted_authorization e m T.accounts a
noted_same k T e m a h = grind (
  arith,
  (find_kept (λ (r : AccountRow). r.number) k.accounts a.account T.accounts),
  (authorization_untouched e m (restricted k T).accounts a),
  (authorization_untouched e m T.accounts a),
)

-- and so it is moved
moved_same : (k : Kept) (T : Tables) (e : Entry) (m : ℕ) (a : AuthorizationRow) → (touches_authorization e a ≡ true → k.accounts a.account ≡ true) →
    moved_authorization e m (restricted k T).accounts a ≡ moved_authorization e m T.accounts a
moved_same k T e m a h = ap (λ r. cond (touches_authorization e a) (restated_authorization m r) a) (noted_same k T e m a h)

-- each of them
pub all_moved_same : (k : Kept) (T : Tables) (e : Entry) (m : ℕ) → HoldersKept k T e →
    EachOf (λ a. k.authorizations a.number ≡ true → moved_authorization e m (restricted k T).accounts a ≡ moved_authorization e m T.accounts a)
    T.authorizations
all_moved_same k T e m holders = each _ _ T.authorizations (λ a h yes. moved_same k T e m a h) holders

-- the part's authorizations after an entry
pub after_part : (k : Kept) (T : Tables) (e : Entry) (m : ℕ) → HoldersKept k T e → authorizations_after (restricted k T) e m
    ≡ filter (λ a. k.authorizations a.number) (map (moved_authorization e m T.accounts) T.authorizations)
    ++ map (λ a. restated_authorization m (fresh_authorization a)) (new_authorizations T e m)
after_part k T e m holders =
    ap (λ rows. rows ++ map (λ a. restated_authorization m (fresh_authorization a)) (new_authorizations T e m))
    (moved_part (λ (a : AuthorizationRow). k.authorizations a.number) (moved_authorization e m (restricted k T).accounts)
    (moved_authorization e m T.accounts) T.authorizations
    (λ a. ap k.authorizations (moved_number e m T.accounts a)) (all_moved_same k T e m holders))

-- the look-ups agree after an entry
pub kept_after : (k : Kept) (T : Tables) (e : Entry) (m : ℕ) (ns : List ℕ) → HoldersKept k T e → EachOf (λ n. k.authorizations n ≡ true) ns →
    SameFor (authorizations_after (restricted k T) e m) (authorizations_after T e m) ns
kept_after k T e m ns holders h =
    each _ _ ns (λ n yes.
    let new : List AuthorizationRow = map (λ a. restated_authorization m (fresh_authorization a)) (new_authorizations T e m) in
    let rows : List AuthorizationRow = map (moved_authorization e m T.accounts) T.authorizations in
    ap (authorization_numbered n) (after_part k T e m holders)
    ∙ find-append (λ a. a.number == n) (filter (λ a. k.authorizations a.number) rows) new
    ∙ ap (λ o. option_or o (find (λ a. a.number == n) new)) (find_kept (λ (a : AuthorizationRow). a.number) k.authorizations n rows yes)
    ∙ sym (find-append (λ a. a.number == n) rows new)) h

-- ---- the sweep

-- an order falls by the part where it falls by the whole
falls_same : (k : Kept) (T : Tables) (m : ℕ) (row : OrderRow) → EachOf (λ n. k.authorizations n ≡ true) (numbers_of row.listed) →
    falls m (restricted k T).authorizations row ≡ falls m T.authorizations row
falls_same k T m row h = grind (arith, lists_same, (kept_before k T (numbers_of row.listed) h))

-- the part changes as the whole by the passing of time
pub sweep_changes_local : (k : Kept) (T : Tables) (m : ℕ) → IsClosed k T → CoversSweep k T m → sweep_changes m (restricted k T) ≡ sweep_changes m T
sweep_changes_local k T m closed covers =
    let gone : nonces_gone m (restricted k T) ≡ nonces_gone m T =
    picked _ _ _ _ _ T.nonces (each_all _ T.nonces (λ n yes. (refl, refl))) covers.nonces in
    let expired : authorizations_expired m (restricted k T) ≡ authorizations_expired m T =
    picked _ _ _ _ _ T.authorizations (each_all _ T.authorizations (λ a yes. (refl, refl))) covers.authorizations in
    let fallen : orders_fallen m (restricted k T) ≡ orders_fallen m T =
    picked _ _ _ _ _ T.orders (each _ _ T.orders (λ o all yes. (falls_same k T m o (all yes), refl)) closed.listed) covers.orders in
    search rules

-- ---- an entry

-- an entry touches an order by the part where it does by the whole
pub touches_same : (k : Kept) (T : Tables) (e : Entry) (row : OrderRow) → EachOf (λ n. k.authorizations n ≡ true) (numbers_of row.listed) →
    touches_order e (restricted k T).authorizations row ≡ touches_order e T.authorizations row
touches_same k T e row h = grind (arith, lists_same, (kept_before k T (numbers_of row.listed) h))

-- new orders get the same status from the part as from the whole
pub fresh_orders : (k : Kept) (T : Tables) (m : ℕ) (e : Entry) (xs : List Order) → HoldersKept k T e →
    EachOf (λ o. EachOf (λ n. k.authorizations n ≡ true) (numbers_of (fresh_order o).listed)) xs →
    map (λ o. restated_order m (authorizations_after (restricted k T) e m) (fresh_order o)) xs
    ≡ map (λ o. restated_order m (authorizations_after T e m) (fresh_order o)) xs
fresh_orders k T m e xs holders h =
    map-each _ _ xs (each _ _ xs (λ o kept. restated_same m _ _ (fresh_order o) (kept_after k T e m (numbers_of (fresh_order o).listed) holders kept)) h)

-- the part changes as the whole by an entry
pub changes_local : (k : Kept) (T : Tables) (m : ℕ) (e : Entry) → IsClosed k T → Covers k T e → FreshKept k T m e → changes m (restricted k T) e ≡ changes m T e
changes_local k T m e closed covers fresh_kept =
    let accounts : moved_rows (touches_account e) account_differs (noted_account e m) (restricted k T).accounts
    ≡ moved_rows (touches_account e) account_differs (noted_account e m) T.accounts =
    picked _ _ _ _ _ T.accounts (each_all _ T.accounts (λ a yes. (refl, refl)))
    (each _ _ T.accounts (λ a f h. f (and_parts (touches_account e a) _ h).0) covers.accounts) in
    let authorizations : moved_rows (touches_authorization e) authorization_differs
    (λ r. restated_authorization m (noted_authorization e m (restricted k T).accounts r)) (restricted k T).authorizations
    ≡ moved_rows (touches_authorization e) authorization_differs
    (λ r. restated_authorization m (noted_authorization e m T.accounts r)) T.authorizations =
    picked _ _ _ _ _ T.authorizations
    (each _ _ T.authorizations (λ a h yes.
    let same = ap (restated_authorization m) (noted_same k T e m a h) in
    ((λ i. touches_authorization e a && authorization_differs a (same i)), same)) covers.holders)
    (each _ _ T.authorizations (λ a f h. f (and_parts (touches_authorization e a) _ h).0) covers.authorizations) in
    let after : List AuthorizationRow = authorizations_after (restricted k T) e m in
    let orders : moved_rows (touches_order e (restricted k T).authorizations) order_differs (λ r. restated_order m after (noted_order e m r))
    (restricted k T).orders
    ≡ moved_rows (touches_order e T.authorizations) order_differs (λ r. restated_order m (authorizations_after T e m) (noted_order e m r)) T.orders =
    picked _ _ _ _ _ T.orders
    (each _ _ T.orders (λ o all yes.
    let same = restated_same m after (authorizations_after T e m) (noted_order e m o)
    (kept_after k T e m (numbers_of o.listed) covers.holders (all yes)) in
    ((λ i. touches_same k T e o (all yes) i && order_differs o (same i)), same)) closed.listed)
    (each _ _ T.orders (λ o f h. f (and_parts (touches_order e T.authorizations o) _ h).0) covers.orders) in
    let new = fresh_orders k T m e (ordered_by e m T.meta.policy (T.meta.counters.authorizations + 1) (T.meta.counters.orders + 1)) covers.holders fresh_kept in
    λ i. map RemoveNonce (spent_by e) ++
    (map PutNonce (nonces_put T e m) ++
    (map PutAccount (accounts i ++ map fresh_account (opened_by e m (T.meta.counters.accounts + 1))) ++
    (map PutAuthorization (authorizations i ++ map (λ a. restated_authorization m (fresh_authorization a)) (new_authorizations T e m)) ++
    map PutOrder (orders i ++ new i))))

-- ---- a part moves as the whole

-- a test that all pass leaves all
pub filter_all : {X : Type 0} (p : X → Bool) (xs : List X) → EachOf (λ x. p x ≡ true) xs → filter p xs ≡ xs
filter_all p [] h = refl
filter_all p (x ∷ xs) h = ap (λ b. cond b (x ∷ filter p xs) (filter p xs)) h.0 ∙ ap (λ l. x ∷ l) (filter_all p xs h.1)

-- filters in either order
pub filters_swap : {X : Type 0} (p q : X → Bool) (xs : List X) → filter p (filter q xs) ≡ filter q (filter p xs)
filters_swap p q [] = refl
filters_swap p q (x ∷ xs) = grind (arith, (filters_swap p q xs))

-- a swept authorization keeps its number
pub swept_number : (m : ℕ) (row : AuthorizationRow) → (swept_authorization m row).number ≡ row.number
swept_number m row = one_kept (λ (a : AuthorizationRow). a.number) (is_overdue m row) _ row refl

-- a swept order keeps its number
pub swept_order_number : (m : ℕ) (rows : List AuthorizationRow) (row : OrderRow) → (swept_order m rows row).number ≡ row.number
swept_order_number m rows row = one_kept (λ (o : OrderRow). o.number) (falls m rows row) _ row refl

-- a part in which the same orders fall, swept, is the part of the swept tables
pub swept_alike : (k : Kept) (T : Tables) (m : ℕ) →
    EachOf (λ o. k.orders o.number ≡ true → falls m (restricted k T).authorizations o ≡ falls m T.authorizations o) T.orders →
    swept m (restricted k T) ≡ restricted k (swept m T)
swept_alike k T m alike = grind (arith, filters_swap, moved_part, each_all, each)

-- as in a closed one
pub swept_part : (k : Kept) (T : Tables) (m : ℕ) → IsClosed k T → swept m (restricted k T) ≡ restricted k (swept m T)
swept_part k T m closed = swept_alike k T m (each _ _ T.orders (λ o all yes. falls_same k T m o (all yes)) closed.listed)

-- ---- what a decision reads: the first row that passes a test, and all rows that pass one

-- the first row that passes is the same in a part that keeps the rows that pass
pub find_part : {X : Type 0} (test kept : X → Bool) (xs : List X) → EachOf (λ x. test x ≡ true → kept x ≡ true) xs → find test (filter kept xs) ≡ find test xs
find_part test kept [] h = refl
find_part test kept (x ∷ xs) h = grind (arith, (find_part test kept xs h.1))

-- and so are all rows that pass
pub filter_part : {X : Type 0} (test kept : X → Bool) (xs : List X) → EachOf (λ x. test x ≡ true → kept x ≡ true) xs →
    filter test (filter kept xs) ≡ filter test xs
filter_part test kept [] h = refl
filter_part test kept (x ∷ xs) h = grind (arith, (filter_part test kept xs h.1))
