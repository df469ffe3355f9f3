-- The tables of a longer history, and those of a later moment.
use Rattle.std.proofs.Common.{◌≡◌, ◌≤◌, ℕ, ◌+◌, List, [], ◌∷◌, ◌++◌, length, map, filter, refl, ap, ◌∙◌, Bool, cond, arith, length-append}
use Rattle.std.proofs.{lemmas.List.map-append, lemmas.Bool.Decides.nat_tests}
use Rattle.std.specs.Prelude.{◌&&◌}
use Rattle.desk_model.specs.Effect.{moved_account, moved_authorization, moved_order, fresh_account, fresh_authorization, fresh_order, not_spent, effect}
use Rattle.desk_model.specs.Effect.{effects, swept}
use Rattle.desk_model.specs.{Entry.History, Order.orders, Kept.EachOf, History.clock, History.terms, History.record_all, Nonce.nonces, Nonce.issued_by}
use Rattle.desk_model.specs.{Nonce.is_open, Account.accounts, Account.opened_by, Authorization.authorizations, Legal.EachFollows, Tables.account_row}
use Rattle.desk_model.specs.{Tables.authorization_row, Tables.order_row, Tables.tables_at, Tables.picture, Derived.restated_authorization}
use Rattle.desk_model.specs.{Derived.restated_order, declared.entry.Entry.Entry, declared.objects.Account.Account, declared.objects.Nonce.Nonce}
use Rattle.model_laws.proofs.{Basics.each, Basics.each_all, Basics.map-each, Basics.map-moved, RowFacts.authorization_moves, RowFacts.authorization_swept}
use Rattle.model_laws.proofs.{OrderFacts.listed_found, OrderFacts.AreFound, OrderFacts.order_moves, OrderFacts.order_swept, Numbers.all_named, Numbers.no_first}
use Rattle.model_laws.proofs.{Numbers.made_now, Numbers.ordered_now, Numbers.count-append, Fresh.orders_fresh, Fresh.accounts_fresh, Fresh.authorizations_fresh}

-- ---- accounts

-- the row of an account after an entry
account_moves : (F : History) (e : Entry) (m : ℕ) (a : Account) →
    account_row (record { date = m; entry = e } ∷ F) a ≡ moved_account e m (account_row F a)
account_moves F e m a = grind arith

-- ---- nonces

-- one item of `filter_twice`
filter_split : {X : Type 0} (b c d : Bool) (x : X) (xs : List X) (q : X → Bool) → q x ≡ c → d ≡ (b && c) → (rest : List X) →
    rest ≡ filter q xs → cond d (x ∷ rest) rest ≡ filter q (cond b (x ∷ xs) xs)
filter_split b c d x xs q h k rest l = grind arith

-- two filters in a row
filter_twice : {X : Type 0} (d p q : X → Bool) (xs : List X) → ((x : X) → d x ≡ (p x && q x)) → filter d xs ≡ filter q (filter p xs)
filter_twice d p q [] h = refl
filter_twice d p q (x ∷ xs) h = filter_split (p x) (q x) (d x) x (filter p xs) q refl (h x) (filter d xs) (filter_twice d p q xs h)

-- what is left of two lists
pub filter-append : {X : Type 0} (p : X → Bool) (xs ys : List X) → filter p (xs ++ ys) ≡ filter p xs ++ filter p ys
filter-append p [] ys = refl
filter-append p (x ∷ xs) ys = grind (arith, (filter-append p xs ys))

-- what is open after the entry
open_on : (F : History) (e : Entry) (m : ℕ) → terms (record { date = m; entry = e } ∷ F) ≡ terms F → (n : Nonce) →
    is_open (record { date = m; entry = e } ∷ F) m n ≡ (is_open F m n && not_spent e n)
open_on F e m same n = grind arith

-- a nonce just issued is open
issued_open : (F : History) (e : Entry) (m : ℕ) → EachFollows (record { date = m; entry = e } ∷ F) →
    filter (is_open (record { date = m; entry = e } ∷ F) m) (issued_by e m (length (nonces F) + 1)) ≡ issued_by e m (length (nonces F) + 1)
issued_open F e m h = grind (arith, no_first, each, all_named)

-- the open nonces after an entry
nonces_on : (F : History) (e : Entry) (m : ℕ) → EachFollows (record { date = m; entry = e } ∷ F) →
    filter (is_open (record { date = m; entry = e } ∷ F) m) (nonces F ++ issued_by e m (length (nonces F) + 1))
    ≡ filter (not_spent e) (filter (is_open F m) (nonces F)) ++ issued_by e m (length (nonces F) + 1)
nonces_on F e m h = grind (arith, filter-append, filter_twice, open_on, issued_open)

-- ---- the step

-- row by row, and new rows
pub rows_on : {X Y : Type 0} (f g fresh : X → Y) (move : Y → Y) (xs more : List X) → EachOf (λ x. g x ≡ move (f x)) xs →
    EachOf (λ x. g x ≡ fresh x) more →
    map g (xs ++ more) ≡ map move (map f xs) ++ map fresh more
rows_on f g fresh move xs more h k = map-append g xs more ∙ (λ i. map-moved f move g xs h i ++ map-each g fresh more k i)

-- the tables after an entry are its effect on those before it
pub step : (F : History) (e : Entry) (m : ℕ) → EachFollows (record { date = m; entry = e } ∷ F) →
    tables_at (record { date = m; entry = e } ∷ F) m ≡ effect m (tables_at F m) e
step F e m h = grind (
  arith,
  nat_tests,
  AreFound,
  listed_found,
  made_now,
  rows_on,
  each_all,
  authorization_moves,
  authorizations_fresh,
  ordered_now,
  each,
  order_moves,
  orders_fresh,
  account_moves,
  accounts_fresh,
  length-append,
  count-append,
  nonces_on,
  (listed_found F h.1),
  (rows_on (authorization_row F m) (authorization_row ((record { date = m; entry = e }) ∷ F) m) (λ a. restated_authorization m (fresh_authorization a))
      (moved_authorization e m (map (account_row F) (accounts F))) (authorizations F) (made_now (record { date = m; entry = e }) F)
      (each_all _ (authorizations F) (λ a. authorization_moves F e m a h h.0.in_order)) (authorizations_fresh F e m h)),
  (rows_on (order_row F m) (order_row ((record { date = m; entry = e }) ∷ F) m)
      (λ o. restated_order m (map (authorization_row ((record { date = m; entry = e }) ∷ F) m) (authorizations ((record { date = m; entry = e }) ∷ F)))
      (fresh_order o)) (moved_order e m (map (authorization_row F m) (authorizations F))
      (map (authorization_row ((record { date = m; entry = e }) ∷ F) m) (authorizations ((record { date = m; entry = e }) ∷ F)))) (orders F)
      (ordered_now (record { date = m; entry = e }) F) (each _ _ (orders F) (λ o. order_moves F e m o h h.0.in_order) (listed_found F h.1))
      (orders_fresh F e m h)),
  (rows_on (account_row F) (account_row ((record { date = m; entry = e }) ∷ F)) fresh_account (moved_account e m) (accounts F)
      (opened_by e m (length (accounts F) + 1)) (each_all _ (accounts F) (account_moves F e m)) (accounts_fresh F e m h)),
  (ordered_now (record { date = m; entry = e }) F),
  (made_now (record { date = m; entry = e }) F),
  (account_moves F e m),
  (accounts_fresh F e m h),
  (authorizations_fresh F e m h),
  (orders_fresh F e m h),
)

-- ---- the sweep

-- the tables at a later moment are the swept ones
pub sweep : (F : History) (t m : ℕ) → t ≤ m → tables_at F m ≡ swept m (tables_at F t)
sweep F t m le = grind (arith, filter_twice, map-moved, each_all, authorization_swept, order_swept)

-- ---- some entries at one moment

-- the history before some entries is legal
pub follows_before : (m : ℕ) (es : List Entry) (F : History) → EachFollows (record_all m es F) → EachFollows F
follows_before m [] F h = h
follows_before m (e ∷ es) F h = (follows_before m es (record { date = m; entry = e } ∷ F) h).1

-- the tables after entries in a row
pub steps : (F : History) (es : List Entry) (m : ℕ) → EachFollows (record_all m es F) → tables_at (record_all m es F) m ≡ effects m (tables_at F m) es
steps F [] m h = refl
steps F (e ∷ es) m h =
    steps (record { date = m; entry = e } ∷ F) es m h
    ∙ ap (λ T. effects m T es) (step F e m (follows_before m es (record { date = m; entry = e } ∷ F) h))

-- entries at one moment leave the clock there
pub clock_after : (m : ℕ) (es : List Entry) (F : History) → clock F ≡ m → clock (record_all m es F) ≡ m
clock_after m [] F h = h
clock_after m (e ∷ es) F h = clock_after m es (record { date = m; entry = e } ∷ F) (omega arith)

-- the picture of a longer history: the sweep, then the entries
pub picture_more : (F : History) (e : Entry) (es : List Entry) (m : ℕ) → clock F ≤ m → EachFollows (record_all m (e ∷ es) F) →
    picture (record_all m (e ∷ es) F) ≡ effects m (swept m (picture F)) (e ∷ es)
picture_more F e es m le h = grind (
  arith,
  nat_tests,
  clock_after,
  steps,
  sweep,
  (steps F (e ∷ es) m h),
  (clock_after m es (record { date = m; entry = e } ∷ F) (omega arith)),
  (sweep F (clock F) m le),
)
