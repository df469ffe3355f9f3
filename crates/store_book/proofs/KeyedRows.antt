-- The rows of a book that stand by key keep their counters and find what they refer to.
use Rattle.std.proofs.Common.{◌≡◌, ◌<◌, ◌≤◌, ◌+◌, ℕ, List, [], ◌∷◌, map, refl, sym, ap, subst, ◌∙◌, arith, rules}
use Rattle.std.proofs.lemmas.List.Sorted.{All-permutation, IsPermutation-map, IsPermutation-sym, IsPermutation-trans}
use Rattle.std.proofs.{lemmas.Simd.map-map, lemmas.List.Elements.All-from_recursion, lemmas.List.Elements.recursion_from_All}
use Rattle.std.specs.{Prelude.◌==◌, Prelude.find, Prelude.IsSome, List.flat_map, List.Sorted.IsPermutation}
use Rattle.store_columns.specs.Flat.{bare_row, challenge_rows, key_rows, listed_rows, owned_by, without_challenges, without_listed}
use Rattle.store_columns.specs.{declared.columns.AnswerKey.AnswerKey, declared.columns.BareChallenge.BareChallenge, declared.columns.FlatRows.FlatRows}
use Rattle.store_columns.specs.declared.columns.Owned.{Owned}
use Rattle.model_laws.specs.Ordered.{Ascends, IsTable}
use Rattle.model_laws.proofs.Basics.{each, each-append, each-map, each_all, find-map}
use Rattle.model_laws.proofs.RowLists.{ascends_found, ascends_from, ascends_map}
use Rattle.desk_model.specs.{Questions.account_on, Questions.authorization_on, Kept.EachOf, Tables.Tables, declared.rows.AuthorizationRow.AuthorizationRow}
use Rattle.desk_model.specs.{declared.rows.ChallengeRow.ChallengeRow, declared.rows.Listed.Listed, declared.rows.OrderRow.OrderRow}
use Rattle.store_book.specs.BookRows.{AreAccounts, AreAuthorizations, AreBookRows, AreChallenges, AreListed, AreOrders, IsAmong, PlacesRise, answered_number}
use Rattle.store_book.specs.BookRows.{answered_numbers}
use Rattle.store_book.specs.{ByKey.AreByKey, ByKey.BooksHaveRows, IsBook.IsBookOf, Passing.IsPlacedNext, Passing.PlacedFrom}
use Rattle.store_book.proofs.{OrderedRows.same_ascending, SortedLists.same_single, Swapped.picked-permutation}

-- what holds of rows in some order holds of them in any other
pub each_moved : {X : Type 0} (P : X → Type 0) (xs ys : List X) → IsPermutation xs ys → EachOf P xs → EachOf P ys
each_moved P xs ys permuted h = recursion_from_All P ys (All-permutation P xs ys permuted (All-from_recursion P xs h))

-- ---- numbers

-- numbers that ascend, none of which is 0, do so from 1 on
from_one : {X : Type 0} (number : X → ℕ) (n : ℕ) (xs : List X) → Ascends number n xs → EachOf (λ x. 1 ≤ number x) xs → Ascends number 1 xs
from_one number n [] up some = tt
from_one number n (x ∷ xs) up some = (some.0, up.1)

-- and if they do, none is
none_zero : {X : Type 0} (number : X → ℕ) (n : ℕ) (xs : List X) → 1 ≤ n → Ascends number n xs → EachOf (λ x. 1 ≤ number x) xs
none_zero number n [] some up = tt
none_zero number n (x ∷ xs) some up = let first = up.0 in (omega (arith, some, first), none_zero number (number x + 1) xs (omega arith) up.1)

-- the number of a row that is found is among theirs
among_found : {X : Type 0} (number : X → ℕ) (n : ℕ) (xs : List X) → IsSome (find (λ x. number x == n) xs) → IsAmong (map number xs) n
among_found {X} number n xs found = search (rules, find-map)

-- so it is of each of rows that ascend
all_among : {X : Type 0} (number : X → ℕ) (n : ℕ) (xs : List X) → Ascends number n xs → EachOf (λ x. IsAmong (map number xs) (number x)) xs
all_among number n xs up = search (rules, each, among_found, ascends_found)

-- ---- rows under others

-- what holds of each child of each row holds of all children
each_child : {P T : Type 0} (number : P → ℕ) (children : P → List T) (Q : Owned T → Type 0) (ps : List P)
    → EachOf (λ p. EachOf (λ t. Q (record { owner = number p; row = t })) (children p)) ps → EachOf Q (flat_map (λ p. owned_by (number p) (children p)) ps)
each_child number children Q [] h = tt
each_child number children Q (p ∷ ps) h = search (rules, each-append, each-map, (each_child number children Q ps h.1))

-- what comes behind a place of a later order is of a later one
later : (n order place : ℕ) (s : Owned Listed) → n < order → IsPlacedNext order place s.owner s.row.place → n < s.owner
later n order place s h k = search rules

-- among places of later orders none is of an earlier one
past : (n k order place : ℕ) (rows : List (Owned Listed)) → n < order → PlacedFrom order place rows → EachOf (λ s. s.owner ≡ n → k < s.row.place) rows
past n k order place [] low placed = tt
past n k order place (s ∷ rows) low placed = grind (arith, later, (past n k s.owner s.row.place rows (later n order place s low placed.0) placed.1))

-- and behind a place of an order each of it is later
behind : (n k place : ℕ) (rows : List (Owned Listed)) → k ≤ place → PlacedFrom n place rows → EachOf (λ s. s.owner ≡ n → k < s.row.place) rows
behind n k place [] low placed = tt
behind n k place (s ∷ rows) low placed =
    by placed.0 (λ next. past n k s.owner s.row.place rows next placed.1) (λ next is. behind n k s.row.place rows next is)
  where
    by : IsPlacedNext n place s.owner s.row.place → (n < s.owner → EachOf (λ s. s.owner ≡ n → k < s.row.place) rows)
        → (k ≤ s.row.place → PlacedFrom n s.row.place rows → EachOf (λ s. s.owner ≡ n → k < s.row.place) rows)
        → EachOf (λ s. s.owner ≡ n → k < s.row.place) (s ∷ rows)
    by h l g = grind arith

-- places that come one behind the other rise
places_rise : (order place : ℕ) (rows : List (Owned Listed)) → PlacedFrom order place rows → PlacesRise rows
places_rise order place [] placed = tt
places_rise order place (r ∷ rows) placed = grind (arith, behind, (places_rise r.owner r.row.place rows placed.1))

-- ---- challenges that were answered

-- their numbers ascend with those of all
answered_up : (n : ℕ) (cs : List (Owned BareChallenge)) → Ascends (λ c. c.row.number) n cs → Ascends (λ m. m) n (answered_numbers cs)
answered_up n [] up = tt
answered_up n (c ∷ cs) up = grind (arith, ascends_from, (answered_up (c.row.number + 1) cs up.1))

-- and are those of the keys of their answers
pub key_numbers : (cs : List (Owned ChallengeRow)) → map (λ k. k.challenge) (key_rows cs) ≡ answered_numbers (map bare_row cs)
key_numbers [] = refl
key_numbers (c ∷ cs) = grind (arith, (key_numbers cs))

-- ---- the rows of a book

module _ (rows : FlatRows) (T : Tables) (book : IsBookOf rows T) (by_key : AreByKey rows) where
  -- the accounts of the rows are those of the tables
  accounts_same : rows.accounts ≡ T.accounts
  accounts_same = grind (arith, same_ascending)

  -- the orders ascend
  orders_up : Ascends (λ o. o.number) 1 (map without_listed T.orders)
  orders_up = ascends_map (λ o. o.number) (λ o. o.number) without_listed (λ o. refl) 1 T.orders book.is_book.in_order.orders

  -- and are those of the tables
  orders_same : rows.orders ≡ map without_listed T.orders
  orders_same = same_ascending (λ o. o.number) 0 1 rows.orders (map without_listed T.orders) by_key.orders orders_up book.has_rows.orders

  -- the authorizations ascend
  authorizations_up : Ascends (λ a. a.number) 1 (map without_challenges T.authorizations)
  authorizations_up = grind (arith, ascends_map)

  -- and are those of the tables
  authorizations_same : rows.authorizations ≡ map without_challenges T.authorizations
  authorizations_same = grind (arith, same_ascending, authorizations_up)

  -- an account that is found is among those that were shown
  account_among : (n : ℕ) → IsSome (account_on T n) → IsAmong (map (λ a. a.number) rows.accounts) n
  account_among n found = grind (arith, accounts_same, among_found)

  -- so it is of orders
  order_numbers : map (λ o. o.number) rows.orders ≡ map (λ o. o.number) T.orders
  order_numbers = ap (map (λ o. o.number)) orders_same ∙ map-map (λ (o : OrderRow). o.number) without_listed T.orders

  -- and of authorizations
  authorization_numbers : map (λ a. a.number) rows.authorizations ≡ map (λ a. a.number) T.authorizations
  authorization_numbers = ap (map (λ a. a.number)) authorizations_same ∙ map-map (λ (a : AuthorizationRow). a.number) without_challenges T.authorizations

  -- so is an authorization
  authorization_among : (n : ℕ) → IsSome (authorization_on T n) → IsAmong (map (λ a. a.number) rows.authorizations) n
  authorization_among n found = grind (arith, authorization_numbers, among_found)

  -- the orders pass their checks
  orders_are : AreOrders T.meta.counters.orders (map (λ a. a.number) rows.accounts) rows.orders
  orders_are = search (rules, orders_same, orders_up, each-map, each, account_among)

  -- the authorizations do
  authorizations_are : AreAuthorizations T.meta.counters.authorizations (map (λ a. a.number) rows.accounts) rows.authorizations
  authorizations_are = search (rules, authorizations_same, authorizations_up, each-map, each, account_among)

  -- what holds of each that an order lists holds of all that was shown
  each_listed : (Q : Owned Listed → Type 0) → EachOf (λ o. EachOf (λ l. Q (record { owner = o.number; row = l })) o.listed) T.orders → EachOf Q rows.listed
  each_listed Q h =
      each_moved Q (listed_rows T.orders) rows.listed (IsPermutation-sym rows.listed (listed_rows T.orders) book.has_rows.listed)
      (each_child (λ (o : OrderRow). o.number) (λ o. o.listed) Q T.orders h)

  -- what the orders list does
  listed_are : AreListed (map (λ o. o.number) rows.orders) (map (λ a. a.number) rows.authorizations) rows.listed
  listed_are = search (rules, places_rise, each_listed, each, each_all, order_numbers, all_among, authorization_among)

  -- what holds of each challenge holds of all that was shown
  each_challenge : (Q : Owned BareChallenge → Type 0)
      → EachOf (λ a. EachOf (λ c. Q (bare_row (record { owner = a.number; row = c }))) a.challenges) T.authorizations → EachOf Q rows.challenges
  each_challenge Q h =
      let all = challenge_rows T.authorizations in
      each_moved Q (map bare_row all) rows.challenges (IsPermutation-sym rows.challenges (map bare_row all) book.has_rows.challenges)
      (each-map Q bare_row all (each_child (λ (a : AuthorizationRow). a.number) (λ a. a.challenges) (λ c. Q (bare_row c)) T.authorizations h))

  -- the challenges do
  challenges_are : AreChallenges T.meta.counters.challenges (map (λ a. a.number) rows.authorizations) rows.challenges
  challenges_are = record {
    table = (
      from_one (λ c. c.row.number) 0 rows.challenges by_key.challenges
          (each_challenge (λ c. 1 ≤ c.row.number)
          (each (λ a. Ascends (λ c. c.number) 1 a.challenges) (λ a. EachOf (λ c. 1 ≤ c.number) a.challenges) T.authorizations
          (λ a up. none_zero (λ (c : ChallengeRow). c.number) 1 a.challenges (omega arith) up) book.is_book.in_order.challenges)),
      each_challenge (λ c. c.row.number < T.meta.counters.challenges + 1) book.is_book.sound.counters.challenges,
    );
    authorizations_found = each_challenge (λ c. IsAmong (map (λ a. a.number) rows.authorizations) c.owner)
        (each (λ a. IsAmong (map (λ a. a.number) T.authorizations) a.number)
        (λ a. EachOf (λ _. IsAmong (map (λ a. a.number) rows.authorizations) a.number) a.challenges) T.authorizations
        (λ a among. each_all (λ _. IsAmong (map (λ a. a.number) rows.authorizations) a.number) a.challenges
        (λ _. subst (λ ns. IsAmong ns a.number) (sym authorization_numbers) among))
        (all_among (λ (a : AuthorizationRow). a.number) 1 T.authorizations book.is_book.in_order.authorizations));
  }

  -- the keys are those of the challenges that were answered
  keys_are : map (λ k. k.challenge) rows.keys ≡ answered_numbers rows.challenges
  keys_are =
      let all = challenge_rows T.authorizations in
      let numbers = map (λ (k : AnswerKey). k.challenge) rows.keys in
      let of_keys : IsPermutation numbers (answered_numbers (map bare_row all)) =
      subst (IsPermutation numbers) (key_numbers all) (IsPermutation-map (λ k. k.challenge) rows.keys (key_rows all) book.has_rows.keys) in
      let of_challenges = picked-permutation answered_number (map bare_row all) rows.challenges
      (IsPermutation-sym rows.challenges (map bare_row all) book.has_rows.challenges) in
      same_ascending (λ n. n) 0 0 numbers (answered_numbers rows.challenges)
      (ascends_map (λ k. k.challenge) (λ n. n) (λ (k : AnswerKey). k.challenge) (λ k. refl) 0 rows.keys by_key.keys)
      (answered_up 0 rows.challenges by_key.challenges)
      (IsPermutation-trans numbers (answered_numbers (map bare_row all)) (answered_numbers rows.challenges) of_keys of_challenges)

  -- so the rows are those of a book
  are : AreBookRows T.meta rows
  are = record {
    metas = same_single rows.metas T.meta book.has_rows.metas;
    nonces = subst (IsTable (λ n. n.serial) T.meta.counters.nonces)
        (sym (same_ascending (λ n. n.serial) 0 1 rows.nonces T.nonces by_key.nonces book.is_book.in_order.nonces book.has_rows.nonces))
        (book.is_book.in_order.nonces, book.is_book.sound.counters.nonces);
    accounts = subst (AreAccounts T.meta.counters.accounts) (sym accounts_same) (record {
      table = (book.is_book.in_order.accounts, book.is_book.sound.counters.accounts);
      keys = book.is_book.sound.distinct.keys;
    });
    orders = orders_are;
    authorizations = authorizations_are;
    listed = listed_are;
    challenges = challenges_are;
    keys = keys_are;
  }

-- so it is of the rows of each book
pub books_have_rows : BooksHaveRows
books_have_rows = are
