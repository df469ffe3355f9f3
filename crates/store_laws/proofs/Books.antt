-- The tables of a history are a book.
use Rattle.std.proofs.Common.{◌≤◌, ◌<◌, ℕ, ◌+◌, List, [], ◌∷◌, ◌++◌, length, map, refl, Bool, arith, rules}
use Rattle.std.specs.{Prelude.◌==◌, Prelude.IsSome, Prelude.find, List.flat_map}
use Rattle.model_laws.proofs.Recorded.{below_map, challenges_ordered, numbered_below, tables_ordered}
use Rattle.model_laws.proofs.{Basics.each, Basics.each-map, Basics.each_all, Keeps.row_keys_differ, RowLists.ascends_from, Distinctness.ascends_distinct}
use Rattle.model_laws.proofs.{Numbers.AreNumbered, Numbers.challenges_count, OrderFacts.IsFound, OrderFacts.listed_found, OrderFacts.places_ascend}
use Rattle.model_laws.proofs.{References.authorizations_have_accounts, References.orders_have_accounts}
use Rattle.model_laws.specs.Ordered.{Ascends, Below}
use Rattle.desk_model.specs.{Account.accounts, Entry.History, Kept.EachOf, Legal.EachFollows, Order.orders}
use Rattle.desk_model.specs.Authorization.{authorizations, count_challenges}
use Rattle.desk_model.specs.Tables.{account_row, authorization_row, challenge_row, listed_from, order_row, tables_at}
use Rattle.desk_model.specs.declared.{objects.Authorization.Authorization, rows.AuthorizationRow.AuthorizationRow, rows.ChallengeRow.ChallengeRow}
use Rattle.store_book.specs.IsBook.{AreInOrder, HaveReferences, IsBook, KeepCounters}

-- ---- in order

-- numbers that ascend through two lists ascend through the first
ascends_front : {X : Type 0} (number : X → ℕ) (n : ℕ) (xs ys : List X) → Ascends number n (xs ++ ys) → Ascends number n xs
ascends_front number n [] ys h = tt
ascends_front number n (x ∷ xs) ys h = (h.0, ascends_front number (number x + 1) xs ys h.1)

-- and through the second
ascends_back : {X : Type 0} (number : X → ℕ) (n : ℕ) (xs ys : List X) → Ascends number n (xs ++ ys) → Ascends number n ys
ascends_back number n [] ys h = h
ascends_back number n (x ∷ xs) ys h = grind (arith, ascends_from, (ascends_back number (number x + 1) xs ys h.1))

-- and so those that ascend through the lists of all rows
parts_ascend : {X Y : Type 0} (number : Y → ℕ) (part : X → List Y) (n : ℕ) (xs : List X) → Ascends number n (flat_map part xs) →
    EachOf (λ x. Ascends number n (part x)) xs
parts_ascend number part n [] h = tt
parts_ascend number part n (x ∷ xs) h = (ascends_front number n (part x) _ h, parts_ascend number part n xs (ascends_back number n (part x) _ h))

-- the tables of a history are in order
in_order : (F : History) (t : ℕ) → AreInOrder (tables_at F t)
in_order F t =
    let ordered = tables_ordered F t in
    record {
      nonces = ordered.nonces.0;
      accounts = ordered.accounts.0;
      authorizations = ordered.authorizations.0;
      challenges = parts_ascend (λ c. c.number) (λ (a : AuthorizationRow). a.challenges) 1 (tables_at F t).authorizations (challenges_ordered F t);
      orders = ordered.orders.0;
      places = each-map _ (order_row F t) (orders F) (each_all _ (orders F) (λ o. places_ascend 1 o.authorizations));
    }

-- ---- counters

-- challenges that count up through authorizations are below the end of the count
counted_below : (n k : ℕ) (xs : List Authorization) → n + count_challenges xs ≤ k → AreNumbered n xs → EachOf (λ a. Below (λ c. c.number) k a.challenges) xs
counted_below n k [] le h = tt
counted_below n k (x ∷ xs) le h = (
  each _ _ x.challenges (λ c lt. let below : c.number < n + length x.challenges = lt in omega arith)
      (numbered_below (λ c. c.number) n (n + length x.challenges) x.challenges refl h.0),
  counted_below (n + length x.challenges) k xs (omega arith) h.1,
)

-- and keep their counters
keep_counters : (F : History) (t : ℕ) → KeepCounters (tables_at F t)
keep_counters F t =
    let ordered = tables_ordered F t in
    record {
      nonces = ordered.nonces.1;
      accounts = ordered.accounts.1;
      authorizations = ordered.authorizations.1;
      challenges = each-map _ (authorization_row F t) (authorizations F)
          (each _ _ (authorizations F)
          (λ a. below_map (λ c. c.number) (λ (c : ChallengeRow). c.number) (challenge_row F a.account) (λ c. refl) (count_challenges (authorizations F) + 1)
          a.challenges)
          (counted_below 1 (count_challenges (authorizations F) + 1) (authorizations F) (omega arith) (challenges_count F)));
      orders = ordered.orders.1;
    }

-- ---- references

-- what is found among the items is found among their rows
some_map : {X Y : Type 0} (p : Y → Bool) (f : X → Y) (xs : List X) → IsSome (find (λ x. p (f x)) xs) → IsSome (find p (map f xs))
some_map p f [] h = cc
some_map p f (x ∷ xs) h = grind (arith, (some_map p f xs))

-- each authorization of an order has its row
listed_rows_found : (F : History) (t place : ℕ) (ns : List ℕ) → EachOf (IsFound F) ns →
    EachOf (λ l. IsSome (find (λ (a : AuthorizationRow). a.number == l.authorization) (tables_at F t).authorizations)) (listed_from place ns)
listed_rows_found F t place [] h = tt
listed_rows_found F t place (n ∷ ns) h = search (rules, some_map, (listed_rows_found F t (place + 1) ns h.1))

-- each reference is found
have_references : (F : History) → EachFollows F → (t : ℕ) → HaveReferences (tables_at F t)
have_references F h t =
    record {
      authorizations = each-map _ (authorization_row F t) (authorizations F)
          (each _ _ (authorizations F) (λ a. some_map (λ b. b.number == a.account) (account_row F) (accounts F)) (authorizations_have_accounts F h));
      orders = each-map _ (order_row F t) (orders F)
          (each _ _ (orders F) (λ o. some_map (λ b. b.number == o.account) (account_row F) (accounts F)) (orders_have_accounts F h));
      listed = each-map _ (order_row F t) (orders F) (each _ _ (orders F) (λ o. listed_rows_found F t 1 o.authorizations) (listed_found F h));
    }

-- ---- books

-- the tables of a history are a book, at each moment
pub tables_book : (F : History) → EachFollows F → (t : ℕ) → IsBook (tables_at F t)
tables_book F h t =
    record {
      in_order = in_order F t;
      sound = record {
        counters = keep_counters F t;
        references = have_references F h t;
        distinct = record { keys = row_keys_differ F h t; challenges = ascends_distinct _ 1 _ (challenges_ordered F t) };
      };
    }
