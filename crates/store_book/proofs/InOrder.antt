-- Rows in the order of their keys are those of a book.
use Rattle.std.proofs.Common.{◌≡◌, ◌≤◌, ◌+◌, ℕ, Bool, true, cond, List, [], ◌∷◌, map, filter, refl, sym, ap, subst, arith, nat_cmp, rules}
use Rattle.std.proofs.lemmas.{List.map-id, Map.Keys.IsDistinct-IsPermutation, List.Sorted.IsPermutation-map, List.Sorted.IsPermutation-refl}
use Rattle.std.specs.{Prelude.◌==◌, Prelude.IsSome, List.Sorted.IsPermutation, Cmp.nat_cmp_total, Ordering.eq_by_cmp}
use Rattle.store_columns.specs.Flat.{bare_row, challenge_rows, key_rows}
use Rattle.store_columns.specs.Limits.{AreStored, IsStoredAuthorization, IsStoredListed, IsStoredOrder}
use Rattle.store_columns.specs.declared.columns.{BareChallenge.BareChallenge, FlatRows.FlatRows, Owned.Owned}
use Rattle.model_laws.specs.{Distinct.Distinct, Ordered.Ascends}
use Rattle.model_laws.proofs.{Basics.each, Basics.each-map, Basics.each_all, Basics.each_of_map, Distinctness.ascends_distinct, Distinctness.distinct-map}
use Rattle.model_laws.proofs.{Distinctness.map-distinct, RowLists.ascends_filter, RowLists.ascends_map}
use Rattle.desk_model.specs.Questions.{account_on, authorization_on}
use Rattle.desk_model.specs.{Kept.EachOf, Tables.Tables, declared.rows.AccountRow.AccountRow, declared.rows.AuthorizationRow.AuthorizationRow}
use Rattle.desk_model.specs.{declared.rows.ChallengeRow.ChallengeRow, declared.rows.Listed.Listed, declared.rows.Meta.Meta, declared.rows.OrderRow.OrderRow}
use Rattle.store_book.specs.{FaultNumbers.challenges_of, Joining.joined, Nesting.IsNestOf}
use Rattle.store_book.specs.IsBook.{AreDistinct, AreInOrder, HaveReferences, IsBookOf, KeepCounters, ListsFound}
use Rattle.store_book.specs.BookRows.{AreBookRows, IsAmong, PlacesRise, RowsAreBooks}
use Rattle.store_book.proofs.Distinctness.{distinct-rows, equal-numbers, numbers-equal, values-distinct}
use Rattle.store_book.proofs.Owners.{each_of_owner, found_among, is_of, nests_of, rows_of, with_rows}
use Rattle.store_book.proofs.{SortedLists.equal_flips, SoundBooks.all_numbers, Joins.joined_has, Swapped.picked-permutation}

-- ---- the rows of one owner

-- those of a table stand by number
of_table : {T : Type 0} (number : T → ℕ) (n : ℕ) (rs : List (Owned T)) → Ascends (λ r. number r.row) 1 rs → Ascends number 1 (rows_of n rs)
of_table number n rs up =
    ascends_map (λ r. number r.row) number (λ r. r.row) (λ r. refl) 1 (filter (is_of n) rs) (ascends_filter (λ r. number r.row) (is_of n) 1 rs up)

-- places of one order that rise ascend
places_ascend : (n k : ℕ) (rs : List (Owned Listed)) → EachOf (λ r. r.owner ≡ n → k ≤ r.row.place) rs → PlacesRise rs → Ascends (λ l. l.place) k (rows_of n rs)
places_ascend n k [] low up = tt
places_ascend n k (r ∷ rs) low up = by (r.owner == n) refl (λ k low. places_ascend n k rs low up.1)
  where
    by : (b : Bool) → (r.owner == n) ≡ b
        → ((k : ℕ) → EachOf (λ s. s.owner ≡ n → k ≤ s.row.place) rs → Ascends (λ l. l.place) k (rows_of n rs))
        → Ascends (λ l. l.place) k (map (λ r. r.row) (cond b (r ∷ filter (is_of n) rs) (filter (is_of n) rs)))
    by b h g = grind (arith, each)

-- rows ascend as their images do
unmapped_up : {X Y : Type 0} (f : X → Y) (key : Y → ℕ) (n : ℕ) (xs : List X) → Ascends key n (map f xs) → Ascends (λ x. key (f x)) n xs
unmapped_up f key n [] up = tt
unmapped_up f key n (x ∷ xs) up = (up.0, unmapped_up f key (key (f x) + 1) xs up.1)

-- ---- numbers that differ in some order

-- they differ in any other
distinct_moved : {X : Type 0} (number : X → ℕ) (xs ys : List X) → IsPermutation xs ys → Distinct number xs → Distinct number ys
distinct_moved number xs ys permuted apart =
    let before = values-distinct (eq_by_cmp nat_cmp) (λ n. n) (λ m n e. equal-numbers m n e) (map number xs) (distinct-map (λ n. n) number xs apart) in
    let after = IsDistinct-IsPermutation (eq_by_cmp nat_cmp) (equal_flips nat_cmp nat_cmp_total) (map number xs) (map number ys)
    (IsPermutation-map number xs ys permuted) before in
    (distinct-rows nat_cmp (λ n. n) number (λ m n e. numbers-equal m n e) (λ m n e. equal-numbers m n e) (map number ys) ys (map-id (map number ys)) true
    (λ _. after, λ _. refl)).0 refl

-- ---- the book

-- an authorization with these challenges
abbrev with_challenges : AuthorizationRow → List ChallengeRow → AuthorizationRow
with_challenges a cs = record a { challenges = cs }

-- an order that lists this
abbrev with_listed : OrderRow → List Listed → OrderRow
with_listed o ls = record o { listed = ls }

-- the tables with these rows
abbrev pub tables_of : Meta → FlatRows → Tables
tables_of meta rows =
    record {
      meta = meta;
      nonces = rows.nonces;
      accounts = rows.accounts;
      authorizations = map (with_rows (λ (a : AuthorizationRow). a.number) with_challenges (joined rows.challenges rows.keys)) rows.authorizations;
      orders = map (with_rows (λ (o : OrderRow). o.number) with_listed rows.listed) rows.orders;
    }

module _ (meta : Meta) (rows : FlatRows) (stored : AreStored rows) (are : AreBookRows meta rows) where
  -- the challenges with their keys
  abbrev whole : List (Owned ChallengeRow)
  whole = joined rows.challenges rows.keys

  -- they have the rows
  has : (map bare_row whole ≡ rows.challenges) × (key_rows whole ≡ rows.keys)
  has = joined_has rows.challenges rows.keys are.keys

  -- the tables
  abbrev T : Tables
  T = tables_of meta rows

  -- the challenges stand by number
  whole_ascends : Ascends (λ c. c.row.number) 1 whole
  whole_ascends =
      unmapped_up bare_row (λ c. c.row.number) 1 whole (subst (Ascends (λ (c : Owned BareChallenge). c.row.number) 1) (sym has.0) are.challenges.table.0)

  -- what holds of each as its table has it
  each_whole : (P : Owned BareChallenge → Type 0) → EachOf P rows.challenges → EachOf (λ c. P (bare_row c)) whole
  each_whole P h = each_of_map P bare_row whole (subst (EachOf P) (sym has.0) h)

  -- each authorization has its challenges
  pub authorizations_nest : IsNestOf (λ (a : AuthorizationRow). a.number) (λ a. a.challenges) with_challenges (λ (c : ChallengeRow). c.number)
      rows.authorizations whole T.authorizations
  authorizations_nest =
      nests_of (λ (a : AuthorizationRow). a.number) (λ a. a.challenges) with_challenges (λ (c : ChallengeRow). c.number)
      (record { number_kept = λ p ts. refl; children_are = λ p ts. refl; last_are = λ p ts us. refl; same = λ p. refl })
      rows.authorizations whole are.authorizations.table.0
      (each IsStoredAuthorization (λ a. a.challenges ≡ []) rows.authorizations (λ a k. k.challenges) stored.authorizations)
      (each_whole (λ c. IsAmong (map (λ a. a.number) rows.authorizations) c.owner) are.challenges.authorizations_found)
      (λ n. of_table (λ (c : ChallengeRow). c.number) n whole whole_ascends)

  -- each order has what it lists
  pub orders_nest : IsNestOf (λ (o : OrderRow). o.number) (λ o. o.listed) with_listed (λ (l : Listed). l.place) rows.orders rows.listed T.orders
  orders_nest =
      nests_of (λ (o : OrderRow). o.number) (λ o. o.listed) with_listed (λ (l : Listed). l.place)
      (record { number_kept = λ p ts. refl; children_are = λ p ts. refl; last_are = λ p ts us. refl; same = λ p. refl })
      rows.orders rows.listed are.orders.table.0
      (each IsStoredOrder (λ o. o.listed ≡ []) rows.orders (λ o k. k.listed) stored.orders)
      are.listed.orders_found
      (λ n. places_ascend n 1 rows.listed (each IsStoredListed (λ r. r.owner ≡ n → 1 ≤ r.row.place) rows.listed (λ r k _. k.place) stored.listed)
      are.listed.places)

  -- the tables stand by number
  in_order : AreInOrder T
  in_order = grind (arith, authorizations_nest, orders_nest)

  -- their counters are kept
  counters : KeepCounters T
  counters = search (rules, each-map, with_rows, each_all, rows_of, each_of_owner, each_whole)

  -- an authorization whose number is among theirs is found
  authorization_found : (n : ℕ) → IsAmong (map (λ a. a.number) rows.authorizations) n → IsSome (authorization_on T n)
  authorization_found n among =
      found_among (λ (a : AuthorizationRow). a.number) n T.authorizations (subst (λ ns. IsAmong ns n) (sym (numbers_kept rows.authorizations)) among)
    where
      numbers_kept : (rest : List AuthorizationRow)
          → map (λ a. a.number) (map (with_rows (λ (a : AuthorizationRow). a.number) with_challenges whole) rest) ≡ map (λ a. a.number) rest
      numbers_kept [] = refl
      numbers_kept (a ∷ rest) = ap (λ l. a.number ∷ l) (numbers_kept rest)

  -- they have what they refer to
  references : HaveReferences T
  references = record {
    authorizations = each-map (λ a. IsSome (account_on T a.account)) (with_rows (λ (a : AuthorizationRow). a.number) with_challenges whole)
        rows.authorizations
        (each (λ a. IsAmong (map (λ a. a.number) rows.accounts) a.account) (λ a. IsSome (account_on T a.account)) rows.authorizations
        (λ a. found_among (λ (a : AccountRow). a.number) a.account rows.accounts) are.authorizations.accounts_found);
    orders = each-map (λ o. IsSome (account_on T o.account)) (with_rows (λ (o : OrderRow). o.number) with_listed rows.listed) rows.orders
        (each (λ o. IsAmong (map (λ a. a.number) rows.accounts) o.account) (λ o. IsSome (account_on T o.account)) rows.orders
        (λ o. found_among (λ (a : AccountRow). a.number) o.account rows.accounts) are.orders.accounts_found);
    listed = each-map (ListsFound T) (with_rows (λ (o : OrderRow). o.number) with_listed rows.listed) rows.orders
        (each_all (λ o. EachOf (λ l. IsSome (authorization_on T l.authorization)) (rows_of o.number rows.listed)) rows.orders
        (λ o. each_of_owner (λ l. IsSome (authorization_on T l.authorization)) o.number rows.listed
        (each (λ l. IsAmong (map (λ a. a.number) rows.authorizations) l.row.authorization) (λ l. IsSome (authorization_on T l.row.authorization)) rows.listed
        (λ l. authorization_found l.row.authorization) are.listed.authorizations_found)));
  }

  -- what must differ differs
  distinct : AreDistinct T
  distinct = record {
    keys = are.accounts.keys;
    challenges = map-distinct (λ (c : ChallengeRow). c.number) (challenges_of T.authorizations)
        (subst (Distinct (λ n. n)) (all_numbers T.authorizations)
        (distinct-map (λ n. n) (λ (c : Owned ChallengeRow). c.row.number) (challenge_rows T.authorizations)
        (distinct_moved (λ (c : Owned ChallengeRow). c.row.number) whole (challenge_rows T.authorizations) authorizations_nest.rows_are
        (ascends_distinct (λ (c : Owned ChallengeRow). c.row.number) 1 whole whole_ascends))));
  }

  -- so they are a book of the rows
  pub book : IsBookOf rows T
  book =
      grind (arith, in_order, counters, references, distinct, IsPermutation-refl, orders_nest, authorizations_nest, has, IsPermutation-map, picked-permutation)

-- such rows in their limits are those of a book
pub rows_are_books : RowsAreBooks
rows_are_books meta rows stored are = (tables_of meta rows, book meta rows stored are)
