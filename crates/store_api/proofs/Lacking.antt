-- Rows that are put into a table which lacks them, without what belongs to them.
use Rattle.std.proofs.Common.{◌≡◌, ◌+◌, ℕ, List, [], ◌∷◌, ◌++◌, append_assoc, map, find, Option, Some, None, refl, sym, ap, ◌∙◌, subst, true, false, Bool}
use Rattle.std.proofs.Common.{arith, cond, rules}
use Rattle.std.proofs.{lemmas.Bool.eqb-true, lemmas.Bool.or_right, lemmas.List.map-append}
use Rattle.std.specs.{Prelude.◌==◌, Prelude.if◌then◌else◌, Prelude.is_some, Prelude.not, Prelude.option_map, List.filter, List.flat_map}
use Rattle.desk_model.specs.{Asked.asked_names, Asked.asks_orders, Derived.numbers_of, Kept.EachOf, Tables.Tables, declared.call.Ask.Ask}
use Rattle.desk_model.specs.{declared.rows.AccountRow.AccountRow, declared.rows.AuthorizationRow.AuthorizationRow, declared.rows.OrderRow.OrderRow}
use Rattle.model_laws.proofs.{Basics.each, Basics.map-each, Basics.more_differs, RowLists.ascends_above, RowLists.ascends_found, RowLists.puts_append}
use Rattle.model_laws.specs.{Ordered.Ascends, Ordered.IsOrdered, Placing.puts}
use Rattle.model_parts.specs.MinimalPart.{as_needed, authorization_as_needed, is_whole_authorization, is_whole_order, needed_rows, needs_listed}
use Rattle.model_parts.specs.MinimalPartLoaded.{minimal_accounts, listed_orders, moved_authorizations, opened_orders, restated_authorizations}
use Rattle.model_parts.specs.MinimalPartLoaded.{whole_authorizations}
use Rattle.model_parts.specs.Loaded.{accounts_once, authorizations_asked_of, authorizations_once, listed_authorizations, named_orders, orders_once}
use Rattle.model_parts.specs.LookUps.{authorizations_numbered, bare_authorizations, summaries_of, orders_of, AreNumbers, orders_processing, owners_processing}
use Rattle.model_parts.specs.{Thinned.summarized, Thinned.whole_if, Thinned.without_challenges, IsEnough.has_work, IsEnough.is_worked_on}
use Rattle.model_parts.proofs.MinimalPartLoading.{listed_orders_found, loaded_minimal, whole_authorizations_found, whole_found}
use Rattle.model_parts.proofs.Lists.{filter_nothing, filter_same, filtered_each}
use Rattle.model_parts.proofs.{Found.found_table, Loading.of_authorization, Loading.of_order, WorkLoading.listed_loaded, WorkLoading.work_loaded}
use Rattle.store_api.proofs.{Bare.nested, Bare.puts_bare, Missing.missing_put, Missing.put_number, Missing.rows_at, Missing.with_number}
use Rattle.store_api.specs.Needing.{lacking, missing, missings}
use Rattle.desk_book.proofs.SweptRows.{find-moved}

-- the rows of a number that is found are that row
pub rows_one : {X : Type 0} (number : X → ℕ) (m n : ℕ) (z : X) (xs : List X) → Ascends number m xs → find (λ x. number x == n) xs ≡ Some z →
    rows_at number xs n ≡ z ∷ []
rows_one number m n z [] up is = cc
rows_one number m n z (x ∷ xs) up is = by (number x == n) refl is (rows_one number (number x + 1) n z xs up.1)
  where
    none : number x ≡ n → rows_at number xs n ≡ []
    none same =
        filter_same (λ y. number y == n) (λ y. false) xs
        (each _ _ xs (λ y above. more_differs (number y) n (omega (arith, same, above))) (ascends_above number (number x) (number x + 1) xs (omega arith) up.1))
        ∙ sym (filter_nothing xs)

    by : (b : Bool) → (number x == n) ≡ b → cond b (Some x) (find (λ y. number y == n) xs) ≡ Some z →
        (find (λ y. number y == n) xs ≡ Some z → rows_at number xs n ≡ z ∷ []) → cond b (x ∷ rows_at number xs n) (rows_at number xs n) ≡ z ∷ []
    by true e here ih = let same : x ≡ z = cc here in λ i. same i ∷ none (eqb-true (number x) n e) i
    by false e later ih = ih later

-- a row that is found and passes is found among those that pass
still_found : {X : Type 0} (number : X → ℕ) (q : X → Bool) (z : X) (xs : List X) → q z ≡ true → find (λ x. number x == number z) xs ≡ Some z →
    find (λ x. number x == number z) (filter q xs) ≡ Some z
still_found number q z [] passes is = is
still_found number q z (x ∷ xs) passes is = grind (arith, (still_found number q z xs passes))

module _ {X : Type 0} (number : X → ℕ) (bare needed : X → X) (bare_number : (x : X) → number (bare x) ≡ number x)
    (needed_number : (x : X) → number (needed x) ≡ number x) (is_whole : X → Bool) (else_bare : (x : X) → is_whole x ≡ false → bare x ≡ needed x)
    (xs : List X) (up : Ascends number 1 xs) where
  -- the rows of a number, where the table lacks it
  bare_one : (q : X → Bool) → ((x : X) → is_whole x ≡ true → q x ≡ true) → (n : ℕ) →
      missing number (λ k. map bare (rows_at number xs k)) n (map needed (filter q xs)) ≡ map needed (filter (with_number number xs n q) xs)
  bare_one q wide n =
      ap (λ o. cond (is_some o) (map needed t) (puts number (map bare (rows_at number xs n)) (map needed t)))
      (find-moved (λ x. number x == n) needed t (λ x i. needed_number x i == n))
      ∙ by (find (λ x. number x == n) t) refl
      ∙ ap (map needed) (missing_put number xs up n q)
    where
      t : List X
      t = filter q xs

      fails : find (λ x. number x == n) t ≡ None → (z : X) → find (λ x. number x == number z) xs ≡ Some z → (number z == n) ≡ true →
          (b : Bool) → is_whole z ≡ b → bare z ≡ needed z
      fails none z there here true w = absurd (
          let is : find (λ x. number x == n) t ≡ Some z =
          subst (λ j. find (λ x. number x == j) t ≡ Some z) (eqb-true (number z) n here) (still_found number q z xs (wide z w) there) in
          let both : None ≡ Some z = sym none ∙ is in cc)
      fails none z there here false w = else_bare z w

      by : (o : Option X) → find (λ x. number x == n) t ≡ o →
          cond (is_some (option_map needed o)) (map needed t) (puts number (map bare (rows_at number xs n)) (map needed t))
          ≡ map needed (cond (is_some o) t (puts number (rows_at number xs n) t))
      by (Some y) e = refl
      by None e =
          ap (λ rows. puts number rows (map needed t))
          (map-each bare needed (rows_at number xs n)
          (filtered_each _ (λ x. number x == n) xs
          (each _ _ xs (λ z there here. fails e z there here (is_whole z) refl) (ascends_found number 1 xs up))))
          ∙ puts_bare number needed needed_number (rows_at number xs n) t

  -- one row more
  lacking_one : (q : X → Bool) → ((x : X) → is_whole x ≡ true → q x ≡ true) → (z : X) → find (λ x. number x == number z) xs ≡ Some z →
      missing number (λ n. bare z ∷ []) (number (bare z)) (map needed (filter q xs)) ≡ map needed (filter (with_number number xs (number z) q) xs)
  lacking_one q wide z is =
      let table : List X = map needed (filter q xs) in
      let alone : bare z ∷ [] ≡ map bare (rows_at number xs (number z)) = ap (map bare) (sym (rows_one number 1 (number z) z xs up is)) in
      (λ i. cond (is_some (find (λ x. number x == bare_number z i) table)) table (puts number (alone i) table)) ∙ bare_one q wide (number z)

  -- rows that the table lacks are put as they are needed, where it has those that are needed in whole
  lacking_all : (zs : List X) → EachOf (λ z. find (λ x. number x == number z) xs ≡ Some z) zs → (q : X → Bool) →
      ((x : X) → is_whole x ≡ true → q x ≡ true) → lacking number (map bare zs) (map needed (filter q xs)) ≡ map needed (puts number zs (filter q xs))
  lacking_all [] h q wide = refl
  lacking_all (z ∷ zs) h q wide =
      ap (lacking number (map bare zs)) (lacking_one q wide z h.0)
      ∙ lacking_all zs h.1 (with_number number xs (number z) q) (λ x w. or_right _ _ (wide x w))
      ∙ ap (λ t. map needed (puts number zs t))
      (sym (put_number number xs up (number z) q) ∙ ap (λ rows. puts number rows (filter q xs)) (rows_one number 1 (number z) z xs up h.0))

  -- and so are bare rows of numbers, one after the other
  bares_put : (ns : List ℕ) (q : X → Bool) → ((x : X) → is_whole x ≡ true → q x ≡ true) →
      missings number (λ k. map bare (rows_at number xs k)) ns (map needed (filter q xs))
      ≡ map needed (puts number (flat_map (rows_at number xs) ns) (filter q xs))
  bares_put [] q wide = refl
  bares_put (n ∷ ns) q wide =
      ap (missings number (λ k. map bare (rows_at number xs k)) ns) (bare_one q wide n)
      ∙ bares_put ns (with_number number xs n q) (λ x w. or_right _ _ (wide x w))
      ∙ ap (λ t. map needed (puts number (flat_map (rows_at number xs) ns) t)) (sym (put_number number xs up n q))
      ∙ ap (map needed) (sym (puts_append number (rows_at number xs n) (flat_map (rows_at number xs) ns) (filter q xs)))

-- rows, and then others
pub lacking_append : {X : Type 0} (number : X → ℕ) (xs ys table : List X) → lacking number (xs ++ ys) table ≡ lacking number ys (lacking number xs table)
lacking_append number [] ys table = refl
lacking_append number (x ∷ xs) ys table = lacking_append number xs ys (missing number (λ n. x ∷ []) (number x) table)

-- those that are whole are needed so
whole_needed : (T : Tables) (m : ℕ) (a : Ask) (os : List OrderRow) → map (as_needed T m a) (filter (is_whole_order T m a) os) ≡ filter (is_whole_order T m a) os
whole_needed T m a [] = refl
whole_needed T m a (o ∷ os) = by (is_whole_order T m a o) refl (whole_needed T m a os)
  where
    by : (b : Bool) → is_whole_order T m a o ≡ b → map (as_needed T m a) (filter (is_whole_order T m a) os) ≡ filter (is_whole_order T m a) os →
        map (as_needed T m a) (cond b (o ∷ filter (is_whole_order T m a) os) (filter (is_whole_order T m a) os))
        ≡ cond b (o ∷ filter (is_whole_order T m a) os) (filter (is_whole_order T m a) os)
    by b h k = grind arith

-- the orders of accounts, each in summary
summaries_own : (T : Tables) (xs : List AccountRow) → flat_map (λ x. summaries_of T x.number) xs ≡ map summarized (flat_map (λ x. orders_of T x.number) xs)
summaries_own T [] = refl
summaries_own T (x ∷ xs) = grind (arith, map-append, (summaries_own T xs))

-- the orders that are opened or named, and summaries of those of the accounts, are the orders as they are needed
pub needed_orders : (T : Tables) (m : ℕ) (a : Ask) → IsOrdered T →
    lacking of_order (if asks_orders a then flat_map (λ (x : AccountRow). summaries_of T x.number) (accounts_once (minimal_accounts T a)) else [])
    (puts of_order (if not (needs_listed a) then named_orders T a else []) (orders_once (opened_orders T m a)))
    ≡ (needed_rows T m a).orders
needed_orders T m a h =
    ap (λ rows. lacking of_order rows (puts of_order named (orders_once (opened_orders T m a)))) (own (asks_orders a))
    ∙ ap (lacking of_order (map summarized (listed_orders T a)))
    (sym (puts_append of_order (opened_orders T m a) named []) ∙ whole ∙ sym (whole_needed T m a T.orders))
    ∙ lacking_all of_order summarized (as_needed T m a) (λ o. refl) (λ o. refl) (is_whole_order T m a)
    (λ o no i. whole_if (sym no i) o) T.orders h.orders.0 (listed_orders T a) (listed_orders_found T a h).from
    (is_whole_order T m a) (λ o so. so)
    ∙ ap (map (as_needed T m a))
    (ap (puts of_order (listed_orders T a)) (sym whole)
    ∙ sym (puts_append of_order (opened_orders T m a ++ named) (listed_orders T a) [])
    ∙ ap (λ rows. puts of_order rows []) (append_assoc (opened_orders T m a) named (listed_orders T a))
    ∙ ap (λ (B : Tables). B.orders) (loaded_minimal T m a h))
  where
    named : List OrderRow
    named = if not (needs_listed a) then named_orders T a else []

    whole : puts of_order (opened_orders T m a ++ named) [] ≡ filter (is_whole_order T m a) T.orders
    whole = found_table of_order (is_whole_order T m a) 1 T.orders (opened_orders T m a ++ named) h.orders.0 (whole_found T m a h)

    own : (b : Bool) → (if b then flat_map (λ (x : AccountRow). summaries_of T x.number) (accounts_once (minimal_accounts T a)) else [])
        ≡ map summarized (if b then flat_map (λ (x : AccountRow). orders_of T x.number) (accounts_once (minimal_accounts T a)) else [])
    own b = grind (arith, summaries_own)

-- those that are whole are needed so
whole_challenges : (T : Tables) (m : ℕ) (a : Ask) (rs : List AuthorizationRow) →
    map (authorization_as_needed T m a) (filter (is_whole_authorization T m a) rs) ≡ filter (is_whole_authorization T m a) rs
whole_challenges T m a [] = refl
whole_challenges T m a (r ∷ rs) = grind (arith, (whole_challenges T m a rs))

-- the authorizations that may change, are named or are wanted, and bare ones that orders list, are those of the rows as they are needed
pub needed_authorizations : (T : Tables) (m : ℕ) (a : Ask) → IsOrdered T →
    missings of_authorization (bare_authorizations T) (flat_map (λ (o : OrderRow). numbers_of o.listed) (orders_once (opened_orders T m a)))
    (puts of_authorization
    (authorizations_once (moved_authorizations T a) ++ authorizations_asked_of T (asked_names a) (accounts_once (minimal_accounts T a)))
    (authorizations_once (restated_authorizations T m a)))
    ≡ (needed_rows T m a).authorizations
needed_authorizations T m a h =
    ap (missings of_authorization (bare_authorizations T) listed)
    (sym (puts_append of_authorization (restated_authorizations T m a)
    (authorizations_once (moved_authorizations T a) ++ authorizations_asked_of T (asked_names a) (accounts_once (minimal_accounts T a))) [])
    ∙ whole ∙ sym (whole_challenges T m a T.authorizations))
    ∙ bares_put of_authorization without_challenges (authorization_as_needed T m a) (λ r. refl) (λ r. refl) (is_whole_authorization T m a)
    (λ r no i. record r { challenges = if sym no i then r.challenges else [] }) T.authorizations h.authorizations.0 listed
    (is_whole_authorization T m a) (λ r so. so)
    ∙ ap (map (authorization_as_needed T m a))
    (ap (puts of_authorization (flat_map (authorizations_numbered T) listed)) (sym whole)
    ∙ ap (λ rows. puts of_authorization rows (puts of_authorization (whole_authorizations T m a) [])) (nested T (orders_once (opened_orders T m a)))
    ∙ sym (puts_append of_authorization (whole_authorizations T m a) (listed_authorizations T (orders_once (opened_orders T m a))) [])
    ∙ ap (λ (B : Tables). B.authorizations) (loaded_minimal T m a h))
  where
    listed : List ℕ
    listed = flat_map (λ (o : OrderRow). numbers_of o.listed) (orders_once (opened_orders T m a))

    whole : puts of_authorization (whole_authorizations T m a) [] ≡ filter (is_whole_authorization T m a) T.authorizations
    whole = grind (arith, found_table, whole_authorizations_found)

-- ---- tables that lack all of them

-- the authorizations of numbers without challenges, each put once
bare_loaded : (T : Tables) → IsOrdered T → (numbers : List ℕ) →
    missings (λ r. r.number) (bare_authorizations T) numbers []
    ≡ map without_challenges (puts (λ r. r.number) (flat_map (authorizations_numbered T) numbers) [])
bare_loaded T h numbers =
    subst (λ rows. missings of_authorization (bare_authorizations T) numbers (map without_challenges rows)
    ≡ map without_challenges (puts of_authorization (flat_map (authorizations_numbered T) numbers) rows)) (sym (filter_nothing T.authorizations))
    (bares_put of_authorization without_challenges without_challenges (λ r. refl) (λ r. refl) (λ r. false) (λ r bare. refl) T.authorizations
    h.authorizations.0 numbers (λ r. false) (λ r whole. whole))

-- those of challenges that wait, without these
pub bare_working : (T : Tables) → IsOrdered T → (numbers : List ℕ) → AreNumbers numbers (owners_processing T) →
    missings (λ r. r.number) (bare_authorizations T) numbers [] ≡ map without_challenges (filter has_work T.authorizations)
bare_working T h numbers are = bare_loaded T h numbers ∙ ap (map without_challenges) (work_loaded T numbers h are)

-- what the orders list that wait for a certificate, without challenges
pub worked_on : (T : Tables) → IsOrdered T →
    missings (λ r. r.number) (bare_authorizations T) (flat_map (λ o. numbers_of o.listed) (orders_processing T)) []
    ≡ map without_challenges (filter (is_worked_on T) T.authorizations)
worked_on T h = search (rules, bare_loaded, nested, listed_loaded)
