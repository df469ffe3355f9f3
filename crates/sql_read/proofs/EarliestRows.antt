-- The moment that is shown first is the earliest of the table's rows.
use Rattle.std.proofs.Common.{◌≡◌, ◌≤◌, ◌||◌, ℕ, pos, Bool, true, false, List, [], ◌∷◌, map, filter, Option, None, Some, Ordering, Equal, refl, sym, ap, subst}
use Rattle.std.proofs.Common.{◌∙◌, arith, zero-le, rules}
use Rattle.std.proofs.lemmas.List.Sorted.{IsPermutation-sym, list_any-IsPermutation, ranks_by, sorted_far}
use Rattle.std.proofs.{lemmas.Bool.eq-eqb, lemmas.Bool.Decides.nat_tests, lemmas.List.map-id, lemmas.List.Elements.recursion_from_All, lemmas.Simd.map-map}
use Rattle.std.specs.Prelude.{◌==◌, nat_lt, option_map}
use Rattle.std.specs.{List.All, List.AllByRecursion, List.list_any, List.Sorted.IsPermutation, List.Sorted.IsSorted, Ordering.is_eq, Ordering.is_lt}
use Rattle.std.specs.{Ordering.ordering_then}
use Rattle.sqlite.specs.State.{State, Shown}
use Rattle.sqlite.specs.{declared.types.Value.TheVariants.Int, Held.Held, Held.state, Store.Ghosts}
use Rattle.sqlite_value.specs.Order.{Row}
use Rattle.sqlite_value.proofs.OrderLemmas.{value_cmp-Int}
use Rattle.sqlite_trees.specs.Tree.{Trees}
use Rattle.sqlite_trees.proofs.ListLemmas.{all-permutation}
use Rattle.sqlite_sql.specs.{Program.overlay, Query.Output, Query.Query, Query.output, Query.output_cmp, Term.Term, Term.col}
use Rattle.sqlite_sql.proofs.QueryLemmas.{output_cmp_total}
use Rattle.model_laws.proofs.Basics.{list_any-map, list_any-same}
use Rattle.desk_model.specs.{Derived.authz_code, Derived.order_code, Document.authorization_status_text, Document.order_status_text, Kept.EachOf, Tables.Tables}
use Rattle.desk_model.specs.{declared.objects.Nonce.Nonce, declared.status.AuthzStatus.AuthzStatus, declared.status.OrderStatus.OrderStatus}
use Rattle.model_parts.specs.Above.{first_of}
use Rattle.sql_tables.specs.{Holds.Holds, Layouts.HasRows, Layouts.Layout, Layouts.authorization_layout, Layouts.nonce_layout, Layouts.order_layout}
use Rattle.sql_tables.proofs.{Holding.authorizations_held, Holding.nonces_held, Holding.orders_held, Keyed.three}
use Rattle.sql_read.specs.Earliest.{FindsEarliest, IsEarliest, authorization_ends, first_number, issues, order_ends}
use Rattle.sql_read.specs.LookUpFaults.{BeginWithMoment}
use Rattle.sql_schema.specs.{Schema.desk_schema}
use Rattle.sql_schema.specs.declared.authorizations.TheConstants as authz
use Rattle.sql_schema.specs.declared.nonces.TheConstants as nonce
use Rattle.sql_schema.specs.declared.orders.TheConstants as ord
use Rattle.sql_read.proofs.Answered.{IsOrderedAs, IsReading, answers_from, by, first_row, matched, passes, picked}
use Rattle.sql_read.proofs.LookUpReadings.{authorization_end_reading, is_equal, issue_reading, order_end_reading, text}
use Rattle.sql_read.proofs.{Failing.join_fails, Lists.filter-all, StatusTests.authorization_status_test, StatusTests.order_status_test}
use Rattle.sql_read.proofs.{Tests.eq_as, Tests.lt_as, Tests.text_test, TableColumns.order_status_at, TableColumns.authorization_status_at}

-- ---- moments in their order

-- a moment that is shown, by which it is ordered
abbrev twice : ℕ → Output
twice m = (Int (pos m) ∷ [], Int (pos m) ∷ [])

-- what nothing follows
then_equal : (o : Ordering) → ordering_then o Equal ≡ o
then_equal o = search rules

-- where no moment can be, there is none
none_of : (ms : List ℕ) → AllByRecursion (λ _. ⊥) (map twice ms) → ms ≡ []
none_of [] h = refl
none_of (m ∷ ms) h = absurd h.0

-- a moment
abbrev IsMoment : Output → Type 0
IsMoment o = (m : ℕ) × (o ≡ twice m)

-- each is a moment
are_moments : (ms : List ℕ) → AllByRecursion IsMoment (map twice ms)
are_moments [] = tt
are_moments (m ∷ ms) = ((m, refl), are_moments ms)

-- nothing is found where there is none
found_none : (ms : List ℕ) (found : Option ℕ) → option_map (λ m. pos m) found ≡ None → ms ≡ [] → IsEarliest ms found
found_none ms found h k = search rules

-- the one that was found
found_some : (ms : List ℕ) (found : Option ℕ) (m : ℕ) → option_map (λ n. pos n) found ≡ Some (pos m) → IsEarliest ms (Some m) → IsEarliest ms found
found_some ms found m h k = grind arith

-- a query that orders by a number, of whatever table
abbrev query : Query
query = picked 0 [] [] (by 0 ∷ [])

-- it orders moments as the model does
ranks_as : (m n : ℕ) → output_cmp query (twice m) (twice n) ≡ three m n
ranks_as m n = ap (λ o. ordering_then o Equal) (value_cmp-Int (pos m) (pos n)) ∙ then_equal (three m n)

-- one that is not before another
not_before : (m n : ℕ) → is_lt (output_cmp query (twice n) (twice m)) ≡ false → m ≤ n
not_before m n h = let late : nat_lt n m ≡ false = sym (ap is_lt (ranks_as n m) ∙ lt_as n m) ∙ h in grind (arith, nat_tests)

-- each from this one on
each_from : (m : ℕ) (ms : List ℕ) → AllByRecursion (λ o. is_lt (output_cmp query o (twice m)) ≡ false) (map twice ms) → EachOf (λ n. m ≤ n) ms
each_from m [] h = tt
each_from m (n ∷ ns) h = (not_before m n h.0, each_from m ns h.1)

-- the first of all in their order is the earliest
earliest_first : (ms : List ℕ) (m : ℕ) (os : List Output) → IsPermutation (map twice ms) (twice m ∷ os) → IsSorted (output_cmp query) (twice m ∷ os)
    → IsEarliest ms (Some m)
earliest_first ms m os moved up =
    let all : List Output = twice m ∷ os in
    let far : All (λ o. is_lt (output_cmp query o (twice m)) ≡ false) all =
    λ k d low. sorted_far (λ x y. is_lt (output_cmp query x y)) (ranks_by (output_cmp_total query) (λ o. o)) all up 0 k d zero-le low in
    let same = λ (o : Output). is_eq (output_cmp query o (twice m)) in (
      sym (list_any-same (λ n. same (twice n)) (λ n. n == m) ms (λ n. ap is_eq (ranks_as n m) ∙ eq_as n m))
          ∙ sym (list_any-map same twice ms)
          ∙ list_any-IsPermutation same (map twice ms) all moved
          ∙ (λ i. (ap is_eq (ranks_as m m) ∙ eq_as m m ∙ eq-eqb m m refl) i || list_any same os),
      each_from m ms
          (all-permutation (λ o. is_lt (output_cmp query o (twice m)) ≡ false) all (map twice ms) (IsPermutation-sym (map twice ms) all moved)
          (recursion_from_All (λ o. is_lt (output_cmp query o (twice m)) ≡ false) all far)),
    )

-- what is found in their order
earliest_in : (ms : List ℕ) (found : Option ℕ) (os : List Output) → IsPermutation (map twice ms) os → IsSorted (output_cmp query) os
    → option_map (λ m. pos m) found ≡ first_number (first_of (map (λ (o : Output). o.1) os)) → IsEarliest ms found
earliest_in ms found [] moved up is =
    found_none ms found is (none_of ms (all-permutation (λ _. ⊥) [] (map twice ms) (IsPermutation-sym (map twice ms) [] moved) tt))
earliest_in ms found (o ∷ os) moved up is =
    let moment = (all-permutation IsMoment (map twice ms) (o ∷ os) moved (are_moments ms)).0 in
    found_some ms found moment.0 (is ∙ ap (λ (p : Output). first_number (p.1 ∷ [])) moment.1)
    (earliest_first ms moment.0 os (subst (λ p. IsPermutation (map twice ms) (p ∷ os)) moment.1 moved)
    (subst (λ p. IsSorted (output_cmp query) (p ∷ os)) moment.1 up))

-- ---- moments of a table

-- the first of outputs that are moments is one
begin_with_moment : (os : List Output) (rows : List Row) → AllByRecursion IsMoment os → rows ≡ first_of (map (λ (o : Output). o.1) os) → BeginWithMoment rows
begin_with_moment [] rows all are = subst BeginWithMoment (sym are) tt
begin_with_moment (o ∷ os) rows all are = subst BeginWithMoment (sym are) (all.0.0, ap (λ (p : Output). p.1) all.0.1)

module _ {X : Type 0} (L : Layout X) (end : X → ℕ) {text : List ℕ} (tests : List Term) (place : ℕ) {params : Row} (test : X → Bool)
    (reading : IsReading desk_schema first_row text L.table.tree tests (col 1 place ∷ []) (by place ∷ []) params)
    (low : (db : Trees) → overlay db [] L.table.tree ≡ db L.table.tree) (tests_are : (x : X) → passes tests params (L.image x) ≡ test x)
    (shows : (x : X) → output (picked L.table.tree tests (col 1 place ∷ []) (by place ∷ [])) (params ∷ L.image x ∷ []) ≡ twice (end x)) where
  -- the moments that are shown, cut from those of all rows that pass the test
  moments : (old new : State) (xs : List X) (rows : List Row) → HasRows L old.now xs → Shown text params old new rows
      → (all : List Row) × IsOrderedAs (picked L.table.tree tests (col 1 place ∷ []) (by place ∷ [])) (map twice (map end (filter test xs))) all
      × (rows ≡ first_of all)
  moments old new xs rows has h =
      answers_from reading old new has.schema
      (matched L.image (λ (x : X). x) L.table.tree tests (col 1 place ∷ []) (by place ∷ []) params test (λ x. twice (end x)) tests_are shows low old.now.trees
      xs has.rows_are
      ∙ ap (λ ys. map (λ x. twice (end x)) (filter test ys)) (map-id xs)
      ∙ sym (map-map twice end (filter test xs))) rows h

  -- so a look-up finds the earliest
  earliest_finds : {S : Type 0} (g : Ghosts S) (old : Held S) (xs : List X) → HasRows L (state g old).now xs
      → FindsEarliest g (text, params) old (map end (filter test xs))
  earliest_finds g old xs has =
      let ms = map end (filter test xs) in
      record {
        shows = λ new rows found h first.
            let it = moments (state g old) (state g new) xs rows has h in
            earliest_in ms found it.1.ordered it.1.same it.1.sorted (first ∙ ap first_number (it.2 ∙ ap first_of it.1.shown));
        sure = λ may. record {
          fails = λ new e. join_fails refl reading (state g old) (state g new) has.schema e may;
          shows = λ new rows h.
              let it = moments (state g old) (state g new) xs rows has h in
              begin_with_moment it.1.ordered rows (all-permutation IsMoment (map twice ms) it.1.ordered it.1.same (are_moments ms))
              (it.2 ∙ ap first_of it.1.shown);
        };
      }

-- whatever a query is called
pub earliest_as : {S : Type 0} {g : Ghosts S} {ask other : List ℕ × Row} {old : Held S} {ms : List ℕ} → other ≡ ask → FindsEarliest g ask old ms
    → FindsEarliest g other old ms
earliest_as {S} {g} {ask} {other} {old} {ms} same finds = subst (λ a. FindsEarliest g a old ms) (sym same) finds

module _ {S : Type 0} (g : Ghosts S) (old : Held S) (T : Tables) (has : Holds (state g old).now T) where
  -- of nonces
  pub issue_find : FindsEarliest g (nonce.SELECT_EARLIEST.now, []) old (issues T)
  issue_find =
      subst (λ ns. FindsEarliest g (nonce.SELECT_EARLIEST.now, []) old (map (λ (n : Nonce). n.issued) ns)) (filter-all T.nonces)
      (earliest_finds nonce_layout (λ n. n.issued) [] 3 (λ _. true) issue_reading (λ _. refl) (λ _. refl) (λ _. refl)
      g old T.nonces (nonces_held _ T has))

  -- of orders of a status
  pub order_end_find : (status : OrderStatus) → FindsEarliest g (ord.SELECT_EARLIEST.now, text (order_status_text status)) old (order_ends T status)
  order_end_find status =
      earliest_finds order_layout (λ o. o.expires) (is_equal order_status_at) 4 (λ o. order_code o.status == order_code status) (order_end_reading status)
      (λ _. refl)
      (λ o. text_test (order_status_text o.status) (order_status_text status) ∙ order_status_test o.status status) (λ _. refl)
      g old T.orders (orders_held _ T has)

  -- of authorizations of a status
  pub authorization_end_find : (status : AuthzStatus)
      → FindsEarliest g (authz.SELECT_EARLIEST.now, text (authorization_status_text status)) old (authorization_ends T status)
  authorization_end_find status =
      earliest_finds authorization_layout (λ r. r.expires) (is_equal authorization_status_at) 6 (λ r. authz_code r.status == authz_code status)
      (authorization_end_reading status) (λ _. refl)
      (λ r. text_test (authorization_status_text r.status) (authorization_status_text status) ∙ authorization_status_test r.status status) (λ _. refl)
      g old T.authorizations (authorizations_held _ T has)
