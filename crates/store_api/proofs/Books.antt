-- The rows of a book that a call touches are a book.
use Rattle.std.proofs.Common.{◌≡◌, ◌≢◌, ℕ, max, List, [], ◌∷◌, filter, Some, ◌∙◌, true, false, Bool, cond, arith, rules}
use Rattle.std.proofs.lemmas.Bool.{and_from, or_left, or_right}
use Rattle.std.specs.{Prelude.◌==◌, Prelude.◌&&◌, Prelude.find, Prelude.IsSome, List.flat_map}
use Rattle.store_book.specs.IsBook.{HaveReferences, IsBook}
use Rattle.desk_model.specs.Touched.{is_first_authorization, is_named_account, is_touched_account, is_touched_authorization, is_touched_order, lists, only_meta}
use Rattle.desk_model.specs.Touched.{touched, touched_at, touched_rows}
use Rattle.desk_model.specs.{Questions.account_on, Tables.Tables, Kept.EachOf, declared.call.Ask.Ask, declared.call.Call.Call}
use Rattle.desk_model.specs.{declared.rows.AccountRow.AccountRow, declared.rows.Listed.Listed}
use Rattle.desk_model.specs.declared.call.Ask.TheVariants as ask
use Rattle.desk_model.specs.declared.call.OfficeAsk.TheVariants as office
use Rattle.model_laws.specs.Distinct.{Distinct}
use Rattle.model_laws.proofs.Basics.{each, each_both, each_parts, each-append, list_any-map}
use Rattle.model_laws.proofs.{Distinctness.distinct-append, Distinctness.distinct_parts, RowLists.ascends_filter, Finds.found_passes}
use Rattle.model_parts.proofs.Lists.{each_member, filtered_each, turned}

-- ---- lists

-- what is found and passes is found among what passes
some_filter : {X : Type 0} (p test : X → Bool) (xs : List X) → IsSome (find p xs) →
    ((x : X) → find p xs ≡ Some x → test x ≡ true) → IsSome (find p (filter test xs))
some_filter p test [] h f = h
some_filter p test (x ∷ xs) h f = grind (arith, (some_filter p test xs))

-- values that stand once do so among the items that pass
distinct_filter : {X Y : Type 0} (value : X → Y) (p : X → Bool) (xs : List X) → Distinct value xs → Distinct value (filter p xs)
distinct_filter value p [] h = tt
distinct_filter value p (x ∷ xs) h = by (p x) (distinct_filter value p xs h.1)
  where
    by : (b : Bool) → Distinct value (filter p xs) → Distinct value (cond b (x ∷ filter p xs) (filter p xs))
    by true k = (filtered_each _ p xs (each _ _ xs (λ y f yes. f) h.0), k)
    by false k = k

-- what holds of the parts of all items holds of the parts of those that pass
flat_filtered : {X Y : Type 0} (P : Y → Type 0) (f : X → List Y) (p : X → Bool) (xs : List X) → EachOf P (flat_map f xs) → EachOf P (flat_map f (filter p xs))
flat_filtered P f p [] h = tt
flat_filtered P f p (x ∷ xs) h = let parts = each_parts P (f x) (flat_map f xs) h in by (p x) parts.0 (flat_filtered P f p xs parts.1)
  where
    by : (b : Bool) → EachOf P (f x) → EachOf P (flat_map f (filter p xs)) → EachOf P (flat_map f (cond b (x ∷ filter p xs) (filter p xs)))
    by b l k = grind (arith, each-append)

-- values that stand once in the parts of all items do so in those of the items that pass
distinct_flat : {X Y Z : Type 0} (value : Y → Z) (f : X → List Y) (p : X → Bool) (xs : List X) → Distinct value (flat_map f xs) →
    Distinct value (flat_map f (filter p xs))
distinct_flat value f p [] h = tt
distinct_flat value f p (x ∷ xs) h =
    let parts = distinct_parts value (f x) (flat_map f xs) h in by (p x) parts.0 parts.1 (distinct_flat value f p xs parts.2)
  where
    by : (b : Bool) → Distinct value (f x) → EachOf (λ y. EachOf (λ z. value y ≢ value z) (flat_map f xs)) (f x) →
        Distinct value (flat_map f (filter p xs)) → Distinct value (flat_map f (cond b (x ∷ filter p xs) (filter p xs)))
    by true own apart d =
        distinct-append value (f x) (flat_map f (filter p xs)) own d
        (each _ _ (f x) (λ y all. flat_filtered (λ z. value y ≢ value z) f p xs all) apart)
    by false own apart d = d

-- ---- references

-- the account of a row that is touched is touched
holder_found : (T : Tables) (m : ℕ) (a : Ask) (n : ℕ) → IsSome (account_on T n) →
    ((x : AccountRow) → (n == x.number) ≡ true → is_touched_account T m a x ≡ true) →
    IsSome (account_on (touched_rows T m a) n)
holder_found T m a n there touches = search (rules, some_filter, found_passes)

-- each reference of a touched row is found among the touched rows
rows_refer : (T : Tables) (m : ℕ) (a : Ask) → HaveReferences T → HaveReferences (touched_rows T m a)
rows_refer T m a h =
    record {
      authorizations = filtered_each _ (is_touched_authorization T m a) T.authorizations
          (each _ _ T.authorizations (λ r p yes. holder_found T m a r.account p.0 (λ x same.
          or_right (is_named_account a x) _ (or_right _ _ (p.1 (λ y. is_touched_authorization T m a y && (y.account == x.number)) (and_from _ _ yes same)))))
          (each_both _ _ T.authorizations h.authorizations (each_member T.authorizations)));
      orders = filtered_each _ (is_touched_order T m a) T.orders
          (each _ _ T.orders (λ o p yes. holder_found T m a o.account p.0 (λ x same.
          or_right (is_named_account a x) _ (or_left _ _ (p.1 (λ y. is_touched_order T m a y && (y.account == x.number)) (and_from _ _ yes same)))))
          (each_both _ _ T.orders h.orders (each_member T.orders)));
      listed = filtered_each _ (is_touched_order T m a) T.orders
          (each _ _ T.orders
          (λ o p yes. each _ _ o.listed (λ l q. some_filter (λ r. r.number == l.authorization) (is_touched_authorization T m a) T.authorizations q.0
          (λ r found. or_right (is_first_authorization T m a r) _ (or_left _ _ (p.1 (λ y. is_touched_order T m a y && lists y r.number)
          (and_from _ _ yes (list_any-map (λ j. j == r.number) (λ (k : Listed). k.authorization) o.listed
          ∙ q.1 (λ k. k.authorization == r.number)
          (turned r.number l.authorization (found_passes (λ y. y.number == l.authorization) T.authorizations r found))))))))
          (each_both _ _ o.listed p.0 (each_member o.listed)))
          (each_both _ _ T.orders h.listed (each_member T.orders)));
    }

-- ---- books

-- the touched rows of a book are a book
rows_book : (T : Tables) (m : ℕ) (a : Ask) → IsBook T → IsBook (touched_rows T m a)
rows_book T m a b = search (rules, ascends_filter, filtered_each, each, rows_refer, distinct_filter, distinct_flat)

-- so is the desk's own row alone
meta_book : (T : Tables) → IsBook (only_meta T)
meta_book T = search rules

-- so is what any call touches
pub touched_book : (T : Tables) (call : Call) → IsBook T → IsBook (touched T call)
touched_book T call b = by call.ask
  where
    by : (a : Ask) → IsBook (touched_at T (max call.at T.meta.counters.clock) a)
    by (ask.Office office.Directory) = meta_book T
    by (ask.Office office.ChallengeWork) = b
    by (ask.Office office.OrderWork) = b
    by what = rows_book T (max call.at T.meta.counters.clock) what b
