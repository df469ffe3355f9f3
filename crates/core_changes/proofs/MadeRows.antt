-- The rows of a new order and of its authorizations.
use Rattle.std.proofs.Common.{◌≡◌, ◌≤◌, ◌<◌, ℕ, ◌+◌, List, [], ◌∷◌, ◌++◌, map, Option, Some, None, true, false, Bool, refl, ap, ◌∙◌, arith, rules}
use Rattle.std.proofs.{lemmas.Bool.and_parts, lemmas.Bool.le-ltb, lemmas.Bool.Decides.nat_tests, lemmas.Grind.common_steps}
use Rattle.std.specs.{Prelude.◌==◌, Prelude.find, List.list_all, List.list_any, Option.option_map}
use Rattle.desk_model.specs.Effect.{authorizations_after, fresh_challenge, fresh_order, moved_authorization, new_authorizations}
use Rattle.desk_model.specs.{Authorization.is_good, Authorization.is_valid, Derived.stored_statuses, declared.entry.Wanted.Wanted, declared.objects.Order.Order}
use Rattle.desk_model.specs.{Authorization.is_over, Authorization.made_for, Derived.derived_order, Allowed.may_want_on, Questions.serves, Order.order_status_by}
use Rattle.desk_model.specs.{Authorization.is_pending, declared.entry.Entry.TheVariants.Ordered as ordered, declared.entry.Wanted.TheVariants.Reused as reused}
use Rattle.desk_model.specs.{Derived.and_status, Tables.Tables, Kept.EachOf, Lookup.holds, Questions.order_end, Order.listed_by, Order.made_status}
use Rattle.desk_model.specs.{Derived.authorization_numbered, declared.objects.Authorization.Authorization, declared.rows.AuthorizationRow.AuthorizationRow}
use Rattle.desk_model.specs.{declared.objects.Challenge.Challenge, declared.status.AuthzStatus.AuthzStatus, declared.entry.Wanted.TheVariants.New as new}
use Rattle.model_laws.specs.{Ordered.Ascends, Ordered.Below, Reused.OfReused}
use Rattle.model_laws.proofs.Basics.{each, each_both, each_of_map, find-append}
use Rattle.model_laws.proofs.RowLists.{ascends_above, ascends_found, ascends_map, none_below, numbered_ascends}
use Rattle.model_laws.proofs.{Finds.found_moved, Local.moved_number, OrderFacts.made_by_numbered, OrderFacts.numbers_listed}
use Rattle.core_changes.specs.Made.{AreReusable, made_row, made_rows}
use Rattle.desk_book.proofs.SweptRows.{find-moved}

-- the numbers of new rows go up
pub made_ascends : (m account expires : ℕ) (wanted : List Wanted) (n c : ℕ)
    → Ascends (λ r. r.number) n (made_rows m (made_for account m (m + expires) wanted n c))
made_ascends m account life wanted n c = grind (arith, ascends_map, numbered_ascends, (made_by_numbered (ordered account wanted) m life n c))

-- what is not found among some items is looked for among the others
pub find-after : {X : Type 0} (p : X → Bool) (xs ys : List X) → find p xs ≡ None → find p (xs ++ ys) ≡ find p ys
find-after p [] ys none = refl
find-after {X} p (x ∷ xs) ys none = grind (arith, (find-after p xs ys))

-- the authorizations that stood have none of the new numbers
pub stood_before : (T : Tables) (m account n : ℕ) (wanted : List Wanted)
    → Below (λ a. a.number) (T.meta.counters.authorizations + 1) T.authorizations → T.meta.counters.authorizations + 1 ≤ n →
    authorization_numbered n (map (moved_authorization (ordered account wanted) m T.accounts) T.authorizations) ≡ None
stood_before T m account n wanted is le =
    find-moved (λ a. a.number == n) (moved_authorization (ordered account wanted) m T.accounts) T.authorizations
    (λ a. ap (λ k. k == n) (moved_number (ordered account wanted) m T.accounts a))
    ∙ ap (option_map (moved_authorization (ordered account wanted) m T.accounts))
    (none_below (λ a. a.number) (T.meta.counters.authorizations + 1) n T.authorizations le is)

-- ---- what a new order finds of the authorizations that it lists

-- the row of this number is pending
abbrev Waits : List AuthorizationRow → ℕ → Type 0
Waits rows n = holds (λ r. is_pending r.status) (authorization_numbered n rows) ≡ true

-- it is valid
abbrev IsReusable : List AuthorizationRow → ℕ → Type 0
IsReusable rows n = holds (λ r. is_valid r.status) (authorization_numbered n rows) ≡ true

-- new challenges are not reported
none_reported : (cs : List Challenge) → list_any (λ c. holds (λ r. is_good r.outcome) c.reported) (map fresh_challenge cs) ≡ false
none_reported [] = refl
none_reported (c ∷ cs) = none_reported cs

-- an authorization that is just made is pending
made_waits : (m life : ℕ) (a : Authorization) → a.expires ≡ m + life → is_pending (made_row m a).status ≡ true
made_waits m life a ends = search (rules, none_reported)

-- new authorizations end then
made_ends : (account date expires : ℕ) (ws : List Wanted) (n c : ℕ) → EachOf (λ a. a.expires ≡ expires) (made_for account date expires ws n c)
made_ends account date expires [] n c = tt
made_ends account date expires (new name tokens ∷ ws) n c = (refl, made_ends account date expires ws (n + 1) _)
made_ends account date expires (reused name k ∷ ws) n c = made_ends account date expires ws n c

-- what is found behind rows that have no such number
found_behind : (T : Tables) (m account : ℕ) (wanted : List Wanted) → Below (λ a. a.number) (T.meta.counters.authorizations + 1) T.authorizations →
    (all rows : List AuthorizationRow) → EachOf (λ r. T.meta.counters.authorizations < r.number) rows →
    EachOf (λ r. authorization_numbered r.number all ≡ Some r) rows →
    EachOf (λ r. authorization_numbered r.number (map (moved_authorization (ordered account wanted) m T.accounts) T.authorizations ++ all) ≡ Some r) rows
found_behind T m account wanted below all [] h k = tt
found_behind T m account wanted below all (r ∷ rows) h k = (
  find-after (λ a. a.number == r.number) (map (moved_authorization (ordered account wanted) m T.accounts) T.authorizations) all
      (stood_before T m account r.number wanted below (let lt : T.meta.counters.authorizations < r.number = h.0 in omega arith)) ∙ k.0,
  found_behind T m account wanted below all rows h.1 k.1,
)

-- each new row is found among those after the entry
pub made_found : (T : Tables) (m account : ℕ) (wanted : List Wanted) → Below (λ a. a.number) (T.meta.counters.authorizations + 1) T.authorizations →
    (let rows : List AuthorizationRow = made_rows m (new_authorizations T (ordered account wanted) m) in
    EachOf (λ r. authorization_numbered r.number (authorizations_after T (ordered account wanted) m) ≡ Some r) rows)
made_found T m account wanted below =
    found_behind T m account wanted below rows rows
    (ascends_above (λ r. r.number) T.meta.counters.authorizations (T.meta.counters.authorizations + 1) rows (omega arith) up)
    (ascends_found (λ r. r.number) (T.meta.counters.authorizations + 1) rows up)
  where
    rows : List AuthorizationRow
    rows = made_rows m (new_authorizations T (ordered account wanted) m)

    up : Ascends (λ r. r.number) (T.meta.counters.authorizations + 1) (made_rows m (new_authorizations T (ordered account wanted) m))
    up = made_ascends m account T.meta.policy.authz_life wanted (T.meta.counters.authorizations + 1) (T.meta.counters.challenges + 1)

-- so it is pending there
made_wait : (T : Tables) (m account : ℕ) (wanted : List Wanted) → Below (λ a. a.number) (T.meta.counters.authorizations + 1) T.authorizations →
    EachOf (λ a. Waits (authorizations_after T (ordered account wanted) m) a.number) (new_authorizations T (ordered account wanted) m)
made_wait T m account wanted below =
    each _ _ made (λ a h. ap (holds (λ r. is_pending r.status)) h.0 ∙ made_waits m T.meta.policy.authz_life a h.1)
    (each_both _ _ made (each_of_map _ (made_row m) made (made_found T m account wanted below))
    (made_ends account m (m + T.meta.policy.authz_life) wanted (T.meta.counters.authorizations + 1) (T.meta.counters.challenges + 1)))
  where
    made : List Authorization
    made = new_authorizations T (ordered account wanted) m

-- a row that stood is found after the entry as it was
pub stood_found : (T : Tables) (m account n : ℕ) (wanted : List Wanted) (row : AuthorizationRow) → authorization_numbered n T.authorizations ≡ Some row →
    authorization_numbered n (authorizations_after T (ordered account wanted) m) ≡ Some row
stood_found T m account n wanted row found = search (rules, common_steps, arith, find-append, found_moved)

-- so what was valid stands
reusable_after : (T : Tables) (m account : ℕ) (wanted : List Wanted) (ws : List Wanted) → AreReusable T.authorizations ws →
    EachOf (OfReused (IsReusable (authorizations_after T (ordered account wanted) m))) ws
reusable_after T m account wanted [] h = tt
reusable_after T m account wanted (new name tokens ∷ ws) h = (tt, reusable_after T m account wanted ws h.1)
reusable_after T m account wanted (reused name n ∷ ws) h =
    (by (authorization_numbered n T.authorizations) refl h.0, reusable_after T m account wanted ws h.1)
  where
    by : (o : Option AuthorizationRow) → authorization_numbered n T.authorizations ≡ o → holds (λ r. is_valid r.status) o ≡ true →
        IsReusable (authorizations_after T (ordered account wanted) m) n
    by o l k = grind (arith, stood_found)

-- ---- its status

-- a status that is pending or valid is not over
waits_on : (o : Option AuthorizationRow) (rest : List AuthzStatus) → holds (λ r. is_pending r.status) o ≡ true →
    (list_any is_over (and_status o rest) ≡ list_any is_over rest) × (list_all is_valid (and_status o rest) ≡ false)
waits_on o rest h = search rules

-- a valid authorization is not over
valid_on : (o : Option AuthorizationRow) (rest : List AuthzStatus) → holds (λ r. is_valid r.status) o ≡ true →
    (list_any is_over (and_status o rest) ≡ list_any is_over rest) × (list_all is_valid (and_status o rest) ≡ list_all is_valid rest)
valid_on o rest h = search rules

-- none of its authorizations is over
none_over : (rows : List AuthorizationRow) (account date expires : ℕ) (ws : List Wanted) (n c : ℕ) →
    EachOf (λ a. Waits rows a.number) (made_for account date expires ws n c) → EachOf (OfReused (IsReusable rows)) ws →
    list_any is_over (stored_statuses rows (listed_by ws n)) ≡ false
none_over rows account date expires [] n c h k = refl
none_over rows account date expires (new name tokens ∷ ws) n c h k =
    (waits_on (authorization_numbered n rows) (stored_statuses rows (listed_by ws (n + 1))) h.0).0
    ∙ none_over rows account date expires ws (n + 1) _ h.1 k.1
none_over rows account date expires (reused name j ∷ ws) n c h k =
    (valid_on (authorization_numbered j rows) (stored_statuses rows (listed_by ws n)) k.0).0 ∙ none_over rows account date expires ws n c h k.1

-- and all are valid where all are used again
status_made : (rows : List AuthorizationRow) (account date expires : ℕ) (ws : List Wanted) (n c : ℕ) →
    EachOf (λ a. Waits rows a.number) (made_for account date expires ws n c) → EachOf (OfReused (IsReusable rows)) ws →
    order_status_by false false false (list_all is_valid (stored_statuses rows (listed_by ws n))) ≡ made_status ws
status_made rows account date expires [] n c h k = refl
status_made rows account date expires (new name tokens ∷ ws) n c h k =
    ap (order_status_by false false false) (waits_on (authorization_numbered n rows) (stored_statuses rows (listed_by ws (n + 1))) h.0).1
status_made rows account date expires (reused name j ∷ ws) n c h k =
    ap (order_status_by false false false) (valid_on (authorization_numbered j rows) (stored_statuses rows (listed_by ws n)) k.0).1
    ∙ status_made rows account date expires ws n c h k.1

-- so a new order has the status that its names give
pub status_is_made : (T : Tables) (m account : ℕ) (wanted : List Wanted) (o : Order) →
    Below (λ a. a.number) (T.meta.counters.authorizations + 1) T.authorizations → AreReusable T.authorizations wanted →
    o.authorizations ≡ listed_by wanted (T.meta.counters.authorizations + 1) → o.expires ≡ m + T.meta.policy.order_life →
    derived_order m (authorizations_after T (ordered account wanted) m) (fresh_order o) ≡ made_status wanted
status_is_made T m account wanted o below reusable lists ends = grind (
  arith,
  nat_tests,
  made_wait,
  reusable_after,
  le-ltb,
  numbers_listed,
  none_over,
  status_made,
  (made_wait T m account wanted below),
  (reusable_after T m account wanted wanted reusable),
  (numbers_listed 1 o.authorizations ∙ lists),
)

-- what an order may want is valid
pub wanted_reusable : (T : Tables) (account : ℕ) (ws : List Wanted) → list_all (may_want_on T account) ws ≡ true → AreReusable T.authorizations ws
wanted_reusable T account [] h = tt
wanted_reusable T account (new name tokens ∷ ws) h = (tt, wanted_reusable T account ws h)
wanted_reusable T account (reused name n ∷ ws) h =
    let p = and_parts (may_want_on T account (reused name n)) _ h in
    (by (authorization_numbered n T.authorizations) p.0, wanted_reusable T account ws p.1)
  where
    by : (o : Option AuthorizationRow) → holds (serves account name (order_end T)) o ≡ true → holds (λ r. is_valid r.status) o ≡ true
    by o k = grind arith
