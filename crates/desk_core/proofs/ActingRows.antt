-- What a verdict's entry makes, as the reply shows it.
use Rattle.std.proofs.Common.{◌≡◌, ℕ, ◌+◌, ◌≤◌, List, [], ◌∷◌, map, Option, Some, None, true, refl, sym, ap, subst, ◌∙◌, arith, cond, rules}
use Rattle.std.proofs.lemmas.Bool.{and_parts, eq-eqb}
use Rattle.std.specs.{Prelude.◌==◌, Prelude.IsTrue, Prelude.find, Option.option_map, List.list_all}
use Rattle.desk_model.specs.Effect.{authorizations_after, effect, moved_account, moved_order, new_authorizations, swept, swept_order}
use Rattle.desk_model.specs.{Tables.Tables, Derived.authorization_numbered, Legal.wanted_name, Allowed.may_want_on, Lookup.holds, Order.listed_by, Kept.EachOf}
use Rattle.desk_model.specs.{Limits.last_end, declared.entry.Entry.Entry, declared.entry.Wanted.Wanted, declared.rows.AccountRow.AccountRow}
use Rattle.desk_model.specs.{declared.rows.AuthorizationRow.AuthorizationRow, declared.rows.Change.Change, declared.rows.Counters.Counters}
use Rattle.desk_model.specs.{declared.rows.OrderRow.OrderRow, Document.and_row, Document.listed_rows, Document.rows_of, Authorization.is_valid}
use Rattle.desk_model.specs.{Authorization.made_for, Name.Name, Name.same_name, Questions.account_on, Questions.order_end, Questions.order_on, Questions.serves}
use Rattle.desk_model.specs.{declared.entry.Entry.TheVariants.Opened as opened, declared.entry.Entry.TheVariants.Ordered as ordered}
use Rattle.desk_model.specs.{declared.entry.Wanted.TheVariants.New as new, declared.entry.Wanted.TheVariants.Reused as reused}
use Rattle.model_laws.specs.Ordered.{Ascends, Below, IsOrdered}
use Rattle.model_laws.proofs.{Chain.account_number, Chain.order_number, Local.swept_order_number, RowLists.ascends_map, RowLists.none_below, Basics.each}
use Rattle.model_laws.proofs.{Basics.each_of_map, OrderFacts.numbers_listed}
use Rattle.core_changes.specs.{Recorded.IsAt, Recorded.IsRecorded, Made.AreReusable, Made.next_account, Made.next_order}
use Rattle.desk_core.specs.HasTexts.{HasTexts}
use Rattle.core_changes.proofs.{MadeRows.find-after, MadeRows.made_found, MadeRows.stood_found, Moving.below_swept, Moving.ordered_one}
use Rattle.identifiers.proofs.NamesKept.{same_names}
use Rattle.desk_core.proofs.ShownTexts.{order_ends}
use Rattle.desk_book.proofs.SweptRows.{find-moved}

-- the same entries are recorded
pub same_entries : (m : ℕ) (B : Tables) {es ds : List Entry} {done : List Change} {counters : Counters} → es ≡ ds
    → IsRecorded m B es done counters → IsRecorded m B ds done counters
same_entries m B {es} {ds} {done} {counters} is h = subst (λ l. IsRecorded m B l done counters) is h

-- ---- an account that is opened

-- the accounts that stood have not its number
account_after : (m : ℕ) (B : Tables) (key : List ℕ) (contacts : List (List ℕ)) → IsOrdered B →
    account_on (effect m (swept m B) (opened key contacts)) (B.meta.counters.accounts + 1)
    ≡ Some (next_account (record B.meta.counters { clock = m }) key contacts)
account_after m B key contacts is =
    find-after (λ a. a.number == B.meta.counters.accounts + 1) (map (moved_account (opened key contacts) m) B.accounts) (fresh ∷ [])
    (find-moved (λ a. a.number == B.meta.counters.accounts + 1) (moved_account (opened key contacts) m) B.accounts
    (λ a. ap (λ k. k == B.meta.counters.accounts + 1) (account_number (opened key contacts) m a))
    ∙ ap (option_map (moved_account (opened key contacts) m))
    (none_below (λ a. a.number) (B.meta.counters.accounts + 1) (B.meta.counters.accounts + 1) B.accounts (omega arith) is.accounts.1))
    ∙ ap (λ b. cond b (Some fresh) None) (eq-eqb (B.meta.counters.accounts + 1) (B.meta.counters.accounts + 1) refl)
  where
    fresh : AccountRow
    fresh = next_account (record B.meta.counters { clock = m }) key contacts

-- it is found by its number
pub opened_found : (m : ℕ) (B : Tables) (C : Counters) (key : List ℕ) (contacts : List (List ℕ)) → IsAt m B C → IsOrdered B →
    (let T : Tables = effect m (swept m B) (opened key contacts) in account_on T T.meta.counters.accounts ≡ Some (next_account C key contacts))
opened_found m B C key contacts at is = search (rules, account_after)

-- ---- an order that is made

-- it is found by its number
order_after : (m : ℕ) (B : Tables) (account : ℕ) (wanted : List Wanted) → IsOrdered B → AreReusable (swept m B).authorizations wanted →
    order_on (effect m (swept m B) (ordered account wanted)) (B.meta.counters.orders + 1)
    ≡ Some (next_order B.meta.policy (record B.meta.counters { clock = m }) account wanted)
order_after m B account wanted is reusable =
    find-after (λ o. o.number == B.meta.counters.orders + 1) stood _
    (find-moved (λ o. o.number == B.meta.counters.orders + 1) (moved_order e m S.authorizations (authorizations_after S e m)) S.orders
    (λ o. ap (λ k. k == B.meta.counters.orders + 1) (order_number e m S.authorizations (authorizations_after S e m) o))
    ∙ ap (option_map (moved_order e m S.authorizations (authorizations_after S e m)))
    (find-moved (λ o. o.number == B.meta.counters.orders + 1) (swept_order m B.authorizations) B.orders
    (λ o. ap (λ k. k == B.meta.counters.orders + 1) (swept_order_number m B.authorizations o))
    ∙ ap (option_map (swept_order m B.authorizations))
    (none_below (λ o. o.number) (B.meta.counters.orders + 1) (B.meta.counters.orders + 1) B.orders (omega arith) is.orders.1)))
    ∙ ap (find (λ o. o.number == B.meta.counters.orders + 1))
    (ordered_one m S account wanted (below_swept m (B.meta.counters.authorizations + 1) B.authorizations is.authorizations.1) reusable)
    ∙ ap (λ b. cond b (Some (next_order B.meta.policy (record B.meta.counters { clock = m }) account wanted)) None)
    (eq-eqb (B.meta.counters.orders + 1) (B.meta.counters.orders + 1) refl)
  where
    e : Entry
    e = ordered account wanted

    S : Tables
    S = swept m B

    stood : List OrderRow
    stood = map (moved_order e m S.authorizations (authorizations_after S e m)) S.orders

-- it stands in the tables after its entry
pub ordered_found : (m : ℕ) (B : Tables) (C : Counters) (account : ℕ) (wanted : List Wanted) → IsAt m B C → IsOrdered B →
    AreReusable (swept m B).authorizations wanted →
    (let T : Tables = effect m (swept m B) (ordered account wanted) in order_on T T.meta.counters.orders ≡ Some (next_order B.meta.policy C account wanted))
ordered_found m B C account wanted at is reusable =
    order_after m B account wanted is reusable
    ∙ ap (λ x. Some (next_order B.meta.policy x account wanted)) (sym at)

-- ---- its names

-- the row of this number has the name
abbrev IsNamed : List AuthorizationRow → ℕ → Name → Type 0
IsNamed all n name = option_map (λ r. r.name) (authorization_numbered n all) ≡ Some name

-- so has the row of each that is used again
abbrev AreNamed : List AuthorizationRow → List Wanted → Type 0
AreNamed all [] = Unit {0}
AreNamed all (new name tokens ∷ ws) = AreNamed all ws
AreNamed all (reused name n ∷ ws) = IsNamed all n name × AreNamed all ws

-- a row that is found gives its name
name_on : (o : Option AuthorizationRow) (name : Name) (rest : List AuthorizationRow) → option_map (λ r. r.name) o ≡ Some name →
    map (λ r. r.name) (and_row o rest) ≡ name ∷ map (λ r. r.name) rest
name_on o name rest h = search rules

-- the names of what an order lists are those that are wanted
names_listed : (all : List AuthorizationRow) (account date expires : ℕ) (ws : List Wanted) (n c : ℕ) →
    EachOf (λ a. IsNamed all a.number a.name) (made_for account date expires ws n c) → AreNamed all ws →
    map (λ r. r.name) (rows_of all (listed_by ws n)) ≡ map wanted_name ws
names_listed all account date expires [] n c h k = refl
names_listed all account date expires (new name tokens ∷ ws) n c h k =
    name_on (authorization_numbered n all) name (rows_of all (listed_by ws (n + 1))) h.0
    ∙ ap (λ rest. name ∷ rest) (names_listed all account date expires ws (n + 1) _ h.1 k)
names_listed all account date expires (reused name j ∷ ws) n c h k = grind (arith, (names_listed all account date expires ws n c h k.1))

-- new authorizations have the names that they are made for
made_named : (T : Tables) (m account : ℕ) (wanted : List Wanted) → Below (λ a. a.number) (T.meta.counters.authorizations + 1) T.authorizations →
    EachOf (λ a. IsNamed (authorizations_after T (ordered account wanted) m) a.number a.name) (new_authorizations T (ordered account wanted) m)
made_named T m account wanted below = grind (arith, each, each_of_map, (made_found T m account wanted below))

-- those that are used again have the names that they serve
reused_named : (T : Tables) (m account : ℕ) (wanted ws : List Wanted) → list_all (may_want_on T account) ws ≡ true →
    AreNamed (authorizations_after T (ordered account wanted) m) ws
reused_named T m account wanted [] h = tt
reused_named T m account wanted (new name tokens ∷ ws) h = reused_named T m account wanted ws h
reused_named T m account wanted (reused name n ∷ ws) h =
    let p = and_parts (may_want_on T account (reused name n)) _ h in
    (by (authorization_numbered n T.authorizations) refl p.0, reused_named T m account wanted ws p.1)
  where
    by : (o : Option AuthorizationRow) → authorization_numbered n T.authorizations ≡ o → holds (serves account name (order_end T)) o ≡ true →
        IsNamed (authorizations_after T (ordered account wanted) m) n name
    by None e k = cc
    by (Some row) e k =
        let own = and_parts (is_valid row.status) _ k in
        let named = and_parts (row.account == account) _ own.1 in
        ap (option_map (λ r. r.name)) (stood_found T m account n wanted row e)
        ∙ ap (λ x. Some x) (same_names row.name name (and_parts (same_name row.name name) _ named.1).0)

-- so the new order names them
names_after : (m : ℕ) (B : Tables) (account : ℕ) (wanted : List Wanted) → IsOrdered B → list_all (may_want_on (swept m B) account) wanted ≡ true →
    map (λ a. a.name) (listed_rows (effect m (swept m B) (ordered account wanted))
    (next_order B.meta.policy (record B.meta.counters { clock = m }) account wanted)) ≡ map wanted_name wanted
names_after m B account wanted is may =
    let first : ℕ = B.meta.counters.authorizations + 1 in
    ap (λ ns. map (λ a. a.name) (rows_of (effect m (swept m B) (ordered account wanted)).authorizations ns)) (numbers_listed 1 (listed_by wanted first))
    ∙ names_listed (effect m (swept m B) (ordered account wanted)).authorizations account m (m + B.meta.policy.authz_life) wanted first
    (B.meta.counters.challenges + 1)
    (made_named (swept m B) m account wanted (below_swept m first B.authorizations is.authorizations.1))
    (reused_named (swept m B) m account wanted wanted may)

-- they are those that are wanted
pub ordered_names : (m : ℕ) (B : Tables) (C : Counters) (account : ℕ) (wanted : List Wanted) → IsAt m B C → IsOrdered B →
    list_all (may_want_on (swept m B) account) wanted ≡ true →
    map (λ a. a.name) (listed_rows (effect m (swept m B) (ordered account wanted)) (next_order B.meta.policy C account wanted)) ≡ map wanted_name wanted
ordered_names m B C account wanted at is may = search (rules, names_after)

-- its moment has a text
pub ordered_text : (m : ℕ) (B : Tables) (C : Counters) (account : ℕ) (wanted : List Wanted) → IsAt m B C → IsOrdered B →
    AreReusable (swept m B).authorizations wanted →
    HasTexts (effect m (swept m B) (ordered account wanted)) → (next_order B.meta.policy C account wanted).expires ≤ last_end
ordered_text m B C account wanted at is reusable texts =
    grind (
      arith,
      (ordered_found m B C account wanted at is reusable),
      (order_ends (effect m (swept m B) (ordered account wanted)) (B.meta.counters.orders + 1) texts),
    )

-- the rows at the moment stand by number
pub swept_ascends : (m : ℕ) (B : Tables) → IsOrdered B → Ascends (λ a. a.number) 1 (swept m B).authorizations
swept_ascends m B is = search (rules, ascends_map)

-- what an order may use again at the moment of the counters it may at this one
pub may_be_wanted : (m t : ℕ) (B : Tables) (account : ℕ) (wanted : List Wanted) → t ≡ m → IsOrdered B →
    (Ascends (λ a. a.number) 1 (swept t B).authorizations → IsTrue (list_all (may_want_on (swept t B) account) wanted)) →
    list_all (may_want_on (swept m B) account) wanted ≡ true
may_be_wanted m t B account wanted clock is may = search (rules, swept_ascends)
