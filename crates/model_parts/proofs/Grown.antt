-- A part with the numbers that no row has: it is the same part, and each number that a call names is kept.
use Rattle.std.proofs.Common.{◌≡◌, ℕ, ◌+◌, ◌<◌, List, [], ◌∷◌, filter, Option, Some, None, refl, sym, ap, ◌∙◌, true, false, Bool, not, arith, subst, rules}
use Rattle.std.proofs.lemmas.Bool.{eqb-true, eq-eqb, and_parts, and_from, or_left, or_right}
use Rattle.std.specs.{Prelude.◌==◌, Prelude.◌&&◌, Prelude.◌||◌, List.list_any}
use Rattle.desk_model.specs.Effect.{lists_one, falls, is_overdue, touches_account, touches_authorization, names_order as entry_names_order}
use Rattle.desk_model.specs.Kept.{EachOf, Kept, restricted, IsClosed, Covers, CoversSweep}
use Rattle.desk_model.specs.Asked.{carries, has_key, has_new_key, names_account, names_order, names_authorization, names_owner, asks_orders, asked_names}
use Rattle.desk_model.specs.Touched.{is_touched_nonce, is_touched_account, is_touched_authorization, is_touched_order, is_named_account, is_named_order}
use Rattle.desk_model.specs.Touched.{is_named_authorization, is_own_order, is_asked_authorization, is_first_authorization, is_past_order, lists, touched_rows}
use Rattle.desk_model.specs.{Lookup.holds, Tables.Tables, Rules.nothing, Derived.numbers_of, Derived.authorization_numbered, declared.call.Ask.Ask}
use Rattle.desk_model.specs.{declared.entry.Entry.Entry, declared.objects.Nonce.Nonce, declared.rows.AccountRow.AccountRow}
use Rattle.desk_model.specs.{declared.rows.AuthorizationRow.AuthorizationRow, declared.rows.OrderRow.OrderRow, declared.call.Target.Target}
use Rattle.model_laws.specs.Ordered.{Below, IsOrdered}
use Rattle.model_laws.proofs.{Basics.each, Basics.each_both, Basics.less_differs, Finds.each_found, Finds.found_passes}
use Rattle.model_parts.specs.{MinimalPart.is_moved_authorization, MinimalPart.needs_listed, MinimalPart.changes_statuses, IsPart.Keeps}
use Rattle.desk_model.specs.declared.call.Ask.TheVariants as ask
use Rattle.desk_model.specs.declared.call.Target.TheVariants as to
use Rattle.model_parts.proofs.{Listed.KeepsListed, Reusing.KeepsAsked}
use Rattle.model_parts.proofs.Lists.{any_gives, any_wider, each_filtered, each_member, filter_same, or_cases, same_number}

-- a row has the number
abbrev pub has_number : {X : Type 0} → (X → ℕ) → List X → ℕ → Bool
has_number number xs n = list_any (λ x. number x == n) xs

-- these numbers and those that no row has
abbrev pub with_others : {X : Type 0} → (X → ℕ) → List X → (ℕ → Bool) → ℕ → Bool
with_others number xs kept n = kept n || not (has_number number xs n)

abbrev pub grown : Kept → Tables → Kept
grown k T =
    record {
      nonces = with_others (λ (n : Nonce). n.serial) T.nonces k.nonces;
      accounts = with_others (λ (a : AccountRow). a.number) T.accounts k.accounts;
      authorizations = with_others (λ (a : AuthorizationRow). a.number) T.authorizations k.authorizations;
      orders = with_others (λ (o : OrderRow). o.number) T.orders k.orders;
    }

-- for the rows themselves nothing is added
pub same_kept : {X : Type 0} (number : X → ℕ) (xs : List X) (kept : ℕ → Bool) → EachOf (λ x. with_others number xs kept (number x) ≡ kept (number x)) xs
same_kept number xs kept =
    each _ _ xs (λ x f. by (kept (number x)) (has_number number xs (number x)) (f (λ y. number y == number x) (same_number (number x)))) (each_member xs)
  where
    by : (b c : Bool) → c ≡ true → (b || not c) ≡ b
    by b c h = grind arith

same_part : {X : Type 0} (number : X → ℕ) (xs : List X) (kept : ℕ → Bool) →
    filter (λ x. with_others number xs kept (number x)) xs ≡ filter (λ x. kept (number x)) xs
same_part number xs kept = filter_same _ _ xs (same_kept number xs kept)

-- the part is the same
pub grown_part : (k : Kept) (T : Tables) → restricted (grown k T) T ≡ restricted k T
grown_part k T =
    λ i. record {
      meta = T.meta;
      nonces = same_part (λ (n : Nonce). n.serial) T.nonces k.nonces i;
      accounts = same_part (λ (a : AccountRow). a.number) T.accounts k.accounts i;
      authorizations = same_part (λ (a : AuthorizationRow). a.number) T.authorizations k.authorizations i;
      orders = same_part (λ (o : OrderRow). o.number) T.orders k.orders i;
    }

-- a number above all is no row's
none_has_number : {X : Type 0} (number : X → ℕ) (last n : ℕ) (xs : List X) → Below number (last + 1) xs → last < n → has_number number xs n ≡ false
none_has_number number last n [] h lt = refl
none_has_number number last n (x ∷ xs) h lt =
    let low : number x < last + 1 = h.0 in
    ap (λ b. b || has_number number xs n) (less_differs (number x) n (omega arith)) ∙ none_has_number number last n xs h.1 lt

pub new_kept : {X : Type 0} (number : X → ℕ) (last : ℕ) (xs : List X) (kept : ℕ → Bool) → Below number (last + 1) xs →
    (n : ℕ) → last < n → with_others number xs kept n ≡ true
new_kept number last xs kept h n lt = or_right (kept n) (not (has_number number xs n)) (ap not (none_has_number number last n xs h lt))

-- it is closed
pub grown_closed : (k : Kept) (T : Tables) → IsOrdered T → KeepsListed k T → IsClosed (grown k T) T
grown_closed k T ordered listed = record {
  listed = each _ _ T.orders (λ o f yes. each _ _ (numbers_of o.listed) (λ n h. or_left _ _ h) (f.1 (sym f.0 ∙ yes)))
      (each_both _ _ T.orders (same_kept (λ (o : OrderRow). o.number) T.orders k.orders) listed);
  new_nonces = search (rules, new_kept);
  new_accounts = search (rules, new_kept);
  new_authorizations = search (rules, new_kept);
  new_orders = search (rules, new_kept);
}

-- ---- what is kept of the rows that a call touches

-- each touched row is kept
pub record KeepsTouched (k : Kept) (T : Tables) (m : ℕ) (a : Ask) : Type 0 where
  pub nonces : EachOf (λ x. is_touched_nonce T m a x ≡ true → k.nonces x.serial ≡ true) T.nonces
  pub accounts : EachOf (λ x. is_touched_account T m a x ≡ true → k.accounts x.number ≡ true) T.accounts
  pub authorizations : EachOf (λ r. is_touched_authorization T m a r ≡ true → k.authorizations r.number ≡ true) T.authorizations
  pub orders : EachOf (λ o. is_touched_order T m a o ≡ true → k.orders o.number ≡ true) T.orders
  pub holders : EachOf (λ r. is_touched_authorization T m a r ≡ true → k.accounts r.account ≡ true) T.authorizations

-- a number whose rows are kept, where no row has it or not
pub kept_number : {X : Type 0} (number : X → ℕ) (xs : List X) (kept : ℕ → Bool) (test : ℕ → Bool) →
    EachOf (λ x. test (number x) ≡ true → with_others number xs kept (number x) ≡ true) xs →
    (n : ℕ) → test n ≡ true → with_others number xs kept n ≡ true
kept_number number xs kept test h n so = by (has_number number xs n) refl
  where
    by : (b : Bool) → has_number number xs n ≡ b → with_others number xs kept n ≡ true
    by true e =
        any_gives (λ x. number x == n) xs e
        (each _ _ xs (λ x f here. let same : number x ≡ n = eqb-true (number x) n here in
        subst (λ j. with_others number xs kept j ≡ true) same (f (ap test same ∙ so))) h)
    by false e = or_right (kept n) (not (has_number number xs n)) (ap not e)

pub keeps_touched : (k : Kept) (T : Tables) (m : ℕ) (a : Ask) → Keeps k (touched_rows T m a) → KeepsTouched (grown k T) T m a
keeps_touched k T m a h =
    record {
      nonces = each _ _ T.nonces (λ x f yes. or_left _ _ (f yes)) (each_filtered _ (is_touched_nonce T m a) T.nonces h.nonces);
      accounts = accounts;
      authorizations = each _ _ T.authorizations (λ x f yes. or_left _ _ (f yes))
          (each_filtered _ (is_touched_authorization T m a) T.authorizations h.authorizations);
      orders = each _ _ T.orders (λ x f yes. or_left _ _ (f yes)) (each_filtered _ (is_touched_order T m a) T.orders h.orders);
      holders =
          each _ _ T.authorizations
          (λ r member yes. kept_number (λ (x : AccountRow). x.number) T.accounts k.accounts (λ n. r.account == n)
          (each _ _ T.accounts (λ x f same. f (or_right (is_named_account a x) _ (or_right _ _
          (member (λ y. is_touched_authorization T m a y && (y.account == x.number)) (and_from _ _ yes same))))) accounts)
          r.account (same_number r.account)) (each_member T.authorizations);
    }
  where
    accounts : EachOf (λ x. is_touched_account T m a x ≡ true → (grown k T).accounts x.number ≡ true) T.accounts
    accounts = each _ _ T.accounts (λ x f yes. or_left _ _ (f yes)) (each_filtered _ (is_touched_account T m a) T.accounts h.accounts)

-- what an ask names is kept
pub record KeepsNamed (k : Kept) (T : Tables) (a : Ask) : Type 0 where
  pub nonce : (n : ℕ) → carries a n ≡ true → k.nonces n ≡ true
  pub key : EachOf (λ x. has_key a x.key ≡ true → k.accounts x.number ≡ true) T.accounts
  pub new_key : EachOf (λ x. has_new_key a x.key ≡ true → k.accounts x.number ≡ true) T.accounts
  pub account : (n : ℕ) → names_account a n ≡ true → k.accounts n ≡ true
  pub order : (n : ℕ) → names_order a n ≡ true → k.orders n ≡ true
  pub authorization : (n : ℕ) → names_authorization a n ≡ true → k.authorizations n ≡ true
  pub owner : EachOf (λ r. names_owner a r ≡ true → k.authorizations r.number ≡ true) T.authorizations
  pub orders : EachOf (λ x. is_named_account a x ≡ true → EachOf
      (λ o. asks_orders a ≡ true → (o.account == x.number) ≡ true → k.orders o.number ≡ true) T.orders) T.accounts
  pub asked : EachOf (λ x. is_named_account a x ≡ true → KeepsAsked k T.authorizations x.number (asked_names a)) T.accounts

-- the rows that an ask names are kept
pub record KeepsRows (k : Kept) (T : Tables) (a : Ask) : Type 0 where
  pub nonces : EachOf (λ x. carries a x.serial ≡ true → k.nonces x.serial ≡ true) T.nonces
  pub accounts : EachOf (λ x. is_named_account a x ≡ true → k.accounts x.number ≡ true) T.accounts
  pub authorizations : EachOf (λ r. is_named_authorization a r ≡ true → k.authorizations r.number ≡ true) T.authorizations
  pub asked : EachOf (λ r. is_asked_authorization T a r ≡ true → k.authorizations r.number ≡ true) T.authorizations
  pub orders : EachOf (λ o. is_named_order a o ≡ true → k.orders o.number ≡ true) T.orders
  pub own : EachOf (λ o. is_own_order T a o ≡ true → k.orders o.number ≡ true) T.orders

pub keeps_named : (k : Kept) (T : Tables) (a : Ask) → KeepsRows (grown k T) T a → KeepsNamed (grown k T) T a
keeps_named k T a h = record {
  nonce = kept_number (λ (n : Nonce). n.serial) T.nonces k.nonces (carries a) h.nonces;
  key = each _ _ T.accounts (λ x f yes. f (or_left _ _ yes)) h.accounts;
  new_key = grind (arith, each);
  account = kept_number (λ (x : AccountRow). x.number) T.accounts k.accounts (names_account a)
      (each _ _ T.accounts (λ x f yes. f (or_right (has_key a x.key) _ (or_right (has_new_key a x.key) _ yes))) h.accounts);
  order = kept_number (λ (o : OrderRow). o.number) T.orders k.orders (names_order a) h.orders;
  authorization = kept_number (λ (r : AuthorizationRow). r.number) T.authorizations k.authorizations (names_authorization a)
      (each _ _ T.authorizations (λ r f yes. f (or_left _ _ yes)) h.authorizations);
  owner = grind (arith, each);
  orders = each _ _ T.accounts
      (λ x member named. each _ _ T.orders
      (λ o f asked same. f (and_from _ _ asked (member (λ y. is_named_account a y && (o.account == y.number)) (and_from _ _ named same)))) h.own)
      (each_member T.accounts);
  asked = each _ _ T.accounts
      (λ x member named. each _ _ T.authorizations
      (λ r f asks same. f (and_from _ _ asks (member (λ y. is_named_account a y && (r.account == y.number)) (and_from _ _ named same)))) h.asked)
      (each_member T.accounts);
}

-- what is touched has the rows that are named
pub keeps_rows : (k : Kept) (T : Tables) (m : ℕ) (a : Ask) → KeepsTouched k T m a → KeepsRows k T a
keeps_rows k T m a h = grind (arith, each)

-- ---- what is kept of the rows whose statuses may change

-- a challenge may be answered, which moves its authorization, too
abbrev pub target_answers : Target → List ℕ → Bool
target_answers (to.Chall k) payload = not (nothing payload)
target_answers _ payload = false

abbrev pub answers_challenge : Ask → Bool
answers_challenge (ask.Signed s) = target_answers s.target s.payload
answers_challenge _ = false

-- a row may move
abbrev pub may_restate : Ask → Bool
may_restate a = changes_statuses a || answers_challenge a

-- an authorization past its moment, and one that moves, where such may
abbrev pub is_restated_by : Bool → Tables → ℕ → Ask → AuthorizationRow → Bool
is_restated_by b T m a r = is_overdue m r || (b && is_moved_authorization T a r)

-- an order past its moment, one that lists such an authorization, and the one that is named, where what it lists is needed
abbrev pub is_opened_by : Bool → Tables → ℕ → Ask → OrderRow → Bool
is_opened_by b T m a o =
    (is_past_order m o || list_any (λ r. is_restated_by b T m a r && lists o r.number) T.authorizations) || (needs_listed a && is_named_order a o)

-- each of them is kept, with what is named, and with the accounts of the authorizations that move
pub record KeepsRestated (b : Bool) (k : Kept) (T : Tables) (m : ℕ) (a : Ask) : Type 0 where
  pub nonces : EachOf (λ x. is_touched_nonce T m a x ≡ true → k.nonces x.serial ≡ true) T.nonces
  pub accounts : EachOf (λ x. is_named_account a x ≡ true → k.accounts x.number ≡ true) T.accounts
  pub authorizations : EachOf (λ r. is_restated_by b T m a r ≡ true → k.authorizations r.number ≡ true) T.authorizations
  pub orders : EachOf (λ o. is_opened_by b T m a o ≡ true → k.orders o.number ≡ true) T.orders
  pub named : EachOf (λ o. is_named_order a o ≡ true → k.orders o.number ≡ true) T.orders
  pub holders : EachOf (λ r. is_moved_authorization T a r ≡ true → k.accounts r.account ≡ true) T.authorizations

-- an order that lists a row of a test lists one of each wider test
wider : (p q : AuthorizationRow → Bool) (o : OrderRow) (rows : List AuthorizationRow) → ((r : AuthorizationRow) → p r ≡ true → q r ≡ true) →
    list_any (λ r. p r && lists o r.number) rows ≡ true → list_any (λ r. q r && lists o r.number) rows ≡ true
wider p q o rows f h = grind (arith, any_wider)

-- and so is what may change its status
restated_first : (b : Bool) (T : Tables) (m : ℕ) (a : Ask) (r : AuthorizationRow) → is_restated_by b T m a r ≡ true → is_first_authorization T m a r ≡ true
restated_first b T m a r h = grind arith

-- the orders of these are touched
opened_touched : (b : Bool) (T : Tables) (m : ℕ) (a : Ask) (o : OrderRow) → is_opened_by b T m a o ≡ true → is_touched_order T m a o ≡ true
opened_touched b T m a o h =
    or_cases _ (needs_listed a && is_named_order a o) h
    (λ e. or_cases (is_past_order m o) _ e (λ past. or_left _ _ (or_right (is_named_order a o) _ (or_right (is_own_order T a o) _ past)))
    (λ listing. or_right _ _ (wider (is_restated_by b T m a) (is_first_authorization T m a) o T.authorizations (restated_first b T m a) listing)))
    (λ e. or_left _ _ (or_left _ _ (and_parts (needs_listed a) _ e).1))

-- so what is touched has all of it
pub keeps_restated : (b : Bool) (k : Kept) (T : Tables) (m : ℕ) (a : Ask) → KeepsTouched k T m a → KeepsRestated b k T m a
keeps_restated b k T m a h = search (rules, each, restated_first, opened_touched)

-- ---- what falls, and what an entry touches

-- an authorization that is listed and passes a test
pub listed_one : (test : AuthorizationRow → Bool) (rows : List AuthorizationRow) (o : OrderRow) → lists_one test rows (numbers_of o.listed) ≡ true →
    list_any (λ r. test r && lists o r.number) rows ≡ true
listed_one test rows o h =
    any_gives (λ n. holds test (authorization_numbered n rows)) (numbers_of o.listed) h
    (each _ _ (numbers_of o.listed) (λ n member found. at n member (authorization_numbered n rows) refl found) (each_member (numbers_of o.listed)))
  where
    at : (n : ℕ) → ((p : ℕ → Bool) → p n ≡ true → list_any p (numbers_of o.listed) ≡ true) →
        (x : Option AuthorizationRow) → authorization_numbered n rows ≡ x → holds test x ≡ true →
        list_any (λ r. test r && lists o r.number) rows ≡ true
    at n member None e k = cc
    at n member (Some r) e k =
        let same : r.number ≡ n = eqb-true r.number n (found_passes (λ y. y.number == n) rows r e) in
        each_found (λ y. (p : AuthorizationRow → Bool) → p y ≡ true → list_any p rows ≡ true) (λ y. y.number == n) rows r (each_member rows) e
        (λ y. test y && lists o y.number) (and_from _ _ k (member (λ j. j == r.number) (eq-eqb n r.number (sym same))))

-- the orders that list authorizations whose statuses may change are kept
pub keeps_listing : (b : Bool) (k : Kept) (T : Tables) (m : ℕ) (a : Ask) → KeepsRestated b k T m a → (test : AuthorizationRow → Bool) →
    ((r : AuthorizationRow) → test r ≡ true → is_restated_by b T m a r ≡ true) →
    EachOf (λ o. lists_one test T.authorizations (numbers_of o.listed) ≡ true → k.orders o.number ≡ true) T.orders
keeps_listing b k T m a h test wide =
    each _ _ T.orders
    (λ o f yes. f (or_left _ _ (or_right (is_past_order m o) _
    (wider test (is_restated_by b T m a) o T.authorizations wide (listed_one test T.authorizations o yes))))) h.orders

-- what falls by the passing of time is kept
pub keeps_falling : (b : Bool) (k : Kept) (T : Tables) (m : ℕ) (a : Ask) → KeepsRestated b k T m a → CoversSweep k T m
keeps_falling b k T m a h =
    record {
      nonces = each _ _ T.nonces (λ x f yes. f (or_right (carries a x.serial) _ yes)) h.nonces;
      authorizations = each _ _ T.authorizations (λ r f yes. f (or_left _ _ yes)) h.authorizations;
      orders = each _ _ T.orders (λ o f yes. by o f.0 f.1 yes)
          (each_both _ _ T.orders h.orders (keeps_listing b k T m a h (is_overdue m) (λ r past. or_left _ _ past)));
    }
  where
    by : (o : OrderRow) → (is_opened_by b T m a o ≡ true → k.orders o.number ≡ true) →
        (lists_one (is_overdue m) T.authorizations (numbers_of o.listed) ≡ true → k.orders o.number ≡ true) →
        falls m T.authorizations o ≡ true → k.orders o.number ≡ true
    by g e i l = grind arith

-- the entry touches what the ask names, and authorizations alone whose statuses may change by the ask
pub record IsNamedBy (T : Tables) (a : Ask) (e : Entry) : Type 0 where
  pub account : (x : AccountRow) → touches_account e x ≡ true → is_named_account a x ≡ true
  pub authorization : (r : AuthorizationRow) → touches_authorization e r ≡ true → is_moved_authorization T a r ≡ true
  pub restated : (r : AuthorizationRow) → touches_authorization e r ≡ true → may_restate a ≡ true
  pub order : (n : ℕ) → entry_names_order e n ≡ true → names_order a n ≡ true

pub keeps_entry : (k : Kept) (T : Tables) (m : ℕ) (a : Ask) (e : Entry) → KeepsRestated (may_restate a) k T m a → IsNamedBy T a e → Covers k T e
keeps_entry k T m a e h named =
    record {
      accounts = each _ _ T.accounts (λ x f yes. f (named.account x yes)) h.accounts;
      authorizations = each _ _ T.authorizations (λ r f so. f (may_change r so)) h.authorizations;
      orders = each _ _ T.orders (λ o f yes. or_cases _ _ yes (λ n. f.0 (named.order o.number n)) f.1)
          (each_both _ _ T.orders h.named (keeps_listing (may_restate a) k T m a h (touches_authorization e) may_change));
      holders = each _ _ T.authorizations (λ r f yes. f (named.authorization r yes)) h.holders;
    }
  where
    may_change : (r : AuthorizationRow) → touches_authorization e r ≡ true → is_restated_by (may_restate a) T m a r ≡ true
    may_change r so = or_right (is_overdue m r) _ (and_from _ _ (named.restated r so) (named.authorization r so))
