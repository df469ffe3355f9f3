-- The few rows that are enough for a call: they are cut from the tables by their numbers, and have all that decides.
use Rattle.std.proofs.Common.{◌≡◌, ℕ, refl, sym, ap, subst, ◌∙◌, true, false, Bool, arith}
use Rattle.std.proofs.{lemmas.Bool.and_from, lemmas.Bool.and_parts, lemmas.Bool.or_left, lemmas.Bool.or_right, Math.Bool.or-false}
use Rattle.std.specs.{Prelude.◌==◌, Prelude.◌&&◌, Prelude.◌||◌, List.list_any}
use Rattle.desk_model.specs.Touched.{is_named_account, is_named_order, is_touched_nonce, lists}
use Rattle.desk_model.specs.{Asked.asks_name, Asked.asks_orders, Derived.numbers_of, Tables.Tables, Kept.EachOf, Kept.Kept, Kept.restricted}
use Rattle.desk_model.specs.{declared.call.Ask.Ask, declared.call.OfficeAsk.OfficeAsk, declared.call.Signed.Signed, declared.objects.Nonce.Nonce}
use Rattle.desk_model.specs.{declared.rows.AccountRow.AccountRow, declared.rows.AuthorizationRow.AuthorizationRow, declared.rows.OrderRow.OrderRow}
use Rattle.model_laws.specs.Ordered.{IsOrdered}
use Rattle.model_laws.proofs.Basics.{each, each_all, each_both}
use Rattle.model_parts.specs.MinimalPart.{minimal_rows, is_needed_account, is_needed_authorization, is_needed_order, is_moved_authorization, is_opened_order}
use Rattle.model_parts.specs.MinimalPart.{IsStatedFor, is_restated_authorization, is_wanted_authorization, needs_holders, needs_listed, changes_statuses}
use Rattle.model_parts.specs.MinimalPart.{target_needs_listed}
use Rattle.model_parts.specs.{AnswersAs.IssuesAs, AnswersAs.PassesAs, AnswersAs.SettlesAs, IsPart.Keeps}
use Rattle.model_parts.proofs.Enough.{issues_as, passes_as, restricted_kept, settles_as}
use Rattle.model_parts.proofs.Grown.{KeepsNamed, KeepsRestated, KeepsRows, answers_challenge, grown, grown_closed, grown_part, kept_number, keeps_falling}
use Rattle.model_parts.proofs.Grown.{keeps_named, target_answers}
use Rattle.model_parts.proofs.Lists.{any_wider, each_filtered, each_member, filter_nothing, filter_same, same_number}
use Rattle.model_parts.proofs.WithoutAccounts.{IsOfAuthorization, settles_without_accounts, without_accounts}
use Rattle.model_parts.proofs.{Answering.passes_answer, Listed.KeepsListed, Ready.IsReady, Unlisted.passes_open, Walks.IsNoWork, Cut.at_number, Cut.numbered}
use Rattle.desk_model.specs.declared.call.Ask.TheVariants as ask

-- ---- by their numbers

-- the numbers of the rows that are needed
abbrev pub minimal_kept : Tables → ℕ → Ask → Kept
minimal_kept T m a =
    record {
      nonces = at_number (λ (x : Nonce). x.serial) (is_touched_nonce T m a) T.nonces;
      accounts = at_number (λ (x : AccountRow). x.number) (is_needed_account T a) T.accounts;
      authorizations = λ n.
          (at_number (λ (r : AuthorizationRow). r.number) (is_restated_authorization T m a) T.authorizations n
          || list_any (λ o. is_opened_order T m a o && lists o n) T.orders)
          || at_number (λ (r : AuthorizationRow). r.number) (λ r. is_moved_authorization T a r || is_wanted_authorization T a r) T.authorizations n;
      orders = at_number (λ (o : OrderRow). o.number) (is_needed_order T m a) T.orders;
    }

-- the numbers of authorizations are those of the needed ones
minimal_authorizations : (T : Tables) (m : ℕ) (a : Ask) → IsOrdered T →
    EachOf (λ r. (minimal_kept T m a).authorizations r.number ≡ is_needed_authorization T m a r) T.authorizations
minimal_authorizations T m a h =
    each _ _ T.authorizations (λ r e i. (e.0 i || list_any (λ o. is_opened_order T m a o && lists o r.number) T.orders) || e.1 i)
    (each_both _ _ T.authorizations (numbered (λ (r : AuthorizationRow). r.number) (is_restated_authorization T m a) 1 T.authorizations h.authorizations.0)
    (numbered (λ (r : AuthorizationRow). r.number) (λ r. is_moved_authorization T a r || is_wanted_authorization T a r) 1 T.authorizations
    h.authorizations.0))

-- so the few rows are the part of these numbers
pub minimal_cut : (T : Tables) (m : ℕ) (a : Ask) → IsOrdered T → minimal_rows T m a ≡ restricted (minimal_kept T m a) T
minimal_cut T m a h =
    λ i. record {
      meta = T.meta;
      nonces = filter_same _ _ T.nonces (each _ _ T.nonces (λ x e. sym e)
          (numbered (λ (x : Nonce). x.serial) (is_touched_nonce T m a) 1 T.nonces h.nonces.0)) i;
      accounts = filter_same _ _ T.accounts (each _ _ T.accounts (λ x e. sym e)
          (numbered (λ (x : AccountRow). x.number) (is_needed_account T a) 1 T.accounts h.accounts.0)) i;
      authorizations = filter_same _ _ T.authorizations (each _ _ T.authorizations (λ r e. sym e) (minimal_authorizations T m a h)) i;
      orders = filter_same _ _ T.orders
          (each _ _ T.orders (λ o e. sym e) (numbered (λ (o : OrderRow). o.number) (is_needed_order T m a) 1 T.orders h.orders.0)) i;
    }

-- which keeps them
pub minimal_hold : (T : Tables) (m : ℕ) (a : Ask) → IsOrdered T → Keeps (minimal_kept T m a) (minimal_rows T m a)
minimal_hold T m a h = subst (Keeps (minimal_kept T m a)) (sym (minimal_cut T m a h)) (restricted_kept (minimal_kept T m a) T)

-- and each order is opened
all_opened : (T : Tables) (m : ℕ) (a : Ask) (o : OrderRow) → needs_listed a ≡ true → is_needed_order T m a o ≡ true → is_opened_order T m a o ≡ true
all_opened T m a o all h = grind arith

-- so what it lists is kept
minimal_listed : (T : Tables) (m : ℕ) (a : Ask) → IsOrdered T → needs_listed a ≡ true → KeepsListed (minimal_kept T m a) T
minimal_listed T m a h all =
    each _ _ T.orders (λ o p kept.
    let opens : is_opened_order T m a o ≡ true = all_opened T m a o all (sym p.0 ∙ kept) in
    each _ _ (numbers_of o.listed) (λ n member. or_left _ _
    (or_right (at_number (λ (r : AuthorizationRow). r.number) (is_restated_authorization T m a) T.authorizations n) _
    (p.1 (λ y. is_opened_order T m a y && lists y n) (and_from _ _ opens (member (λ j. j == n) (same_number n))))))
    (each_member (numbers_of o.listed)))
    (each_both _ _ T.orders (numbered (λ (o : OrderRow). o.number) (is_needed_order T m a) 1 T.orders h.orders.0) (each_member T.orders))

-- ---- what they have

-- the accounts of the authorizations that are named
abbrev pub KeepsHolders : Kept → Tables → Ask → Type 0
KeepsHolders k T a = EachOf (λ r. is_moved_authorization T a r ≡ true → k.accounts r.account ≡ true) T.authorizations

-- the accounts that are needed
minimal_accounts : (k : Kept) (T : Tables) (m : ℕ) (a : Ask) → Keeps k (minimal_rows T m a) →
    EachOf (λ x. is_needed_account T a x ≡ true → (grown k T).accounts x.number ≡ true) T.accounts
minimal_accounts k T m a h = each _ _ T.accounts (λ x f so. or_left _ _ (f so)) (each_filtered _ (is_needed_account T a) T.accounts h.accounts)

-- the accounts of authorizations that are named or end, where these are needed
pub minimal_holders : (k : Kept) (T : Tables) (m : ℕ) (a : Ask) → needs_holders a ≡ true → Keeps k (minimal_rows T m a) → KeepsHolders (grown k T) T a
minimal_holders k T m a needed h =
    each _ _ T.authorizations
    (λ r member so. kept_number (λ (x : AccountRow). x.number) T.accounts k.accounts (λ n. r.account == n)
    (each _ _ T.accounts (λ x f same. f (or_right (is_named_account a x) _ (and_from (needs_holders a) _ needed
    (member (λ y. is_moved_authorization T a y && (y.account == x.number)) (and_from _ _ so same))))) (minimal_accounts k T m a h))
    r.account (same_number r.account)) (each_member T.authorizations)

-- with these, all whose statuses may change
pub minimal_restated : (k : Kept) (T : Tables) (m : ℕ) (a : Ask) → KeepsHolders (grown k T) T a → Keeps k (minimal_rows T m a) →
    KeepsRestated (changes_statuses a) (grown k T) T m a
minimal_restated k T m a holders h = grind (arith, each, each_filtered)

-- what is an account's by the named accounts is so by these
wider_holder : (T : Tables) (a : Ask) (n : ℕ) → list_any (λ x. is_named_account a x && (n == x.number)) T.accounts ≡ true →
    list_any (λ x. is_needed_account T a x && (n == x.number)) T.accounts ≡ true
wider_holder T a n h = grind (arith, any_wider)

-- what the ask names
minimal_named : (k : Kept) (T : Tables) (m : ℕ) (a : Ask) → Keeps k (minimal_rows T m a) → KeepsRows (grown k T) T a
minimal_named k T m a h =
    record {
      nonces = each _ _ T.nonces (λ x f so. or_left _ _ (f (or_left _ _ so))) (each_filtered _ (is_touched_nonce T m a) T.nonces h.nonces);
      accounts = each _ _ T.accounts (λ x f so. or_left _ _ (f (or_left _ _ so))) (each_filtered _ (is_needed_account T a) T.accounts h.accounts);
      authorizations = each _ _ T.authorizations (λ r f so. or_left _ _ (f (or_right _ _ (or_left _ _ (or_left _ _ so))))) authorizations;
      asked = each _ _ T.authorizations (λ r f so.
          let p = and_parts (asks_name a r.name) _ so in
          or_left _ _ (f (or_right _ _ (or_right (is_moved_authorization T a r) _ (and_from _ _ p.0 (wider_holder T a r.account p.1)))))) authorizations;
      orders = each _ _ T.orders (λ o f so. or_left _ _ (f (or_right (is_opened_order T m a o) _ (or_left _ _ so)))) orders;
      own = each _ _ T.orders (λ o f so.
          let p = and_parts (asks_orders a) _ so in
          or_left _ _ (f (or_right (is_opened_order T m a o) _ (or_right (is_named_order a o) _ (and_from _ _ p.0 (wider_holder T a o.account p.1)))))) orders;
    }
  where
    authorizations : EachOf (λ r. is_needed_authorization T m a r ≡ true → k.authorizations r.number ≡ true) T.authorizations
    authorizations = each_filtered _ (is_needed_authorization T m a) T.authorizations h.authorizations

    orders : EachOf (λ o. is_needed_order T m a o ≡ true → k.orders o.number ≡ true) T.orders
    orders = each_filtered _ (is_needed_order T m a) T.orders h.orders

-- ---- they are enough

-- with the accounts, a part that keeps the few rows is ready
ready_with : (k : Kept) (T : Tables) (m : ℕ) (a : Ask) → IsOrdered T → KeepsListed k T → answers_challenge a ≡ false → KeepsHolders (grown k T) T a →
    Keeps k (minimal_rows T m a) → IsReady (grown k T) T m a
ready_with k T m a h listed none holders holds =
    record {
      closed = grown_closed k T h listed;
      restated = subst (λ b. KeepsRestated b (grown k T) T m a) (sym (ap (λ b. changes_statuses a || b) none ∙ or-false (changes_statuses a)))
          (minimal_restated k T m a holders holds);
      named = keeps_named k T a (minimal_named k T m a holds);
    }

-- so the few rows are
minimal_ready : (T : Tables) (m : ℕ) (a : Ask) → IsOrdered T → needs_listed a ≡ true → needs_holders a ≡ true → answers_challenge a ≡ false →
    IsReady (grown (minimal_kept T m a) T) T m a
minimal_ready T m a h all needed none =
    let k : Kept = minimal_kept T m a in
    ready_with k T m a h (minimal_listed T m a h all) none (minimal_holders k T m a needed (minimal_hold T m a h)) (minimal_hold T m a h)

-- a nonce is issued by them
pub minimal_issue : (T : Tables) (m : ℕ) (a : Ask) → IsOrdered T → needs_listed a ≡ true → needs_holders a ≡ true → answers_challenge a ≡ false →
    IssuesAs m T (restricted (minimal_kept T m a) T)
minimal_issue T m a h all needed none =
    let k : Kept = minimal_kept T m a in
    subst (IssuesAs m T) (grown_part k T) (issues_as (grown k T) T m a (minimal_ready T m a h all needed none))

-- where no account is named, and none is needed: they answer with all accounts, and so without
minimal_without_accounts : (T : Tables) (m : ℕ) (a : OfficeAsk) → IsNoWork a → IsOrdered T → IsOfAuthorization a →
    ((x : AccountRow) → is_needed_account T (ask.Office a) x ≡ false) → SettlesAs m a T (restricted (minimal_kept T m (ask.Office a)) T)
minimal_without_accounts T m a none h of no_account =
    subst (SettlesAs m a T) without
    (settles_without_accounts T (restricted with_all T) m a of
    (subst (SettlesAs m a T) (grown_part with_all T)
    (settles_as (grown with_all T) T m a none
    (ready_with with_all T m (ask.Office a) h (minimal_listed T m (ask.Office a) h refl) refl (each_all _ T.authorizations (λ r so. refl)) holds))))
  where
    k : Kept
    k = minimal_kept T m (ask.Office a)

    with_all : Kept
    with_all = record k { accounts = λ n. true }

    held : Keeps k (minimal_rows T m (ask.Office a))
    held = minimal_hold T m (ask.Office a) h

    holds : Keeps with_all (minimal_rows T m (ask.Office a))
    holds =
        record {
          nonces = held.nonces;
          accounts = each_all _ (minimal_rows T m (ask.Office a)).accounts (λ x. refl);
          authorizations = held.authorizations;
          orders = held.orders;
        }

    without : without_accounts (restricted with_all T) ≡ restricted k T
    without = λ i. record (restricted k T) {
      accounts = (filter_nothing T.accounts
          ∙ sym (filter_same (λ (x : AccountRow). k.accounts x.number) (λ x. false) T.accounts
          (each _ _ T.accounts (λ x e. e ∙ no_account x)
          (numbered (λ (x : AccountRow). x.number) (is_needed_account T (ask.Office a)) 1 T.accounts h.accounts.0)))) i;
    }

-- where accounts are needed, what carries no nonce is settled by them
minimal_held : (T : Tables) (m : ℕ) (a : OfficeAsk) → IsNoWork a → IsOrdered T → needs_holders (ask.Office a) ≡ true →
    SettlesAs m a T (restricted (minimal_kept T m (ask.Office a)) T)
minimal_held T m a none h needed =
    let k : Kept = minimal_kept T m (ask.Office a) in
    subst (SettlesAs m a T) (grown_part k T) (settles_as (grown k T) T m a none (minimal_ready T m (ask.Office a) h refl needed refl))

-- so what carries no nonce is settled by them
pub minimal_settle : (T : Tables) (m : ℕ) (a : OfficeAsk) → IsNoWork a → IsOrdered T → SettlesAs m a T (restricted (minimal_kept T m (ask.Office a)) T)
minimal_settle T m a h k = grind (arith, minimal_without_accounts, minimal_held)

-- a signed request passes by them
pub minimal_pass : (T : Tables) (m : ℕ) (s : Signed) → IsOrdered T → IsStatedFor (ask.Signed s) m T →
    PassesAs m s T (restricted (minimal_kept T m (ask.Signed s)) T)
minimal_pass T m s h stated =
    subst (PassesAs m s T) (grown_part k T) (by (target_answers s.target s.payload) refl (target_needs_listed s.target) refl)
  where
    k : Kept
    k = minimal_kept T m (ask.Signed s)

    restated : KeepsRestated (changes_statuses (ask.Signed s)) (grown k T) T m (ask.Signed s)
    restated = minimal_restated k T m (ask.Signed s) (minimal_holders k T m (ask.Signed s) refl (minimal_hold T m (ask.Signed s) h))
        (minimal_hold T m (ask.Signed s) h)

    named : KeepsNamed (grown k T) T (ask.Signed s)
    named = keeps_named k T (ask.Signed s) (minimal_named k T m (ask.Signed s) (minimal_hold T m (ask.Signed s) h))

    by : (b : Bool) → target_answers s.target s.payload ≡ b → (c : Bool) → target_needs_listed s.target ≡ c → PassesAs m s T (restricted (grown k T) T)
    by true answers true all =
        passes_answer (changes_statuses (ask.Signed s)) (grown k T) T m s s.target answers stated (grown_closed k T h (minimal_listed T m (ask.Signed s) h all))
        restated named
    by false none true all = passes_as (grown k T) T m s (minimal_ready T m (ask.Signed s) h all refl none)
    by b answers false alone =
        passes_open (grown k T) T m s h alone (keeps_falling (changes_statuses (ask.Signed s)) (grown k T) T m (ask.Signed s) restated) named
