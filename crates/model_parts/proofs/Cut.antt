-- The rows that a call touches are a part of the tables, cut by numbers.
use Rattle.std.proofs.Common.{◌≡◌, ◌≤◌, ◌<◌, ℕ, ◌+◌, max, List, [], ◌∷◌, refl, sym, ap, subst, ◌∙◌, true, false, Bool, arith}
use Rattle.std.proofs.lemmas.Bool.{and_from, or_left, or_right}
use Rattle.std.specs.{Prelude.◌==◌, Prelude.◌&&◌, Prelude.◌||◌, List.list_any}
use Rattle.desk_model.specs.Kept.{EachOf, Kept, restricted}
use Rattle.desk_model.specs.Touched.{is_asked_authorization, is_first_authorization, is_touched_account, is_touched_authorization, is_touched_nonce}
use Rattle.desk_model.specs.Touched.{is_touched_order, lists, only_meta, touched, touched_at, touched_rows}
use Rattle.desk_model.specs.{Derived.numbers_of, Tables.Tables, declared.call.Ask.Ask, declared.call.Call.Call, declared.objects.Nonce.Nonce}
use Rattle.desk_model.specs.{declared.rows.AccountRow.AccountRow, declared.rows.AuthorizationRow.AuthorizationRow, declared.rows.OrderRow.OrderRow}
use Rattle.desk_model.specs.declared.call.Ask.TheVariants as ask
use Rattle.desk_model.specs.declared.call.OfficeAsk.TheVariants as office
use Rattle.model_laws.specs.Ordered.{Ascends, IsOrdered}
use Rattle.model_laws.proofs.Basics.{each, each_both, more_differs}
use Rattle.model_parts.specs.IsPart.{IsPartFor, Keeps}
use Rattle.model_parts.proofs.{Listed.KeepsListed, Enough.restricted_kept, Enough.whole_part}
use Rattle.model_parts.proofs.Lists.{each_member, filter_nothing, filter_same, same_number}

-- ---- a test on rows, and on their numbers

-- some row of the number passes
abbrev pub at_number : {X : Type 0} → (X → ℕ) → (X → Bool) → List X → ℕ → Bool
at_number number test xs n = list_any (λ y. (number y == n) && test y) xs

-- no row above has the number
none_above : {X : Type 0} (number : X → ℕ) (test : X → Bool) (n j : ℕ) (xs : List X) → n < j → Ascends number j xs → at_number number test xs n ≡ false
none_above number test n j [] lt h = refl
none_above number test n j (x ∷ xs) lt h =
    let up : j ≤ number x = h.0 in
    ap (λ b. (b && test x) || at_number number test xs n) (more_differs (number x) n (omega arith))
    ∙ none_above number test n (number x + 1) xs (omega arith) h.1

-- each row has its number alone
numbered_from : {X : Type 0} (number : X → ℕ) (test : X → Bool) (n : ℕ) (xs : List X) → Ascends number n xs →
    EachOf (λ x. (at_number number test xs (number x) ≡ test x) × (n ≤ number x)) xs
numbered_from number test n [] h = tt
numbered_from number test n (x ∷ xs) h = grind (arith, none_above, each, (numbered_from number test (number x + 1) xs h.1))

-- where numbers ascend, the one row of the number does
pub numbered : {X : Type 0} (number : X → ℕ) (test : X → Bool) (n : ℕ) (xs : List X) → Ascends number n xs →
    EachOf (λ x. at_number number test xs (number x) ≡ test x) xs
numbered number test n xs h = each _ _ xs (λ x p. p.0) (numbered_from number test n xs h)

-- ---- the numbers of the rows that are touched

-- those of the rows that a call touches
abbrev pub kept_by : Tables → ℕ → Ask → Kept
kept_by T m a =
    record {
      nonces = at_number (λ (x : Nonce). x.serial) (is_touched_nonce T m a) T.nonces;
      accounts = at_number (λ (x : AccountRow). x.number) (is_touched_account T m a) T.accounts;
      authorizations = λ n.
          at_number (λ (r : AuthorizationRow). r.number) (is_first_authorization T m a) T.authorizations n
          || (list_any (λ o. is_touched_order T m a o && lists o n) T.orders
          || at_number (λ (r : AuthorizationRow). r.number) (is_asked_authorization T a) T.authorizations n);
      orders = at_number (λ (o : OrderRow). o.number) (is_touched_order T m a) T.orders;
    }

-- the numbers of authorizations are those of the touched ones
pub same_authorizations : (T : Tables) (m : ℕ) (a : Ask) → IsOrdered T →
    EachOf (λ r. (kept_by T m a).authorizations r.number ≡ is_touched_authorization T m a r) T.authorizations
same_authorizations T m a h =
    each _ _ T.authorizations (λ r e i. e.0 i || (list_any (λ o. is_touched_order T m a o && lists o r.number) T.orders || e.1 i))
    (each_both _ _ T.authorizations (numbered (λ (r : AuthorizationRow). r.number) (is_first_authorization T m a) 1 T.authorizations h.authorizations.0)
    (numbered (λ (r : AuthorizationRow). r.number) (is_asked_authorization T a) 1 T.authorizations h.authorizations.0))

-- so the touched rows are the part of these numbers
pub touched_cut : (T : Tables) (m : ℕ) (a : Ask) → IsOrdered T → touched_rows T m a ≡ restricted (kept_by T m a) T
touched_cut T m a h =
    λ i. record {
      meta = T.meta;
      nonces = filter_same _ _ T.nonces (each _ _ T.nonces (λ x e. sym e)
          (numbered (λ (x : Nonce). x.serial) (is_touched_nonce T m a) 1 T.nonces h.nonces.0)) i;
      accounts =
          filter_same _ _ T.accounts (each _ _ T.accounts (λ x e. sym e)
          (numbered (λ (x : AccountRow). x.number) (is_touched_account T m a) 1 T.accounts h.accounts.0)) i;
      authorizations = filter_same _ _ T.authorizations (each _ _ T.authorizations (λ r e. sym e) (same_authorizations T m a h)) i;
      orders = filter_same _ _ T.orders (each _ _ T.orders (λ o e. sym e)
          (numbered (λ (o : OrderRow). o.number) (is_touched_order T m a) 1 T.orders h.orders.0)) i;
    }

-- which keeps what is listed
pub touched_listed : (T : Tables) (m : ℕ) (a : Ask) → IsOrdered T → KeepsListed (kept_by T m a) T
touched_listed T m a h =
    each _ _ T.orders (λ o p kept.
    let touched_too : is_touched_order T m a o ≡ true = sym p.0 ∙ kept in
    each _ _ (numbers_of o.listed) (λ n member. or_right (at_number (λ (r : AuthorizationRow). r.number) (is_first_authorization T m a) T.authorizations n) _
    (or_left _ _ (p.1 (λ y. is_touched_order T m a y && lists y n) (and_from _ _ touched_too (member (λ j. j == n) (same_number n))))))
    (each_member (numbers_of o.listed)))
    (each_both _ _ T.orders (numbered (λ (o : OrderRow). o.number) (is_touched_order T m a) 1 T.orders h.orders.0) (each_member T.orders))

-- and keeps the touched rows
pub touched_kept : (T : Tables) (m : ℕ) (a : Ask) → IsOrdered T → Keeps (kept_by T m a) (touched_rows T m a)
touched_kept T m a h = subst (Keeps (kept_by T m a)) (sym (touched_cut T m a h)) (restricted_kept (kept_by T m a) T)

-- nothing is kept
abbrev pub no_rows : Kept
no_rows = record { nonces = λ n. false; accounts = λ n. false; authorizations = λ n. false; orders = λ n. false }

-- the desk's own row alone is the part of no numbers
pub no_part : (T : Tables) → only_meta T ≡ restricted no_rows T
no_part T =
    λ i. record {
      meta = T.meta;
      nonces = filter_nothing T.nonces i;
      accounts = filter_nothing T.accounts i;
      authorizations = filter_nothing T.authorizations i;
      orders = filter_nothing T.orders i;
    }

-- so the touched rows are a part for the call
pub touched_part : (T : Tables) (call : Call) → IsOrdered T → IsPartFor call T (touched T call)
touched_part T call h = by call.ask refl
  where
    rows : (a : Ask) → touched_at T (max call.at T.meta.counters.clock) a ≡ touched_rows T (max call.at T.meta.counters.clock) a
        → call.ask ≡ a → IsPartFor call T (touched T call)
    rows l g k = grind (arith, touched_cut, touched_kept)

    by : (a : Ask) → call.ask ≡ a → IsPartFor call T (touched T call)
    by (ask.Office office.Directory) is =
        let same : touched T call ≡ only_meta T = ap (touched_at T (max call.at T.meta.counters.clock)) is in
        record {
          kept = no_rows;
          cut = same ∙ no_part T;
          holds = subst (Keeps no_rows) (sym same) (record { nonces = tt; accounts = tt; authorizations = tt; orders = tt });
        }
    by (ask.Office office.ChallengeWork) is = subst (IsPartFor call T) (sym (ap (touched_at T (max call.at T.meta.counters.clock)) is)) (whole_part T call)
    by (ask.Office office.OrderWork) is = subst (IsPartFor call T) (sym (ap (touched_at T (max call.at T.meta.counters.clock)) is)) (whole_part T call)
    by a is = rows a refl is
