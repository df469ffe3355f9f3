-- Rows without some of what belongs to them: what they are found by, how they are swept, and what is carried out by them.
use Rattle.std.proofs.Common.{◌≡◌, ◌≤◌, ◌<◌, ◌+◌, ℕ, List, [], ◌∷◌, map, filter, Option, refl, sym, ap, subst, ◌∙◌, true, false, Bool, arith, rules}
use Rattle.std.specs.Prelude.{◌==◌, ◌&&◌, ◌||◌, if◌then◌else◌, nat_lt, option_map}
use Rattle.desk_model.specs.Effect.{effects, falls, is_live_order, is_overdue, lists_one, swept, swept_authorization, swept_order}
use Rattle.desk_model.specs.{Decide.entries_of, Decide.verdict_reply, Derived.authorization_numbered, Derived.numbers_of, Document.rows_of, Kept.EachOf}
use Rattle.desk_model.specs.{Kept.Kept, Kept.restricted, Lookup.holds, Tables.Tables, declared.rows.AuthorizationRow.AuthorizationRow}
use Rattle.desk_model.specs.{declared.rows.ChallengeRow.ChallengeRow, declared.rows.OrderRow.OrderRow, declared.verdict.Verdict.Verdict}
use Rattle.model_laws.specs.Ordered.{IsOrdered, IsTable}
use Rattle.model_laws.proofs.{Basics.each-map, Basics.each_all, Basics.find-map, Basics.list_any-same, Local.filter_all, RowLists.ascends_map}
use Rattle.model_parts.specs.AnswersAs.{CarriesOutAs}
use Rattle.model_parts.specs.Thinned.{all_challenges, all_whole, in_whole, no_challenges, thin, thinned, with_challenges, with_orders, without_challenges}
use Rattle.model_parts.proofs.Lists.{filter_nothing}

-- ---- rows in whole

pub whole_authorizations : (rows : List AuthorizationRow) → map (with_challenges all_challenges) rows ≡ rows
whole_authorizations [] = refl
whole_authorizations (r ∷ rs) =
    λ i. record r { challenges = filter_all (λ (c : ChallengeRow). true) r.challenges (each_all _ r.challenges (λ c. refl)) i } ∷ whole_authorizations rs i

-- no challenge is kept
pub bare_authorizations : (rows : List AuthorizationRow) → map (with_challenges no_challenges) rows ≡ map without_challenges rows
bare_authorizations rows = grind (arith, filter_nothing)

pub whole_orders : (rows : List OrderRow) → map (with_orders all_whole) rows ≡ rows
whole_orders [] = refl
whole_orders (o ∷ os) = ap (λ l. o ∷ l) (whole_orders os)

pub thinned_whole : (k : Kept) (T : Tables) → thinned (in_whole k) T ≡ restricted k T
thinned_whole k T = grind (arith, whole_authorizations, whole_orders)

-- ---- rows by number

table_thin : {X : Type 0} (number : X → ℕ) (f : X → X) → ((x : X) → number (f x) ≡ number x) → (last : ℕ) (xs : List X) → IsTable number last xs
    → IsTable number last (map f xs)
table_thin number f same last xs h = (
  ascends_map number number f same 1 xs h.0,
  each-map _ f xs (below xs h.1),
)
  where
    below : (ys : List _) → EachOf (λ y. number y < last + 1) ys → EachOf (λ y. number (f y) < last + 1) ys
    below [] k = tt
    below (y ∷ ys) k = (subst (λ n. n < last + 1) (sym (same y)) k.0, below ys k.1)

pub thin_ordered : (c : ℕ → ChallengeRow → Bool) (l : ℕ → Bool) (T : Tables) → IsOrdered T → IsOrdered (thin c l T)
thin_ordered c l T h = search (rules, table_thin)

-- ---- look-ups

pub found_thin : (c : ℕ → ChallengeRow → Bool) (n : ℕ) (rows : List AuthorizationRow) →
    authorization_numbered n (map (with_challenges c) rows) ≡ option_map (with_challenges c) (authorization_numbered n rows)
found_thin c n rows = find-map (λ (a : AuthorizationRow). a.number == n) (with_challenges c) rows

-- what an order lists is past its end by these rows where it is by those in whole
pub overdue_thin : (c : ℕ → ChallengeRow → Bool) (m : ℕ) (rows : List AuthorizationRow) (ns : List ℕ) →
    lists_one (is_overdue m) (map (with_challenges c) rows) ns ≡ lists_one (is_overdue m) rows ns
overdue_thin c m rows ns =
    list_any-same _ _ ns (λ n. ap (holds (is_overdue m)) (found_thin c n rows) ∙ by (authorization_numbered n rows))
  where
    by : (o : Option AuthorizationRow) → holds (is_overdue m) (option_map (with_challenges c) o) ≡ holds (is_overdue m) o
    by o = grind arith

-- what shows no challenge of the rows that an order lists shows the same
pub rows_thin : {Y : Type 0} (f : AuthorizationRow → Y) (c : ℕ → ChallengeRow → Bool) → ((r : AuthorizationRow) → f (with_challenges c r) ≡ f r) →
    (rows : List AuthorizationRow) (ns : List ℕ) → map f (rows_of (map (with_challenges c) rows) ns) ≡ map f (rows_of rows ns)
rows_thin f c same rows [] = refl
rows_thin f c same rows (n ∷ ns) = grind (arith, found_thin, (rows_thin f c same rows ns))

-- ---- the passing of time

pub swept_authorization_thin : (c : ℕ → ChallengeRow → Bool) (m : ℕ) (r : AuthorizationRow) →
    swept_authorization m (with_challenges c r) ≡ with_challenges c (swept_authorization m r)
swept_authorization_thin c m r = grind arith

swept_authorizations_thin : (c : ℕ → ChallengeRow → Bool) (m : ℕ) (rows : List AuthorizationRow) →
    map (swept_authorization m) (map (with_challenges c) rows) ≡ map (with_challenges c) (map (swept_authorization m) rows)
swept_authorizations_thin c m [] = refl
swept_authorizations_thin c m (r ∷ rs) = λ i. swept_authorization_thin c m r i ∷ swept_authorizations_thin c m rs i

-- an order that falls is whole: then it falls without the rest of these rows, too
pub falls_thin : (c : ℕ → ChallengeRow → Bool) (l : ℕ → Bool) (m : ℕ) (rows : List AuthorizationRow) (o : OrderRow) →
    (falls m rows o ≡ true → l o.number ≡ true) → falls m (map (with_challenges c) rows) (with_orders l o) ≡ falls m rows o
falls_thin c l m rows o kept = by (l o.number) kept
  where
    without : (live past one : Bool) → ((live && (past || one)) ≡ true → false ≡ true) → (live && (past || false)) ≡ (live && (past || one))
    without live past one k = grind arith

    by : (b : Bool) → (falls m rows o ≡ true → b ≡ true) →
        (is_live_order o.status
        && (nat_lt o.expires m || lists_one (is_overdue m) (map (with_challenges c) rows) (numbers_of (if b then o.listed else [])))) ≡ falls m rows o
    by true h = ap (λ b. is_live_order o.status && (nat_lt o.expires m || b)) (overdue_thin c m rows (numbers_of o.listed))
    by false h = without (is_live_order o.status) (nat_lt o.expires m) (lists_one (is_overdue m) rows (numbers_of o.listed)) h

swept_order_thin : (c : ℕ → ChallengeRow → Bool) (l : ℕ → Bool) (m : ℕ) (rows : List AuthorizationRow) (o : OrderRow) →
    (falls m rows o ≡ true → l o.number ≡ true) →
    swept_order m (map (with_challenges c) rows) (with_orders l o) ≡ with_orders l (swept_order m rows o)
swept_order_thin c l m rows o kept = grind (arith, (falls_thin c l m rows o kept))

-- each order that falls is kept whole
abbrev pub KeepsFallingWhole : (ℕ → Bool) → ℕ → Tables → Type 0
KeepsFallingWhole l m T = EachOf (λ o. falls m T.authorizations o ≡ true → l o.number ≡ true) T.orders

pub swept_thin : (c : ℕ → ChallengeRow → Bool) (l : ℕ → Bool) (m : ℕ) (P : Tables) → KeepsFallingWhole l m P → swept m (thin c l P) ≡ thin c l (swept m P)
swept_thin c l m P kept =
    λ i. record (swept m P) { authorizations = swept_authorizations_thin c m P.authorizations i; orders = orders P.orders kept i }
  where
    orders : (os : List OrderRow) → EachOf (λ o. falls m P.authorizations o ≡ true → l o.number ≡ true) os →
        map (swept_order m (map (with_challenges c) P.authorizations)) (map (with_orders l) os)
        ≡ map (with_orders l) (map (swept_order m P.authorizations) os)
    orders [] k = refl
    orders (o ∷ os) k = λ i. swept_order_thin c l m P.authorizations o k.0 i ∷ orders os k.1 i

-- all orders are kept whole
pub all_falling : (m : ℕ) (T : Tables) → KeepsFallingWhole all_whole m T
all_falling m T = each_all _ T.orders (λ o falling. refl)

-- ---- what is carried out

-- one test after the other
filter_both : {X : Type 0} (p q : X → Bool) (xs : List X) → filter q (filter p xs) ≡ filter (λ x. p x && q x) xs
filter_both p q [] = refl
filter_both p q (x ∷ xs) = grind (arith, (filter_both p q xs))

-- some of some challenges
thin_both : (c d : ℕ → ChallengeRow → Bool) (rows : List AuthorizationRow) →
    map (with_challenges d) (map (with_challenges c) rows) ≡ map (with_challenges (λ n x. c n x && d n x)) rows
thin_both c d [] = refl
thin_both c d (r ∷ rs) = λ i. record r { challenges = filter_both (c r.number) (d r.number) r.challenges i } ∷ thin_both c d rs i

-- what rows carry out as the whole, they carry out so without some of what belongs to them, where they still show the same
pub carries_thin : (T P : Tables) (m : ℕ) (v : Verdict) (c : ℕ → ChallengeRow → Bool) (l : ℕ → Bool) →
    effects m (swept m (thin c l P)) (entries_of v) ≡ thin c l (effects m (swept m P) (entries_of v)) →
    ((index : Bool) → verdict_reply index (thin c l (effects m (swept m P) (entries_of v))) v
    ≡ verdict_reply index (effects m (swept m P) (entries_of v)) v) →
    CarriesOutAs m T P v → CarriesOutAs m T (thin c l P) v
carries_thin T P m v c l after same h = record {
  kept = h.kept;
  challenges = λ n x. h.challenges n x && c n x;
  authorizations = grind (arith, thin_both);
  ends = λ n all. subst (EachOf (λ o. o.expires ≤ n)) (sym (ap (λ (E : Tables). E.orders) after))
      (each-map _ (with_orders l) (effects m (swept m P) (entries_of v)).orders (h.ends n all));
  shows = λ index. ap (λ E. verdict_reply index E v) after ∙ same index ∙ h.shows index;
}
