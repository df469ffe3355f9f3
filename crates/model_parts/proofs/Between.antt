-- A part that holds what a call touches answers as the touched rows do, and so as the whole.
use Rattle.std.proofs.Common.{◌≡◌, ◌≤◌, ℕ, ◌+◌, max, List, [], ◌∷◌, map, filter, refl, sym, ap, subst, ◌∙◌, true, Bool, arith, rules}
use Rattle.std.proofs.{lemmas.Bool.and_parts, lemmas.Bool.eqb-true, lemmas.Bool.or_left, lemmas.Bool.or_right, lemmas.Simd.map-map}
use Rattle.std.specs.{Prelude.◌==◌, Prelude.◌&&◌, List.list_any}
use Rattle.desk_model.specs.Effect.{effect, effects, falls, fresh_order, moved_order, swept, swept_order, touches_order}
use Rattle.desk_model.specs.Kept.{EachOf, HoldersKept, IsClosed, Kept, restricted}
use Rattle.desk_model.specs.declared.entry.Entry.TheVariants.{Issued as issued, Opened as opened, Ordered as ordered, Spent as spent}
use Rattle.desk_model.specs.Touched.{is_asked_authorization, is_first_authorization, is_own_authorization, is_own_order, touched_at, touched_rows}
use Rattle.desk_model.specs.Touched.{is_touched_account, is_touched_authorization, is_touched_nonce, is_touched_order, lists, only_meta}
use Rattle.desk_model.specs.{Decide.entries_of, Decide.verdict_reply, Derived.restated_order, Order.ordered_by, Tables.Tables, Entry.entry_of}
use Rattle.desk_model.specs.{Change.recorded_changes, Rules.office_verdict, Rules.signed_verdict, declared.call.Ask.Ask, declared.call.OfficeAsk.OfficeAsk}
use Rattle.desk_model.specs.{declared.call.Call.Call, declared.call.Signed.Signed, declared.entry.Entry.Entry, declared.objects.Nonce.Nonce}
use Rattle.desk_model.specs.{declared.rows.AccountRow.AccountRow, declared.rows.AuthorizationRow.AuthorizationRow, declared.rows.OrderRow.OrderRow}
use Rattle.desk_model.specs.declared.verdict.Verdict.{Verdict, TheVariants.Opens as opens, TheVariants.Orders as orders, TheVariants.Moves as moves}
use Rattle.desk_model.specs.declared.call.Ask.TheVariants as ask
use Rattle.desk_model.specs.declared.call.OfficeAsk.TheVariants as office
use Rattle.model_laws.specs.Ordered.{IsOrdered}
use Rattle.model_laws.proofs.Basics.{each, each_after, each_all, each_both, each-append, each-map, each_of_map, each_parts, one_kept}
use Rattle.model_laws.proofs.{Chain.authorizations_part, SweptParts.swept_closed, Local.filter_part, Local.swept_part}
use Rattle.model_parts.specs.AnswersAs.{AnswersAs, CarriesOutAs, IssuesAs, PassesAs, SettlesAs}
use Rattle.model_parts.specs.{IsPart.IsPartFor, IsPart.Keeps, Thinned.all_challenges}
use Rattle.model_parts.proofs.Cut.{kept_by, no_part, no_rows, numbered, same_authorizations, touched_kept, touched_listed}
use Rattle.model_parts.proofs.{Enough.answers_at, Enough.ready_by, Enough.restricted_ordered, Enough.work_as, Ready.IsAnswered, Ready.IsReady}
use Rattle.model_parts.proofs.{Thin.whole_authorizations, Listed.KeepsListed, Walks.IsNoWork, Walks.office_answered, Walks.signed_answered, Grown.grown}
use Rattle.model_parts.proofs.{Grown.grown_closed, Grown.grown_part, Lists.any_gives, Lists.each_filtered, Lists.filtered_each, Lists.or_cases}

-- ---- what a call touches in a part it touches in the whole

-- what passes in a part passes in the whole, by a wider test
any_part : {X : Type 0} (p q kept : X → Bool) (xs : List X) → ((x : X) → p x ≡ true → q x ≡ true) → list_any p (filter kept xs) ≡ true → list_any q xs ≡ true
any_part p q kept [] f h = h
any_part p q kept (x ∷ xs) f h = grind (arith, (any_part p q kept xs f))

-- an order of an account that is named
own_order_wider : (k : Kept) (T : Tables) (a : Ask) (o : OrderRow) → is_own_order (restricted k T) a o ≡ true → is_own_order T a o ≡ true
own_order_wider k T a o h = grind (arith, any_part)

-- an authorization of such an account, where it may end
own_authorization_wider : (k : Kept) (T : Tables) (a : Ask) (r : AuthorizationRow) → is_own_authorization (restricted k T) a r ≡ true
    → is_own_authorization T a r ≡ true
own_authorization_wider k T a r h = grind (arith, any_part)

-- an authorization for the names that are asked for
asked_wider : (k : Kept) (T : Tables) (a : Ask) (r : AuthorizationRow) → is_asked_authorization (restricted k T) a r ≡ true → is_asked_authorization T a r
    ≡ true
asked_wider k T a r h = grind (arith, any_part)

-- an authorization that is named, of an account that may end, or past its moment
first_wider : (k : Kept) (T : Tables) (m : ℕ) (a : Ask) (r : AuthorizationRow) → is_first_authorization (restricted k T) m a r ≡ true
    → is_first_authorization T m a r ≡ true
first_wider k T m a r h = grind (arith, own_authorization_wider)

-- of what passes in the part, and lies by a row, some passes in the whole
any_beside : {X : Type 0} (p q beside kept : X → Bool) (xs : List X) → ((x : X) → p x ≡ true → q x ≡ true)
    → list_any (λ x. p x && beside x) (filter kept xs) ≡ true → list_any (λ x. q x && beside x) xs ≡ true
any_beside p q beside kept [] f h = h
any_beside p q beside kept (x ∷ xs) f h = grind (arith, (any_beside p q beside kept xs f))

-- a touched order
order_wider : (k : Kept) (T : Tables) (m : ℕ) (a : Ask) (o : OrderRow) → is_touched_order (restricted k T) m a o ≡ true → is_touched_order T m a o ≡ true
order_wider k T m a o h =
    grind (
      arith,
      own_order_wider,
      (any_beside (is_first_authorization (restricted k T) m a) (is_first_authorization T m a) (λ r. lists o r.number)
          (λ r. k.authorizations r.number) T.authorizations (first_wider k T m a)),
    )

-- a touched authorization
authorization_wider : (k : Kept) (T : Tables) (m : ℕ) (a : Ask) (r : AuthorizationRow)
    → is_touched_authorization (restricted k T) m a r ≡ true → is_touched_authorization T m a r ≡ true
authorization_wider k T m a r h =
    grind (
      arith,
      first_wider,
      asked_wider,
      (any_beside (is_touched_order (restricted k T) m a) (is_touched_order T m a) (λ o. lists o r.number)
          (λ o. k.orders o.number) T.orders (order_wider k T m a)),
    )

-- a touched account
account_wider : (k : Kept) (T : Tables) (m : ℕ) (a : Ask) (x : AccountRow) → is_touched_account (restricted k T) m a x ≡ true
    → is_touched_account T m a x ≡ true
account_wider k T m a x h =
    grind (
      arith,
      (any_beside (is_touched_order (restricted k T) m a) (is_touched_order T m a) (λ o. o.account == x.number) (λ o. k.orders o.number) T.orders
          (order_wider k T m a)),
      (any_beside (is_touched_authorization (restricted k T) m a) (is_touched_authorization T m a) (λ r. r.account == x.number)
          (λ r. k.authorizations r.number) T.authorizations (authorization_wider k T m a)),
    )

-- so the numbers of what is touched in the whole keep what is touched in the part
keeps_wider : (k : Kept) (T : Tables) (m : ℕ) (a : Ask) → IsOrdered T → Keeps (kept_by T m a) (touched_rows (restricted k T) m a)
keeps_wider k T m a h =
    record {
      nonces = filtered_each _ (is_touched_nonce (restricted k T) m a) (restricted k T).nonces
          (filtered_each _ (λ (x : Nonce). k.nonces x.serial) T.nonces
          (each _ _ T.nonces (λ x e kept yes. e ∙ yes) (numbered (λ (x : Nonce). x.serial) (is_touched_nonce T m a) 1 T.nonces h.nonces.0)));
      accounts = filtered_each _ (is_touched_account (restricted k T) m a) (restricted k T).accounts
          (filtered_each _ (λ (x : AccountRow). k.accounts x.number) T.accounts
          (each _ _ T.accounts (λ x e kept yes. e ∙ account_wider k T m a x yes)
          (numbered (λ (x : AccountRow). x.number) (is_touched_account T m a) 1 T.accounts h.accounts.0)));
      authorizations = filtered_each _ (is_touched_authorization (restricted k T) m a) (restricted k T).authorizations
          (filtered_each _ (λ (r : AuthorizationRow). k.authorizations r.number) T.authorizations
          (each _ _ T.authorizations (λ r e kept yes. e ∙ authorization_wider k T m a r yes) (same_authorizations T m a h)));
      orders = filtered_each _ (is_touched_order (restricted k T) m a) (restricted k T).orders
          (filtered_each _ (λ (o : OrderRow). k.orders o.number) T.orders
          (each _ _ T.orders (λ o e kept yes. e ∙ order_wider k T m a o yes)
          (numbered (λ (o : OrderRow). o.number) (is_touched_order T m a) 1 T.orders h.orders.0)));
    }

-- ---- a part of a part

-- the touched rows of the whole are those numbers in the part
same_touched : (k : Kept) (T : Tables) (m : ℕ) (a : Ask) → IsOrdered T → Keeps k (touched_rows T m a)
    → restricted (kept_by T m a) (restricted k T) ≡ restricted (kept_by T m a) T
same_touched k T m a h holds =
    λ i. record {
      meta = T.meta;
      nonces = filter_part _ (λ (x : Nonce). k.nonces x.serial) T.nonces
          (each _ _ T.nonces (λ x e yes. e.1 (sym e.0 ∙ yes))
          (each_both _ _ T.nonces (numbered (λ (x : Nonce). x.serial) (is_touched_nonce T m a) 1 T.nonces h.nonces.0)
          (each_filtered _ (is_touched_nonce T m a) T.nonces holds.nonces))) i;
      accounts = filter_part _ (λ (x : AccountRow). k.accounts x.number) T.accounts
          (each _ _ T.accounts (λ x e yes. e.1 (sym e.0 ∙ yes))
          (each_both _ _ T.accounts (numbered (λ (x : AccountRow). x.number) (is_touched_account T m a) 1 T.accounts h.accounts.0)
          (each_filtered _ (is_touched_account T m a) T.accounts holds.accounts))) i;
      authorizations = filter_part _ (λ (r : AuthorizationRow). k.authorizations r.number) T.authorizations
          (each _ _ T.authorizations (λ r e yes. e.1 (sym e.0 ∙ yes))
          (each_both _ _ T.authorizations (same_authorizations T m a h)
          (each_filtered _ (is_touched_authorization T m a) T.authorizations holds.authorizations))) i;
      orders = filter_part _ (λ (o : OrderRow). k.orders o.number) T.orders
          (each _ _ T.orders (λ o e yes. e.1 (sym e.0 ∙ yes))
          (each_both _ _ T.orders (numbered (λ (o : OrderRow). o.number) (is_touched_order T m a) 1 T.orders h.orders.0)
          (each_filtered _ (is_touched_order T m a) T.orders holds.orders))) i;
    }

-- a part of a part keeps what is listed
listed_part : (k j : Kept) (T : Tables) → KeepsListed k T → KeepsListed k (restricted j T)
listed_part k j T h = filtered_each _ (λ (o : OrderRow). j.orders o.number) T.orders (each _ _ T.orders (λ o f kept. f) h)

-- ---- what stands in a part after an entry

-- tables without orders
abbrev pub bare : Tables → Tables
bare T = record T { orders = [] }

-- tables without orders stand by number where all do
pub bare_ordered : (T : Tables) → IsOrdered T → IsOrdered (bare T)
bare_ordered T h = record { nonces = h.nonces; accounts = h.accounts; authorizations = h.authorizations; orders = (tt, tt) }

-- numbers of all orders, and new ones
abbrev pub open_kept : Kept → Tables → Kept
open_kept k T = grown k (bare T)

-- a part without orders, swept, is the part of the swept tables without orders
pub swept_bare : (k : Kept) (T : Tables) (m : ℕ) → IsOrdered T → swept m (restricted k (bare T)) ≡ restricted (open_kept k T) (swept m (bare T))
swept_bare k T m h = ap (swept m) (sym (grown_part k (bare T))) ∙ swept_part (open_kept k T) (bare T) m (grown_closed k (bare T) (bare_ordered T h) tt)

-- the accounts of what the verdict's entry touches are kept
abbrev pub HoldersOf : Kept → Tables → Verdict → Type 0
HoldersOf k S (moves move) = HoldersKept k S (entry_of move)
HoldersOf k S _ = Unit {0}

-- each ask: those of what its verdict records
abbrev HoldersFor : Kept → Tables → ℕ → Ask → Type 0
HoldersFor k T m (ask.NewNonce head) = Unit {0}
HoldersFor k T m (ask.Signed s) = (r : List ℕ) → HoldersOf (open_kept k T) (swept m T) (signed_verdict (swept m T) r s)
HoldersFor k T m (ask.Office a) = HoldersOf (open_kept k T) (swept m T) (office_verdict (swept m T) a)

-- an account that the touched rows keep, or that is not there, is kept by a part that holds them
open_wider : (k : Kept) (T : Tables) (m : ℕ) (a : Ask) → Keeps k (touched_rows T m a) → (n : ℕ) →
    (grown (kept_by T m a) T).accounts n ≡ true → (open_kept k T).accounts n ≡ true
open_wider k T m a holds n h =
    or_cases ((kept_by T m a).accounts n) _ h
    (λ e. or_left _ _ (any_gives (λ (x : AccountRow). (x.number == n) && is_touched_account T m a x) T.accounts e
    (each _ _ T.accounts (λ x f both.
    let p = and_parts (x.number == n) _ both in subst (λ j. k.accounts j ≡ true) (eqb-true x.number n p.0) (f p.1))
    (each_filtered _ (is_touched_account T m a) T.accounts holds.accounts))))
    (λ e. or_right (k.accounts n) _ e)

-- where the touched rows answer, a part that holds them has the accounts
holders_of : (k : Kept) (T : Tables) (m : ℕ) (a : Ask) (v : Verdict) → Keeps k (touched_rows T m a) →
    IsAnswered (grown (kept_by T m a) T) m (swept m T) v → HoldersOf (open_kept k T) (swept m T) v
holders_of k T m a (moves move) holds h = each _ _ (swept m T).authorizations (λ r f yes. open_wider k T m a holds r.account (f yes)) h.0.holders
holders_of k T m a _ holds h = tt

-- the touched rows, with the numbers that no row has, are ready for the ask
touched_ready : (T : Tables) (m : ℕ) (a : Ask) → IsOrdered T → IsReady (grown (kept_by T m a) T) T m a
touched_ready T m a h = ready_by (kept_by T m a) T m a h (touched_listed T m a h) (touched_kept T m a h)

-- where the touched rows are kept, the accounts of a signed request are
signed_holders : (k : Kept) (T : Tables) (m : ℕ) (s : Signed) → IsOrdered T → Keeps k (touched_rows T m (ask.Signed s)) → HoldersFor k T m (ask.Signed s)
signed_holders k T m s h holds r = search (rules, holders_of, signed_answered, touched_ready)

-- and those of another ask that lists no work
office_holders : (k : Kept) (T : Tables) (m : ℕ) (a : OfficeAsk) → IsNoWork a → IsOrdered T → Keeps k (touched_rows T m (ask.Office a)) →
    HoldersFor k T m (ask.Office a)
office_holders k T m a none h holds = search (rules, holders_of, office_answered, touched_ready)

-- after an entry the part has the authorizations of the whole
entry_stands : (k : Kept) (T : Tables) (m : ℕ) (e : Entry) → IsOrdered T → HoldersKept (open_kept k T) (swept m T) e →
    (effect m (swept m (restricted k T)) e).authorizations ≡ filter (λ r. (open_kept k T).authorizations r.number) (effect m (swept m T) e).authorizations
entry_stands k T m e h holders =
    let closed : IsClosed (open_kept k T) (swept m (bare T)) = swept_closed (open_kept k T) (bare T) m (grown_closed k (bare T) (bare_ordered T h) tt) in
    ap (λ (E : Tables). (effect m E e).authorizations) (swept_bare k T m h)
    ∙ authorizations_part (open_kept k T) (swept m (bare T)) m e closed.new_authorizations holders

-- and after the entries of a verdict
authorizations_stand : (k : Kept) (T : Tables) (m : ℕ) (v : Verdict) → IsOrdered T → HoldersOf (open_kept k T) (swept m T) v →
    (effects m (swept m (restricted k T)) (entries_of v)).authorizations
    ≡ filter (λ r. (open_kept k T).authorizations r.number) (effects m (swept m T) (entries_of v)).authorizations
authorizations_stand k T m (opens key contacts) h holders = entry_stands k T m (opened key contacts) h (each_all _ (swept m T).authorizations (λ a yes. cc))
authorizations_stand k T m (orders account wanted) h holders =
    entry_stands k T m (ordered account wanted) h (each_all _ (swept m T).authorizations (λ a yes. cc))
authorizations_stand k T m (moves move) h holders = entry_stands k T m (entry_of move) h holders
authorizations_stand k T m _ h holders = ap (λ (E : Tables). E.authorizations) (swept_bare k T m h)

-- the ends of orders

-- a swept order ends when it did
swept_end : (m : ℕ) (rows : List AuthorizationRow) (o : OrderRow) → (swept_order m rows o).expires ≡ o.expires
swept_end m rows o = one_kept (λ (r : OrderRow). r.expires) (falls m rows o) _ o refl

-- and so does a moved one
moved_end : (e : Entry) (m : ℕ) (before after : List AuthorizationRow) (o : OrderRow) → (moved_order e m before after o).expires ≡ o.expires
moved_end e m before after o = one_kept (λ (r : OrderRow). r.expires) (touches_order e before o) _ o refl

-- an order ends by then
abbrev EndBy : ℕ → OrderRow → Type 0
EndBy n o = o.expires ≤ n

-- orders that a map which keeps ends leaves
ends_kept : (n : ℕ) (f g : OrderRow → OrderRow) (kept : OrderRow → Bool) (xs : List OrderRow) → ((o : OrderRow) → (f o).expires ≡ o.expires)
    → ((o : OrderRow) → (g o).expires ≡ o.expires) →
    EachOf (EndBy n) (map f xs) → EachOf (EndBy n) (map g (filter kept xs))
ends_kept n f g kept xs same other h =
    each-map (EndBy n) g (filter kept xs)
    (filtered_each _ kept xs (each _ _ xs (λ o e yes. subst (λ j. j ≤ n) (same o ∙ sym (other o)) e) (each_of_map (EndBy n) f xs h)))

-- orders that are made, whatever status they get
made_ends : (n m : ℕ) (rows others : List AuthorizationRow) (xs : List _) → EachOf (EndBy n) (map (λ o. restated_order m rows (fresh_order o)) xs) →
    EachOf (EndBy n) (map (λ o. restated_order m others (fresh_order o)) xs)
made_ends n m rows others [] h = tt
made_ends n m rows others (o ∷ os) h = (h.0, made_ends n m rows others os h.1)

-- where the orders of the whole end by then after an entry, those of the part do
entry_ends : (k : Kept) (T : Tables) (m : ℕ) (e : Entry) (n : ℕ) → EachOf (EndBy n) (effect m (swept m T) e).orders
    → EachOf (EndBy n) (effect m (swept m (restricted k T)) e).orders
entry_ends k T m e n h =
    let S : Tables = swept m T in
    let P : Tables = swept m (restricted k T) in
    let f : OrderRow → OrderRow = λ o. moved_order e m S.authorizations (effect m S e).authorizations (swept_order m T.authorizations o) in
    let g : OrderRow → OrderRow = λ o. moved_order e m P.authorizations (effect m P e).authorizations (swept_order m (restricted k T).authorizations o) in
    each-append (EndBy n) (map (moved_order e m P.authorizations (effect m P e).authorizations) P.orders) _
    (subst (EachOf (EndBy n))
    (sym (map-map (moved_order e m P.authorizations (effect m P e).authorizations) (swept_order m (restricted k T).authorizations)
    (restricted k T).orders))
    (ends_kept n f g (λ o. k.orders o.number) T.orders
    (λ o. moved_end e m S.authorizations (effect m S e).authorizations (swept_order m T.authorizations o) ∙ swept_end m T.authorizations o)
    (λ o. moved_end e m P.authorizations (effect m P e).authorizations (swept_order m (restricted k T).authorizations o)
    ∙ swept_end m (restricted k T).authorizations o)
    (subst (EachOf (EndBy n)) (map-map (moved_order e m S.authorizations (effect m S e).authorizations) (swept_order m T.authorizations) T.orders)
    (each_parts (EndBy n) (map (moved_order e m S.authorizations (effect m S e).authorizations) S.orders) _ h).0)))
    (made_ends n m (effect m S e).authorizations (effect m P e).authorizations
    (ordered_by e m S.meta.policy (S.meta.counters.authorizations + 1) (S.meta.counters.orders + 1))
    (each_after (EndBy n) (map (moved_order e m S.authorizations (effect m S e).authorizations) S.orders) _ h))

-- and after the entries of a verdict
orders_end : (k : Kept) (T : Tables) (m : ℕ) (v : Verdict) (n : ℕ) → EachOf (EndBy n) (effects m (swept m T) (entries_of v)).orders →
    EachOf (EndBy n) (effects m (swept m (restricted k T)) (entries_of v)).orders
orders_end k T m (opens key contacts) n h = entry_ends k T m (opened key contacts) n h
orders_end k T m (orders account wanted) n h = entry_ends k T m (ordered account wanted) n h
orders_end k T m (moves move) n h = entry_ends k T m (entry_of move) n h
orders_end k T m _ n h =
    ends_kept n (swept_order m T.authorizations) (swept_order m (restricted k T).authorizations)
    (λ o. k.orders o.number) T.orders (swept_end m T.authorizations) (swept_end m (restricted k T).authorizations) h

-- ---- from the touched rows to the part

-- a part that has the accounts and shows the same carries out as the whole
pub carries_by : (k : Kept) (T : Tables) (m : ℕ) (v : Verdict) → IsOrdered T → HoldersOf (open_kept k T) (swept m T) v →
    ((index : Bool) → verdict_reply index (effects m (swept m (restricted k T)) (entries_of v)) v
    ≡ verdict_reply index (effects m (swept m T) (entries_of v)) v) → CarriesOutAs m T (restricted k T) v
carries_by k T m v h holders same =
    record {
      kept = λ r. (open_kept k T).authorizations r.number;
      challenges = all_challenges;
      authorizations = authorizations_stand k T m v h holders ∙ sym (whole_authorizations _);
      ends = orders_end k T m v;
      shows = same;
    }

-- a part between the whole and rows that carry out as it does, does so
carries_between : (k : Kept) (T Q : Tables) (m : ℕ) (v : Verdict) → IsOrdered T → HoldersOf (open_kept k T) (swept m T) v → CarriesOutAs m T Q v
    → CarriesOutAs m (restricted k T) Q v → CarriesOutAs m T (restricted k T) v
carries_between k T Q m v h holders low high = carries_by k T m v h holders (λ index. sym (high.shows index) ∙ low.shows index)

-- it issues a nonce as the whole
issues_between : (k : Kept) (T Q : Tables) (m : ℕ) → IssuesAs m T Q → IssuesAs m (restricted k T) Q → IssuesAs m T (restricted k T)
issues_between k T Q m low high = record { records = λ r. sym (high.records r) ∙ low.records r }

-- it answers what carries no nonce as the whole
settles_between : (k : Kept) (T Q : Tables) (m : ℕ) (a : OfficeAsk) → IsOrdered T → HoldersFor k T m (ask.Office a) → SettlesAs m a T Q
    → SettlesAs m a (restricted k T) Q
    → SettlesAs m a T (restricted k T)
settles_between k T Q m a h holders low high = grind (arith, carries_between)

-- and a signed request
passes_between : (k : Kept) (T Q : Tables) (m : ℕ) (s : Signed) → IsOrdered T → HoldersFor k T m (ask.Signed s) → PassesAs m s T Q
    → PassesAs m s (restricted k T) Q
    → PassesAs m s T (restricted k T)
passes_between k T Q m s h holders low high =
    let judged : (r : List ℕ) → signed_verdict (swept m (restricted k T)) r s ≡ signed_verdict (swept m T) r s = λ r. sym (high.judged r) ∙ low.judged r in
    record {
      nonce = sym high.nonce ∙ low.nonce;
      issues = issues_between k T Q m low.issues high.issues;
      judged = judged;
      verdict = λ r. carries_between k T Q m (signed_verdict (swept m T) r s) h (holders r) (low.verdict r)
          (subst (CarriesOutAs m (restricted k T) Q) (judged r) (high.verdict r));
      records = λ r n fresh.
          sym (subst (λ v. recorded_changes m Q (spent n ∷ issued fresh ∷ entries_of v)
          ≡ recorded_changes m (restricted k T) (spent n ∷ issued fresh ∷ entries_of v)) (judged r) (high.records r n fresh))
          ∙ low.records r n fresh;
    }

-- so it answers each ask as the whole
answers_between : (k : Kept) (T Q : Tables) (m : ℕ) (a : Ask) → IsOrdered T → HoldersFor k T m a → AnswersAs m a T Q → AnswersAs m a (restricted k T) Q
    → AnswersAs m a T (restricted k T)
answers_between k T Q m a h l g e = grind (arith, issues_between, passes_between, settles_between)

-- ---- a part for a call

-- nothing is listed where nothing is kept
pub none_listed : (T : Tables) → KeepsListed no_rows T
none_listed T = each_all _ T.orders (λ o kept. cc)

-- it does where the touched rows answer as the whole
rows_answer : (k : Kept) (T : Tables) (m : ℕ) (a : Ask) → IsOrdered T → HoldersFor k T m a → Keeps k (touched_rows T m a) → touched_at T m a
    ≡ touched_rows T m a →
    touched_at (restricted k T) m a ≡ touched_rows (restricted k T) m a → AnswersAs m a T (restricted k T)
rows_answer k T m a h holders holds here there =
    let listed : KeepsListed (kept_by T m a) T = touched_listed T m a h in
    answers_between k T (restricted (kept_by T m a) T) m a h holders
    (answers_at (kept_by T m a) T m a h listed (subst (Keeps (kept_by T m a)) (sym here) (touched_kept T m a h)))
    (subst (AnswersAs m a (restricted k T)) (same_touched k T m a h holds)
    (answers_at (kept_by T m a) (restricted k T) m a (restricted_ordered k T h) (listed_part (kept_by T m a) k T listed)
    (subst (Keeps (kept_by T m a)) (sym there) (keeps_wider k T m a h))))

-- which they do, also for the lists of work
part_answers : (k : Kept) (T : Tables) (m : ℕ) (a : Ask) → IsOrdered T → Keeps k (touched_at T m a) → AnswersAs m a T (restricted k T)
part_answers k T m (ask.Office office.Directory) h holds =
    let none : Keeps no_rows (only_meta T) = record { nonces = tt; accounts = tt; authorizations = tt; orders = tt } in
    answers_between k T (restricted no_rows T) m (ask.Office office.Directory) h tt
    (answers_at no_rows T m (ask.Office office.Directory) h (none_listed T) none)
    (subst (SettlesAs m office.Directory (restricted k T)) (sym (no_part (restricted k T)) ∙ no_part T)
    (answers_at no_rows (restricted k T) m (ask.Office office.Directory) (restricted_ordered k T h) (none_listed (restricted k T)) none))
part_answers k T m (ask.NewNonce head) h holds = rows_answer k T m (ask.NewNonce head) h tt holds refl refl
part_answers k T m (ask.Signed s) h holds = rows_answer k T m (ask.Signed s) h (signed_holders k T m s h holds) holds refl refl
part_answers k T m (ask.Office office.ChallengeWork) h holds = work_as k T m office.ChallengeWork holds
part_answers k T m (ask.Office office.OrderWork) h holds = work_as k T m office.OrderWork holds
part_answers k T m (ask.Office a) h holds = rows_answer k T m (ask.Office a) h (office_holders k T m a tt h holds) holds refl refl

-- a part for a call answers it as the whole
pub parts_answer : (T P : Tables) (call : Call) → IsOrdered T → IsPartFor call T P → AnswersAs (max call.at T.meta.counters.clock) call.ask T P
parts_answer T P call h part = grind (arith, part_answers)
