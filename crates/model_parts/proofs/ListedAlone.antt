-- The list of an account's orders is answered from summaries of orders, but for those that fall.
use Rattle.std.proofs.Common.{◌≡◌, ℕ, List, [], ◌∷◌, ◌++◌, map, filter, refl, sym, ap, subst, ◌∙◌, true, false, Bool, cond, arith}
use Rattle.std.proofs.lemmas.Bool.{or_left, or_right}
use Rattle.std.specs.Prelude.{codes}
use Rattle.serde_json.specs.Data.{string}
use Rattle.desk_model.specs.Effect.{effects, falls, is_overdue, swept, swept_authorization}
use Rattle.desk_model.specs.Change.{all_changes, nonces_gone, recorded_changes, sweep_changes}
use Rattle.desk_model.specs.declared.entry.Entry.TheVariants.{Issued as issued, Spent as spent}
use Rattle.desk_model.specs.declared.rows.Change.TheVariants.{PutAuthorization, PutMeta, PutOrder, RemoveNonce}
use Rattle.desk_model.specs.declared.verdict.Verdict.TheVariants.{Refused as refused, KeyTaken as key_taken, Answers as answers}
use Rattle.desk_model.specs.{Decide.entries_of, Tables.Tables, Touched.is_named_order, Asked.asks_orders, Asked.target_orders, Document.is_listed}
use Rattle.desk_model.specs.{Document.order_url, Json.document, Json.list, Kept.EachOf, Kept.Kept, Kept.restricted, Rules.open_nonce, Rules.signed_verdict}
use Rattle.desk_model.specs.{Shown.ok, Shown.reply_of, declared.call.Ask.Ask, declared.call.Signed.Signed, declared.call.Target.Target}
use Rattle.desk_model.specs.{declared.rows.AuthorizationRow.AuthorizationRow, declared.rows.OrderRow.OrderRow, declared.verdict.Verdict.Verdict}
use Rattle.model_laws.specs.Ordered.{IsOrdered}
use Rattle.model_laws.proofs.Basics.{each, each_both}
use Rattle.model_parts.specs.AnswersAs.{CarriesOutAs, PassesAs}
use Rattle.model_parts.specs.MinimalPart.{is_needed_order, is_opened_order, is_whole_order, needs_holders, changes_statuses}
use Rattle.model_parts.specs.Thinned.{Thinning, all_challenges, thin, thinned, whole_if, with_orders}
use Rattle.model_lives.proofs.Judged.{OfAccount, OfRequest, request_judged}
use Rattle.model_parts.proofs.{Between.bare, Cut.at_number, Cut.numbered, Fewer.minimal_hold}
use Rattle.model_parts.proofs.{Fewer.minimal_holders, Fewer.minimal_kept, Fewer.minimal_restated, Unlisted.nonces_bare, Unlisted.falls_open}
use Rattle.model_parts.proofs.{Unlisted.issued_bare, Grown.KeepsRestated, Grown.grown, Grown.grown_part, Grown.keeps_falling, Lists.filtered_each}
use Rattle.model_parts.proofs.{Thin.KeepsFallingWhole, Thin.carries_thin, Thin.swept_thin, Thin.whole_authorizations}
use Rattle.desk_model.specs.declared.call.Ask.TheVariants as ask
use Rattle.desk_model.specs.declared.call.Target.TheVariants as to
use Rattle.desk_model.specs.declared.status.AuthzStatus.TheVariants as authz
use Rattle.desk_model.specs.declared.status.OrderStatus.TheVariants as order
use Rattle.desk_model.specs.declared.verdict.Listing.TheVariants as listing
use Rattle.desk_model.specs.declared.verdict.Shows.TheVariants as show

-- ---- what it records

-- an order that is kept whole is the order
order_whole : (l : ℕ → Bool) (o : OrderRow) → l o.number ≡ true → with_orders l o ≡ o
order_whole l o h = λ i. whole_if (h i) o

-- and so are orders
pub orders_whole : (l : ℕ → Bool) (os : List OrderRow) → EachOf (λ o. l o.number ≡ true) os → map (with_orders l) os ≡ os
orders_whole l [] h = refl
orders_whole l (o ∷ os) h = λ i. order_whole l o h.0 i ∷ orders_whole l os h.1 i

-- the same orders fall
falling_thin : (l : ℕ → Bool) (m : ℕ) (rows : List AuthorizationRow) (os : List OrderRow) → EachOf (λ o. falls m rows o ≡ true → l o.number ≡ true) os →
    filter (falls m rows) (map (with_orders l) os) ≡ filter (falls m rows) os
falling_thin l m rows [] k = refl
falling_thin l m rows (o ∷ os) k = grind (arith, (falling_thin l m rows os k.1))

module _ (l : ℕ → Bool) (m : ℕ) (P : Tables) (kept : KeepsFallingWhole l m P) where
  -- the rows, with these orders whole
  abbrev some : Tables
  some = thin all_challenges l P

  -- the passing of time changes the same
  sweep_same : sweep_changes m some ≡ sweep_changes m P
  sweep_same =
      λ i. map RemoveNonce (nonces_gone m P)
      ++ (map PutAuthorization (map (λ (r : AuthorizationRow). record r { status = authz.Expired })
      (filter (is_overdue m) (whole_authorizations P.authorizations i)))
      ++ map PutOrder (map (λ (r : OrderRow). record r { status = order.Invalid }) (fallen i)))
    where
      fallen : filter (falls m some.authorizations) some.orders ≡ filter (falls m P.authorizations) P.orders
      fallen = ap (λ rows. filter (falls m rows) some.orders) (whole_authorizations P.authorizations) ∙ falling_thin l m P.authorizations P.orders kept

  -- but for their orders the rows are the same
  bare_same : bare (swept m some) ≡ bare (swept m P)
  bare_same = ap (λ rows. record (bare (swept m P)) { authorizations = map (swept_authorization m) rows }) (whole_authorizations P.authorizations)

  -- so the nonces of a request are recorded the same
  nonces_same : (n : ℕ) (r : List ℕ) → recorded_changes m some (spent n ∷ issued r ∷ []) ≡ recorded_changes m P (spent n ∷ issued r ∷ [])
  nonces_same n r =
      λ i. sweep_same i ++ (same i ++ PutMeta (effects m (swept m P) (spent n ∷ issued r ∷ [])).meta ∷ [])
    where
      same : all_changes m (swept m some) (spent n ∷ issued r ∷ []) ≡ all_changes m (swept m P) (spent n ∷ issued r ∷ [])
      same = nonces_bare m (swept m some) n r ∙ ap (λ T. all_changes m T (spent n ∷ issued r ∷ [])) bare_same ∙ sym (nonces_bare m (swept m P) n r)

  -- and a nonce that is issued
  issued_same : (r : List ℕ) → recorded_changes m some (issued r ∷ []) ≡ recorded_changes m P (issued r ∷ [])
  issued_same r =
      λ i. sweep_same i ++ (same i ++ PutMeta (effects m (swept m P) (issued r ∷ [])).meta ∷ [])
    where
      same : all_changes m (swept m some) (issued r ∷ []) ≡ all_changes m (swept m P) (issued r ∷ [])
      same = issued_bare m (swept m some) r ∙ ap (λ T. all_changes m T (issued r ∷ [])) bare_same ∙ sym (issued_bare m (swept m P) r)

-- ---- what it shows

-- it shows no more of an order than its number
orders_document_thin : (l : ℕ → Bool) (S : Tables) (n : ℕ) →
    reply_of (thin all_challenges l S) (show.List (listing.Orders n)) ≡ reply_of S (show.List (listing.Orders n))
orders_document_thin l S n = ap (λ urls. ok 200 (document ((codes "orders", list urls) ∷ []))) (urls S.orders)
  where
    urls : (os : List OrderRow) → map (λ (o : OrderRow). string (order_url S.meta.policy o.number)) (filter (is_listed n) (map (with_orders l) os))
        ≡ map (λ (o : OrderRow). string (order_url S.meta.policy o.number)) (filter (is_listed n) os)
    urls [] = refl
    urls (o ∷ os) = by (is_listed n o) (urls os)
      where
        by : (b : Bool) → map (λ (o : OrderRow). string (order_url S.meta.policy o.number)) (filter (is_listed n) (map (with_orders l) os))
            ≡ map (λ (o : OrderRow). string (order_url S.meta.policy o.number)) (filter (is_listed n) os) →
            map (λ (o : OrderRow). string (order_url S.meta.policy o.number))
            (cond b (with_orders l o ∷ filter (is_listed n) (map (with_orders l) os)) (filter (is_listed n) (map (with_orders l) os)))
            ≡ map (λ (o : OrderRow). string (order_url S.meta.policy o.number)) (cond b (o ∷ filter (is_listed n) os) (filter (is_listed n) os))
        by true ih = ap (λ us. string (order_url S.meta.policy o.number) ∷ us) ih
        by false ih = ih

-- ---- its verdict

-- it is refused, or shows the list
abbrev IsList : Verdict → Type 0
IsList (refused why ss) = Unit {0}
IsList (key_taken account) = Unit {0}
IsList (answers (show.List (listing.Orders n))) = Unit {0}
IsList _ = ⊥

-- by each way of an account
account_way : (S : Tables) (r : List ℕ) (n : ℕ) (p : List ℕ) (j : ℕ) (v : Verdict) → OfAccount S r n p (to.Orders j) v → IsList v
account_way S r n p j v (OfAccount.turned_away t why ss) = tt
account_way S r n p j v (OfAccount.orders_listed k) = tt

-- by each way of a signed request
request_way : (S : Tables) (r : List ℕ) (s : Signed) (j : ℕ) (v : Verdict) → OfRequest S r s (to.Orders j) v → IsList v
request_way S r s j v (OfRequest.unheld t why) = tt
request_way S r s j v (OfRequest.held t w key x is found valid way) = account_way S r x.number s.payload j v way

-- so the verdict on the request is one of these
lists : (S : Tables) (r : List ℕ) (s : Signed) (j : ℕ) → IsList (signed_verdict S r (record s { target = to.Orders j }))
lists S r s j = request_way S r _ j _ (request_judged S r (record s { target = to.Orders j }))

-- ---- the request

-- such a verdict is carried out the same by the summaries
carried_list : (T P : Tables) (m : ℕ) (l : ℕ → Bool) (v : Verdict) → KeepsFallingWhole l m P → IsList v → CarriesOutAs m T P v →
    CarriesOutAs m T (thin all_challenges l P) v
carried_list T P m l v h k g = grind (arith, carries_thin, swept_thin, orders_document_thin)

-- and records the same
list_records : (l : ℕ → Bool) (m : ℕ) (P : Tables) (v : Verdict) → KeepsFallingWhole l m P → IsList v → (n : ℕ) (fresh : List ℕ) →
    recorded_changes m (thin all_challenges l P) (spent n ∷ issued fresh ∷ entries_of v) ≡ recorded_changes m P (spent n ∷ issued fresh ∷ entries_of v)
list_records l m P (refused why ss) kept is n fresh = nonces_same l m P kept n fresh
list_records l m P (key_taken account) kept is n fresh = nonces_same l m P kept n fresh
list_records l m P (answers (show.List (listing.Orders j))) kept is n fresh = nonces_same l m P kept n fresh
list_records l m P _ kept is n fresh = absurd is

-- rows that answer it answer it so
pub passes_alone : (T P : Tables) (m : ℕ) (s : Signed) (j : ℕ) (l : ℕ → Bool) → KeepsFallingWhole l m P → PassesAs m (record s { target = to.Orders j }) T P →
    PassesAs m (record s { target = to.Orders j }) T (thin all_challenges l P)
passes_alone T P m s j l kept h = record {
  nonce = ap (λ S. open_nonce S s.nonce) (swept_thin all_challenges l m P kept) ∙ h.nonce;
  issues = record { records = λ r. issued_same l m P kept r ∙ h.issues.records r };
  judged = grind arith;
  verdict = grind (arith, carried_list, lists);
  records = λ r n fresh. list_records l m P (signed_verdict (swept m T) r (record s { target = to.Orders j })) kept (lists (swept m T) r s j) n fresh
      ∙ h.records r n fresh;
}

-- ---- what is needed of the few rows

-- the orders that are needed whole, by number
abbrev pub needed_in_whole : Tables → ℕ → Ask → ℕ → Bool
needed_in_whole T m a = at_number (λ (o : OrderRow). o.number) (is_whole_order T m a) T.orders

-- the rows, of which orders alone are summaries
abbrev pub with_summaries : Tables → ℕ → Ask → Thinning
with_summaries T m a = record { rows = minimal_kept T m a; challenges = all_challenges; whole = needed_in_whole T m a }

-- of the orders that are there these are the ones needed whole
pub needed_same : (T : Tables) (m : ℕ) (a : Ask) → IsOrdered T → EachOf (λ o. needed_in_whole T m a o.number ≡ is_whole_order T m a o) T.orders
needed_same T m a h = numbered (λ (o : OrderRow). o.number) (is_whole_order T m a) 1 T.orders h.orders.0

-- where no list of orders is asked for, each order is needed in whole
pub all_needed : (T : Tables) (m : ℕ) (a : Ask) → IsOrdered T → asks_orders a ≡ false → thinned (with_summaries T m a) T ≡ restricted (minimal_kept T m a) T
all_needed T m a h none =
    λ i. record (restricted (minimal_kept T m a) T) {
      authorizations = whole_authorizations (restricted (minimal_kept T m a) T).authorizations i;
      orders = orders_whole (needed_in_whole T m a) (restricted (minimal_kept T m a) T).orders
          (filtered_each _ (λ (o : OrderRow). (minimal_kept T m a).orders o.number) T.orders
          (each _ _ T.orders (λ o e kept. e.0 ∙ whole o (sym e.1 ∙ kept))
          (each_both _ _ T.orders (needed_same T m a h) (numbered (λ (o : OrderRow). o.number) (is_needed_order T m a) 1 T.orders h.orders.0)))) i;
    }
  where
    whole : (o : OrderRow) → is_needed_order T m a o ≡ true → is_whole_order T m a o ≡ true
    whole k l = grind arith

-- what falls is needed whole
pub falling_needed : (T : Tables) (m : ℕ) (a : Ask) → IsOrdered T → needs_holders a ≡ true →
    KeepsFallingWhole (needed_in_whole T m a) m (restricted (minimal_kept T m a) T)
falling_needed T m a h holders =
    subst (KeepsFallingWhole (needed_in_whole T m a) m) (grown_part (minimal_kept T m a) T)
    (filtered_each _ (λ (o : OrderRow). k.orders o.number) T.orders
    (each _ _ T.orders (λ o f kept so. f (sym (falls_open k T m (keeps_falling (changes_statuses a) k T m a few) o) ∙ so))
    (keeps_falling (changes_statuses a) opens T m a restated).orders))
  where
    k : Kept
    k = grown (minimal_kept T m a) T

    few : KeepsRestated (changes_statuses a) k T m a
    few = minimal_restated (minimal_kept T m a) T m a (minimal_holders (minimal_kept T m a) T m a holders (minimal_hold T m a h)) (minimal_hold T m a h)

    opens : Kept
    opens = record k { orders = needed_in_whole T m a }

    restated : KeepsRestated (changes_statuses a) opens T m a
    restated =
        record {
          nonces = few.nonces;
          accounts = few.accounts;
          authorizations = few.authorizations;
          orders = each _ _ T.orders (λ o e so. e ∙ or_left (is_opened_order T m a o) (is_named_order a o) so) (needed_same T m a h);
          named = each _ _ T.orders (λ o e so. e ∙ or_right (is_opened_order T m a o) (is_named_order a o) so) (needed_same T m a h);
          holders = few.holders;
        }

-- a signed request is answered so
pub needed_pass : (T : Tables) (m : ℕ) (s : Signed) → IsOrdered T → PassesAs m s T (restricted (minimal_kept T m (ask.Signed s)) T) →
    PassesAs m s T (thinned (with_summaries T m (ask.Signed s)) T)
needed_pass T m s h passes = by s.target (falling_needed T m (ask.Signed s) h refl) passes (all_needed T m (ask.Signed s) h)
  where
    P : Tables
    P = restricted (minimal_kept T m (ask.Signed s)) T

    l : ℕ → Bool
    l = needed_in_whole T m (ask.Signed s)

    by : (t : Target) → KeepsFallingWhole l m P → PassesAs m (record s { target = t }) T P → (target_orders t ≡ false → thin all_challenges l P ≡ P) →
        PassesAs m (record s { target = t }) T (thin all_challenges l P)
    by (to.Orders j) kept answered all = passes_alone T P m s j l kept answered
    by t kept answered all = subst (PassesAs m (record s { target = t }) T) (sym (all refl)) answered
