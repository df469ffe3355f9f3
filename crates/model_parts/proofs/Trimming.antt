-- Authorizations without challenges, but for those that entries touch: entries do to them, and change, what they do to those in whole.
use Rattle.std.proofs.Common.{◌≡◌, ◌+◌, ◌<◌, ℕ, List, [], ◌∷◌, ◌++◌, length, map, filter, find, Option, refl, sym, ap, ◌∙◌, true, false, Bool, arith, cond}
use Rattle.std.proofs.lemmas.List.{map-append}
use Rattle.std.specs.Prelude.{◌&&◌, ◌||◌, nat_lt, option_map}
use Rattle.desk_model.specs.Change.{accounts_put, all_changes, authorization_differs, authorizations_put, changes, moved_rows, nonces_gone, nonces_put}
use Rattle.desk_model.specs.Change.{order_differs, orders_put, recorded_changes, spent_by, sweep_changes}
use Rattle.desk_model.specs.Derived.{authorization_numbered, numbers_of, restated_authorization, restated_order, stored_statuses}
use Rattle.desk_model.specs.Effect.{authorizations_after, effect, effects, falls, fresh_authorization, fresh_order, is_live_order, is_overdue}
use Rattle.desk_model.specs.Effect.{moved_authorization, moved_order, names_order, new_authorizations, noted_authorization, noted_order, swept}
use Rattle.desk_model.specs.Effect.{touches_authorization, touches_order}
use Rattle.desk_model.specs.declared.rows.Change.TheVariants.{PutAccount, PutAuthorization, PutMeta, PutNonce, PutOrder, RemoveNonce}
use Rattle.desk_model.specs.{Kept.EachOf, Lookup.holds, Order.ordered_by, Tables.Tables, declared.entry.Entry.Entry, declared.rows.AccountRow.AccountRow}
use Rattle.desk_model.specs.{declared.rows.AuthorizationRow.AuthorizationRow, declared.rows.ChallengeRow.ChallengeRow, declared.rows.OrderRow.OrderRow}
use Rattle.desk_model.specs.declared.status.AuthzStatus.TheVariants as authz
use Rattle.desk_model.specs.declared.status.OrderStatus.TheVariants as order
use Rattle.model_laws.proofs.Basics.{each, each_all, list_any-same}
use Rattle.model_laws.proofs.{Chain.up_kept, Finds.each_found, OrderFacts.restated_alike, Recorded.made_up, Local.filter_all}
use Rattle.model_parts.specs.Thinned.{all_whole, thin, with_challenges, without_challenges}
use Rattle.model_parts.proofs.{Lists.filter_nothing, Thin.all_falling, Thin.found_thin, Thin.overdue_thin, Thin.swept_thin, Thin.whole_orders}

-- the authorizations of these numbers have their challenges, others none
abbrev pub those : (ℕ → Bool) → ℕ → ChallengeRow → Bool
those w n c = w n

-- tables with these challenges alone
abbrev pub trimmed : (ℕ → Bool) → Tables → Tables
trimmed w T = thin (those w) all_whole T

-- each row that passes a test is in whole
abbrev pub AreWhole : (ℕ → Bool) → (AuthorizationRow → Bool) → List AuthorizationRow → Type 0
AreWhole w test rows = EachOf (λ r. test r ≡ true → w r.number ≡ true) rows

-- and so is each new one
abbrev pub NewWhole : (ℕ → Bool) → Tables → Type 0
NewWhole w T = (n : ℕ) → T.meta.counters.authorizations < n → w n ≡ true

-- what these entries touch, one after the other
abbrev pub AllWhole : (ℕ → Bool) → ℕ → Tables → List Entry → Type 0
AllWhole w m T [] = Unit {0}
AllWhole w m T (e ∷ es) = AreWhole w (touches_authorization e) T.authorizations × AllWhole w m (effect m T e) es

-- ---- lists

-- items that change, but for those that pass a test, leave what passes
pub filter_changed : {X : Type 0} (p : X → Bool) (f : X → X) (xs : List X) → EachOf (λ x. (p (f x) ≡ p x) × (p x ≡ true → f x ≡ x)) xs →
    filter p (map f xs) ≡ filter p xs
filter_changed p f [] h = refl
filter_changed p f (x ∷ xs) h = grind (arith, (filter_changed p f xs h.1))

-- and what is found
pub find_changed : {X : Type 0} (p : X → Bool) (f : X → X) (xs : List X) → EachOf (λ x. (p (f x) ≡ p x) × (p x ≡ true → f x ≡ x)) xs →
    find p (map f xs) ≡ find p xs
find_changed p f [] h = refl
find_changed p f (x ∷ xs) h = grind (arith, (find_changed p f xs h.1))

-- ---- one row

-- a row of one of these numbers
pub row_whole : (w : ℕ → Bool) (r : AuthorizationRow) → w r.number ≡ true → with_challenges (those w) r ≡ r
row_whole w r h = grind (arith, filter_all, each_all)

-- a row of none
row_bare : (w : ℕ → Bool) (r : AuthorizationRow) → w r.number ≡ false → with_challenges (those w) r ≡ without_challenges r
row_bare w r h = λ i. record r { challenges = (ap (λ b. filter (λ (c : ChallengeRow). b) r.challenges) h ∙ sym (filter_nothing r.challenges)) i }

-- rows of these numbers
pub rows_whole : (w : ℕ → Bool) (rows : List AuthorizationRow) → EachOf (λ r. w r.number ≡ true) rows → map (with_challenges (those w)) rows ≡ rows
rows_whole w [] h = refl
rows_whole w (r ∷ rs) h = λ i. row_whole w r h.0 i ∷ rows_whole w rs h.1 i

-- so an entry touches it as the whole row, where what it touches is in whole
pub touches_trimmed : (w : ℕ → Bool) (e : Entry) (r : AuthorizationRow) → (touches_authorization e r ≡ true → w r.number ≡ true) →
    touches_authorization e (with_challenges (those w) r) ≡ touches_authorization e r
touches_trimmed w e r h = grind (arith, row_whole, row_bare)

-- and moves it so
moved_trimmed : (w : ℕ → Bool) (e : Entry) (m : ℕ) (accounts : List AccountRow) (r : AuthorizationRow) → (touches_authorization e r ≡ true → w r.number
    ≡ true) →
    moved_authorization e m accounts (with_challenges (those w) r) ≡ with_challenges (those w) (moved_authorization e m accounts r)
moved_trimmed w e m accounts r h = grind (arith, row_whole, touches_trimmed)

-- ---- what decides an order

-- the statuses of what it lists
statuses_trimmed : (w : ℕ → Bool) (rows : List AuthorizationRow) (ns : List ℕ) →
    stored_statuses (map (with_challenges (those w)) rows) ns ≡ stored_statuses rows ns
statuses_trimmed w rows ns = grind (arith, found_thin)

-- so its own
restated_trimmed : (w : ℕ → Bool) (m : ℕ) (rows : List AuthorizationRow) (o : OrderRow) →
    restated_order m (map (with_challenges (those w)) rows) o ≡ restated_order m rows o
restated_trimmed w m rows o = restated_alike m _ rows o (statuses_trimmed w rows (numbers_of o.listed))

-- and whether an entry touches it
touched_trimmed : (w : ℕ → Bool) (e : Entry) (rows : List AuthorizationRow) → AreWhole w (touches_authorization e) rows → (o : OrderRow) →
    touches_order e (map (with_challenges (those w)) rows) o ≡ touches_order e rows o
touched_trimmed w e rows h o =
    ap (λ b. names_order e o.number || b)
    (list_any-same _ _ (numbers_of o.listed) (λ n.
    ap (holds (touches_authorization e)) (found_thin (those w) n rows) ∙ by n (authorization_numbered n rows) refl))
  where
    by : (n : ℕ) (x : Option AuthorizationRow) → authorization_numbered n rows ≡ x →
        holds (touches_authorization e) (option_map (with_challenges (those w)) x) ≡ holds (touches_authorization e) x
    by k x l = grind (arith, touches_trimmed, each_found)

-- ---- an entry

module _ (w : ℕ → Bool) (m : ℕ) (S : Tables) (e : Entry) (new : NewWhole w S) (h : AreWhole w (touches_authorization e) S.authorizations) where
  after_trimmed : authorizations_after (trimmed w S) e m ≡ map (with_challenges (those w)) (authorizations_after S e m)
  after_trimmed =
      (λ i. moved S.authorizations h i ++ sym (rows_whole w made whole) i)
      ∙ sym (map-append (with_challenges (those w)) (map (moved_authorization e m S.accounts) S.authorizations) made)
    where
      made : List AuthorizationRow
      made = map (λ a. restated_authorization m (fresh_authorization a)) (new_authorizations S e m)

      whole : EachOf (λ r. w r.number ≡ true) made
      whole = up_kept (λ (r : AuthorizationRow). r.number) w S.meta.counters.authorizations new (S.meta.counters.authorizations + 1) (omega arith) made
          (made_up e m S.meta.policy.authz_life (S.meta.counters.authorizations + 1) (S.meta.counters.challenges + 1))

      moved : (rows : List AuthorizationRow) → AreWhole w (touches_authorization e) rows →
          map (moved_authorization e m S.accounts) (map (with_challenges (those w)) rows)
          ≡ map (with_challenges (those w)) (map (moved_authorization e m S.accounts) rows)
      moved [] k = refl
      moved (r ∷ rs) k = λ i. moved_trimmed w e m S.accounts r k.0 i ∷ moved rs k.1 i

  restated_after : (o : OrderRow) → restated_order m (authorizations_after (trimmed w S) e m) o ≡ restated_order m (authorizations_after S e m) o
  restated_after o = ap (λ rows. restated_order m rows o) after_trimmed ∙ restated_trimmed w m (authorizations_after S e m) o

  moved_after : (o : OrderRow) → moved_order e m (trimmed w S).authorizations (authorizations_after (trimmed w S) e m) o
      ≡ moved_order e m S.authorizations (authorizations_after S e m) o
  moved_after o = λ i. cond (touched_trimmed w e S.authorizations h o i) (restated_after (noted_order e m o) i) o

  pub effect_trimmed : effect m (trimmed w S) e ≡ trimmed w (effect m S e)
  effect_trimmed =
      λ i. record (effect m S e) {
        authorizations = after_trimmed i;
        orders = ((λ j. map (λ o. moved_after o j) (whole_orders S.orders j)
            ++ map (λ o. restated_after (fresh_order o) j)
            (ordered_by e m S.meta.policy (S.meta.counters.authorizations + 1) (S.meta.counters.orders + 1)))
            ∙ sym (whole_orders (effect m S e).orders)) i;
      }

  -- it puts the same rows
  pub changes_trimmed : changes m (trimmed w S) e ≡ changes m S e
  changes_trimmed =
      λ i. map RemoveNonce (spent_by e)
      ++ (map PutNonce (nonces_put S e m)
      ++ (map PutAccount (accounts_put S e m)
      ++ (map PutAuthorization (authorizations i)
      ++ map PutOrder (orders i))))
    where
      move : AuthorizationRow → AuthorizationRow
      move r = restated_authorization m (noted_authorization e m S.accounts r)

      moves : AuthorizationRow → Bool
      moves r = touches_authorization e r && authorization_differs r (move r)

      same : (r : AuthorizationRow) → (touches_authorization e r ≡ true → w r.number ≡ true) → (b : Bool) → touches_authorization e r ≡ b →
          (moves (with_challenges (those w) r) ≡ moves r) × (moves r ≡ true → with_challenges (those w) r ≡ r)
      same r k true so = (ap moves (row_whole w r (k so)), λ yes. row_whole w r (k so))
      same r k false so = (
        ap (λ b. b && authorization_differs (with_challenges (those w) r) (move (with_challenges (those w) r))) (touches_trimmed w e r k ∙ so)
            ∙ sym (ap (λ b. b && authorization_differs r (move r)) so),
        λ yes. absurd (let no : false ≡ true = sym (ap (λ b. b && authorization_differs r (move r)) so) ∙ yes in cc),
      )

      authorizations : authorizations_put (trimmed w S) e m ≡ authorizations_put S e m
      authorizations =
          ap (λ rows. map move rows ++ map (λ a. restated_authorization m (fresh_authorization a)) (new_authorizations S e m))
          (filter_changed moves (with_challenges (those w)) S.authorizations
          (each _ _ S.authorizations (λ r k. same r k (touches_authorization e r) refl) h))

      orders : orders_put (trimmed w S) e m ≡ orders_put S e m
      orders =
          λ i. moved_rows (λ o. touched_trimmed w e S.authorizations h o i) order_differs (λ o. restated_after (noted_order e m o) i) (whole_orders S.orders i)
          ++ map (λ o. restated_after (fresh_order o) i)
          (ordered_by e m S.meta.policy (S.meta.counters.authorizations + 1) (S.meta.counters.orders + 1))

-- ---- entries, one after the other

new_after : (w : ℕ → Bool) (m : ℕ) (S : Tables) (e : Entry) → NewWhole w S → NewWhole w (effect m S e)
new_after w m S e new n lt = let up : S.meta.counters.authorizations + length (new_authorizations S e m) < n = lt in new n (omega arith)

pub effects_trimmed : (w : ℕ → Bool) (m : ℕ) (S : Tables) (es : List Entry) → NewWhole w S → AllWhole w m S es →
    effects m (trimmed w S) es ≡ trimmed w (effects m S es)
effects_trimmed w m S [] new h = refl
effects_trimmed w m S (e ∷ es) new h = ap (λ U. effects m U es) (effect_trimmed w m S e new h.0)
    ∙ effects_trimmed w m (effect m S e) es (new_after w m S e new) h.1

all_changes_trimmed : (w : ℕ → Bool) (m : ℕ) (S : Tables) (es : List Entry) → NewWhole w S → AllWhole w m S es → all_changes m (trimmed w S) es
    ≡ all_changes m S es
all_changes_trimmed w m S [] new h = refl
all_changes_trimmed w m S (e ∷ es) new h =
    λ i. changes_trimmed w m S e new h.0 i
    ++ (ap (λ U. all_changes m U es) (effect_trimmed w m S e new h.0) ∙ all_changes_trimmed w m (effect m S e) es (new_after w m S e new) h.1) i

-- ---- the passing of time

pub swept_trimmed : (w : ℕ → Bool) (m : ℕ) (S : Tables) → swept m (trimmed w S) ≡ trimmed w (swept m S)
swept_trimmed w m S = swept_thin (those w) all_whole m S (all_falling m S)

-- what is past its moment is in whole: so it changes the same
sweep_trimmed : (w : ℕ → Bool) (m : ℕ) (S : Tables) → AreWhole w (is_overdue m) S.authorizations → sweep_changes m (trimmed w S) ≡ sweep_changes m S
sweep_trimmed w m S past =
    λ i. map RemoveNonce (nonces_gone m S)
    ++ (map PutAuthorization (map (λ (r : AuthorizationRow). record r { status = authz.Expired })
    (filter_changed (is_overdue m) (with_challenges (those w)) S.authorizations
    (each _ _ S.authorizations (λ r k. (refl, λ so. row_whole w r (k so))) past) i))
    ++ map PutOrder (map (λ (r : OrderRow). record r { status = order.Invalid }) (filter (λ o. same o i) (whole_orders S.orders i))))
  where
    same : (o : OrderRow) → falls m (trimmed w S).authorizations o ≡ falls m S.authorizations o
    same o = ap (λ b. is_live_order o.status && (nat_lt o.expires m || b)) (overdue_thin (those w) m S.authorizations (numbers_of o.listed))

pub recorded_trimmed : (w : ℕ → Bool) (m : ℕ) (S : Tables) (es : List Entry) → NewWhole w S → AreWhole w (is_overdue m) S.authorizations →
    AllWhole w m (swept m S) es → recorded_changes m (trimmed w S) es ≡ recorded_changes m S es
recorded_trimmed w m S [] new past h = refl
recorded_trimmed w m S (e ∷ es) new past h =
    λ i. sweep_trimmed w m S past i
    ++ ((ap (λ U. all_changes m U (e ∷ es)) (swept_trimmed w m S) ∙ all_changes_trimmed w m (swept m S) (e ∷ es) new h) i
    ++ PutMeta ((ap (λ U. (effects m U (e ∷ es)).meta) (swept_trimmed w m S)
    ∙ ap (λ (E : Tables). E.meta) (effects_trimmed w m (swept m S) (e ∷ es) new h)) i)
    ∷ [])
