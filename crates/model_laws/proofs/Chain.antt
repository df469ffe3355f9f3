-- Several entries on a part.
use Rattle.std.proofs.Common.{◌≡◌, ◌≤◌, ◌<◌, ℕ, ◌+◌, List, [], ◌∷◌, ◌++◌, map, filter, refl, ap, ◌∙◌, true, Bool, cond, arith, rules}
use Rattle.desk_model.specs.Effect.{noted_order, touches_account, touches_order, moved_account, moved_authorization, moved_order, fresh_account}
use Rattle.desk_model.specs.Effect.{fresh_authorization, not_spent, new_authorizations, authorizations_after, effect, effects, swept}
use Rattle.desk_model.specs.Kept.{Kept, restricted, EachOf, IsClosed, CoversSweep, HoldersKept}
use Rattle.desk_model.specs.{Entry.History, Legal.EachFollows, Nonce.issued_by, Account.opened_by, History.clock, History.record_all}
use Rattle.desk_model.specs.{Tables.Tables, Tables.picture, Derived.numbers_of, Derived.restated_authorization, Change.all_changes}
use Rattle.desk_model.specs.{Change.recorded_changes, Change.applied, declared.entry.Entry.Entry, declared.rows.AccountRow.AccountRow}
use Rattle.desk_model.specs.{declared.rows.AuthorizationRow.AuthorizationRow, declared.rows.Change.TheVariants.PutMeta, declared.rows.OrderRow.OrderRow}
use Rattle.model_laws.specs.{Ordered.Ascends, Parts.FreshKept, Parts.CoversAll}
use Rattle.model_laws.proofs.{PutsDiffer.opened_up, PutsDiffer.ordered_up, PutsDiffer.made_up, Recorded.recorded, Local.changes_local}
use Rattle.model_laws.proofs.Local.{all_moved_same, fresh_orders, filters_swap, filter_all, moved_part, restated_same, kept_after, moved_number, touches_same}
use Rattle.model_laws.proofs.Local.{sweep_changes_local, swept_part}
use Rattle.model_laws.proofs.{Basics.each, Basics.each_all, Basics.one_kept, Step.filter-append}

-- new rows are kept
pub up_kept : {X : Type 0} (number : X → ℕ) (kept : ℕ → Bool) (count : ℕ) → ((n : ℕ) → count < n → kept n ≡ true) → (n : ℕ) → count < n →
    (xs : List X) → Ascends number n xs → EachOf (λ x. kept (number x) ≡ true) xs
up_kept number kept count f n lt [] h = tt
up_kept number kept count f n lt (x ∷ xs) h =
    let up : n ≤ number x = h.0 in (f (number x) (omega arith), up_kept number kept count f (number x + 1) (omega arith) xs h.1)

-- moved rows and new ones: the part of them
part_on : {X : Type 0} (number : X → ℕ) (kept : ℕ → Bool) (f g : X → X) (xs fresh fresh' : List X) → ((x : X) → number (g x) ≡ number x) →
    EachOf (λ x. kept (number x) ≡ true → f x ≡ g x) xs →
    fresh ≡ fresh' → EachOf (λ x. kept (number x) ≡ true) fresh' → map f (filter (λ x. kept (number x)) xs) ++ fresh
    ≡ filter (λ x. kept (number x)) (map g xs ++ fresh')
part_on number kept f g xs fresh fresh' same each_same e all = grind (arith, moved_part, filter_all, filter-append)

-- a moved account keeps its number
pub account_number : (e : Entry) (m : ℕ) (row : AccountRow) → (moved_account e m row).number ≡ row.number
account_number e m row = one_kept (λ (a : AccountRow). a.number) (touches_account e row) _ row refl

-- a moved order keeps its number
pub order_number : (e : Entry) (m : ℕ) (before after : List AuthorizationRow) (row : OrderRow) → (moved_order e m before after row).number ≡ row.number
order_number e m before after row = one_kept (λ (o : OrderRow). o.number) (touches_order e before row) _ row refl

-- the part's authorizations after an entry are the part of those after it
pub authorizations_part : (k : Kept) (T : Tables) (m : ℕ) (e : Entry) → ((n : ℕ) → T.meta.counters.authorizations < n → k.authorizations n ≡ true) →
    HoldersKept k T e →
    (effect m (restricted k T) e).authorizations ≡ filter (λ a. k.authorizations a.number) (effect m T e).authorizations
authorizations_part k T m e new holders =
    part_on (λ (a : AuthorizationRow). a.number) k.authorizations (moved_authorization e m (restricted k T).accounts)
    (moved_authorization e m T.accounts) T.authorizations _
    (map (λ a. restated_authorization m (fresh_authorization a)) (new_authorizations T e m)) (moved_number e m T.accounts)
    (all_moved_same k T e m holders) refl
    (up_kept (λ (a : AuthorizationRow). a.number) k.authorizations T.meta.counters.authorizations new
    (T.meta.counters.authorizations + 1)
    (omega arith) _ (made_up e m T.meta.policy.authz_life (T.meta.counters.authorizations + 1) (T.meta.counters.challenges + 1)))

-- the part after an entry is the part of the tables after it
pub effect_part : (k : Kept) (T : Tables) (m : ℕ) (e : Entry) → IsClosed k T → HoldersKept k T e → FreshKept k T m e →
    effect m (restricted k T) e ≡ restricted k (effect m T e)
effect_part k T m e closed holders fresh =
    λ i. record {
      meta = (effect m T e).meta;
      nonces = nonces_part i;
      accounts =
          part_on (λ (a : AccountRow). a.number) k.accounts (moved_account e m) (moved_account e m) T.accounts _
          (map fresh_account (opened_by e m (T.meta.counters.accounts + 1))) (account_number e m) (each_all _ T.accounts (λ a yes. refl)) refl
          (up_kept (λ (a : AccountRow). a.number) k.accounts T.meta.counters.accounts closed.new_accounts (T.meta.counters.accounts + 1) (omega arith) _
          (opened_up e m (T.meta.counters.accounts + 1))) i;
      authorizations = authorizations_part k T m e closed.new_authorizations holders i;
      orders =
          part_on (λ (o : OrderRow). o.number) k.orders (moved_order e m (restricted k T).authorizations (authorizations_after (restricted k T) e m))
          (moved_order e m T.authorizations (authorizations_after T e m)) T.orders _ _
          (order_number e m T.authorizations (authorizations_after T e m))
          (each _ _ T.orders (λ o all yes.
          (λ j. cond (touches_same k T e o (all yes) j)
          (restated_same m (authorizations_after (restricted k T) e m) (authorizations_after T e m) (noted_order e m o)
          (kept_after k T e m (numbers_of o.listed) holders (all yes)) j) o)) closed.listed)
          (fresh_orders k T m e _ holders fresh)
          (up_kept (λ (o : OrderRow). o.number) k.orders T.meta.counters.orders closed.new_orders (T.meta.counters.orders + 1) (omega arith) _
          (ordered_up e m T.meta.policy (T.meta.counters.authorizations + 1) (T.meta.counters.orders + 1) (authorizations_after T e m))) i;
    }
  where
    nonces_part : filter (not_spent e) (filter (λ n. k.nonces n.serial) T.nonces) ++ issued_by e m (T.meta.counters.nonces + 1)
        ≡ filter (λ n. k.nonces n.serial) (filter (not_spent e) T.nonces ++ issued_by e m (T.meta.counters.nonces + 1))
    nonces_part = grind (arith, filters_swap, filter-append)

-- the part changes as the whole by entries in a row
pub all_changes_local : (k : Kept) (m : ℕ) (T : Tables) (es : List Entry) → CoversAll k m T es → all_changes m (restricted k T) es ≡ all_changes m T es
all_changes_local k m T [] h = refl
all_changes_local k m T (e ∷ es) h =
    λ i. changes_local k T m e h.0 h.1 h.2 i ++
    (ap (λ P. all_changes m P es) (effect_part k T m e h.0 h.1.holders h.2) ∙ all_changes_local k m (effect m T e) es h.3) i

-- the part after some entries is the part of the tables after them
pub effects_part : (k : Kept) (m : ℕ) (T : Tables) (es : List Entry) → CoversAll k m T es → effects m (restricted k T) es ≡ restricted k (effects m T es)
effects_part k m T [] h = refl
effects_part k m T (e ∷ es) h = ap (λ P. effects m P es) (effect_part k T m e h.0 h.1.holders h.2) ∙ effects_part k m (effect m T e) es h.3

-- a part records of some entries what the whole does
pub recorded_local : (k : Kept) (T : Tables) (m : ℕ) (es : List Entry) → IsClosed k T → CoversSweep k T m →
    CoversAll k m (swept m T) es → recorded_changes m (restricted k T) es ≡ recorded_changes m T es
recorded_local k T m [] closed covers_sweep covers = refl
recorded_local k T m (e ∷ es) closed covers_sweep covers =
    let now = swept_part k T m closed in
    let meta = ap (λ (P : Tables). P.meta) (ap (λ P. effects m P (e ∷ es)) now ∙ effects_part k m (swept m T) (e ∷ es) covers) in
    λ i. sweep_changes_local k T m closed covers_sweep i
    ++ ((ap (λ P. all_changes m P (e ∷ es)) now ∙ all_changes_local k m (swept m T) (e ∷ es) covers) i ++ PutMeta (meta i) ∷ [])

-- what a part records makes, in the whole tables, those of the longer history
pub part_recorded : (F : History) (k : Kept) (e : Entry) (es : List Entry) (m : ℕ) → clock F ≤ m → EachFollows (record_all m (e ∷ es) F) →
    IsClosed k (picture F) → CoversSweep k (picture F) m → CoversAll k m (swept m (picture F)) (e ∷ es) →
    (let P : Tables = restricted k (picture F) in
    applied (recorded_changes m P (e ∷ es)) (picture F) ≡ picture (record_all m (e ∷ es) F))
part_recorded F k e es m le follows closed covers_sweep covers = search (rules, recorded_local, recorded)
