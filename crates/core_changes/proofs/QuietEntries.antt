-- What entries that touch no standing row do to the tables, and what they record.
use Rattle.std.proofs.Common.{◌≡◌, ℕ, ◌+◌, List, [], ◌∷◌, ◌++◌, map, filter, Bool, false, cond, Option, None, refl, ap, ◌∙◌, add-zero, arith, rules}
use Rattle.std.specs.Prelude.{◌||◌}
use Rattle.desk_model.specs.{Tables.Tables, Lookup.holds, Account.opened_by, Order.ordered_by, declared.rows.Counters.Counters, declared.objects.Nonce.Nonce}
use Rattle.desk_model.specs.declared.{entry.Entry.Entry, rows.AccountRow.AccountRow, rows.AuthorizationRow.AuthorizationRow, rows.OrderRow.OrderRow}
use Rattle.desk_model.specs.declared.rows.Change.TheVariants.{PutNonce, RemoveNonce, PutAccount, PutAuthorization, PutOrder}
use Rattle.desk_model.specs.declared.entry.Entry.TheVariants.{Issued as issued, Spent as spent, Opened as opened}
use Rattle.desk_model.specs.Derived.{numbers_of, authorization_numbered, restated_authorization, restated_order}
use Rattle.desk_model.specs.Effect.{effect, touches_account, touches_authorization, touches_order, names_order}
use Rattle.desk_model.specs.Effect.{lists_one, fresh_account, fresh_authorization, fresh_order, new_authorizations, authorizations_after}
use Rattle.desk_model.specs.Change.{changes, moved_rows, spent_by, nonces_put}
use Rattle.desk_model.specs.declared.status.AccountStatus.TheVariants as account

-- the same counters with nothing added
abbrev with_nonces : ℕ → ℕ → Counters → Counters
with_nonces m more old = record old { clock = m; nonces = old.nonces + more }

counted : (m more : ℕ) (old : Counters) →
    (let now : Counters = record old {
      clock = m;
      nonces = old.nonces + more;
      accounts = old.accounts + 0;
      orders = old.orders + 0;
      authorizations = old.authorizations + 0;
      challenges = old.challenges + 0;
    } in
    now ≡ with_nonces m more old)
counted m more old = search rules

-- the counters after a nonce is spent
pub spent_counters : (m : ℕ) (T : Tables) (n : ℕ) → (effect m T (spent n)).meta.counters ≡ record T.meta.counters { clock = m }
spent_counters m T n = counted m 0 T.meta.counters ∙ (λ i. record T.meta.counters { clock = m; nonces = add-zero T.meta.counters.nonces i })

-- the counters after a nonce is issued
pub issued_counters : (m : ℕ) (T : Tables) (r : List ℕ) → (effect m T (issued r)).meta.counters
    ≡ record T.meta.counters { clock = m; nonces = T.meta.counters.nonces + 1 }
issued_counters m T r = counted m 1 T.meta.counters

-- the counters after an account is opened
pub opened_counters : (m : ℕ) (T : Tables) (key : List ℕ) (contacts : List (List ℕ))
    → (effect m T (opened key contacts)).meta.counters ≡ record T.meta.counters { clock = m; accounts = T.meta.counters.accounts + 1 }
opened_counters m T key contacts = search rules

filter_none : {X : Type 0} (p : X → Bool) (xs : List X) → ((x : X) → p x ≡ false) → filter p xs ≡ []
filter_none p [] h = refl
filter_none p (x ∷ xs) h = ap (λ b. cond b (x ∷ filter p xs) (filter p xs)) (h x) ∙ filter_none p xs h

-- no order is touched by an entry that names none and touches no authorization
order_untouched : (e : Entry) (T : Tables) (r : OrderRow) → ((a : AuthorizationRow) → touches_authorization e a ≡ false) → names_order e r.number ≡ false →
    touches_order e T.authorizations r ≡ false
order_untouched e T r none unnamed =
    ap (λ b. b || lists_one (touches_authorization e) T.authorizations (numbers_of r.listed)) unnamed
    ∙ lists_none (numbers_of r.listed)
  where
    found : (o : Option AuthorizationRow) → holds (touches_authorization e) o ≡ false
    found o = grind arith

    lists_none : (ns : List ℕ) → lists_one (touches_authorization e) T.authorizations ns ≡ false
    lists_none [] = refl
    lists_none (n ∷ ns) = λ i. found (authorization_numbered n T.authorizations) i || lists_none ns i

unmoved_rows : {X : Type 0} (touched : X → Bool) (differs : X → X → Bool) (move : X → X) (xs : List X) → ((x : X) → touched x ≡ false)
    → moved_rows touched differs move xs ≡ []
unmoved_rows touched differs move xs none = search (rules, filter_none)

-- an entry that touches no row that stands records what it makes
pub quiet_changes : (m : ℕ) (T : Tables) (e : Entry) → ((a : AccountRow) → touches_account e a ≡ false)
    → ((a : AuthorizationRow) → touches_authorization e a ≡ false) →
    ((n : ℕ) → names_order e n ≡ false) →
    changes m T e ≡ map RemoveNonce (spent_by e)
    ++ (map PutNonce (nonces_put T e m)
    ++ (map PutAccount (map fresh_account (opened_by e m (T.meta.counters.accounts + 1)))
    ++ (map PutAuthorization (map (λ a. restated_authorization m (fresh_authorization a)) (new_authorizations T e m))
    ++ map PutOrder (map (λ o. restated_order m (authorizations_after T e m) (fresh_order o))
    (ordered_by e m T.meta.policy (T.meta.counters.authorizations + 1) (T.meta.counters.orders + 1))))))
quiet_changes m T e no_account no_authorization no_order = search (rules, unmoved_rows, order_untouched)

-- what is recorded of a nonce that is spent
pub spent_changes : (m : ℕ) (T : Tables) (n : ℕ) → changes m T (spent n) ≡ RemoveNonce n ∷ []
spent_changes m T n = quiet_changes m T (spent n) (λ a. refl) (λ a. refl) (λ k. refl)

-- what is recorded of a nonce that is issued
pub issued_changes : (m : ℕ) (T : Tables) (r : List ℕ) →
    (let fresh : Nonce = record { serial = T.meta.counters.nonces + 1; random = r; issued = m } in changes m T (issued r) ≡ PutNonce fresh ∷ [])
issued_changes m T r = quiet_changes m T (issued r) (λ a. refl) (λ a. refl) (λ k. refl)

-- what is recorded of an account that is opened
pub opened_changes : (m : ℕ) (T : Tables) (key : List ℕ) (contacts : List (List ℕ)) →
    (let fresh : AccountRow = record {
      number = T.meta.counters.accounts + 1;
      key = key;
      contacts = contacts;
      opened = m;
      ended = None;
      status = account.Valid;
    } in
    changes m T (opened key contacts) ≡ PutAccount fresh ∷ [])
opened_changes m T key contacts = quiet_changes m T (opened key contacts) (λ a. refl) (λ a. refl) (λ k. refl)
