-- A part that keeps what a request names gives the same verdict.
use Rattle.std.proofs.Common.{◌≡◌, ℕ, List, Option, Some, None, refl, ap, true, arith}
use Rattle.std.specs.Prelude.{◌==◌, ◌&&◌, bytes_eq, option_and_then}
use Rattle.desk_model.specs.Questions.{account_on, account_with_key, authorization_on, order_on, owner_on}
use Rattle.desk_model.specs.Rules.{if_spelled, key_verdict, open_nonce, rekey_verdict, names_asked}
use Rattle.desk_model.specs.Rules.{own, office_verdict, open_nonce_in, report_verdict, signed_verdict, key_change_verdict, target_verdict, new_order_verdict}
use Rattle.desk_model.specs.Asked.{carries, target_new_key, target_order, target_authorization, target_owner, target_names}
use Rattle.desk_model.specs.{Document.account_url, declared.verdict.Verdict.Verdict, declared.call.OfficeAsk.OfficeAsk, declared.rows.AccountRow.AccountRow}
use Rattle.desk_model.specs.{Effect.has_row, Lookup.holds, Tables.Tables, Kept.EachOf, Verdict.check, Verdict.given}
use Rattle.desk_model.specs.{Payload.key_change, Payload.new_order, declared.call.Target.Target, Tokens.NonceText, Tokens.nonce_in, Kept.Kept, Kept.restricted}
use Rattle.desk_model.specs.{declared.payload.KeyChange.KeyChange, declared.payload.Identifier.Identifier, declared.rows.AuthorizationRow.AuthorizationRow}
use Rattle.desk_model.specs.{declared.call.Finding.Finding, declared.call.Signed.Signed, declared.objects.Nonce.Nonce, declared.rows.OrderRow.OrderRow}
use Rattle.model_laws.proofs.{Local.find_kept, Local.find_part, Finds.each_found, Finds.found_passes, Basics.each}
use Rattle.model_parts.proofs.{Grown.KeepsNamed, Lists.same_number, Reusing.KeepsAsked, Reusing.new_order_same}
use Rattle.desk_model.specs.declared.refusal.Refusal.TheVariants as refusal
use Rattle.desk_model.specs.declared.call.Ask.TheVariants as ask
use Rattle.desk_model.specs.declared.call.OfficeAsk.TheVariants as office
use Rattle.desk_model.specs.declared.call.Target.TheVariants as to

-- ---- look-ups

-- an account that is kept
pub account_same : (k : Kept) (S : Tables) (n : ℕ) → k.accounts n ≡ true → account_on (restricted k S) n ≡ account_on S n
account_same k S n h = find_kept (λ (a : AccountRow). a.number) k.accounts n S.accounts h

-- an order that is kept
pub order_same : (k : Kept) (S : Tables) (n : ℕ) → k.orders n ≡ true → order_on (restricted k S) n ≡ order_on S n
order_same k S n h = find_kept (λ (o : OrderRow). o.number) k.orders n S.orders h

-- an authorization that is kept
pub authorization_same : (k : Kept) (S : Tables) (n : ℕ) → k.authorizations n ≡ true → authorization_on (restricted k S) n ≡ authorization_on S n
authorization_same k S n h = find_kept (λ (a : AuthorizationRow). a.number) k.authorizations n S.authorizations h

-- the authorization of a challenge, where those that may have it are kept
pub owner_same : (k : Kept) (S : Tables) (n : ℕ) → EachOf (λ r. has_row n r ≡ true → k.authorizations r.number ≡ true) S.authorizations →
    owner_on (restricted k S) n ≡ owner_on S n
owner_same k S n h = find_part (has_row n) (λ a. k.authorizations a.number) S.authorizations h

-- the account with a key, where those that may have it are kept
pub key_same : (k : Kept) (S : Tables) (key : List ℕ) → EachOf (λ x. bytes_eq x.key key ≡ true → k.accounts x.number ≡ true) S.accounts →
    account_with_key (restricted k S) key ≡ account_with_key S key
key_same k S key h = find_part (λ a. bytes_eq a.key key) (λ a. k.accounts a.number) S.accounts h

-- ---- the nonce

-- a nonce is open in the part where it is in the whole
pub nonce_same : (k : Kept) (S : Tables) (s : Signed) → ((n : ℕ) → carries (ask.Signed s) n ≡ true → k.nonces n ≡ true) →
    open_nonce (restricted k S) s.nonce ≡ open_nonce S s.nonce
nonce_same k S s h = by (option_and_then nonce_in s.nonce) h
  where
    by : (t : Option NonceText) → ((n : ℕ) → holds (λ (x : NonceText). n == x.serial) t ≡ true → k.nonces n ≡ true)
        → open_nonce_in (restricted k S) t ≡ open_nonce_in S t
    by None f = refl
    by (Some t) f = ap (if_spelled t) (find_kept (λ (n : Nonce). n.serial) k.nonces t.serial S.nonces (f t.serial (same_number t.serial)))

-- ---- signed requests

-- a key change, where the account and the one that has the new key are kept
key_change_same : (k : Kept) (S : Tables) (n : ℕ) (p : List ℕ) → k.accounts n ≡ true →
    EachOf (λ x. target_new_key to.KeyChange p x.key ≡ true → k.accounts x.number ≡ true) S.accounts →
    given (key_change p) refusal.Malformed (key_change_verdict (restricted k S) n) ≡ given (key_change p) refusal.Malformed (key_change_verdict S n)
unfolding given
key_change_same k S n p kept free = by (key_change p) free
  where
    rekeyed : (o : Option (List ℕ)) → EachOf (λ x. holds (bytes_eq x.key) o ≡ true → k.accounts x.number ≡ true) S.accounts →
        given o refusal.BadPublicKey (λ key. rekey_verdict n key (account_with_key (restricted k S) key))
        ≡ given o refusal.BadPublicKey (λ key. rekey_verdict n key (account_with_key S key))
    rekeyed None h = refl
    rekeyed (Some key) h = ap (rekey_verdict n key) (key_same k S key h)

    by : (q : Option KeyChange) → EachOf (λ x. holds (bytes_eq x.key) (option_and_then (λ c. c.new_key) q) ≡ true → k.accounts x.number ≡ true) S.accounts →
        given q refusal.Malformed (key_change_verdict (restricted k S) n) ≡ given q refusal.Malformed (key_change_verdict S n)
    by None h = refl
    by (Some c) h =
        λ i. check (bytes_eq c.account (account_url S.meta.policy n) && holds (λ key. holds (λ a. bytes_eq a.key key) (account_same k S n kept i)) c.old_key)
        refusal.Malformed (rekeyed c.new_key h i)

-- a new order, where what its names may use again is kept
asked_same : (k : Kept) (S : Tables) (r : List ℕ) (n : ℕ) (asked : Option (List Identifier)) →
    KeepsAsked k S.authorizations n (option_and_then names_asked asked) →
    given asked refusal.Malformed (new_order_verdict (restricted k S) r n) ≡ given asked refusal.Malformed (new_order_verdict S r n)
unfolding given
asked_same k S r n asked h = grind (arith, new_order_same)

-- an object of an account, where the same is found
pub own_same : {X : Type 0} (account : X → ℕ) (n : ℕ) (f : X → Verdict) (o p : Option X) → o ≡ p →
    given (own account n o) refusal.NotFound f ≡ given (own account n p) refusal.NotFound f
own_same account n f o p same = ap (λ x. given (own account n x) refusal.NotFound f) same

-- a request of an account that is kept, by its target
target_same : (k : Kept) (S : Tables) (r : List ℕ) (n : ℕ) (p : List ℕ) (t : Target) → k.accounts n ≡ true →
    EachOf (λ x. target_new_key t p x.key ≡ true → k.accounts x.number ≡ true) S.accounts →
    ((j : ℕ) → target_order t j ≡ true → k.orders j ≡ true) →
    ((j : ℕ) → target_authorization t j ≡ true → k.authorizations j ≡ true) →
    EachOf (λ a. target_owner t a ≡ true → k.authorizations a.number ≡ true) S.authorizations →
    KeepsAsked k S.authorizations n (target_names t p) →
    target_verdict (restricted k S) r n p t ≡ target_verdict S r n p t
target_same k S r n p to.KeyChange y f o a c w = key_change_same k S n p y f
target_same k S r n p to.NewOrder y f o a c w = asked_same k S r n (new_order p) w
target_same k S r n p (to.Order j) y f o a c w = own_same _ n _ _ _ (order_same k S j (o j (same_number j)))
target_same k S r n p (to.Finalize j) y f o a c w = own_same _ n _ _ _ (order_same k S j (o j (same_number j)))
target_same k S r n p (to.Cert j) y f o a c w = own_same _ n _ _ _ (order_same k S j (o j (same_number j)))
target_same k S r n p (to.Authz j) y f o a c w = own_same _ n _ _ _ (authorization_same k S j (a j (same_number j)))
target_same k S r n p (to.Chall j) y f o a c w = own_same _ n _ _ _ (owner_same k S j c)
target_same k S r n p _ y f o a c w = refl

-- by the account with its key
keyed_same : (k : Kept) (S : Tables) (r key p : List ℕ) (t : Target) →
    EachOf (λ x. bytes_eq x.key key ≡ true → k.accounts x.number ≡ true) S.accounts →
    EachOf (λ x. target_new_key t p x.key ≡ true → k.accounts x.number ≡ true) S.accounts →
    ((j : ℕ) → target_order t j ≡ true → k.orders j ≡ true) →
    ((j : ℕ) → target_authorization t j ≡ true → k.authorizations j ≡ true) →
    EachOf (λ a. target_owner t a ≡ true → k.authorizations a.number ≡ true) S.authorizations →
    EachOf (λ x. bytes_eq x.key key ≡ true → KeepsAsked k S.authorizations x.number (target_names t p)) S.accounts →
    key_verdict (restricted k S) r key p t (account_with_key (restricted k S) key) ≡ key_verdict S r key p t (account_with_key S key)
keyed_same k S r key p t h f o a c w = grind (arith, key_same, found_passes, target_same, each_found)

-- so a signed request gets the same verdict
pub signed_same : (k : Kept) (S : Tables) (r : List ℕ) (s : Signed) → KeepsNamed k S (ask.Signed s) → signed_verdict (restricted k S) r s ≡ signed_verdict S r s
signed_same k S r s h = grind (arith, each, keyed_same)

-- ---- the other asks

-- a report on a challenge
pub report_same : (k : Kept) (S : Tables) (n : ℕ) (finding : Finding) → KeepsNamed k S (ask.Office (office.Report n finding)) →
    report_verdict (restricted k S) n finding ≡ report_verdict S n finding
report_same k S n finding h = grind (arith, owner_same)

-- so what carries no nonce gets the same verdict
pub office_same : (k : Kept) (S : Tables) (a : OfficeAsk) → KeepsNamed k S (ask.Office a) → office_verdict (restricted k S) a ≡ office_verdict S a
office_same k S a h = grind (arith, report_same, order_same, authorization_same, account_same)
