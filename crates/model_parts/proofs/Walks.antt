-- Each verdict: what it records is kept, and what it shows is shown by the part as by the whole.
use Rattle.std.proofs.Common.{◌≡◌, ℕ, ◌+◌, List, [], Option, Some, None, refl, ap, subst, ◌∙◌, true, false, Bool, arith, rules}
use Rattle.std.proofs.lemmas.Bool.{eqb-true, or_left}
use Rattle.std.specs.{Prelude.◌==◌, Prelude.cond, Prelude.option_and_then, List.list_any}
use Rattle.desk_model.specs.Rules.{office_verdict, signed_verdict, subproblems, wanted, kept as kept_in, names_in, names_asked, names_of}
use Rattle.desk_model.specs.Asked.{has_key, asks_authorizations, asks_orders, names_account, target_names}
use Rattle.desk_model.specs.declared.entry.Entry.TheVariants.{Failed as failed, ContactsChanged as contacts_changed, AuthorizationEnded as authorization_ended}
use Rattle.desk_model.specs.declared.entry.Entry.TheVariants.{Opened as opened}
use Rattle.desk_model.specs.declared.entry.Entry.TheVariants.{KeyChanged as key_changed, AccountEnded as account_ended, Finalized as finalized}
use Rattle.desk_model.specs.declared.entry.Entry.TheVariants.{Ordered as ordered, Answered as answered, Reported as reported, Certified as certified}
use Rattle.desk_model.specs.{Effect.effect, declared.verdict.Verdict.TheVariants.Orders as orders, declared.entry.Ending.TheVariants.Deactivated as deactivated}
use Rattle.desk_model.specs.{Effect.lists_one, Legal.has_length, Questions.account_on, Limits.most_names, Touched.is_named_account, declared.call.Ask.Ask}
use Rattle.desk_model.specs.{Effect.swept, Lookup.holds, Name.Name, Tables.Tables, Kept.Covers, Kept.EachOf, Kept.Kept}
use Rattle.desk_model.specs.{Touched.is_own_authorization, declared.verdict.Verdict.Verdict, declared.entry.Ending.Ending}
use Rattle.desk_model.specs.{Payload.new_order, declared.entry.Entry.Entry, declared.entry.Wanted.Wanted, declared.call.Target.Target}
use Rattle.desk_model.specs.{Derived.numbers_of, declared.call.OfficeAsk.OfficeAsk, declared.payload.Identifier.Identifier, declared.rows.AccountRow.AccountRow}
use Rattle.desk_model.specs.{declared.call.Signed.Signed, declared.rows.AuthorizationRow.AuthorizationRow, declared.entry.Ending.TheVariants.Revoked as revoked}
use Rattle.model_laws.proofs.{Basics.each, Basics.each_all, SweptParts.swept_closed, Plain.fresh_kept, Plain.nothing_touched, Finds.each_found}
use Rattle.model_laws.proofs.Finds.{found_passes}
use Rattle.model_parts.specs.MinimalPart.{is_end, changes_statuses}
use Rattle.model_parts.proofs.Replies.{account_shown, authorization_shown, certificate_shown, challenge_shown, client_challenge_shown, finalized_shown}
use Rattle.model_parts.proofs.Replies.{key_shown, known_shown, listed_after, made_shown, opened_shown, order_shown, orders_shown, owner_after}
use Rattle.model_lives.proofs.Judged.{OfAccount as by, OfOffice as way, OfRequest, held_key, office_judged, request_judged, sent}
use Rattle.model_parts.proofs.Ready.{IsAnswered, IsReady, covered, swept_names}
use Rattle.model_parts.proofs.{Listed.KeepsListed, Grown.IsNamedBy, Lists.each_member, Lists.same_number, Lists.turned, Reusing.KeepsAsked, Reusing.wanted_kept}
use Rattle.model_laws.specs.Parts.{ReusedKept}
use Rattle.desk_model.specs.declared.call.Ask.TheVariants as ask
use Rattle.desk_model.specs.declared.call.OfficeAsk.TheVariants as office
use Rattle.desk_model.specs.declared.call.Target.TheVariants as to

-- ---- what entries touch

-- an account that is there, with its authorizations
ended_named : (T : Tables) (a : Ask) (n : ℕ) (ending : Ending) → names_account a n ≡ true → changes_statuses a ≡ true →
    ((r : AuthorizationRow) → (n == r.account) ≡ true → is_own_authorization T a r ≡ true) → IsNamedBy T a (account_ended n ending)
ended_named T a n ending named ends owned = grind arith

-- ---- parts of what is ready

-- an order after an entry
listed_then : {k : Kept} {T : Tables} {m : ℕ} {a : Ask} (e : Entry) → IsReady k T m a → ReusedKept k e → KeepsListed k (effect m (swept m T) e)
listed_then e ready again = search (rules, swept_closed, listed_after, fresh_kept)

-- ---- the other asks

-- what carries no nonce, the work lists apart
abbrev pub IsNoWork : OfficeAsk → Type 0
IsNoWork office.ChallengeWork = ⊥
IsNoWork office.OrderWork = ⊥
IsNoWork _ = Unit {0}

-- the account that is found owns its authorizations
owned_by : (T : Tables) (a : Ask) (x : AccountRow) → asks_authorizations a ≡ true → is_named_account a x ≡ true →
    ((p : AccountRow → Bool) → p x ≡ true → list_any p T.accounts ≡ true) → (r : AuthorizationRow) → (x.number == r.account) ≡ true
    → is_own_authorization T a r ≡ true
owned_by T a x asked named member r h = grind arith

-- an account that is revoked
revoked_named : (T : Tables) (n : ℕ) (x : AccountRow) → account_on T n ≡ Some x → IsNamedBy T (ask.Office (office.RevokeAccount n)) (account_ended n revoked)
revoked_named T n x found =
    let a : Ask = ask.Office (office.RevokeAccount n) in
    let here : (x.number == n) ≡ true = found_passes (λ y. y.number == n) T.accounts x found in
    ended_named T a n revoked (same_number n) refl
    (λ r h. owned_by T a x refl here
    (each_found (λ y. (p : AccountRow → Bool) → p y ≡ true → list_any p T.accounts ≡ true) (λ y. y.number == n) T.accounts x (each_member T.accounts) found)
    r (ap (λ j. j == r.account) (eqb-true x.number n here) ∙ h))

-- by each way of what carries no nonce
office_way : (k : Kept) (T : Tables) (m : ℕ) (a : OfficeAsk) (v : Verdict) → IsNoWork a → IsReady k T m (ask.Office a) → way (swept m T) a v
    → IsAnswered k m (swept m T) v
office_way k T m a v work ready (way.declined b why) = tt
office_way k T m a v work ready way.directory_listed = refl
office_way k T m a v work ready way.challenge_work_listed = absurd work
office_way k T m a v work ready way.order_work_listed = absurd work
office_way k T m a v work ready (way.report_shown n finding r found) =
    challenge_shown k (swept m T) n (swept_names k T m (ask.Office a) ready.named).owner
office_way k T m a v work ready (way.reported n finding r c outcome found there waits) = (
  covered ready (grind arith),
  challenge_shown k (effect m (swept m T) (reported n outcome)) n
      (owner_after k (swept m T) m (reported n outcome) n (swept_closed k T m ready.closed) (swept_names k T m (ask.Office a) ready.named).owner),
)
office_way k T m a v work ready (way.certificate_shown n bytes o found) =
    order_shown k (swept m T) n (ready.named.order n (same_number n)) (swept_closed k T m ready.closed).listed
office_way k T m a v work ready (way.certified n bytes o found some few waits) = (
  covered ready (grind (arith, same_number)),
  order_shown k (effect m (swept m T) (certified n bytes)) n (ready.named.order n (same_number n)) (listed_then (certified n bytes) ready tt),
)
office_way k T m a v work ready (way.failure_shown n problem o found) =
    order_shown k (swept m T) n (ready.named.order n (same_number n)) (swept_closed k T m ready.closed).listed
office_way k T m a v work ready (way.failed n problem o found formed waits) = (
  covered ready (grind (arith, same_number)),
  order_shown k (effect m (swept m T) (failed n problem)) n (ready.named.order n (same_number n)) (listed_then (failed n problem) ready tt),
)
office_way k T m a v work ready (way.authorization_shown n r found) = authorization_shown k (swept m T) n (ready.named.authorization n (same_number n))
office_way k T m a v work ready (way.authorization_revoked n r found live) = (
  covered ready (grind (arith, same_number)),
  authorization_shown k (effect m (swept m T) (authorization_ended n revoked)) n (ready.named.authorization n (same_number n)),
)
office_way k T m a v work ready (way.account_shown n x found) = account_shown k (swept m T) n (ready.named.account n (same_number n))
office_way k T m a v work ready (way.account_revoked n x found valid) =
    (covered ready (revoked_named T n x found), account_shown k (effect m (swept m T) (account_ended n revoked)) n (ready.named.account n (same_number n)))
office_way k T m a v work ready (way.key_shown n x found) = key_shown k (swept m T) n (ready.named.account n (same_number n))

-- so its verdict is answered by the part
pub office_answered : (k : Kept) (T : Tables) (m : ℕ) (a : OfficeAsk) → IsNoWork a → IsReady k T m (ask.Office a)
    → IsAnswered k m (swept m T) (office_verdict (swept m T) a)
office_answered k T m a work ready = office_way k T m a (office_verdict (swept m T) a) work ready (office_judged (swept m T) a)

-- ---- signed requests

-- an account that is kept gets another key
rekeyed_covered : (k : Kept) (T : Tables) (m n : ℕ) (key : List ℕ) → k.accounts n ≡ true → Covers k (swept m T) (key_changed n key)
rekeyed_covered k T m n key kept =
    let S : Tables = swept m T in
    record {
      accounts = each_all _ S.accounts (λ a h. subst (λ j. k.accounts j ≡ true) (eqb-true n a.number h) kept);
      authorizations = each_all _ S.authorizations (λ a h. cc);
      orders =
          each_all _ S.orders (λ o h. let no : lists_one (λ a. false) S.authorizations (numbers_of o.listed)
          ≡ false = nothing_touched S.authorizations (numbers_of o.listed) in cc);
      holders = each_all _ S.authorizations (λ a h. cc);
    }

-- the names of an order are those that the request asks for
names_asked_for : (p : List ℕ) (ids : List Identifier) → new_order p ≡ Some ids → has_length 1 most_names ids ≡ true → subproblems ids ≡ []
    → target_names to.NewOrder p ≡ Some (kept_in (names_in ids))
names_asked_for p ids is few pass =
    ap (option_and_then names_asked) is ∙ ap (λ b. cond {A = Option (List Name)} b (names_of ids (subproblems ids)) None) few ∙ ap (names_of ids) pass

-- an order of names whose authorizations are kept
order_answered : (k : Kept) (T : Tables) (m : ℕ) (s : Signed) (r : List ℕ) (n : ℕ) (names : List Name) → IsReady k T m (sent s to.NewOrder)
    → KeepsAsked k (swept m T).authorizations n (Some names) → IsAnswered k m (swept m T) (orders n (wanted (swept m T) n names r))
order_answered k T m s r n names ready asked =
    let ws : List Wanted = wanted (swept m T) n names r in
    let again : ReusedKept k (ordered n ws) = wanted_kept k (swept m T) n names names r asked (each_member names) in (
      again,
      (
        covered ready (grind arith),
        made_shown k (effect m (swept m T) (ordered n ws)) (ready.closed.new_orders (T.meta.counters.orders + 1) (omega arith))
            (listed_then (ordered n ws) ready again),
      ),
    )

-- the account with the key is x
account_way : (k : Kept) (T : Tables) (m : ℕ) (s : Signed) (r : List ℕ) (x : AccountRow) (t : Target) (v : Verdict) → IsReady k T m (sent s t) →
    k.accounts x.number ≡ true → is_named_account (sent s t) x ≡ true → ((q : AccountRow → Bool) → q x ≡ true → list_any q T.accounts ≡ true) →
    EachOf (λ o. asks_orders (sent s t) ≡ true → (o.account == x.number) ≡ true → k.orders o.number ≡ true) (swept m T).orders →
    KeepsAsked k (swept m T).authorizations x.number (target_names t s.payload) →
    by (swept m T) r x.number s.payload t v → IsAnswered k m (swept m T) v
account_way k T m s r x t v ready kept named member owned asked (by.turned_away u why ss) = tt
account_way k T m s r x t v ready kept named member owned asked by.known = known_shown k (swept m T) x.number kept
account_way k T m s r x t v ready kept named member owned asked (by.key_in_use holder) = tt
account_way k T m s r x t v ready kept named member owned asked (by.key_changed c key is there free) =
    (rekeyed_covered k T m x.number key kept, account_shown k (effect m (swept m T) (key_changed x.number key)) x.number kept)
account_way k T m s r x t v ready kept named member owned asked (by.ordered ids is few pass) =
    order_answered k T m s r x.number (kept_in (names_in ids)) ready
    (subst (KeepsAsked k (swept m T).authorizations x.number) (names_asked_for s.payload ids is few pass) asked)
account_way k T m s r x t v ready kept named member owned asked (by.account_read j) = account_shown k (swept m T) x.number kept
account_way k T m s r x t v ready kept named member owned asked (by.account_ended j here is) = (
  covered ready (ended_named T (sent s t) x.number deactivated (turned j x.number here) (ap (holds is_end) is) (owned_by T (sent s t) x refl named member)),
  account_shown k (effect m (swept m T) (account_ended x.number deactivated)) x.number kept,
)
account_way k T m s r x t v ready kept named member owned asked (by.contacts_changed j contacts here is pass) =
    (covered ready (grind (arith, turned)), account_shown k (effect m (swept m T) (contacts_changed x.number contacts)) x.number kept)
account_way k T m s r x t v ready kept named member owned asked (by.orders_listed j) =
    orders_shown k (swept m T) x.number (each _ _ (swept m T).orders (λ o f h. f refl h) owned)
account_way k T m s r x t v ready kept named member owned asked (by.order_read j o found) =
    order_shown k (swept m T) j (ready.named.order j (same_number j)) (swept_closed k T m ready.closed).listed
account_way k T m s r x t v ready kept named member owned asked (by.finalized j o text csr found stands spells) = (
  covered ready (grind (arith, same_number)),
  finalized_shown k (effect m (swept m T) (finalized j csr)) j csr (ready.named.order j (same_number j)) (listed_then (finalized j csr) ready tt),
)
account_way k T m s r x t v ready kept named member owned asked (by.certificate_read j o c found there) =
    certificate_shown k (swept m T) j (ready.named.order j (same_number j))
account_way k T m s r x t v ready kept named member owned asked (by.authorization_read j a found) =
    authorization_shown k (swept m T) j (ready.named.authorization j (same_number j))
account_way k T m s r x t v ready kept named member owned asked (by.authorization_ended j a found is live) = (
  covered ready (grind (arith, same_number)),
  authorization_shown k (effect m (swept m T) (authorization_ended j deactivated)) j (ready.named.authorization j (same_number j)),
)
account_way k T m s r x t v ready kept named member owned asked (by.challenge_read j a found) =
    client_challenge_shown k (swept m T) j (swept_names k T m (sent s t) ready.named).owner
account_way k T m s r x t v ready kept named member owned asked (by.challenge_answered j a found is waits) = (
  covered ready (grind arith),
  client_challenge_shown k (effect m (swept m T) (answered j)) j
      (owner_after k (swept m T) m (answered j) j (swept_closed k T m ready.closed) (swept_names k T m (sent s t) ready.named).owner),
)

-- by each way of a signed request
request_way : (k : Kept) (T : Tables) (m : ℕ) (r : List ℕ) (s : Signed) (t : Target) (v : Verdict) → IsReady k T m (sent s t)
    → OfRequest (swept m T) r s t v → IsAnswered k m (swept m T) v
request_way k T m r s t v ready (OfRequest.unheld u why) = tt
request_way k T m r s t v ready (OfRequest.opened key q is none asked pass) = (
  covered ready (grind arith),
  opened_shown k (effect m (swept m T) (opened key q.contacts)) (ready.closed.new_accounts (T.meta.counters.accounts + 1) (omega arith)),
)
request_way k T m r s t v ready (OfRequest.held u w key x is found valid way) =
    let own : has_key (sent s t) x.key ≡ true = held_key T s t key x is found in
    let named : is_named_account (sent s t) x ≡ true = or_left _ _ own in
    let at_x : (P : AccountRow → Type 0) → EachOf P T.accounts → P x = λ P h. each_found P _ T.accounts x h found in
    account_way k T m s r x t v ready (at_x _ ready.named.key own) named (at_x _ (each_member T.accounts))
    (at_x _ (swept_names k T m (sent s t) ready.named).orders named) (at_x _ (swept_names k T m (sent s t) ready.named).asked named) way

-- so its verdict is answered by the part
pub signed_answered : (k : Kept) (T : Tables) (m : ℕ) (r : List ℕ) (s : Signed) → IsReady k T m (ask.Signed s) →
    IsAnswered k m (swept m T) (signed_verdict (swept m T) r s)
signed_answered k T m r s ready = request_way k T m r s s.target (signed_verdict (swept m T) r s) ready (request_judged (swept m T) r s)
