-- Of what a call neither names nor moves authorizations need no challenges: the verdict, what it records and what it shows stay the same.
use Rattle.std.proofs.Common.{◌≡◌, ℕ, List, [], ◌∷◌, find, Option, Some, None, refl, sym, ap, subst, ◌∙◌, true, Bool, arith, rules}
use Rattle.std.proofs.lemmas.Bool.{eqb-true, or_left}
use Rattle.std.specs.Prelude.{◌==◌, option_map}
use Rattle.serde_json.specs.Data.{Data}
use Rattle.desk_model.specs.Effect.{effect, effects, has_row, is_overdue, swept, touches_authorization}
use Rattle.desk_model.specs.Questions.{account_on, account_with_key, authorization_on, order_end, order_on, owner_on, serves, serving_on}
use Rattle.desk_model.specs.Rules.{authorization_verdict, certify_verdict, key_verdict, new_order_verdict, office_verdict, revoke_authorization, signed_verdict}
use Rattle.desk_model.specs.Rules.{fail_verdict, kept, names_in, open_nonce, order_of, own, subproblems, target_verdict, wanted}
use Rattle.desk_model.specs.Shown.{at, authorization_reply, certificate_reply, challenge_in, client_challenge_in, moved_reply, ok, reply_of, shown}
use Rattle.desk_model.specs.declared.entry.Entry.TheVariants.{Answered as answered, Issued as issued, Ordered as ordered, Spent as spent}
use Rattle.desk_model.specs.declared.verdict.Verdict.TheVariants.{Answers as answers, Moves as moves, Opens as opens, Orders as orders}
use Rattle.desk_model.specs.{Asked.asks_authorizations, Asked.names_authorization, Document.order_document, Touched.is_named_account, declared.entry.Move.Move}
use Rattle.desk_model.specs.{Asked.names_owner, Document.order_url, Payload.new_order, Kept.EachOf, Decide.entries_of, Limits.most_names, declared.call.Ask.Ask}
use Rattle.desk_model.specs.{Legal.has_length, declared.call.Signed.Signed, declared.call.Target.Target, declared.entry.Entry.Entry, declared.reply.Reply.Reply}
use Rattle.desk_model.specs.{Payload.authorization_change, declared.rows.OrderRow.OrderRow, declared.verdict.Shows.Shows, declared.verdict.Verdict.Verdict}
use Rattle.desk_model.specs.{Account.is_valid as is_valid_account, declared.payload.Identifier.Identifier, declared.rows.AuthorizationRow.AuthorizationRow}
use Rattle.desk_model.specs.{Entry.entry_of, Lookup.holds, Name.Name, Tables.Tables, Verdict.check, Verdict.given}
use Rattle.desk_model.specs.{Decide.verdict_reply, declared.call.OfficeAsk.OfficeAsk, declared.reply.Subproblem.Subproblem, declared.rows.AccountRow.AccountRow}
use Rattle.model_laws.proofs.Basics.{each, each_all, each-map, find-map}
use Rattle.model_laws.proofs.{Finds.each_found, Finds.found_passes, Plain.issued_effect, Plain.spent_effect}
use Rattle.model_parts.specs.AnswersAs.{AnswersAs, CarriesOutAs, IssuesAs, PassesAs, SettlesAs}
use Rattle.model_parts.specs.{MinimalPart.is_end, MinimalPart.changes_statuses, Thinned.all_whole, Thinned.with_challenges}
use Rattle.model_parts.proofs.Trimming.{AllWhole, AreWhole, NewWhole, trimmed, effects_trimmed, find_changed, recorded_trimmed, row_whole, swept_trimmed, those}
use Rattle.model_parts.proofs.Trimming.{touches_trimmed}
use Rattle.model_lives.proofs.Judged.{OfAccount as by, OfOffice as way, OfRequest, held_key, office_judged, request_judged, sent}
use Rattle.model_parts.proofs.Thin.{carries_thin, found_thin, rows_thin, whole_orders}
use Rattle.model_parts.proofs.{Replies.owner_then, Lists.same_number, Verdicts.own_same, Walks.IsNoWork}
use Rattle.desk_model.specs.declared.call.Ask.TheVariants as ask
use Rattle.desk_model.specs.declared.call.OfficeAsk.TheVariants as office
use Rattle.desk_model.specs.declared.call.Target.TheVariants as to
use Rattle.desk_model.specs.declared.entry.Move.TheVariants as move
use Rattle.desk_model.specs.declared.refusal.Refusal.TheVariants as refusal
use Rattle.desk_model.specs.declared.verdict.Listing.TheVariants as listing
use Rattle.desk_model.specs.declared.verdict.Shows.TheVariants as show

-- ---- what is asked of the rows

-- what an ask names, and what an account has that may end, is in whole
pub record KeepsWhole (w : ℕ → Bool) (S : Tables) (a : Ask) : Type 0 where
  pub authorization : (n : ℕ) → names_authorization a n ≡ true → w n ≡ true
  pub owner : AreWhole w (names_owner a) S.authorizations
  pub own : EachOf (λ x. is_named_account a x ≡ true → changes_statuses a ≡ true → asks_authorizations a ≡ true →
      AreWhole w (λ r. x.number == r.account) S.authorizations) S.accounts

-- so is what is shown
abbrev shows_whole : (ℕ → Bool) → Tables → Shows → Type 0
shows_whole w S (show.Authorization n) = w n ≡ true
shows_whole w S (show.Challenge n) = AreWhole w (has_row n) S.authorizations
shows_whole w S (show.ClientChallenge n) = AreWhole w (has_row n) S.authorizations
shows_whole w S (show.List listing.ChallengeWork) = ⊥
shows_whole w S (show.List listing.OrderWork) = ⊥
shows_whole w S _ = Unit {0}

-- what a move touches and shows
abbrev moves_whole : (ℕ → Bool) → Tables → Move → Type 0
moves_whole w S (move.Answered n) = AreWhole w (has_row n) S.authorizations
moves_whole w S (move.Reported n outcome) = AreWhole w (has_row n) S.authorizations
moves_whole w S (move.AuthorizationEnded n ending) = w n ≡ true
moves_whole w S (move.AccountEnded n ending) = AreWhole w (λ r. n == r.account) S.authorizations
moves_whole w S _ = Unit {0}

-- and what a verdict shows or moves
abbrev pub ActsOnWhole : (ℕ → Bool) → Tables → Verdict → Type 0
ActsOnWhole w S (answers what) = shows_whole w S what
ActsOnWhole w S (moves m) = moves_whole w S m
ActsOnWhole w S _ = Unit {0}

-- ---- look-ups

-- the authorization of a challenge, where it is in whole
owner_trimmed : (w : ℕ → Bool) (S : Tables) (n : ℕ) → AreWhole w (has_row n) S.authorizations → owner_on (trimmed w S) n ≡ owner_on S n
owner_trimmed w S n h =
    find_changed (has_row n) (with_challenges (those w)) S.authorizations
    (each _ _ S.authorizations (λ r k. (touches_trimmed w (answered n) r k, λ so. row_whole w r (k so))) h)

-- an authorization that is found by its number, in whole or not
found_trimmed : (w : ℕ → Bool) (S : Tables) (n : ℕ) → authorization_on (trimmed w S) n ≡ option_map (with_challenges (those w)) (authorization_on S n)
found_trimmed w S n = found_thin (those w) n S.authorizations

-- an authorization that is in whole
authorization_trimmed : (w : ℕ → Bool) (S : Tables) (n : ℕ) → w n ≡ true → authorization_on (trimmed w S) n ≡ authorization_on S n
authorization_trimmed w S n h = grind (arith, found_trimmed, row_whole, found_passes)

-- an order
order_trimmed : (w : ℕ → Bool) (S : Tables) (n : ℕ) → order_on (trimmed w S) n ≡ order_on S n
order_trimmed w S n = ap (find (λ o. o.number == n)) (whole_orders S.orders)

-- the authorization that serves a name, in whole or not
serving_trimmed : (w : ℕ → Bool) (S : Tables) (n : ℕ) (name : Name) → serving_on (trimmed w S) n name ≡ option_map (with_challenges (those w)) (serving_on S n
    name)
serving_trimmed w S n name = find-map (serves n name (order_end S)) (with_challenges (those w)) S.authorizations

-- ---- the verdict

-- what the names of an order want
wanted_trimmed : (w : ℕ → Bool) (S : Tables) (n : ℕ) (names : List Name) (random : List ℕ) → wanted (trimmed w S) n names random ≡ wanted S n names random
wanted_trimmed w S n [] random = refl
wanted_trimmed w S n (name ∷ names) random = grind (arith, serving_trimmed)

-- a new order
new_order_trimmed : (w : ℕ → Bool) (S : Tables) (random : List ℕ) (n : ℕ) (ids : List Identifier) →
    new_order_verdict (trimmed w S) random n ids ≡ new_order_verdict S random n ids
new_order_trimmed w S random n ids = ap (check (has_length 1 most_names ids) refusal.Malformed) (by (subproblems ids))
  where
    by : (ss : List Subproblem) → order_of (trimmed w S) random n ids ss ≡ order_of S random n ids ss
    by [] = ap (orders n) (wanted_trimmed w S n (kept (names_in ids)) random)
    by (s ∷ ss) = refl

-- an authorization is judged by its status
judged_trimmed : (w : ℕ → Bool) (S : Tables) (n : ℕ) (p : List ℕ) (j : ℕ) →
    given (own (λ (a : AuthorizationRow). a.account) n (authorization_on (trimmed w S) j)) refusal.NotFound
    (λ a. given (authorization_change p) refusal.Malformed (authorization_verdict j a))
    ≡ given (own (λ (a : AuthorizationRow). a.account) n (authorization_on S j)) refusal.NotFound
    (λ a. given (authorization_change p) refusal.Malformed (authorization_verdict j a))
unfolding given
judged_trimmed w S n p j = grind (arith, found_trimmed)

-- a request of an account, by its target
target_trimmed : (w : ℕ → Bool) (S : Tables) (r : List ℕ) (n : ℕ) (s : Signed) (t : Target) → KeepsWhole w S (sent s t) →
    target_verdict (trimmed w S) r n s.payload t ≡ target_verdict S r n s.payload t
target_trimmed w S r n s to.NewOrder h = λ i. given (new_order s.payload) refusal.Malformed (λ ids. new_order_trimmed w S r n ids i)
target_trimmed w S r n s (to.Order j) h = own_same _ n _ _ _ (order_trimmed w S j)
target_trimmed w S r n s (to.Finalize j) h = own_same _ n _ _ _ (order_trimmed w S j)
target_trimmed w S r n s (to.Cert j) h = own_same _ n _ _ _ (order_trimmed w S j)
target_trimmed w S r n s (to.Authz j) h = judged_trimmed w S n s.payload j
target_trimmed w S r n s (to.Chall j) h = own_same _ n _ _ _ (owner_trimmed w S j h.owner)
target_trimmed w S r n s _ h = refl

-- by the account with its key
key_trimmed : (w : ℕ → Bool) (S : Tables) (r key : List ℕ) (s : Signed) (t : Target) → KeepsWhole w S (sent s t) → (o : Option AccountRow) →
    key_verdict (trimmed w S) r key s.payload t o ≡ key_verdict S r key s.payload t o
key_trimmed w S r key s t h None = refl
key_trimmed w S r key s t h (Some x) = ap (check (is_valid_account x.status) refusal.Unauthorized) (target_trimmed w S r x.number s t h)

-- a signed request
pub signed_trimmed : (w : ℕ → Bool) (S : Tables) (r : List ℕ) (s : Signed) → KeepsWhole w S (ask.Signed s) → signed_verdict (trimmed w S) r s
    ≡ signed_verdict S r s
signed_trimmed w S r s h = grind (arith, (λ (key : List ℕ). key_trimmed w S r key s s.target h (account_with_key S key)))

-- an authorization that the operator revokes
revoked_trimmed : (w : ℕ → Bool) (S : Tables) (n : ℕ) →
    given (authorization_on (trimmed w S) n) refusal.NotFound (revoke_authorization n) ≡ given (authorization_on S n) refusal.NotFound (revoke_authorization n)
unfolding given
revoked_trimmed w S n = grind (arith, found_trimmed)

-- what carries no nonce
pub office_trimmed : (w : ℕ → Bool) (S : Tables) (a : OfficeAsk) → KeepsWhole w S (ask.Office a) → office_verdict (trimmed w S) a ≡ office_verdict S a
office_trimmed w S (office.Report n finding) h = grind (arith, owner_trimmed)
office_trimmed w S (office.Certify n bytes) h = ap (λ x. given x refusal.NotFound (certify_verdict n bytes)) (order_trimmed w S n)
office_trimmed w S (office.FailOrder n problem) h = ap (λ x. given x refusal.NotFound (fail_verdict n problem)) (order_trimmed w S n)
office_trimmed w S (office.RevokeAuthz n) h = revoked_trimmed w S n
office_trimmed w S _ h = refl

-- ---- what is shown

-- an order by any reply that takes its document, which shows names
order_by_trimmed : (w : ℕ → Bool) (E : Tables) (n : ℕ) (f : OrderRow → Data → Reply) →
    shown (λ o. f o (order_document (trimmed w E) o)) (order_on (trimmed w E) n) ≡ shown (λ o. f o (order_document E o)) (order_on E n)
order_by_trimmed w E n f = search (rules, order_trimmed, rows_thin)

-- what shows rows in whole shows the same
reply_trimmed : (w : ℕ → Bool) (E : Tables) (what : Shows) → shows_whole w E what → reply_of (trimmed w E) what ≡ reply_of E what
reply_trimmed w E (show.List (listing.Orders n)) h = grind (arith, whole_orders)
reply_trimmed w E (show.List listing.ChallengeWork) h = absurd h
reply_trimmed w E (show.List listing.OrderWork) h = absurd h
reply_trimmed w E (show.Order n) h = order_by_trimmed w E n (λ o d. ok 200 d)
reply_trimmed w E (show.Certificate n) h = ap (shown (λ (o : OrderRow). certificate_reply o.certified)) (order_trimmed w E n)
reply_trimmed w E (show.Authorization n) h = ap (shown (authorization_reply E)) (authorization_trimmed w E n h)
reply_trimmed w E (show.Challenge n) h = ap (shown (challenge_in E n)) (owner_trimmed w E n h)
reply_trimmed w E (show.ClientChallenge n) h = ap (shown (client_challenge_in E n)) (owner_trimmed w E n h)
reply_trimmed w E _ h = refl

-- so does the reply to a move
moved_reply_trimmed : (w : ℕ → Bool) (m : ℕ) (S : Tables) (v : Move) → NewWhole w S → moves_whole w S v →
    moved_reply (trimmed w (effect m S (entry_of v))) v ≡ moved_reply (effect m S (entry_of v)) v
moved_reply_trimmed w m S (move.Answered n) new h =
    reply_trimmed w (effect m S (entry_of (move.Answered n))) (show.ClientChallenge n) (owner_then w S m (entry_of (move.Answered n)) n new h)
moved_reply_trimmed w m S (move.Reported n outcome) new h =
    reply_trimmed w (effect m S (entry_of (move.Reported n outcome))) (show.Challenge n) (owner_then w S m (entry_of (move.Reported n outcome)) n new h)
moved_reply_trimmed w m S (move.AuthorizationEnded n ending) new h =
    reply_trimmed w (effect m S (entry_of (move.AuthorizationEnded n ending))) (show.Authorization n) h
moved_reply_trimmed w m S (move.Finalized n csr) new h =
    order_by_trimmed w (effect m S (entry_of (move.Finalized n csr))) n (λ o d. at (order_url S.meta.policy o.number) (ok 200 d))
moved_reply_trimmed w m S (move.Certified n certificate) new h = order_by_trimmed w (effect m S (entry_of (move.Certified n certificate))) n (λ o d. ok 200 d)
moved_reply_trimmed w m S (move.Failed n problem) new h = order_by_trimmed w (effect m S (entry_of (move.Failed n problem))) n (λ o d. ok 200 d)
moved_reply_trimmed w m S _ new h = refl

-- by the tables after its entries
verdict_reply_trimmed : (w : ℕ → Bool) (m : ℕ) (S : Tables) (v : Verdict) (index : Bool) → NewWhole w S → ActsOnWhole w S v →
    verdict_reply index (trimmed w (effects m S (entries_of v))) v ≡ verdict_reply index (effects m S (entries_of v)) v
verdict_reply_trimmed w m S (answers what) index new h = reply_trimmed w S what h
verdict_reply_trimmed w m S (orders account ws) index new h =
    let E : Tables = effect m S (ordered account ws) in
    order_by_trimmed w E E.meta.counters.orders (λ o d. at (order_url E.meta.policy o.number) (ok 201 d))
verdict_reply_trimmed w m S (moves v) index new h = moved_reply_trimmed w m S v new h
verdict_reply_trimmed w m S _ index new h = refl

-- ---- what is touched

-- what a move touches
move_touches : (w : ℕ → Bool) (S : Tables) (v : Move) → moves_whole w S v → AreWhole w (touches_authorization (entry_of v)) S.authorizations
move_touches w S (move.AccountEnded n ending) h = h
move_touches w S (move.Answered n) h = h
move_touches w S (move.Reported n outcome) h = h
move_touches w S (move.AuthorizationEnded n ending) h = each_all _ S.authorizations (λ r yes. subst (λ j. w j ≡ true) (eqb-true n r.number yes) h)
move_touches w S _ h = each_all _ S.authorizations (λ r yes. cc)

-- what a verdict's entries touch
verdict_touches : (w : ℕ → Bool) (m : ℕ) (S : Tables) (v : Verdict) → ActsOnWhole w S v → AllWhole w m S (entries_of v)
verdict_touches w m S v h = grind (arith, each_all, move_touches)

-- nonces touch none of them
nonces_touch : (w : ℕ → Bool) (m : ℕ) (S : Tables) (n : ℕ) (r : List ℕ) (es : List Entry) → AllWhole w m (effect m (effect m S (spent n)) (issued r)) es →
    AllWhole w m S (spent n ∷ issued r ∷ es)
nonces_touch w m S n r es h = grind (arith, each_all)

-- also behind them
later_touches : (w : ℕ → Bool) (m : ℕ) (S : Tables) (n : ℕ) (r : List ℕ) (v : Verdict) → ActsOnWhole w S v → AllWhole w m S (spent n ∷ issued r ∷ entries_of v)
later_touches w m S n r v h = nonces_touch w m S n r (entries_of v) (by v h)
  where
    U : Tables
    U = effect m (effect m S (spent n)) (issued r)

    rows : U.authorizations ≡ S.authorizations
    rows = ap (λ (E : Tables). E.authorizations) (issued_effect m (effect m S (spent n)) r) ∙ ap (λ (E : Tables). E.authorizations) (spent_effect m S n)

    by : (v : Verdict) → ActsOnWhole w S v → AllWhole w m U (entries_of v)
    by (opens key contacts) k = (each_all _ U.authorizations (λ r yes. cc), tt)
    by (orders account ws) k = (each_all _ U.authorizations (λ r yes. cc), tt)
    by (moves v) k = (subst (AreWhole w (touches_authorization (entry_of v))) (sym rows) (move_touches w S v k), tt)
    by _ k = tt

-- ---- the walk: each verdict shows and moves what is in whole

-- an account that is revoked ends with its authorizations
revoked_on_whole : (w : ℕ → Bool) (S : Tables) (n : ℕ) (x : AccountRow) → KeepsWhole w S (ask.Office (office.RevokeAccount n)) → account_on S n ≡ Some x
    → AreWhole w (λ r. n == r.account) S.authorizations
revoked_on_whole w S n x h found =
    let here : (x.number == n) ≡ true = found_passes (λ y. y.number == n) S.accounts x found in
    subst (λ j. AreWhole w (λ r. j == r.account) S.authorizations) (eqb-true x.number n here)
    (each_found _ (λ y. y.number == n) S.accounts x h.own found here refl refl)

-- by each way of what carries no nonce
office_way : (w : ℕ → Bool) (S : Tables) (a : OfficeAsk) (v : Verdict) → IsNoWork a → KeepsWhole w S (ask.Office a) → way S a v → ActsOnWhole w S v
office_way w S a v none h (way.report_shown n finding r found) = h.owner
office_way w S a v none h (way.reported n finding r c outcome found there waits) = h.owner
office_way w S a v none h (way.authorization_shown n r found) = h.authorization n (same_number n)
office_way w S a v none h (way.authorization_revoked n r found live) = h.authorization n (same_number n)
office_way w S a v none h (way.account_revoked n x found valid) = revoked_on_whole w S n x h found
office_way w S a v none h way.challenge_work_listed = absurd none
office_way w S a v none h way.order_work_listed = absurd none
office_way w S a v none h _ = tt

-- so its verdict acts on what is in whole
pub office_on_whole : (w : ℕ → Bool) (S : Tables) (a : OfficeAsk) → IsNoWork a → KeepsWhole w S (ask.Office a) → ActsOnWhole w S (office_verdict S a)
office_on_whole w S a none h = office_way w S a (office_verdict S a) none h (office_judged S a)

-- an account that ends, ends with its authorizations
account_way : (w : ℕ → Bool) (S : Tables) (r : List ℕ) (x : AccountRow) (s : Signed) (t : Target) (v : Verdict) → KeepsWhole w S (sent s t) →
    (changes_statuses (sent s t) ≡ true → asks_authorizations (sent s t) ≡ true → AreWhole w (λ r. x.number == r.account) S.authorizations) →
    by S r x.number s.payload t v → ActsOnWhole w S v
account_way w S r x s t v h own_whole (by.account_ended k here is) = own_whole (ap (holds is_end) is) refl
account_way w S r x s t v h own_whole (by.authorization_read k a found) = h.authorization k (same_number k)
account_way w S r x s t v h own_whole (by.authorization_ended k a found is live) = h.authorization k (same_number k)
account_way w S r x s t v h own_whole (by.challenge_read k a found) = h.owner
account_way w S r x s t v h own_whole (by.challenge_answered k a found is waits) = h.owner
account_way w S r x s t v h own_whole _ = tt

-- by each way of a signed request
request_way : (w : ℕ → Bool) (S : Tables) (r : List ℕ) (s : Signed) (t : Target) (v : Verdict) → KeepsWhole w S (sent s t) → OfRequest S r s t v
    → ActsOnWhole w S v
request_way w S r s t v h (OfRequest.held u j key x is found valid way) =
    account_way w S r x s t v h (each_found _ _ S.accounts x h.own found (or_left _ _ (held_key S s t key x is found))) way
request_way w S r s t v h _ = tt

-- so its verdict does
pub signed_on_whole : (w : ℕ → Bool) (S : Tables) (r : List ℕ) (s : Signed) → KeepsWhole w S (ask.Signed s) → ActsOnWhole w S (signed_verdict S r s)
signed_on_whole w S r s h = request_way w S r s s.target (signed_verdict S r s) h (request_judged S r s)

-- ---- each ask

-- the passing of time leaves what is in whole
swept_on_whole : (w : ℕ → Bool) (S : Tables) (m : ℕ) (a : Ask) → KeepsWhole w S a → KeepsWhole w (swept m S) a
swept_on_whole w S m a h = grind (arith, each-map, each)

module _ (T S : Tables) (m : ℕ) (w : ℕ → Bool) (new : NewWhole w S) (past : AreWhole w (is_overdue m) S.authorizations) where
  -- such a verdict is carried out the same
  carried_trimmed : (v : Verdict) → ActsOnWhole w (swept m S) v → CarriesOutAs m T S v → CarriesOutAs m T (trimmed w S) v
  carried_trimmed v wholly h =
      carries_thin T S m v (those w) all_whole
      (ap (λ U. effects m U (entries_of v)) (swept_trimmed w m S)
      ∙ effects_trimmed w m (swept m S) (entries_of v) new (verdict_touches w m (swept m S) v wholly))
      (λ index. verdict_reply_trimmed w m (swept m S) v index new wholly) h

  -- a nonce is issued the same
  issues_trimmed : IssuesAs m T S → IssuesAs m T (trimmed w S)
  issues_trimmed h =
      record { records = λ r. recorded_trimmed w m S (issued r ∷ []) new past (each_all _ (swept m S).authorizations (λ r yes. cc), tt) ∙ h.records r }

  -- a signed request is answered the same
  passes_trimmed : (s : Signed) → KeepsWhole w S (ask.Signed s) → PassesAs m s T S → PassesAs m s T (trimmed w S)
  passes_trimmed s kept h =
      record {
        nonce = ap (λ U. open_nonce U s.nonce) (swept_trimmed w m S) ∙ h.nonce;
        issues = issues_trimmed h.issues;
        judged = λ r. ap (λ U. signed_verdict U r s) (swept_trimmed w m S) ∙ signed_trimmed w (swept m S) r s whole ∙ h.judged r;
        verdict = λ r. carried_trimmed (signed_verdict (swept m T) r s) (wholly r) (h.verdict r);
        records = λ r n fresh.
            recorded_trimmed w m S (spent n ∷ issued fresh ∷ entries_of (signed_verdict (swept m T) r s)) new past
            (later_touches w m (swept m S) n fresh (signed_verdict (swept m T) r s) (wholly r))
            ∙ h.records r n fresh;
      }
    where
      whole : KeepsWhole w (swept m S) (ask.Signed s)
      whole = swept_on_whole w S m (ask.Signed s) kept

      wholly : (r : List ℕ) → ActsOnWhole w (swept m S) (signed_verdict (swept m T) r s)
      wholly r = subst (ActsOnWhole w (swept m S)) (h.judged r) (signed_on_whole w (swept m S) r s whole)

  -- what is judged so is in whole
  office_wholly : (a : OfficeAsk) → IsNoWork a → KeepsWhole w S (ask.Office a) → SettlesAs m a T S → ActsOnWhole w (swept m S) (office_verdict (swept m T) a)
  office_wholly a none kept h = subst (ActsOnWhole w (swept m S)) h.judged (office_on_whole w (swept m S) a none (swept_on_whole w S m (ask.Office a) kept))

  -- and so is what carries no nonce
  settles_trimmed : (a : OfficeAsk) → IsNoWork a → KeepsWhole w S (ask.Office a) → SettlesAs m a T S → SettlesAs m a T (trimmed w S)
  settles_trimmed a none kept h =
      search (rules, swept_trimmed, swept_on_whole, office_trimmed, office_wholly, carried_trimmed, recorded_trimmed, verdict_touches)

-- the lists of work apart
abbrev pub IsNoList : Ask → Type 0
IsNoList (ask.Office a) = IsNoWork a
IsNoList _ = Unit {0}

-- rows that answer an ask answer it without challenges, but for those of what it names or may move
pub answers_trimmed : (T S : Tables) (m : ℕ) (w : ℕ → Bool) (a : Ask) → IsNoList a → NewWhole w S → AreWhole w (is_overdue m) S.authorizations →
    KeepsWhole w S a → AnswersAs m a T S → AnswersAs m a T (trimmed w S)
answers_trimmed T S m w (ask.NewNonce head) none new past kept h = issues_trimmed T S m w new past h
answers_trimmed T S m w (ask.Signed s) none new past kept h = passes_trimmed T S m w new past s kept h
answers_trimmed T S m w (ask.Office a) none new past kept h = settles_trimmed T S m w new past a none kept h
