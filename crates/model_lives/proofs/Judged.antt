-- The ways through the rules: each verdict that a request or an ask comes to, with what is known where it is given.
use Rattle.std.proofs.Common.{◌≡◌, ℕ, List, [], length, Option, Some, None, Ok, true, arith}
use Rattle.std.specs.Prelude.{◌==◌, ◌&&◌, nat_le}
use Rattle.desk_model.specs.Payload.{account_change, authorization_change, challenge_change, key_change, new_account, new_order}
use Rattle.desk_model.specs.Rules.{certificate_verdict, open_account, office_verdict, rekey_verdict, signed_verdict, stands_open, subproblems, target_verdict}
use Rattle.desk_model.specs.Rules.{csr_in, kept, names_in, order_of, wanted}
use Rattle.desk_model.specs.declared.verdict.Verdict.TheVariants.{Refused as refused, KeyTaken as key_taken, Answers as answers, Orders as orders}
use Rattle.desk_model.specs.declared.verdict.Verdict.TheVariants.{Opens as opens, Moves as moves}
use Rattle.desk_model.specs.{Asked.has_key, Legal.is_pending_challenge, declared.call.Finding.Finding, declared.call.Signed.Signed, declared.call.Target.Target}
use Rattle.desk_model.specs.{Legal.has_length, Legal.is_problem, Questions.owner_on, Verdict.check, Verdict.given, Tables.Tables, Order.is_ready}
use Rattle.desk_model.specs.{Legal.is_processing_challenge, declared.entry.Outcome.Outcome, declared.rows.OrderRow.OrderRow, declared.verdict.Verdict.Verdict}
use Rattle.desk_model.specs.{Questions.account_on, Questions.order_on, Verdict.unless_fault, Authorization.is_live, Order.is_processing, declared.call.Ask.Ask}
use Rattle.desk_model.specs.{Questions.account_with_key, Questions.authorization_on, Questions.challenge_of, Contact.contacts_fault, Limits.longest_certificate}
use Rattle.desk_model.specs.{Verdict.choose, declared.entry.Ending.TheVariants.Deactivated as deactivated, declared.entry.Ending.TheVariants.Revoked as revoked}
use Rattle.desk_model.specs.{Account.is_valid as is_valid_account, declared.payload.Identifier.Identifier, declared.payload.NewAccount.NewAccount}
use Rattle.desk_model.specs.{Authorization.is_pending, declared.call.OfficeAsk.OfficeAsk, declared.refusal.Refusal.Refusal, declared.rows.AccountRow.AccountRow}
use Rattle.desk_model.specs.{Limits.most_names, declared.rows.DatedBytes.DatedBytes, declared.payload.KeyChange.KeyChange, declared.reply.Subproblem.Subproblem}
use Rattle.desk_model.specs.{declared.call.OrderProblem.OrderProblem, declared.rows.AuthorizationRow.AuthorizationRow, declared.rows.ChallengeRow.ChallengeRow}
use Rattle.model_laws.proofs.Finds.{found_passes}
use Rattle.desk_model.specs.declared.call.Ask.TheVariants as ask
use Rattle.desk_model.specs.declared.call.OfficeAsk.TheVariants as office
use Rattle.desk_model.specs.declared.call.Target.TheVariants as to
use Rattle.desk_model.specs.declared.entry.Move.TheVariants as move
use Rattle.desk_model.specs.declared.payload.AccountChange.TheVariants as change
use Rattle.desk_model.specs.declared.payload.AuthorizationChange.TheVariants as authz_change
use Rattle.desk_model.specs.declared.payload.ChallengeChange.TheVariants as chall_change
use Rattle.desk_model.specs.declared.refusal.Refusal.TheVariants as refusal
use Rattle.desk_model.specs.declared.verdict.Listing.TheVariants as listing
use Rattle.desk_model.specs.declared.verdict.Shows.TheVariants as show

-- ---- signed requests

-- what a request of account n with payload p comes to, by its target
pub data OfAccount (T : Tables) (r : List ℕ) (n : ℕ) (p : List ℕ) : Target → Verdict → Type 0 where
  turned_away : (t : Target) (why : Refusal) (ss : List Subproblem) → OfAccount T r n p t (refused why ss)
  known : OfAccount T r n p to.NewAccount (answers (show.KnownAccount n))
  key_in_use : (holder : ℕ) → OfAccount T r n p to.KeyChange (key_taken holder)
  key_changed : (c : KeyChange) (key : List ℕ) → key_change p ≡ Some c → c.new_key ≡ Some key → account_with_key T key ≡ None
      → OfAccount T r n p to.KeyChange (moves (move.KeyChanged n key))
  ordered : (ids : List Identifier) → new_order p ≡ Some ids → has_length 1 most_names ids ≡ true → subproblems ids ≡ []
      → OfAccount T r n p to.NewOrder (orders n (wanted T n (kept (names_in ids)) r))
  account_read : (k : ℕ) → OfAccount T r n p (to.Account k) (answers (show.Account n))
  account_ended : (k : ℕ) → (k == n) ≡ true → account_change p ≡ Some change.Deactivate
      → OfAccount T r n p (to.Account k) (moves (move.AccountEnded n deactivated))
  contacts_changed : (k : ℕ) (contacts : List (List ℕ)) → (k == n) ≡ true → account_change p ≡ Some (change.Update (Some contacts))
      → contacts_fault contacts ≡ None → OfAccount T r n p (to.Account k) (moves (move.ContactsChanged n contacts))
  orders_listed : (k : ℕ) → OfAccount T r n p (to.Orders k) (answers (show.List (listing.Orders n)))
  order_read : (k : ℕ) (o : OrderRow) → order_on T k ≡ Some o → OfAccount T r n p (to.Order k) (answers (show.Order k))
  finalized : (k : ℕ) (o : OrderRow) (text csr : List ℕ) → order_on T k ≡ Some o → is_ready o.status ≡ true → csr_in text ≡ Some csr
      → OfAccount T r n p (to.Finalize k) (moves (move.Finalized k csr))
  certificate_read : (k : ℕ) (o : OrderRow) (c : DatedBytes) → order_on T k ≡ Some o → o.certified ≡ Some c
      → OfAccount T r n p (to.Cert k) (answers (show.Certificate k))
  authorization_read : (k : ℕ) (a : AuthorizationRow) → authorization_on T k ≡ Some a → OfAccount T r n p (to.Authz k) (answers (show.Authorization k))
  authorization_ended : (k : ℕ) (a : AuthorizationRow) → authorization_on T k ≡ Some a → authorization_change p ≡ Some authz_change.Deactivate
      → is_live a.status ≡ true → OfAccount T r n p (to.Authz k) (moves (move.AuthorizationEnded k deactivated))
  challenge_read : (k : ℕ) (a : AuthorizationRow) → owner_on T k ≡ Some a → OfAccount T r n p (to.Chall k) (answers (show.ClientChallenge k))
  challenge_answered : (k : ℕ) (a : AuthorizationRow) → owner_on T k ≡ Some a → challenge_change p ≡ Some chall_change.Answer
      → stands_open (λ c. is_pending_challenge c.status) a k ≡ true → OfAccount T r n p (to.Chall k) (moves (move.Answered k))

-- what a signed request comes to, by its target: it has no account that is valid, it opens one, or its account's rules decide
pub data OfRequest (T : Tables) (r : List ℕ) (s : Signed) : Target → Verdict → Type 0 where
  unheld : (t : Target) (why : Refusal) → OfRequest T r s t (refused why [])
  opened : (key : List ℕ) (q : NewAccount) → s.key ≡ Ok key → account_with_key T key ≡ None → new_account s.payload ≡ Some q
      → contacts_fault q.contacts ≡ None → OfRequest T r s to.NewAccount (opens key q.contacts)
  held : (t : Target) (v : Verdict) (key : List ℕ) (x : AccountRow) → s.key ≡ Ok key → account_with_key T key ≡ Some x → is_valid_account x.status ≡ true
      → OfAccount T r x.number s.payload t v → OfRequest T r s t v

-- the request to a target
abbrev pub sent : Signed → Target → Ask
sent s t = ask.Signed (record s { target = t })

-- its account is the one that it names by its key
pub held_key : (T : Tables) (s : Signed) (t : Target) (key : List ℕ) (x : AccountRow) → s.key ≡ Ok key → account_with_key T key ≡ Some x
    → has_key (sent s t) x.key ≡ true
held_key T s t key x is found = grind (arith, found_passes)

-- a key that is changed
key_way : (T : Tables) (r : List ℕ) (n : ℕ) (p : List ℕ) (c : KeyChange) (key : List ℕ) → key_change p ≡ Some c → c.new_key ≡ Some key
    → OfAccount T r n p to.KeyChange (rekey_verdict n key (account_with_key T key))
key_way T r n p c key is there = grind (arith, key_in_use, key_changed)

-- a new order
order_way : (T : Tables) (r : List ℕ) (n : ℕ) (p : List ℕ) (ids : List Identifier) → new_order p ≡ Some ids → has_length 1 most_names ids ≡ true
    → OfAccount T r n p to.NewOrder (order_of T r n ids (subproblems ids))
order_way T r n p ids is few = grind (arith, turned_away, ordered)

-- the certificate of an order
certificate_way : (T : Tables) (r : List ℕ) (n : ℕ) (p : List ℕ) (k : ℕ) (o : OrderRow) → order_on T k ≡ Some o
    → OfAccount T r n p (to.Cert k) (certificate_verdict k o)
unfolding given
certificate_way T r n p k o found = grind (arith, turned_away, certificate_read)

-- each target comes to its verdict by one of the ways
target_judged : (T : Tables) (r : List ℕ) (n : ℕ) (p : List ℕ) (t : Target) → OfAccount T r n p t (target_verdict T r n p t)
unfolding given check choose unless_fault
target_judged T r n p to.NewAccount = grind (arith, turned_away, known)
target_judged T r n p to.KeyChange = grind (arith, turned_away, key_way)
target_judged T r n p to.NewOrder = grind (arith, turned_away, order_way)
target_judged T r n p (to.Account k) = grind (arith, turned_away, account_read, account_ended, contacts_changed)
target_judged T r n p (to.Orders k) = grind (arith, turned_away, orders_listed)
target_judged T r n p (to.Order k) = grind (arith, turned_away, order_read)
target_judged T r n p (to.Finalize k) = grind (arith, turned_away, finalized)
target_judged T r n p (to.Cert k) = grind (arith, turned_away, certificate_way)
target_judged T r n p (to.Authz k) = grind (arith, turned_away, authorization_read, authorization_ended)
target_judged T r n p (to.Chall k) = grind (arith, turned_away, challenge_read, challenge_answered)

-- an account that is opened
open_way : (T : Tables) (r : List ℕ) (s : Signed) (key : List ℕ) → s.key ≡ Ok key → account_with_key T key ≡ None → (o : Option NewAccount)
    → new_account s.payload ≡ o → OfRequest T r s to.NewAccount (given o refusal.Malformed (open_account key))
unfolding given check unless_fault
open_way T r s key is none o asked = grind (arith, unheld, opened)

-- each signed request does
pub request_judged : (T : Tables) (r : List ℕ) (s : Signed) → OfRequest T r s s.target (signed_verdict T r s)
unfolding check
request_judged T r s = grind (arith, unheld, held, open_way, target_judged)

-- ---- the other asks

-- what an ask of the validator, the signing office or the operator comes to
pub data OfOffice (T : Tables) : OfficeAsk → Verdict → Type 0 where
  declined : (a : OfficeAsk) (why : Refusal) → OfOffice T a (refused why [])
  directory_listed : OfOffice T office.Directory (answers (show.List listing.Directory))
  challenge_work_listed : OfOffice T office.ChallengeWork (answers (show.List listing.ChallengeWork))
  order_work_listed : OfOffice T office.OrderWork (answers (show.List listing.OrderWork))
  report_shown : (n : ℕ) (finding : Finding) (a : AuthorizationRow) → owner_on T n ≡ Some a → OfOffice T (office.Report n finding) (answers (show.Challenge n))
  reported : (n : ℕ) (finding : Finding) (a : AuthorizationRow) (c : ChallengeRow) (outcome : Outcome) → owner_on T n ≡ Some a → challenge_of n a ≡ Some c
      → (is_pending a.status && is_processing_challenge c.status) ≡ true → OfOffice T (office.Report n finding) (moves (move.Reported n outcome))
  certificate_shown : (n : ℕ) (bytes : List ℕ) (o : OrderRow) → order_on T n ≡ Some o → OfOffice T (office.Certify n bytes) (answers (show.Order n))
  certified : (n : ℕ) (bytes : List ℕ) (o : OrderRow) → order_on T n ≡ Some o → nat_le 1 (length bytes) ≡ true
      → nat_le (length bytes) longest_certificate ≡ true → is_processing o.status ≡ true
      → OfOffice T (office.Certify n bytes) (moves (move.Certified n bytes))
  failure_shown : (n : ℕ) (problem : OrderProblem) (o : OrderRow) → order_on T n ≡ Some o → OfOffice T (office.FailOrder n problem) (answers (show.Order n))
  failed : (n : ℕ) (problem : OrderProblem) (o : OrderRow) → order_on T n ≡ Some o → is_problem problem ≡ true → is_processing o.status ≡ true
      → OfOffice T (office.FailOrder n problem) (moves (move.Failed n problem))
  authorization_shown : (n : ℕ) (a : AuthorizationRow) → authorization_on T n ≡ Some a → OfOffice T (office.RevokeAuthz n) (answers (show.Authorization n))
  authorization_revoked : (n : ℕ) (a : AuthorizationRow) → authorization_on T n ≡ Some a → is_live a.status ≡ true
      → OfOffice T (office.RevokeAuthz n) (moves (move.AuthorizationEnded n revoked))
  account_shown : (n : ℕ) (x : AccountRow) → account_on T n ≡ Some x → OfOffice T (office.RevokeAccount n) (answers (show.Account n))
  account_revoked : (n : ℕ) (x : AccountRow) → account_on T n ≡ Some x → is_valid_account x.status ≡ true
      → OfOffice T (office.RevokeAccount n) (moves (move.AccountEnded n revoked))
  key_shown : (n : ℕ) (x : AccountRow) → account_on T n ≡ Some x → OfOffice T (office.KeyOf n) (answers (show.Key n))

-- each other ask does
pub office_judged : (T : Tables) (a : OfficeAsk) → OfOffice T a (office_verdict T a)
unfolding given check choose
office_judged T office.Directory = directory_listed
office_judged T (office.Report n finding) = grind (arith, declined, report_shown, reported)
office_judged T (office.Certify n bytes) = grind (arith, declined, certificate_shown, certified)
office_judged T (office.FailOrder n problem) = grind (arith, declined, failure_shown, failed)
office_judged T (office.RevokeAuthz n) = grind (arith, declined, authorization_shown, authorization_revoked)
office_judged T (office.RevokeAccount n) = grind (arith, declined, account_shown, account_revoked)
office_judged T office.ChallengeWork = challenge_work_listed
office_judged T office.OrderWork = order_work_listed
office_judged T (office.KeyOf n) = grind (arith, declined, key_shown)
