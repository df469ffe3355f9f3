-- The rules on requests: which are refused, and what the others record and show, by the tables at their moment.
use Rattle.std.specs.Prelude.{ℕ, suc, zero, ◌*◌, List, [], ◌∷◌, length, take, drop, filter, Bool, false, true, not, ◌&&◌, ◌==◌, nat_le, Option, Some, None, Ok}
use Rattle.std.specs.Prelude.{Err, is_none, if◌then◌else◌, bytes_eq, option_and_then}
use Rattle.desk_model.specs.Tokens.{NonceText, nonce_in, body_matches, records_match, from_base64url}
use Rattle.desk_model.specs.Entry.{Wanted, new, reused, Ending, deactivated, revoked, Outcome, good, incorrect_response, connection, dns, OrderProblem}
use Rattle.desk_model.specs.Authorization.{Kind, http_01, dns_01, is_live, is_pending, kinds_of}
use Rattle.desk_model.specs.Tables.{Tables, AccountRow, ChallengeRow, AuthorizationRow, OrderRow}
use Rattle.desk_model.specs.Questions.{nonce_on, account_on, account_with_key, order_on, authorization_on, owner_on, challenge_of, serving_on}
use Rattle.desk_model.specs.Payload.{NewAccount, new_account, AccountChange, account_change, KeyChange, key_change, AuthorizationChange, authorization_change}
use Rattle.desk_model.specs.Payload.{ChallengeChange, challenge_change, Identifier, new_order, finalize}
use Rattle.desk_model.specs.Verdict.{Verdict, refused, key_taken, answers, opens, orders, moves, check, given, unless_fault, choose}
use Rattle.desk_model.specs.{Lookup.holds, Nonce.Nonce, Account.is_valid as is_valid_account, Contact.contacts_fault, Name.Name, Name.same_name, Names.dns_type}
use Rattle.desk_model.specs.{Names.name_of, Order.is_ready, Order.is_processing, Legal.is_problem, Legal.has_length, Legal.is_pending_challenge}
use Rattle.desk_model.specs.{Legal.is_processing_challenge, Limits.longest_certificate, Limits.longest_csr, Limits.most_names, Document.account_url}
use Rattle.desk_model.specs.{Document.expected, declared.refusal.Refusal.Refusal, declared.reply.Subproblem.Subproblem, declared.status.AuthzStatus.AuthzStatus}
use Rattle.desk_model.specs.{declared.call.OfficeAsk.OfficeAsk, declared.call.Signed.Signed, declared.call.Target.Target, declared.call.Finding.Finding}
use Rattle.desk_model.specs.Payload as payload
use Rattle.desk_model.specs.declared.refusal.Refusal.TheVariants as refusal
use Rattle.desk_model.specs.declared.verdict.Shows.TheVariants as show
use Rattle.desk_model.specs.declared.verdict.Listing.TheVariants as list
use Rattle.desk_model.specs.declared.entry.Move.TheVariants as move
use Rattle.desk_model.specs.declared.status.AuthzStatus.TheVariants as authz
use Rattle.desk_model.specs.declared.call.OfficeAsk.TheVariants as office
use Rattle.desk_model.specs.declared.call.Target.TheVariants as to
use Rattle.desk_model.specs.declared.call.Finding.TheVariants as found
use Rattle.desk_model.specs.declared.call.FetchError.TheVariants as fetch

-- ---- accounts (RFC 8555, 7.3)

-- an account is opened, or refused: only an existing one was asked for, or a contact is refused
abbrev pub open_account : List ℕ → NewAccount → Verdict
open_account key p =
    check (not p.only_existing) refusal.AccountDoesNotExist
    (unless_fault (contacts_fault p.contacts)
    (opens key p.contacts))

-- POST to an account (7.3.2, 7.3.6)
abbrev pub account_verdict : ℕ → AccountChange → Verdict
account_verdict n payload.account.Read = answers (show.Account n)
account_verdict n payload.account.Deactivate = moves (move.AccountEnded n deactivated)
account_verdict n (payload.account.Update None) = answers (show.Account n)
account_verdict n (payload.account.Update (Some contacts)) =
    unless_fault (contacts_fault contacts) (moves (move.ContactsChanged n contacts))

-- ---- key change (RFC 8555, 7.3.5)

-- the account gets the key, unless an account has it, this one or another
abbrev pub rekey_verdict : ℕ → List ℕ → Option AccountRow → Verdict
rekey_verdict n key None = moves (move.KeyChanged n key)
rekey_verdict n key (Some holder) = key_taken holder.number

-- the account has this key
abbrev pub has_this_key : Tables → ℕ → List ℕ → Bool
has_this_key T n key = holds (λ a. bytes_eq a.key key) (account_on T n)

-- the account's URL and the key that it has must be given, and a key that the desk accepts
abbrev pub key_change_verdict : Tables → ℕ → KeyChange → Verdict
key_change_verdict T n c =
    check (bytes_eq c.account (account_url T.meta.policy n) && holds (has_this_key T n) c.old_key) refusal.Malformed
    (given c.new_key refusal.BadPublicKey (λ key. rekey_verdict n key (account_with_key T key)))

-- ---- orders (RFC 8555, 7.4)

abbrev pub is_dns : Identifier → Bool
is_dns i = bytes_eq i.kind dns_type

-- why an identifier is refused, if it is: its type is not dns, or its value is no name
abbrev pub fault_of : Identifier → Option Refusal
fault_of i = if is_dns i then (if is_none (name_of i.value) then Some refusal.RejectedIdentifier else None) else Some refusal.UnsupportedIdentifier

abbrev pub and_subproblem : Option Refusal → Identifier → List Subproblem → List Subproblem
and_subproblem None i rest = rest
and_subproblem (Some why) i rest = (record { refusal = why; kind = i.kind; value = i.value }) ∷ rest

-- each identifier that is refused, in order
abbrev pub subproblems : List Identifier → List Subproblem
subproblems [] = []
subproblems (i ∷ is) = and_subproblem (fault_of i) i (subproblems is)

abbrev pub and_name : Option Name → List Name → List Name
and_name None names = names
and_name (Some name) names = name ∷ names

abbrev pub names_in : List Identifier → List Name
names_in [] = []
names_in (i ∷ is) = and_name (name_of i.value) (names_in is)

-- names that are equal keep their first place
abbrev pub kept : List Name → List Name
kept [] = []
kept (n ∷ ns) = n ∷ filter (λ other. not (same_name n other)) (kept ns)

-- so many pieces of 16 bytes
abbrev pub pieces : ℕ → List ℕ → List (List ℕ)
pieces zero random = []
pieces (suc k) random = take 16 random ∷ pieces k (drop 16 random)

-- the name gets the authorization that serves, or a new one, with the first of these random bytes as tokens
abbrev pub wanted_by : Option AuthorizationRow → Name → List ℕ → Wanted
wanted_by None name random = new name (pieces (length (kinds_of name)) random)
wanted_by (Some row) name random = reused name row.number

-- the random bytes that it leaves
abbrev pub left_by : Option AuthorizationRow → Name → List ℕ → List ℕ
left_by None name random = drop (16 * length (kinds_of name)) random
left_by (Some row) name random = random

-- each name with the authorization that it gets in an order of account n, the tokens taken in turn
abbrev pub wanted : Tables → ℕ → List Name → List ℕ → List Wanted
wanted T n [] random = []
wanted T n (name ∷ names) random =
    wanted_by (serving_on T n name) name random ∷ wanted T n names (left_by (serving_on T n name) name random)

-- refused by the first identifier that is, with all of them listed; else each name gets an authorization
abbrev pub order_of : Tables → List ℕ → ℕ → List Identifier → List Subproblem → Verdict
order_of T random n ids (s ∷ ss) = refused s.refusal (s ∷ ss)
order_of T random n ids [] = orders n (wanted T n (kept (names_in ids)) random)

abbrev pub new_order_verdict : Tables → List ℕ → ℕ → List Identifier → Verdict
new_order_verdict T random n ids = check (has_length 1 most_names ids) refusal.Malformed (order_of T random n ids (subproblems ids))

-- the names that get an authorization, where no identifier is refused
abbrev pub names_of : List Identifier → List Subproblem → Option (List Name)
names_of ids (s ∷ ss) = None
names_of ids [] = Some (kept (names_in ids))

abbrev pub names_asked : List Identifier → Option (List Name)
names_asked ids = if has_length 1 most_names ids then names_of ids (subproblems ids) else None

abbrev pub if_fits : List ℕ → Option (List ℕ)
if_fits csr = if has_length 1 longest_csr csr then Some csr else None

-- the CSR that a text spells, neither empty nor too long
abbrev pub csr_in : List ℕ → Option (List ℕ)
csr_in text = option_and_then if_fits (from_base64url text)

abbrev pub finalize_verdict : ℕ → OrderRow → List ℕ → Verdict
finalize_verdict n o text =
    check (is_ready o.status) refusal.OrderNotReady (given (csr_in text) refusal.BadCsr (λ csr. moves (move.Finalized n csr)))

-- the bytes of a valid order (7.4.2)
abbrev pub certificate_verdict : ℕ → OrderRow → Verdict
certificate_verdict n o = given o.certified refusal.NotFound (λ k. answers (show.Certificate n))

-- ---- authorizations and challenges (RFC 8555, 7.5)

-- one that is over already stays as it is (7.5.2)
abbrev pub authorization_verdict : ℕ → AuthorizationRow → AuthorizationChange → Verdict
authorization_verdict n a payload.authz.Read = answers (show.Authorization n)
authorization_verdict n a payload.authz.Deactivate =
    choose (is_live a.status) (moves (move.AuthorizationEnded n deactivated)) (answers (show.Authorization n))

-- the challenge passes, and its authorization is pending
abbrev pub stands_open : (ChallengeRow → Bool) → AuthorizationRow → ℕ → Bool
stands_open test a n = is_pending a.status && holds test (challenge_of n a)

-- an answer that comes when nothing is pending changes nothing (7.5.1)
abbrev pub challenge_verdict : ℕ → AuthorizationRow → ChallengeChange → Verdict
challenge_verdict n a payload.chall.Read = answers (show.ClientChallenge n)
challenge_verdict n a payload.chall.Answer =
    choose (stands_open (λ c. is_pending_challenge c.status) a n) (moves (move.Answered n)) (answers (show.ClientChallenge n))

-- ---- signed requests (RFC 8555, 6)

-- a payload of a route that only reads
abbrev pub nothing : List ℕ → Bool
nothing [] = true
nothing (b ∷ bs) = false

-- an object of this account
abbrev pub own : {X : Type 0} → (X → ℕ) → ℕ → Option X → Option X
own account n None = None
own account n (Some x) = if account x == n then Some x else None

-- the object is there and the account's own, the payload has its form, and the rules of the target, for account n;
-- of the payload of newAccount only the form is looked at (7.3.1)
abbrev pub target_verdict : Tables → List ℕ → ℕ → List ℕ → Target → Verdict
target_verdict T random n p to.NewAccount = given (new_account p) refusal.Malformed (λ asked. answers (show.KnownAccount n))
target_verdict T random n p to.KeyChange = given (key_change p) refusal.Malformed (key_change_verdict T n)
target_verdict T random n p to.NewOrder = given (new_order p) refusal.Malformed (new_order_verdict T random n)
target_verdict T random n p (to.Account k) = check (k == n) refusal.NotFound (given (account_change p) refusal.Malformed (account_verdict n))
target_verdict T random n p (to.Orders k) = check (k == n) refusal.NotFound (check (nothing p) refusal.Malformed (answers (show.List (list.Orders n))))
target_verdict T random n p (to.Order k) = given (own (λ o. o.account) n (order_on T k)) refusal.NotFound
    (λ o. check (nothing p) refusal.Malformed (answers (show.Order k)))
target_verdict T random n p (to.Finalize k) = given (own (λ o. o.account) n (order_on T k)) refusal.NotFound
    (λ o. given (finalize p) refusal.Malformed (finalize_verdict k o))
target_verdict T random n p (to.Cert k) = given (own (λ o. o.account) n (order_on T k)) refusal.NotFound
    (λ o. check (nothing p) refusal.Malformed (certificate_verdict k o))
target_verdict T random n p (to.Authz k) =
    given (own (λ a. a.account) n (authorization_on T k)) refusal.NotFound (λ a. given (authorization_change p) refusal.Malformed (authorization_verdict k a))
target_verdict T random n p (to.Chall k) =
    given (own (λ a. a.account) n (owner_on T k)) refusal.NotFound (λ a. given (challenge_change p) refusal.Malformed (challenge_verdict k a))

-- the account of the key is valid (6.2)
abbrev pub holder_verdict : Tables → List ℕ → List ℕ → Target → AccountRow → Verdict
holder_verdict T random p target a = check (is_valid_account a.status) refusal.Unauthorized (target_verdict T random a.number p target)

-- a key without an account: only newAccount opens one (6.2, 7.3)
abbrev pub unknown_key_verdict : List ℕ → List ℕ → Target → Verdict
unknown_key_verdict key p to.NewAccount = given (new_account p) refusal.Malformed (open_account key)
unknown_key_verdict key p _ = refused refusal.AccountDoesNotExist []

-- by the account that the key has
abbrev pub key_verdict : Tables → List ℕ → List ℕ → List ℕ → Target → Option AccountRow → Verdict
key_verdict T random key p target None = unknown_key_verdict key p target
key_verdict T random key p target (Some a) = holder_verdict T random p target a

-- a request that has passed the test of its nonce, by the tables after its nonce was spent and a fresh one issued;
-- the random bytes are those behind the fresh nonce's
abbrev pub signed_verdict : Tables → List ℕ → Signed → Verdict
signed_verdict T random s =
    elim s.key [ Err e ↦ refused refusal.BadPublicKey [] | Ok key ↦ key_verdict T random key s.payload s.target (account_with_key T key) ]

-- the row is that of the nonce which the text spells
abbrev pub if_spelled : NonceText → Option Nonce → Option ℕ
if_spelled t None = None
if_spelled t (Some n) = if bytes_eq n.random t.random then Some t.serial else None

abbrev pub open_nonce_in : Tables → Option NonceText → Option ℕ
open_nonce_in T None = None
open_nonce_in T (Some t) = if_spelled t (nonce_on T t.serial)

-- the serial of the open nonce that a request carries (6.5)
abbrev pub open_nonce : Tables → Option (List ℕ) → Option ℕ
open_nonce T text = open_nonce_in T (option_and_then nonce_in text)

-- ---- the validator, the signing office and the operator

abbrev pub judged : Bool → Outcome
judged b = if b then good else incorrect_response

-- what a finding shows: None where it is of another kind than the challenge (8.3, 8.4)
abbrev pub outcome_of : Kind → List ℕ → Finding → Option Outcome
outcome_of http_01 expected (found.Body bytes) = Some (judged (body_matches bytes expected))
outcome_of dns_01 expected (found.Body bytes) = None
outcome_of http_01 expected (found.Records records) = None
outcome_of dns_01 expected (found.Records records) = Some (judged (records_match records expected))
outcome_of kind expected (found.Error fetch.Connection) = Some connection
outcome_of kind expected (found.Error fetch.Dns) = Some dns

abbrev pub same_outcome : Outcome → Outcome → Bool
same_outcome good good = true
same_outcome incorrect_response incorrect_response = true
same_outcome connection connection = true
same_outcome dns dns = true
same_outcome _ _ = false

-- the same outcome again records nothing; another is refused where the challenge doesn't wait for one
abbrev pub outcome_verdict : ℕ → AuthzStatus → ChallengeRow → Outcome → Verdict
outcome_verdict n status c outcome =
    choose (holds (λ r. same_outcome r.outcome outcome) c.reported)
    (answers (show.Challenge n))
    (check (is_pending status && is_processing_challenge c.status) refusal.Conflict (moves (move.Reported n outcome)))

abbrev pub finding_verdict : ℕ → Finding → AuthorizationRow → ChallengeRow → Verdict
finding_verdict n finding a c = given (outcome_of c.kind (expected c) finding) refusal.Malformed (outcome_verdict n a.status c)

abbrev pub report_verdict : Tables → ℕ → Finding → Verdict
report_verdict T n finding = given (owner_on T n) refusal.NotFound (λ a. given (challenge_of n a) refusal.NotFound (finding_verdict n finding a))

abbrev pub certify_verdict : ℕ → List ℕ → OrderRow → Verdict
certify_verdict n bytes o =
    check (nat_le 1 (length bytes)) refusal.Malformed
    (check (nat_le (length bytes) longest_certificate) refusal.TooLarge
    (choose (holds (λ k. bytes_eq k.bytes bytes) o.certified)
    (answers (show.Order n))
    (check (is_processing o.status) refusal.Conflict (moves (move.Certified n bytes)))))

abbrev pub same_problem : OrderProblem → OrderProblem → Bool
same_problem a b = bytes_eq a.kind b.kind && bytes_eq a.detail b.detail

abbrev pub fail_verdict : ℕ → OrderProblem → OrderRow → Verdict
fail_verdict n problem o =
    check (is_problem problem) refusal.Malformed
    (choose (holds (λ f. same_problem f.problem problem) o.failed)
    (answers (show.Order n))
    (check (is_processing o.status) refusal.Conflict (moves (move.Failed n problem))))

abbrev pub is_revoked_status : AuthzStatus → Bool
is_revoked_status authz.Revoked = true
is_revoked_status _ = false

abbrev pub revoke_authorization : ℕ → AuthorizationRow → Verdict
revoke_authorization n a =
    choose (is_revoked_status a.status) (answers (show.Authorization n))
    (check (is_live a.status) refusal.Conflict (moves (move.AuthorizationEnded n revoked)))

abbrev pub is_revoked : Ending → Bool
is_revoked deactivated = false
is_revoked revoked = true

abbrev pub revoke_account : ℕ → AccountRow → Verdict
revoke_account n a =
    choose (holds (λ e. is_revoked e.ending) a.ended) (answers (show.Account n))
    (check (is_valid_account a.status) refusal.Conflict (moves (move.AccountEnded n revoked)))

-- what carries no nonce
abbrev pub office_verdict : Tables → OfficeAsk → Verdict
office_verdict T office.Directory = answers (show.List list.Directory)
office_verdict T (office.Report n finding) = report_verdict T n finding
office_verdict T (office.Certify n bytes) = given (order_on T n) refusal.NotFound (certify_verdict n bytes)
office_verdict T (office.FailOrder n problem) = given (order_on T n) refusal.NotFound (fail_verdict n problem)
office_verdict T (office.RevokeAuthz n) = given (authorization_on T n) refusal.NotFound (revoke_authorization n)
office_verdict T (office.RevokeAccount n) = given (account_on T n) refusal.NotFound (revoke_account n)
office_verdict T office.ChallengeWork = answers (show.List list.ChallengeWork)
office_verdict T office.OrderWork = answers (show.List list.OrderWork)
office_verdict T (office.KeyOf n) = given (account_on T n) refusal.NotFound (λ a. answers (show.Key n))
