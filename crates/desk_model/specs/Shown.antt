-- Replies: what each shows, by the tables after its entries.
use Rattle.std.specs.Prelude.{ℕ, ◌+◌, List, [], take, Bool, false, Option, Some, None, if◌then◌else◌}
use Rattle.serde_json.specs.Data.{Data}
use Rattle.desk_model.specs.declared.{refusal.Refusal.Refusal, verdict.Listing.Listing, entry.Move.Move, reply.Subproblem.Subproblem, reply.Body.Body}
use Rattle.desk_model.specs.declared.refusal.Refusal.TheVariants as refusal
use Rattle.desk_model.specs.{Tokens.nonce_text, Order.DatedBytes, Refusals.refusal_of, Verdict.Shows}
use Rattle.desk_model.specs.Tables.{Tables, AccountRow, ChallengeRow, AuthorizationRow, OrderRow}
use Rattle.desk_model.specs.Questions.{account_on, order_on, authorization_on, owner_on, challenge_of}
use Rattle.desk_model.specs.Document.{directory, account_url, order_url, authorization_url, account_document, order_document, orders_document}
use Rattle.desk_model.specs.Document.{authorization_document, challenge_document, challenge_work, order_work, key_document}
use Rattle.desk_model.specs.declared.verdict.Shows.TheVariants as show
use Rattle.desk_model.specs.declared.verdict.Listing.TheVariants as list
use Rattle.desk_model.specs.declared.entry.Move.TheVariants as move
use Rattle.desk_model.specs.declared.reply.Allow.TheVariants as allow
pub use Rattle.desk_model.specs.declared.reply.Reply.{Reply}
use Rattle.desk_model.specs.declared.reply.Body.TheVariants as body

abbrev pub plain : ℕ → Body → Reply
plain status b = record { status = status; location = None; up = None; nonce = None; body = b }

abbrev pub ok : ℕ → Data → Reply
ok status d = plain status (body.Json d)

abbrev pub at : List ℕ → Reply → Reply
at location r = record r { location = Some location }

abbrev pub below : List ℕ → Reply → Reply
below up r = record r { up = Some up }

abbrev pub with_nonce : List ℕ → Reply → Reply
with_nonce text r = record r { nonce = Some text }

-- a refusal; index: whether the reply has the link to the directory
abbrev pub refusal_reply : Bool → Refusal → List Subproblem → Reply
refusal_reply index why subproblems =
    plain (refusal_of why).status (body.Problem (record { refusal = why; subproblems = subproblems; allow = allow.No; index = index }))

-- a key that is asked for has this account (7.3.5)
abbrev pub taken_reply : Bool → Tables → ℕ → Reply
taken_reply index T n = at (account_url T.meta.policy n) (refusal_reply index refusal.KeyInUse [])

-- the reply to newNonce (RFC 8555, 7.2)
abbrev pub nonce_reply : Bool → Reply
nonce_reply head = plain (if head then 200 else 204) body.Empty

-- an object that is not there
abbrev pub not_found : Reply
not_found = refusal_reply false refusal.NotFound []

-- what is shown of an object
abbrev pub shown : {X : Type 0} → (X → Reply) → Option X → Reply
shown f None = not_found
shown f (Some x) = f x

abbrev pub account_reply : ℕ → Tables → AccountRow → Reply
account_reply status T a = ok status (account_document T.meta.policy a)

abbrev pub located_account : ℕ → Tables → AccountRow → Reply
located_account status T a = at (account_url T.meta.policy a.number) (account_reply status T a)

abbrev pub order_reply : ℕ → Tables → OrderRow → Reply
order_reply status T o = ok status (order_document T o)

abbrev pub located_order : ℕ → Tables → OrderRow → Reply
located_order status T o = at (order_url T.meta.policy o.number) (order_reply status T o)

abbrev pub certificate_reply : Option DatedBytes → Reply
certificate_reply None = not_found
certificate_reply (Some k) = plain 200 (body.Certificate k.bytes)

abbrev pub authorization_reply : Tables → AuthorizationRow → Reply
authorization_reply T a = ok 200 (authorization_document T.meta.policy a)

abbrev pub challenge_reply : Tables → ChallengeRow → Reply
challenge_reply T c = ok 200 (challenge_document T.meta.policy c)

-- the challenge of this number in its authorization
abbrev pub challenge_in : Tables → ℕ → AuthorizationRow → Reply
challenge_in T n a = shown (challenge_reply T) (challenge_of n a)

-- a challenge shown to a client names its authorization (7.5.1)
abbrev pub client_challenge_in : Tables → ℕ → AuthorizationRow → Reply
client_challenge_in T n a = below (authorization_url T.meta.policy a.number) (challenge_in T n a)

-- the directory, and lists
abbrev pub list_reply : Tables → Listing → Reply
list_reply T list.Directory = ok 200 (directory T.meta.policy)
list_reply T (list.Orders n) = ok 200 (orders_document T n)
list_reply T list.ChallengeWork = ok 200 (challenge_work T)
list_reply T list.OrderWork = ok 200 (order_work T)

-- what a request shows that records nothing
abbrev pub reply_of : Tables → Shows → Reply
reply_of T (show.List what) = list_reply T what
reply_of T (show.Account n) = shown (account_reply 200 T) (account_on T n)
reply_of T (show.KnownAccount n) = shown (located_account 200 T) (account_on T n)
reply_of T (show.Order n) = shown (order_reply 200 T) (order_on T n)
reply_of T (show.Certificate n) = shown (λ o. certificate_reply o.certified) (order_on T n)
reply_of T (show.Authorization n) = shown (authorization_reply T) (authorization_on T n)
reply_of T (show.Challenge n) = shown (challenge_in T n) (owner_on T n)
reply_of T (show.ClientChallenge n) = shown (client_challenge_in T n) (owner_on T n)
reply_of T (show.Key n) = shown (λ a. ok 200 (key_document a.key)) (account_on T n)

-- the account that was opened last (7.3)
abbrev pub made_account : Tables → Reply
made_account T = shown (located_account 201 T) (account_on T T.meta.counters.accounts)

-- the order that was made last (7.4)
abbrev pub made_order : Tables → Reply
made_order T = shown (located_order 201 T) (order_on T T.meta.counters.orders)

-- the object that a move names, by the tables after it; an order that is finalized is shown with its Location (7.4)
abbrev pub moved_reply : Tables → Move → Reply
moved_reply T (move.ContactsChanged n contacts) = reply_of T (show.Account n)
moved_reply T (move.KeyChanged n key) = reply_of T (show.Account n)
moved_reply T (move.AccountEnded n ending) = reply_of T (show.Account n)
moved_reply T (move.Answered n) = reply_of T (show.ClientChallenge n)
moved_reply T (move.Reported n outcome) = reply_of T (show.Challenge n)
moved_reply T (move.AuthorizationEnded n ending) = reply_of T (show.Authorization n)
moved_reply T (move.Finalized n csr) = shown (located_order 200 T) (order_on T n)
moved_reply T (move.Certified n certificate) = reply_of T (show.Order n)
moved_reply T (move.Failed n problem) = reply_of T (show.Order n)

-- the text of the nonce that is issued next
abbrev pub fresh_nonce : Tables → List ℕ → List ℕ
fresh_nonce T random = nonce_text (T.meta.counters.nonces + 1) (take 16 random)
