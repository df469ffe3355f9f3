-- A part that keeps what is shown gives the same reply.
use Rattle.std.proofs.Common.{◌≡◌, ℕ, ◌+◌, ◌<◌, List, [], ◌∷◌, map, filter, refl, sym, ap, ◌∙◌, true, Bool, arith, rules}
use Rattle.std.proofs.lemmas.Bool.{and_parts}
use Rattle.std.specs.Prelude.{◌==◌, codes}
use Rattle.serde_json.specs.Data.{Data, string}
use Rattle.desk_model.specs.Document.{and_row, is_listed, key_document, order_document, order_url, order_with_names, rows_of}
use Rattle.desk_model.specs.Effect.{effect, fresh_authorization, has_row, moved_authorization, moved_order, new_authorizations, touches_order}
use Rattle.desk_model.specs.Shown.{at, account_reply, authorization_reply, certificate_reply, challenge_in, client_challenge_in, located_account, made_account}
use Rattle.desk_model.specs.Shown.{made_order, moved_reply, ok, reply_of, shown}
use Rattle.desk_model.specs.{Json.document, Json.list, Derived.numbers_of, Derived.restated_authorization, Questions.order_on, Tables.Tables}
use Rattle.desk_model.specs.{declared.entry.Entry.Entry, declared.reply.Reply.Reply, Kept.EachOf, Kept.IsClosed, Kept.Kept, Kept.restricted}
use Rattle.desk_model.specs.declared.rows.{AccountRow.AccountRow, AuthorizationRow.AuthorizationRow, OrderRow.OrderRow}
use Rattle.desk_model.specs.declared.verdict.Shows.TheVariants as show
use Rattle.desk_model.specs.declared.verdict.Listing.TheVariants as listing
use Rattle.desk_model.specs.declared.entry.Move.TheVariants as move
use Rattle.model_laws.specs.Parts.{FreshKept}
use Rattle.model_laws.proofs.{Basics.each, Basics.each-append, Basics.each-map, Basics.one_kept, Chain.order_number, Chain.up_kept, Local.filter_part}
use Rattle.model_laws.proofs.{Local.find_kept, Local.moved_number, Recorded.made_up, MovedRows.has_row-moved, Finds.each_found, Finds.found_passes}
use Rattle.model_parts.proofs.{Listed.KeepsListed, Verdicts.account_same, Verdicts.authorization_same, Verdicts.order_same, Verdicts.owner_same}

-- ---- what a part keeps after an entry

-- a moved order lists what it listed
moved_listed : (e : Entry) (m : ℕ) (before after : List AuthorizationRow) (row : OrderRow)
    → numbers_of (moved_order e m before after row).listed ≡ numbers_of row.listed
moved_listed e m before after row = one_kept (λ (o : OrderRow). numbers_of o.listed) (touches_order e before row) _ row refl

-- with an order what it lists
pub listed_after : (k : Kept) (S : Tables) (m : ℕ) (e : Entry) → IsClosed k S → FreshKept k S m e → KeepsListed k (effect m S e)
listed_after k S m e closed fresh = search (rules, each-append, each-map, each, moved_listed, order_number)

-- the authorization of a challenge, among numbers that have all new ones
pub owner_then : (w : ℕ → Bool) (S : Tables) (m : ℕ) (e : Entry) (n : ℕ) → ((j : ℕ) → S.meta.counters.authorizations < j → w j ≡ true) →
    EachOf (λ r. has_row n r ≡ true → w r.number ≡ true) S.authorizations →
    EachOf (λ r. has_row n r ≡ true → w r.number ≡ true) (effect m S e).authorizations
owner_then w S m e n new h =
    each-append _ (map (moved_authorization e m S.accounts) S.authorizations) _
    (each-map _ (moved_authorization e m S.accounts) S.authorizations
    (each _ _ S.authorizations (λ r f has. ap w (moved_number e m S.accounts r) ∙ f (sym (has_row-moved n e m S.accounts r) ∙ has)) h))
    (each _ _ (map (λ a. restated_authorization m (fresh_authorization a)) (new_authorizations S e m)) (λ r f has. f)
    (up_kept (λ (a : AuthorizationRow). a.number) w S.meta.counters.authorizations new (S.meta.counters.authorizations + 1) (omega arith) _
    (made_up e m S.meta.policy.authz_life (S.meta.counters.authorizations + 1) (S.meta.counters.challenges + 1))))

-- so in a closed part
pub owner_after : (k : Kept) (S : Tables) (m : ℕ) (e : Entry) (n : ℕ) → IsClosed k S
    → EachOf (λ r. has_row n r ≡ true → k.authorizations r.number ≡ true) S.authorizations →
    EachOf (λ r. has_row n r ≡ true → k.authorizations r.number ≡ true) (effect m S e).authorizations
owner_after k S m e n closed h = owner_then k.authorizations S m e n closed.new_authorizations h

-- ---- what is shown

pub account_shown : (k : Kept) (E : Tables) (n : ℕ) → k.accounts n ≡ true → reply_of (restricted k E) (show.Account n) ≡ reply_of E (show.Account n)
account_shown k E n h = ap (shown (account_reply 200 E)) (account_same k E n h)

pub known_shown : (k : Kept) (E : Tables) (n : ℕ) → k.accounts n ≡ true → reply_of (restricted k E) (show.KnownAccount n) ≡ reply_of E (show.KnownAccount n)
known_shown k E n h = ap (shown (located_account 200 E)) (account_same k E n h)

pub opened_shown : (k : Kept) (E : Tables) → k.accounts E.meta.counters.accounts ≡ true → made_account (restricted k E) ≡ made_account E
opened_shown k E h = ap (shown (located_account 201 E)) (account_same k E E.meta.counters.accounts h)

pub key_shown : (k : Kept) (E : Tables) (n : ℕ) → k.accounts n ≡ true → reply_of (restricted k E) (show.Key n) ≡ reply_of E (show.Key n)
key_shown k E n h = ap (shown (λ (a : AccountRow). ok 200 (key_document a.key))) (account_same k E n h)

pub authorization_shown : (k : Kept) (E : Tables) (n : ℕ) → k.authorizations n ≡ true
    → reply_of (restricted k E) (show.Authorization n) ≡ reply_of E (show.Authorization n)
authorization_shown k E n h = ap (shown (authorization_reply E)) (authorization_same k E n h)

pub challenge_shown : (k : Kept) (E : Tables) (n : ℕ) → EachOf (λ r. has_row n r ≡ true → k.authorizations r.number ≡ true) E.authorizations →
    reply_of (restricted k E) (show.Challenge n) ≡ reply_of E (show.Challenge n)
challenge_shown k E n h = ap (shown (challenge_in E n)) (owner_same k E n h)

pub client_challenge_shown : (k : Kept) (E : Tables) (n : ℕ) → EachOf (λ r. has_row n r ≡ true → k.authorizations r.number ≡ true) E.authorizations →
    reply_of (restricted k E) (show.ClientChallenge n) ≡ reply_of E (show.ClientChallenge n)
client_challenge_shown k E n h = ap (shown (client_challenge_in E n)) (owner_same k E n h)

pub certificate_shown : (k : Kept) (E : Tables) (n : ℕ) → k.orders n ≡ true → reply_of (restricted k E) (show.Certificate n) ≡ reply_of E (show.Certificate n)
certificate_shown k E n h = ap (shown (λ (o : OrderRow). certificate_reply o.certified)) (order_same k E n h)

-- the orders of an account
pub orders_shown : (k : Kept) (E : Tables) (n : ℕ) → EachOf (λ o. (o.account == n) ≡ true → k.orders o.number ≡ true) E.orders →
    reply_of (restricted k E) (show.List (listing.Orders n)) ≡ reply_of E (show.List (listing.Orders n))
orders_shown k E n h =
    ap (λ rows. ok 200 (document ((codes "orders", list (map (λ (o : OrderRow). string (order_url E.meta.policy o.number)) rows)) ∷ [])))
    (filter_part (is_listed n) (λ (o : OrderRow). k.orders o.number) E.orders
    (each _ _ E.orders (λ o f l. f (and_parts (o.account == n) _ l).0) h))

-- what an order lists
pub rows_same : (k : Kept) (rows : List AuthorizationRow) (ns : List ℕ) → EachOf (λ n. k.authorizations n ≡ true) ns →
    rows_of (filter (λ a. k.authorizations a.number) rows) ns ≡ rows_of rows ns
rows_same k rows [] h = refl
rows_same k rows (n ∷ ns) h = λ i. and_row (find_kept (λ (a : AuthorizationRow). a.number) k.authorizations n rows h.0 i) (rows_same k rows ns h.1 i)

document_same : (k : Kept) (E : Tables) (o : OrderRow) → EachOf (λ n. k.authorizations n ≡ true) (numbers_of o.listed) →
    order_document (restricted k E) o ≡ order_document E o
document_same k E o h = ap (λ rows. order_with_names E.meta.policy (map (λ a. a.name) rows) o) (rows_same k E.authorizations (numbers_of o.listed) h)

-- shown by any reply that takes its document
order_by : (k : Kept) (E : Tables) (n : ℕ) (f : OrderRow → Data → Reply) → k.orders n ≡ true → KeepsListed k E →
    shown (λ o. f o (order_document (restricted k E) o)) (order_on (restricted k E) n) ≡ shown (λ o. f o (order_document E o)) (order_on E n)
order_by k E n f h listed = grind (arith, order_same, found_passes, document_same, each_found)

pub order_shown : (k : Kept) (E : Tables) (n : ℕ) → k.orders n ≡ true → KeepsListed k E → reply_of (restricted k E) (show.Order n) ≡ reply_of E (show.Order n)
order_shown k E n h listed = order_by k E n (λ o d. ok 200 d) h listed

pub made_shown : (k : Kept) (E : Tables) → k.orders E.meta.counters.orders ≡ true → KeepsListed k E → made_order (restricted k E) ≡ made_order E
made_shown k E h listed = order_by k E E.meta.counters.orders (λ o d. at (order_url E.meta.policy o.number) (ok 201 d)) h listed

pub finalized_shown : (k : Kept) (E : Tables) (n : ℕ) (csr : List ℕ) → k.orders n ≡ true → KeepsListed k E →
    moved_reply (restricted k E) (move.Finalized n csr) ≡ moved_reply E (move.Finalized n csr)
finalized_shown k E n csr h listed = order_by k E n (λ o d. at (order_url E.meta.policy o.number) (ok 200 d)) h listed
