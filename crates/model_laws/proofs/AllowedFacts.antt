-- What may follow a history is what its tables allow.
use Rattle.std.proofs.Common.{◌≡◌, ◌≤◌, ◌<◌, ℕ, ◌+◌, List, [], ◌∷◌, map, filter, Option, refl, sym, ap, ◌∙◌, true, false, Bool, arith}
use Rattle.std.specs.Prelude.{IsTrue, ◌==◌, ◌&&◌, is_some, is_none, find, bytes_eq}
use Rattle.std.specs.{List.list_any, Option.option_map}
use Rattle.desk_model.specs.Authorization.{authorizations, authorization_of, has_challenge, authorization_status, challenge_status, is_live, is_pending}
use Rattle.desk_model.specs.Legal.{EachFollows, IsFormed, may_follow, is_pending_challenge, is_processing_challenge, is_problem}
use Rattle.desk_model.specs.Tables.{account_row, challenge_row, authorization_row, order_row, tables_at}
use Rattle.desk_model.specs.declared.entry.Entry.TheVariants.{Made as made, Issued as issued, Spent as spent, Opened as opened, Failed as failed}
use Rattle.desk_model.specs.declared.entry.Entry.TheVariants.{ContactsChanged as contacts_changed, KeyChanged as key_changed, AccountEnded as account_ended}
use Rattle.desk_model.specs.declared.entry.Entry.TheVariants.{Ordered as ordered, Answered as answered, Reported as reported}
use Rattle.desk_model.specs.declared.entry.Entry.TheVariants.{AuthorizationEnded as authorization_ended, Finalized as finalized, Certified as certified}
use Rattle.desk_model.specs.{Lookup.holds, Entry.History, Contact.contacts_pass, Effect.has_row, Nonce.nonces, Nonce.is_open, Account.accounts}
use Rattle.desk_model.specs.{Account.account_by_key, Account.is_valid as is_valid_account, Order.orders, Order.is_processing, History.clock, Limits.last_moment}
use Rattle.desk_model.specs.{Allowed.may_on, Allowed.challenge_passes, declared.status.ChallengeStatus.ChallengeStatus, declared.entry.Entry.Entry}
use Rattle.desk_model.specs.{declared.objects.Authorization.Authorization, declared.objects.Challenge.Challenge, declared.objects.Nonce.Nonce}
use Rattle.model_laws.proofs.{Basics.find-map, RowFacts.has_row-row, RowLists.numbered_ascends, Numbers.nonces_numbered}
use Rattle.model_laws.specs.{Later.IsLater, Ordered.Ascends}

-- a test of what a map makes
holds-map : {X Y : Type 0} (test : Y → Bool) (f : X → Y) (o : Option X) → holds test (option_map f o) ≡ holds (λ x. test (f x)) o
holds-map test f o = grind arith

-- a look-up in rows is one in what they are of
pub row_holds : {X Y : Type 0} (test p : Y → Bool) (row : X → Y) (xs : List X) →
    holds test (find p (map row xs)) ≡ holds (λ x. test (row x)) (find (λ x. p (row x)) xs)
row_holds test p row xs = ap (holds test) (find-map p row xs) ∙ holds-map test row (find (λ x. p (row x)) xs)

-- equal tests find the same
find-same : {X : Type 0} (p q : X → Bool) (xs : List X) → ((x : X) → p x ≡ q x) → find p xs ≡ find q xs
find-same p q xs h = grind arith

-- ---- challenges

-- the row of a challenge that stands in an authorization has the status that the history gives
challenge_found : (F : History) (test : ChallengeStatus → Bool) (n account : ℕ) (cs : List Challenge) → list_any (λ c. n == c.number) cs ≡ true →
    holds (λ c. test c.status) (find (λ c. n == c.number) (map (challenge_row F account) cs)) ≡ test (challenge_status n F)
challenge_found F test n account [] h = cc
challenge_found F test n account (c ∷ cs) h = grind (arith, (challenge_found F test n account cs))

-- a challenge passes by the tables where it passes by the history
challenge_allowed : (F : History) (m : ℕ) (test : ChallengeStatus → Bool) (n : ℕ) →
    (holds (λ a. is_pending (authorization_status a F m)) (authorization_of n F) && test (challenge_status n F))
    ≡ challenge_passes test (tables_at F m) n
challenge_allowed F m test n =
    go (authorizations F)
    ∙ sym (row_holds (λ a. is_pending a.status && holds (λ c. test c.status) (find (λ c. n == c.number) a.challenges)) (has_row n)
    (authorization_row F m) (authorizations F)
    ∙ ap (holds (λ a. is_pending (authorization_status a F m)
    && holds (λ c. test c.status) (find (λ c. n == c.number) (map (challenge_row F a.account) a.challenges)))) (find-same (λ a. has_row n
    (authorization_row F m a)) (has_challenge n) (authorizations F) (λ a. has_row-row n F m a)))
  where
    go : (xs : List Authorization) → (holds (λ a. is_pending (authorization_status a F m)) (find (has_challenge n) xs) && test (challenge_status n F))
        ≡ holds (λ a. is_pending (authorization_status a F m)
        && holds (λ c. test c.status) (find (λ c. n == c.number) (map (challenge_row F a.account) a.challenges))) (find (has_challenge n) xs)
    go [] = refl
    go (x ∷ xs) = grind (arith, challenge_found, (go xs))

-- ---- nonces

-- no serial below all others is found
none_above : (q : Nonce → Bool) (k n : ℕ) (xs : List Nonce) → k < n → Ascends (λ x. x.serial) n xs → is_some (find (λ x. x.serial == k) (filter q xs)) ≡ false
none_above q k n [] lt h = refl
none_above q k n (x ∷ xs) lt h = grind (arith, (none_above q k (x.serial + 1) xs (let up : n ≤ x.serial = h.0 in omega arith) h.1))

-- an open nonce is one that stands among the open ones
nonce_open : (q : Nonce → Bool) (k n : ℕ) (xs : List Nonce) → Ascends (λ x. x.serial) n xs →
    holds q (find (λ x. x.serial == k) xs) ≡ is_some (find (λ x. x.serial == k) (filter q xs))
nonce_open q k n [] h = refl
nonce_open q k n (x ∷ xs) h = grind (arith, none_above, (nonce_open q k (x.serial + 1) xs h.1))

-- ---- keys

-- no account has the key where no row has it
unkeyed : (F : History) (key : List ℕ) → is_none (account_by_key key F) ≡ is_none (find (λ a. bytes_eq a.key key) (map (account_row F) (accounts F)))
unkeyed F key = grind (arith, find-map)

-- ---- every kind but the first

-- what may follow, by the history and by its tables
pub allowed : (F : History) (e : Entry) (m : ℕ) → IsLater e → may_follow F e m ≡ may_on (tables_at F m) e
allowed F (made t) m h = absurd h
allowed F (issued r) m h = refl
allowed F (spent n) m h = nonce_open (is_open F m) n 1 (nonces F) (numbered_ascends (λ x. x.serial) 1 (nonces F) (nonces_numbered F))
allowed F (opened key cs) m h = ap (λ b. b && contacts_pass cs) (unkeyed F key)
allowed F (contacts_changed n cs) m h = grind (arith, row_holds)
allowed F (key_changed n key) m h = grind (arith, row_holds, unkeyed)
allowed F (account_ended n s) m h = sym (row_holds (λ a. is_valid_account a.status) (λ a. a.number == n) (account_row F) (accounts F))
allowed F (ordered n ws) m h = grind (arith, row_holds)
allowed F (answered n) m h = challenge_allowed F m is_pending_challenge n
allowed F (reported n o) m h = challenge_allowed F m is_processing_challenge n
allowed F (authorization_ended n s) m h = sym (row_holds (λ a. is_live a.status) (λ a. a.number == n) (authorization_row F m) (authorizations F))
allowed F (finalized n csr) m h = grind (arith, row_holds)
allowed F (certified n c) m h = grind (arith, row_holds)
allowed F (failed n f) m h = ap (λ b. b && is_problem f) (sym (row_holds (λ o. is_processing o.status) (λ o. o.number == n) (order_row F m) (orders F)))

-- what the tables allow keeps the history legal
pub legal_grows : (F : History) (e : Entry) (m : ℕ) → EachFollows F → clock F ≤ m → m ≤ last_moment → IsLater e → IsFormed e →
    IsTrue (may_on (tables_at F m) e) →
    EachFollows (record { date = m; entry = e } ∷ F)
legal_grows F e m each le fits later formed may = grind (arith, allowed)
