-- Numbers: how they are given, and that an entry names only such as were given.
use Rattle.std.proofs.Common.{◌≡◌, ◌≤◌, ◌<◌, ℕ, ◌+◌, List, [], ◌∷◌, ◌++◌, length, Option, None, refl, subst, true, Bool, arith, length-append}
use Rattle.std.proofs.lemmas.Bool.{and_parts}
use Rattle.std.specs.{Prelude.◌==◌, Prelude.find, List.list_any}
use Rattle.desk_model.specs.History.{terms, first, latest, earlier}
use Rattle.desk_model.specs.Authorization.{authorizations, has_challenge, made_by, made_for, kinds_of, challenges_from, count_challenges}
use Rattle.desk_model.specs.declared.entry.Entry.TheVariants.{Spent as spent, ContactsChanged as contacts_changed, KeyChanged as key_changed, Failed as failed}
use Rattle.desk_model.specs.declared.entry.Entry.TheVariants.{AccountEnded as account_ended, Ordered as ordered, Answered as answered, Reported as reported}
use Rattle.desk_model.specs.declared.entry.Entry.TheVariants.{AuthorizationEnded as authorization_ended, Finalized as finalized, Certified as certified}
use Rattle.desk_model.specs.{Entry.History, Lookup.holds, Kept.EachOf, Nonce.nonces, Account.accounts, Order.orders, Order.ordered_by, Legal.EachFollows}
use Rattle.desk_model.specs.{Legal.may_follow, Legal.may_want, declared.entry.Dated.Dated, declared.entry.Entry.Entry, declared.entry.Wanted.Wanted}
use Rattle.desk_model.specs.{declared.objects.Authorization.Authorization, declared.objects.Challenge.Challenge, declared.status.Kind.Kind}
use Rattle.desk_model.specs.{declared.objects.Order.Order, declared.entry.Wanted.TheVariants.New, declared.entry.Wanted.TheVariants.Reused}
use Rattle.model_laws.proofs.{Basics.each, Basics.IsNumbered, Basics.numbered-append, NewOrders.may_be_ordered, NewOrders.of_reused, NewOrders.reused_pass}
use Rattle.model_laws.proofs.{OrderFacts.authorizations_numbered}
use Rattle.model_laws.specs.{Given.Counts, Given.counts, Given.NamesGiven}

-- ---- facts that no entry states

-- what no entry states is no first fact
pub no_first : {X : Type 0} (fact : Dated → Option X) (F : History) → EachOf (λ d. fact d ≡ None) F → first fact F ≡ None
no_first fact [] h = refl
no_first fact (e ∷ F) h = λ i. earlier (no_first fact F h.1 i) (h.0 i)

-- nor a latest one
pub no_latest : {X : Type 0} (fact : Dated → Option X) (F : History) → EachOf (λ d. fact d ≡ None) F → latest fact F ≡ None
no_latest fact [] h = refl
no_latest fact (e ∷ F) h = λ i. earlier (h.0 i) (no_latest fact F h.1 i)

-- where there is no first fact, no entry states one
pub first_no : {X : Type 0} (fact : Dated → Option X) (F : History) → first fact F ≡ None → EachOf (λ d. fact d ≡ None) F
first_no fact [] h = tt
first_no fact (e ∷ F) h = grind (arith, (first_no fact F))

-- ---- numbers

-- no count is greater
record IsWithin (c d : Counts) : Type 0 where
  nonces : c.nonces ≤ d.nonces
  accounts : c.accounts ≤ d.accounts
  orders : c.orders ≤ d.orders
  authorizations : c.authorizations ≤ d.authorizations
  challenges : c.challenges ≤ d.challenges

-- what was given stays given
names_more : (c d : Counts) → IsWithin c d → (e : Entry) → NamesGiven c e → NamesGiven d e
names_more c d w (spent n) h = omega (arith, w.nonces)
names_more c d w (contacts_changed n cs) h = omega (arith, w.accounts)
names_more c d w (key_changed n key) h = omega (arith, w.accounts)
names_more c d w (account_ended n s) h = omega (arith, w.accounts)
names_more c d w (ordered n ws) h =
    let account : n ≤ c.accounts = h.0 in
    (omega (arith, w.accounts), each _ _ ws (of_reused _ _ (λ k (le : k ≤ c.authorizations). omega (arith, w.authorizations))) h.1)
names_more c d w (answered n) h = omega (arith, w.challenges)
names_more c d w (reported n o) h = omega (arith, w.challenges)
names_more c d w (authorization_ended n s) h = omega (arith, w.authorizations)
names_more c d w (finalized n bytes) h = omega (arith, w.orders)
names_more c d w (certified n bytes) h = omega (arith, w.orders)
names_more c d w (failed n f) h = omega (arith, w.orders)
names_more c d w _ h = tt

-- challenges of two lists
pub count-append : (xs ys : List Authorization) → count_challenges (xs ++ ys) ≡ count_challenges xs + count_challenges ys
count-append [] ys = omega arith
count-append (x ∷ xs) ys = omega (arith, count-append xs ys)

-- what the entry makes
abbrev pub made_now : Dated → History → List Authorization
made_now e F = made_by e.entry e.date (terms F).authz_life (length (authorizations F) + 1) (count_challenges (authorizations F) + 1)

-- the order that the entry makes
abbrev pub ordered_now : Dated → History → List Order
ordered_now e F = ordered_by e.entry e.date (terms F) (length (authorizations F) + 1) (length (orders F) + 1)

-- what is found by its number is among the first
found_below : {X : Type 0} (number : X → ℕ) (n k : ℕ) (xs : List X) (test : X → Bool) → IsNumbered number n xs →
    holds test (find (λ x. number x == k) xs) ≡ true → k < n + length xs
found_below number n k [] test h is = cc
found_below number n k (x ∷ xs) test h is = grind (arith, (found_below number (n + 1) k xs test h.1))

-- where they count up from 1, its number is not greater than theirs
found_given : {X : Type 0} (number : X → ℕ) (k : ℕ) (xs : List X) (test : X → Bool) → IsNumbered number 1 xs →
    holds test (find (λ x. number x == k) xs) ≡ true → k ≤ length xs
found_given number k xs test h is = let below : k < 1 + length xs = found_below number 1 k xs test h is in omega arith

-- serials of nonces count up from 1
pub nonces_numbered : (F : History) → IsNumbered (λ n. n.serial) 1 (nonces F)
nonces_numbered [] = tt
nonces_numbered (e ∷ F) = grind (arith, numbered-append, (nonces_numbered F))

-- numbers of accounts count up from 1
pub accounts_numbered : (F : History) → IsNumbered (λ a. a.number) 1 (accounts F)
accounts_numbered [] = tt
accounts_numbered (e ∷ F) = grind (arith, numbered-append, (accounts_numbered F))

-- numbers of orders count up from 1
pub orders_numbered : (F : History) → IsNumbered (λ o. o.number) 1 (orders F)
orders_numbered [] = tt
orders_numbered (e ∷ F) = grind (arith, numbered-append, (orders_numbered F))

-- the challenges' numbers count up through all authorizations
abbrev pub AreNumbered : ℕ → List Authorization → Type 0
AreNumbered n [] = Unit {0}
AreNumbered n (a ∷ rest) = IsNumbered (λ c. c.number) n a.challenges × AreNumbered (n + length a.challenges) rest

-- challenges that are made count up
pub challenges_numbered : (n : ℕ) (ks : List Kind) (tokens : List (List ℕ)) → IsNumbered (λ c. c.number) n (challenges_from n ks tokens)
challenges_numbered n [] tokens = tt
challenges_numbered n (k ∷ ks) [] = tt
challenges_numbered n (k ∷ ks) (t ∷ ts) = (refl, challenges_numbered (n + 1) ks ts)

-- and so through the authorizations of an order
made_are_numbered : (account date expires : ℕ) (ws : List Wanted) (n c : ℕ) → AreNumbered c (made_for account date expires ws n c)
made_are_numbered account date expires [] n c = tt
made_are_numbered account date expires (New name tokens ∷ ws) n c =
    (challenges_numbered c (kinds_of name) tokens, made_are_numbered account date expires ws (n + 1) _)
made_are_numbered account date expires (Reused name k ∷ ws) n c = made_are_numbered account date expires ws n c

-- challenges that go on counting
are_numbered-append : (n : ℕ) (xs ys : List Authorization) (k : ℕ) → k ≡ count_challenges xs + n → AreNumbered n xs → AreNumbered k ys →
    AreNumbered n (xs ++ ys)
are_numbered-append n [] ys k e h g = let same : k ≡ n = omega arith in subst (λ j. AreNumbered j ys) same g
are_numbered-append n (x ∷ xs) ys k e h g = (h.0, are_numbered-append (n + length x.challenges) xs ys k (omega arith) h.1 g)

-- numbers of challenges count up from 1
pub challenges_count : (F : History) → AreNumbered 1 (authorizations F)
challenges_count [] = tt
challenges_count (e ∷ F) = grind (arith, are_numbered-append, made_are_numbered, (challenges_count F))

-- a challenge of an authorization is among those counted
any_below : (n k : ℕ) (cs : List Challenge) → IsNumbered (λ c. c.number) n cs → list_any (λ c. k == c.number) cs ≡ true → k < n + length cs
any_below n k [] h is = cc
any_below n k (c ∷ cs) h is = grind (arith, (any_below (n + 1) k cs h.1))

-- a challenge that is of an authorization is among the first
challenge_below : (n k : ℕ) (xs : List Authorization) (test : Authorization → Bool) → AreNumbered n xs →
    holds test (find (has_challenge k) xs) ≡ true → k < n + count_challenges xs
challenge_below n k [] test h is = cc
challenge_below n k (x ∷ xs) test h is = grind (arith, any_below, (challenge_below (n + length x.challenges) k xs test h.1))

-- an entry that may follow names only numbers that were given
names_allowed : (F : History) (e : Entry) (m : ℕ) → may_follow F e m ≡ true → NamesGiven (counts F) e
names_allowed F (spent n) m may = found_given (λ x. x.serial) n (nonces F) _ (nonces_numbered F) may
names_allowed F (contacts_changed n cs) m may = found_given (λ x. x.number) n (accounts F) _ (accounts_numbered F) (and_parts _ _ may).0
names_allowed F (key_changed n key) m may = found_given (λ x. x.number) n (accounts F) _ (accounts_numbered F) (and_parts _ _ may).0
names_allowed F (account_ended n s) m may = found_given (λ x. x.number) n (accounts F) _ (accounts_numbered F) may
names_allowed F (ordered n ws) m may =
    let tests = may_be_ordered F m n ws may in (
      found_given (λ x. x.number) n (accounts F) _ (accounts_numbered F) tests.holder,
      reused_pass _ (may_want F m n) (λ name k p. found_given (λ x. x.number) k (authorizations F) _ (authorizations_numbered F) p) ws tests.reused,
    )
names_allowed F (answered n) m may = grind (arith, challenge_below, (challenges_count F))
names_allowed F (reported n o) m may = grind (arith, challenge_below, (challenges_count F))
names_allowed F (authorization_ended n s) m may = found_given (λ x. x.number) n (authorizations F) _ (authorizations_numbered F) may
names_allowed F (finalized n bytes) m may = found_given (λ x. x.number) n (orders F) _ (orders_numbered F) (and_parts _ _ may).0
names_allowed F (certified n bytes) m may = found_given (λ x. x.number) n (orders F) _ (orders_numbered F) (and_parts _ _ may).0
names_allowed F (failed n f) m may = found_given (λ x. x.number) n (orders F) _ (orders_numbered F) (and_parts _ _ may).0
names_allowed F _ m may = tt

-- each entry names only numbers that were given
pub all_named : (F : History) → EachFollows F → EachOf (λ d. NamesGiven (counts F) d.entry) F
all_named [] h = tt
all_named (e ∷ F) h = grind (arith, names_more, length-append, count-append, names_allowed, each, (all_named F h.1))
