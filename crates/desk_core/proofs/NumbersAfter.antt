-- The numbers after a verdict's entry.
use Rattle.std.proofs.Common.{◌≡◌, ℕ, ◌+◌, ◌<◌, ◌≤◌, false, List, [], ◌∷◌, length, refl, arith, length-append, rules}
use Rattle.std.specs.Prelude.{IsTrue}
use Rattle.desk_model.specs.Authorization.{authorizations, challenges_from, count_challenges, kinds_of, made_for}
use Rattle.desk_model.specs.{Account.accounts, Decide.entries_of, Legal.numbers_fit, Limits.last_number, Tables.picture, Kept.EachOf, Entry.History}
use Rattle.desk_model.specs.{History.record_all, Order.orders, Run.count_new, Run.count_tokens}
use Rattle.desk_model.specs.declared.{entry.Wanted.Wanted, status.Kind.Kind, verdict.Verdict.Verdict, entry.Entry.TheVariants.Opened as opened}
use Rattle.desk_model.specs.declared.{entry.Entry.TheVariants.Ordered as ordered, entry.Wanted.TheVariants.New, entry.Wanted.TheVariants.Reused}
use Rattle.model_laws.specs.LegalLaws.{CountersFit}
use Rattle.model_laws.proofs.{Numbers.count-append}
use Rattle.core_rules.specs.Needs.{HasTokens, IsSpaced, NumbersLeft, NumbersSpent}

-- ---- what an order makes

-- a challenge for each token
challenges_counted : (c : ℕ) (ks : List Kind) (tokens : List (List ℕ)) → length tokens ≡ length ks → length (challenges_from c ks tokens) ≡ length tokens
challenges_counted c [] [] h = refl
challenges_counted c [] (t ∷ ts) h = let many : length (t ∷ ts) ≡ 0 = h in omega arith
challenges_counted c (k ∷ ks) [] h = refl
challenges_counted c (k ∷ ks) (t ∷ ts) h =
    let many : length (t ∷ ts) ≡ length (k ∷ ks) = h in
    let rest : length ts ≡ length ks = omega arith in
    omega (arith, challenges_counted (c + 1) ks ts rest)

-- through all names
pub counted : (account date expires : ℕ) (wanted : List Wanted) (n c : ℕ) → EachOf HasTokens wanted →
    count_challenges (made_for account date expires wanted n c) ≡ count_tokens wanted
counted account date expires [] n c h = refl
counted account date expires (New name tokens ∷ ws) n c h =
    let many : length (challenges_from c (kinds_of name) tokens) ≡ length tokens = challenges_counted c (kinds_of name) tokens h.0 in
    omega (arith, many, counted account date expires ws (n + 1) (c + length (challenges_from c (kinds_of name) tokens)) h.1)
counted account date expires (Reused name k ∷ ws) n c h = counted account date expires ws n c h.1

-- an authorization for each name that gets a new one
pub length-made : (account date expires : ℕ) (wanted : List Wanted) (n c : ℕ) → length (made_for account date expires wanted n c) ≡ count_new wanted
length-made account date expires [] n c = refl
length-made account date expires (New name tokens ∷ ws) n c =
    omega (arith, length-made account date expires ws (n + 1) (c + length (challenges_from c (kinds_of name) tokens)))
length-made account date expires (Reused name k ∷ ws) n c = length-made account date expires ws n c

-- how many orders there are after one more
orders_after : (G : History) (m k : ℕ) (ws : List Wanted) → length (orders (record { date = m; entry = ordered k ws } ∷ G)) ≡ length (orders G) + 1
orders_after G m k ws = search (rules, length-append)

-- how many authorizations
authorizations_after : (G : History) (m k : ℕ) (ws : List Wanted) →
    length (authorizations (record { date = m; entry = ordered k ws } ∷ G)) ≡ length (authorizations G) + count_new ws
authorizations_after G m k ws = search (rules, length-append, length-made)

-- how many challenges
challenges_after : (G : History) (m k : ℕ) (ws : List Wanted) → EachOf HasTokens ws →
    count_challenges (authorizations (record { date = m; entry = ordered k ws } ∷ G)) ≡ count_challenges (authorizations G) + count_tokens ws
challenges_after G m k ws h = search (rules, count-append, counted)

-- ---- numbers that fit

-- how many accounts there are after one more
accounts_after : (G : History) (m : ℕ) (key : List ℕ) (contacts : List (List ℕ)) →
    length (accounts (record { date = m; entry = opened key contacts } ∷ G)) ≡ length (accounts G) + 1
accounts_after G m key contacts = search (rules, length-append)

-- an account whose number can be given
fits_account : (G : History) (m : ℕ) (key : List ℕ) (contacts : List (List ℕ)) → CountersFit (picture G).meta.counters → length (accounts G) < last_number →
    CountersFit (picture (record { date = m; entry = opened key contacts } ∷ G)).meta.counters
fits_account G m key contacts h first = search (rules, length-append)

-- an order whose numbers can be given
fits_ordered : (G : History) (m k : ℕ) (ws : List Wanted) → CountersFit (picture G).meta.counters → EachOf HasTokens ws →
    length (orders G) < last_number → length (authorizations G) + count_new ws ≤ last_number
    → count_challenges (authorizations G) + count_tokens ws ≤ last_number →
    CountersFit (picture (record { date = m; entry = ordered k ws } ∷ G)).meta.counters
fits_ordered G m k ws h spaced first second third = search (rules, length-append, authorizations_after, challenges_after)

-- where there are numbers for what a verdict records, the numbers fit after it
pub numbers_left : (G : History) (m : ℕ) (v : Verdict) → CountersFit (picture G).meta.counters → IsSpaced v → NumbersLeft (picture G).meta.counters v →
    IsTrue (numbers_fit (record_all m (entries_of v) G))
numbers_left G m v h k l = search (rules, fits_account, fits_ordered)

-- ---- numbers that don't fit

-- where a number is wanting for what a verdict records, the numbers don't fit after it
pub numbers_spent : (G : History) (m : ℕ) (v : Verdict) → IsSpaced v → NumbersSpent (picture G).meta.counters v →
    numbers_fit (record_all m (entries_of v) G) ≡ false
numbers_spent G m v h k = search (rules, accounts_after, orders_after, authorizations_after, challenges_after)
