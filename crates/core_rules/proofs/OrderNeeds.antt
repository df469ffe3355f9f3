-- What a new order needs, by its names.
use Rattle.std.proofs.Common.{◌≡◌, ℕ, ◌+◌, ◌*◌, ◌<◌, ◌≤◌, List, length, drop, map, arith, rules}
use Rattle.std.specs.Prelude.{◌⊎◌, sum_by}
use Rattle.desk_model.specs.{Limits.last_number, Name.Name, Rules.wanted, Tables.Tables}
use Rattle.desk_model.specs.declared.{verdict.Verdict.TheVariants.Orders as orders, verdict.Verdict.Verdict, rows.Counters.Counters, entry.Wanted.Wanted}
use Rattle.core_rules.specs.{Needs.NumbersLeft, Needs.BytesLeft, Needs.IsNeedFault, declared.fault.CoreFault.CoreFault, Making.drawn_for, Making.made_for}
use Rattle.core_rules.specs.{Making.served_name}
use Rattle.core_rules.specs.declared.fault.CoreFault.TheVariants as fault
use Rattle.core_rules.proofs.NamesWanted.{count_new-wanted, count_tokens-wanted}

-- an order for these names
abbrev pub order_for : Tables → ℕ → List Name → List ℕ → Verdict
order_for T account ns random = orders account (wanted T account ns (drop 16 random))

-- there is no number for one of its objects
pub order_full : (T : Tables) (C : Counters) (random : List ℕ) (account : ℕ) (ns : List Name) (count tokens : ℕ) (e : CoreFault) →
    count ≡ sum_by made_for (map (served_name T account) ns) → tokens ≡ sum_by drawn_for (map (served_name T account) ns) → e ≡ fault.Full →
    (last_number ≤ C.orders) ⊎ ((last_number < C.authorizations + count) ⊎ (last_number < C.challenges + tokens)) →
    IsNeedFault C random (order_for T account ns random) e
order_full T C random account ns count tokens e many as_many is h = search (rules, count_tokens-wanted, count_new-wanted)

-- its numbers can be given
pub order_numbered : (T : Tables) (C : Counters) (random : List ℕ) (account : ℕ) (ns : List Name) (count tokens : ℕ) →
    count ≡ sum_by made_for (map (served_name T account) ns) → tokens ≡ sum_by drawn_for (map (served_name T account) ns) →
    (C.orders < last_number) × (C.authorizations + count ≤ last_number) × (C.challenges + tokens ≤ last_number) →
    NumbersLeft C (order_for T account ns random)
order_numbered T C random account ns count tokens many as_many h = search (rules, count_new-wanted, count_tokens-wanted)

-- there are random bytes for its tokens
pub order_random : (T : Tables) (random : List ℕ) (account : ℕ) (ns : List Name) (tokens : ℕ) →
    tokens ≡ sum_by drawn_for (map (served_name T account) ns) → 16 * (1 + tokens) ≤ length random →
    BytesLeft random (order_for T account ns random)
order_random T random account ns tokens as_many h = omega (arith, count_tokens-wanted T account ns (drop 16 random))

-- there are too few
pub order_short : (T : Tables) (C : Counters) (random : List ℕ) (account : ℕ) (ns : List Name) (tokens : ℕ) (e : CoreFault) →
    tokens ≡ sum_by drawn_for (map (served_name T account) ns) → e ≡ fault.ShortRandom → length random < 16 * (1 + tokens) →
    NumbersLeft C (order_for T account ns random) → IsNeedFault C random (order_for T account ns random) e
order_short T C random account ns tokens e as_many is h numbers = search (rules, count_tokens-wanted)

-- an order that was made
pub order_made : (T : Tables) (C N : Counters) (random rest : List ℕ) (account : ℕ) (ns : List Name) (asked : List Wanted) (count tokens : ℕ) →
    asked ≡ wanted T account ns rest → rest ≡ drop 16 random → N ≡ C →
    count ≡ sum_by made_for (map (served_name T account) ns) → tokens ≡ sum_by drawn_for (map (served_name T account) ns) →
    (N.orders < last_number) × (N.authorizations + count ≤ last_number) × (N.challenges + tokens ≤ last_number) → 16 * (1 + tokens) ≤ length random →
    (orders account asked ≡ order_for T account ns random) × NumbersLeft C (orders account asked) × BytesLeft random (orders account asked)
order_made T C N random rest account ns asked count tokens by behind same many as_many numbers bytes =
    grind (arith, order_random, (order_numbered T N random account ns count tokens many as_many numbers))
