-- What a verdict needs: an account, numbers that can be given, and random bytes for tokens.
use Rattle.std.specs.Prelude.{ℕ, ◌+◌, ◌*◌, ◌≡◌, ◌<◌, ◌≤◌, ◌⊎◌, List, MatchResult, Result, length}
use Rattle.desk_model.specs.{Authorization.kinds_of, Limits.last_number, Kept.EachOf, Decide.entries_of, Run.count_new, Run.count_tokens, Run.count_pieces}
use Rattle.desk_model.specs.{declared.rows.Counters.Counters, declared.verdict.Verdict.Verdict, declared.entry.Wanted.Wanted}
use Rattle.desk_model.specs.{declared.verdict.Verdict.TheVariants.Opens as opens, declared.verdict.Verdict.TheVariants.Orders as orders}
use Rattle.desk_model.specs.{declared.entry.Wanted.TheVariants.New as new, declared.entry.Wanted.TheVariants.Reused as reused}
use Rattle.core_rules.specs.declared.fault.CoreFault.{CoreFault}
use Rattle.core_rules.specs.declared.fault.CoreFault.TheVariants as fault

-- the numbers of what it makes can be given
abbrev pub NumbersLeft : Counters → Verdict → Type 0
NumbersLeft C (opens key contacts) = C.accounts < last_number
NumbersLeft C (orders account wanted) =
    (C.orders < last_number) × (C.authorizations + count_new wanted ≤ last_number) × (C.challenges + count_tokens wanted ≤ last_number)
NumbersLeft C _ = Unit {0}

-- one of them can't
abbrev pub NumbersSpent : Counters → Verdict → Type 0
NumbersSpent C (opens key contacts) = last_number ≤ C.accounts
NumbersSpent C (orders account wanted) =
    (last_number ≤ C.orders) ⊎ ((last_number < C.authorizations + count_new wanted) ⊎ (last_number < C.challenges + count_tokens wanted))
NumbersSpent C _ = ⊥

-- there are random bytes for the tokens of a new order, behind the 16 of the fresh nonce
abbrev pub BytesLeft : List ℕ → Verdict → Type 0
BytesLeft random (orders account wanted) = 16 * (1 + count_pieces (entries_of (orders account wanted))) ≤ length random
BytesLeft random _ = Unit {0}

-- why a verdict is not given: want of memory, of numbers, or of random bytes where there are numbers
abbrev pub IsNeedFault : Counters → List ℕ → Verdict → CoreFault → Type 0
IsNeedFault C random v fault.Memory = Unit {0}
IsNeedFault C random v fault.Full = NumbersSpent C v
IsNeedFault C random v fault.ShortRandom = NumbersLeft C v × (length random < 16 * (1 + count_pieces (entries_of v)))

-- what is said of the judgement of a request
abbrev pub IsJudged : Counters → List ℕ → Result Verdict CoreFault → Verdict → Type 0
IsJudged C random r asked = MatchResult r (λ v. (v ≡ asked) × NumbersLeft C v × BytesLeft random v) (λ e. IsNeedFault C random asked e)

-- a name that gets a new authorization has a token for each of its challenges
abbrev pub HasTokens : Wanted → Type 0
HasTokens (new name tokens) = length tokens ≡ length (kinds_of name)
HasTokens (reused name n) = Unit {0}

-- so has each that the verdict orders
abbrev pub IsSpaced : Verdict → Type 0
IsSpaced (orders account wanted) = EachOf HasTokens wanted
IsSpaced _ = Unit {0}
