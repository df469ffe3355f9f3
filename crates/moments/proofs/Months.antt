-- The months of a date, by arithmetic.
use Rattle.std.proofs.Common.{◌≡◌, ℕ, ◌+◌, ◌-◌, ◌*◌, ◌/◌, ◌<◌, ◌≤◌, arith, ℤ}
use Rattle.jiff_core.specs.{Calendar.days_in_month, March.march_months}
use Rattle.jiff_core.proofs.MarchLemmas.{leap_day}
use Rattle.std.proofs.lemmas.Bool.Decides.{nat_tests}

-- the month of a day, and that the day lies in a year that has the leap day of y
pub record IsMonthOf (y : ℤ) (m d : ℕ) : Type 0 where
  pub month_is : (5 * (march_months m + d - 1) + 2) / 153 ≡ m - 3
  pub bound : march_months m + d - 1 < 365 + leap_day y

-- the months from March on lie in the year of their number
pub late_month : (y z : ℤ) (m d : ℕ) → 3 ≤ m → m ≤ 12 → 1 ≤ d → d ≤ days_in_month y m → IsMonthOf z m d
late_month y z m d h k l g = grind (arith, nat_tests)

-- January and February end the year before
pub early_month : (y : ℤ) (m d : ℕ) → 1 ≤ m → m ≤ 2 → 1 ≤ d → d ≤ days_in_month y m → IsMonthOf y (m + 12) d
early_month y m d h k l g = grind (arith, nat_tests)
