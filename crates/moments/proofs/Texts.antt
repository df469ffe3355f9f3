-- The text of a moment is the one that the function gives, and tells its moment.
use Rattle.std.proofs.Common.{◌≡◌, ℕ, ◌+◌, ◌/◌, ◌%◌, ◌<◌, List, refl, sym, ◌∙◌, arith, pos}
use Rattle.jiff_core.specs.Calendar.{IsCivilDate}
use Rattle.jiff_core.proofs.{CalendarLemmas.days_in_month_bounds, SignedLemmas.signed_arith}
use Rattle.desk_model.specs.Moment.{IsCivil, IsMomentText, civil_text, moment_text}
use Rattle.moments.proofs.Dates.{AreFieldsOf, fields_of_civil}
use Rattle.std.proofs.lemmas.Bool.Decides.{nat_tests}

-- the text of the fields that the arithmetic gives
pub text_of_fields : (t y m d h mi s : ℕ) → AreFieldsOf t y m d h mi s → civil_text y m d h mi s ≡ moment_text t
unfolding moment_text
text_of_fields t y m d h mi s f = rw (f.date.year_is, f.date.month_is, f.date.day_is, f.hour_is, f.minute_is, f.second_is) refl

-- the function gives the text of a moment
pub moment_text-IsMomentText : (t : ℕ) (text : List ℕ) → IsMomentText t text → text ≡ moment_text t
moment_text-IsMomentText t text (y, m, d, h, mi, s, c, whole) = whole ∙ text_of_fields t y m d h mi s (fields_of_civil t y m d h mi s c)

-- decimal digits tell their number
two_digits_tell : (a b : ℕ) → a < 100 → b < 100 → 48 + a / 10 % 10 ≡ 48 + b / 10 % 10 → 48 + a % 10 ≡ 48 + b % 10 → a ≡ b
two_digits_tell a b low lower tens ones = omega arith

-- four digits too
four_digits_tell : (a b : ℕ) → a < 10000 → b < 10000 → 48 + a / 1000 % 10 ≡ 48 + b / 1000 % 10 → 48 + a / 100 % 10 ≡ 48 + b / 100 % 10
    → 48 + a / 10 % 10 ≡ 48 + b / 10 % 10 → 48 + a % 10 ≡ 48 + b % 10 → a ≡ b
four_digits_tell a b low lower i j k l = omega arith

-- a date has a year of four digits, and a month and a day of two
pub date_digits : (y m d : ℕ) → IsCivilDate (pos y) m d → (y < 10000) × (m < 100) × (d < 100)
date_digits y m d c = (omega (arith, signed_arith, c.0.1), omega (arith, c.1.1), omega (arith, c.2.1, (days_in_month_bounds (pos y) m).0))

-- the same fields make the same moment
same_moment : (t u y m d h mi s : ℕ) → IsCivil t y m d h mi s → IsCivil u y m d h mi s → t ≡ u
same_moment t u y m d h mi s a b = cc (sym a.total, b.total)

-- different moments have different texts
pub IsMomentText-tells : (t u : ℕ) (text : List ℕ) → IsMomentText t text → IsMomentText u text → t ≡ u
IsMomentText-tells t u text (y, m, d, h, mi, s, c, whole) (y₂, m₂, d₂, h₂, mi₂, s₂, c₂, whole₂) = grind (
  arith,
  nat_tests,
  date_digits,
  four_digits_tell,
  two_digits_tell,
  same_moment,
)
