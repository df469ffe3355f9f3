-- The text of a moment, YYYY-MM-DDThh:mm:ssZ.
use Rattle.std.specs.Prelude.{◌≡◌, ℕ, ◌+◌, ◌-◌, nat_lt, if◌then◌else◌, ◌*◌, ◌/◌, ◌%◌, ◌<◌, pos, ◌+ℤ◌, ◌*ℤ◌, List, [], ◌∷◌, ◌++◌}
use Rattle.jiff_core.specs.Calendar.{IsCivilDate, days_from_civil}

-- the fields of a moment on the proleptic Gregorian calendar
pub record IsCivil (t year month day hour minute second : ℕ) : Type 0 where
  pub date : IsCivilDate (pos year) month day
  pub hour_in : hour < 24
  pub minute_in : minute < 60
  pub second_in : second < 60
  pub total : pos t ≡ days_from_civil (pos year) month day *ℤ pos 86400 +ℤ pos (hour * 3600 + minute * 60 + second)

-- two and four decimal digits
abbrev pub two_digits : ℕ → List ℕ
two_digits n = (48 + n / 10 % 10) ∷ (48 + n % 10) ∷ []

abbrev pub four_digits : ℕ → List ℕ
four_digits n = (48 + n / 1000 % 10) ∷ (48 + n / 100 % 10) ∷ (48 + n / 10 % 10) ∷ (48 + n % 10) ∷ []

abbrev pub civil_text : ℕ → ℕ → ℕ → ℕ → ℕ → ℕ → List ℕ
civil_text year month day hour minute second =
    four_digits year
    ++ (45 ∷ (two_digits month
    ++ (45 ∷ (two_digits day ++ (84 ∷ (two_digits hour ++ (58 ∷ (two_digits minute ++ (58 ∷ (two_digits second ++ (90 ∷ [])))))))))))

-- the text of the moment t
abbrev pub IsMomentText : ℕ → List ℕ → Type 0
IsMomentText t text =
    (year month day hour minute second : ℕ) × IsCivil t year month day hour minute second
    × (text ≡ civil_text year month day hour minute second)

-- ---- the text as a function: the civil date of a day counted from 1970-01-01, in years that begin in March

abbrev pub year_of_era : ℕ → ℕ
year_of_era day = (day - day / 1460 + day / 36524 - day / 146096) / 365

abbrev pub day_of_year : ℕ → ℕ
day_of_year day = day - (365 * year_of_era day + year_of_era day / 4 - year_of_era day / 100)

abbrev pub month_from_march : ℕ → ℕ
month_from_march day = (5 * day_of_year day + 2) / 153

abbrev pub month_of : ℕ → ℕ
month_of march = if nat_lt march 10 then march + 3 else march - 9

abbrev pub year_of : (era day : ℕ) → ℕ
year_of era day = year_of_era day + 400 * era + (if nat_lt (month_from_march day) 10 then 0 else 1)

abbrev pub day_of : ℕ → ℕ
day_of day = day_of_year day - (153 * month_from_march day + 2) / 5 + 1

abbrev pub text_of_day : (era day second : ℕ) → List ℕ
text_of_day era day second =
    civil_text (year_of era day) (month_of (month_from_march day)) (day_of day) (second / 3600) (second / 60 % 60) (second % 60)

-- the text of a moment up to 250315360000
unfoldable pub moment_text : ℕ → List ℕ
moment_text t = text_of_day ((t / 86400 + 719468) / 146097) ((t / 86400 + 719468) % 146097) (t % 86400)
