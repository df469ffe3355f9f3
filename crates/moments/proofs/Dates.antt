-- The fields of a moment are those that the arithmetic gives.
use Rattle.std.proofs.Common.{◌≡◌, ℕ, zero, suc, ◌+◌, ◌-◌, ◌*◌, ◌/◌, ◌%◌, ◌<◌, ◌≤◌, refl, sym, subst, ap, ⊎_elim, arith, pos}
use Rattle.std.proofs.lemmas.{Bool.cases_lt, Bool.Decides.nat_tests}
use Rattle.jiff_core.specs.{Calendar.IsCivilDate, Calendar.day_count, March.march_days, March.march_months}
use Rattle.jiff_core.proofs.MarchLemmas.{day_count-early, day_count-late, march_days-suc}
use Rattle.jiff_core.proofs.{SignedLemmas.signed_arith, CalendarLemmas.days_from_civil-day_count, CalendarLemmas.days_in_month_bounds}
use Rattle.desk_model.specs.Moment.{IsCivil, day_of, month_of, month_from_march, year_of}
use Rattle.moments.proofs.{March.IsMarchDate, March.march_date, Months.early_month, Months.late_month}

-- the date that the arithmetic gives
pub record IsDateOf (count year month day : ℕ) : Type 0 where
  pub year_is : year_of (count / 146097) (count % 146097) ≡ year
  pub month_is : month_of (month_from_march (count % 146097)) ≡ month
  pub day_is : day_of (count % 146097) ≡ day

-- a year counted from -10000
march_days-shift : (y : ℕ) → march_days (y + 10000) ≡ march_days y + 3652425
march_days-shift y = omega arith

-- a date from March on
late_date : (y m d : ℕ) → 3 ≤ m → m ≤ 12 → 1 ≤ d → IsMarchDate (march_days y + (march_months m + d - 1)) y (m - 3) (march_months m + d - 1)
    → IsDateOf (march_days y + (march_months m + d - 1)) y m d
late_date y m d low high first h =
    let year = h.year_is in
    let month = h.month_is in
    let place = h.day_is in
    record { year_is = grind (arith, nat_tests); month_is = grind (arith, nat_tests); day_is = rw (month, place) (omega arith) }

-- a date in January or February
early_date : (y m d : ℕ) → 1 ≤ m → m ≤ 2 → 1 ≤ d
    → IsMarchDate (march_days y + (march_months (m + 12) + d - 1)) y (m + 12 - 3) (march_months (m + 12) + d - 1)
    → IsDateOf (march_days y + (march_months (m + 12) + d - 1)) (suc y) m d
early_date y m d low high first h = grind (arith, nat_tests)

-- a date of the calendar, by its count of days from -10000
late_count : (y m d : ℕ) → IsCivilDate (pos y) m d → 3 ≤ m → (day_count (pos y) m d ≡ march_days y + (march_months m + d - 1) + 3652485)
    × IsDateOf (march_days y + (march_months m + d - 1)) y m d
late_count y m d civil low =
    let month = late_month (pos y) (pos (suc y)) m d low civil.1.1 civil.2.0 civil.2.1 in (
      omega (arith, day_count-late (pos y) (y + 10000) m d refl low civil.1.1 civil.2.0, march_days-shift y),
      late_date y m d low civil.1.1 civil.2.0 (march_date y (m - 3) (march_months m + d - 1) (omega (arith, month.bound, march_days-suc y)) month.month_is),
    )

-- January and February, by the same count
early_count : (y m d : ℕ) → IsCivilDate (pos (suc y)) m d → m ≤ 2
    → (day_count (pos (suc y)) m d ≡ march_days y + (march_months (m + 12) + d - 1) + 3652485)
    × IsDateOf (march_days y + (march_months (m + 12) + d - 1)) (suc y) m d
early_count y m d civil high =
    let month = early_month (pos (suc y)) m d civil.1.0 high civil.2.0 civil.2.1 in (
      omega (
        arith,
        day_count-early (pos (suc y)) (y + 10000) m d (ap (λ k. pos k) (omega arith)) civil.1.0 high civil.2.0,
        march_days-shift y,
      ),
      early_date y m d civil.1.0 high civil.2.0
          (march_date y (m + 12 - 3) (march_months (m + 12) + d - 1) (omega (arith, month.bound, march_days-suc y)) month.month_is),
    )

-- the day of a moment, counted as the arithmetic counts
abbrev day_number : ℕ → ℕ
day_number t = t / 86400 + 719468

-- the fields of a moment
pub record AreFieldsOf (t year month day hour minute second : ℕ) : Type 0 where
  pub date : IsDateOf (day_number t) year month day
  pub hour_is : t % 86400 / 3600 ≡ hour
  pub minute_is : t % 86400 / 60 % 60 ≡ minute
  pub second_is : t % 86400 % 60 ≡ second

-- a moment by its day and its second of the day
fields_by : (t y m d h mi s count : ℕ) → IsDateOf count y m d → h < 24 → mi < 60 → s < 60
    → t + 719468 * 86400 ≡ count * 86400 + (h * 3600 + mi * 60 + s) → AreFieldsOf t y m d h mi s
fields_by t y m d h mi s count date hh hm hs whole =
    let same : day_number t ≡ count = omega arith in
    record { date = subst (λ (n : ℕ). IsDateOf n y m d) (sym same) date; hour_is = omega arith; minute_is = omega arith; second_is = omega arith }

-- the whole days and the seconds of a civil moment
whole_days : (t y m d h mi s : ℕ) → IsCivil t y m d h mi s → t + 4371953 * 86400 ≡ day_count (pos y) m d * 86400 + (h * 3600 + mi * 60 + s)
whole_days t y m d h mi s c = omega (arith, signed_arith, c.total, days_from_civil-day_count (pos y) m d)

-- the fields of a moment from March on
fields_late : (t y m d h mi s : ℕ) → IsCivil t y m d h mi s → 3 ≤ m → AreFieldsOf t y m d h mi s
fields_late t y m d h mi s c low =
    let whole = whole_days t y m d h mi s c in
    let count = late_count y m d c.date low in
    fields_by t y m d h mi s (march_days y + (march_months m + d - 1)) count.1 c.hour_in c.minute_in c.second_in (omega (arith, whole, count.0))

-- the fields of a moment in January or February
fields_early : (t y m d h mi s : ℕ) → IsCivil t y m d h mi s → m ≤ 2 → AreFieldsOf t y m d h mi s
fields_early t zero m d h mi s c high =
    let bound : d ≤ 31 = omega (arith, c.date.2.1, (days_in_month_bounds (pos 0) m).0) in
    let count : day_count (pos 0) m d ≡ march_days 9999 + march_months (m + 12) + d + 59 = day_count-early (pos 0) 9999 m d refl c.date.1.0 high c.date.2.0 in
    let whole = whole_days t 0 m d h mi s c in
    let hour = c.hour_in in
    let minute = c.minute_in in
    let second = c.second_in in
    absurd (omega arith)
fields_early t (suc y) m d h mi s c high =
    let whole = whole_days t (suc y) m d h mi s c in
    let count = early_count y m d c.date high in
    fields_by t (suc y) m d h mi s (march_days y + (march_months (m + 12) + d - 1)) count.1 c.hour_in c.minute_in c.second_in (omega (arith, whole, count.0))

-- the fields of a civil moment are those that the arithmetic gives
pub fields_of_civil : (t y m d h mi s : ℕ) → IsCivil t y m d h mi s → AreFieldsOf t y m d h mi s
fields_of_civil t y m d h mi s c = ⊎_elim (λ early. fields_early t y m d h mi s c (omega arith)) (λ late. fields_late t y m d h mi s c late) (cases_lt m 3)
