-- The date of a day by arithmetic, in years that begin in March.
use Rattle.std.proofs.Common.{◌≡◌, ℕ, suc, ◌+◌, ◌*◌, ◌/◌, ◌%◌, ◌<◌, ◌≤◌, refl, sym, subst, ⊎_elim, arith}
use Rattle.std.proofs.{lemmas.Bool.cases_lt, lemmas.Bool.Decides.nat_tests}
use Rattle.jiff_core.specs.March.{march_days}
use Rattle.desk_model.specs.Moment.{year_of_era, day_of_year, month_from_march}

-- the days of whole years, by eras of 400, centuries, fours and years
march_days-parts : (q c p u : ℕ) → c < 4 → p < 25 → u < 4 → march_days (400 * q + 100 * c + 4 * p + u) ≡ 146097 * q + 36524 * c + 1461 * p + 365 * u
march_days-parts q c p u hc hp hu = grind (arith, nat_tests)

-- the day of an era is this day of this year
pub record IsDayOf (year n day : ℕ) : Type 0 where
  pub year_is : year_of_era day ≡ year
  pub day_is : day_of_year day ≡ n
  pub in_era : day < 146097

-- a day that is not the 366th of its year
short_day : (c p u n : ℕ) → c < 4 → p < 25 → u < 4 → n < 365 → IsDayOf (100 * c + 4 * p + u) n (36524 * c + 1461 * p + 365 * u + n)
short_day c p u n hc hp hu hn = grind (arith, nat_tests)

-- the day after 365 others is the last of a leap year
last_place : (q c p u n : ℕ) → c < 4 → p < 25 → u < 4 → march_days (400 * q + 100 * c + 4 * p + u) + n
    < march_days (suc (400 * q + 100 * c + 4 * p + u)) → 365 ≤ n → (n ≡ 365) × (u ≡ 3) × (24 ≤ p → (p ≡ 24) × (c ≡ 3))
last_place q c p u n hc hp hu room long = (omega arith, omega arith, λ late. (omega arith, omega arith))

-- the 366th day of a year
leap_place : (c p u n : ℕ) → c < 4 → n ≡ 365 → u ≡ 3 → (24 ≤ p → (p ≡ 24) × (c ≡ 3)) → IsDayOf (100 * c + 4 * p + u) n (36524 * c + 1461 * p + 365 * u + n)
leap_place c p u n hc long third last = grind (arith, nat_tests)

-- a day before the next year is in its year
pub day_in_era : (q c p u n : ℕ) → c < 4 → p < 25 → u < 4 → march_days (400 * q + 100 * c + 4 * p + u) + n
    < march_days (suc (400 * q + 100 * c + 4 * p + u)) → IsDayOf (100 * c + 4 * p + u) n (36524 * c + 1461 * p + 365 * u + n)
day_in_era q c p u n hc hp hu room =
    ⊎_elim
    (λ short. short_day c p u n hc hp hu short)
    (λ long. let e = last_place q c p u n hc hp hu room long in leap_place c p u n hc e.0 e.1 e.2)
    (cases_lt n 365)

-- the date of a day by arithmetic, with the months from March on
pub record IsMarchDate (day year month n : ℕ) : Type 0 where
  pub year_is : year_of_era (day % 146097) + 400 * (day / 146097) ≡ year
  pub month_is : month_from_march (day % 146097) ≡ month
  pub day_is : day_of_year (day % 146097) ≡ n

-- the same, by centuries, fours and years
date_in_parts : (q c p u n month : ℕ) → c < 4 → p < 25 → u < 4 → march_days (400 * q + 100 * c + 4 * p + u) + n
    < march_days (suc (400 * q + 100 * c + 4 * p + u)) → (5 * n + 2) / 153 ≡ month
    → IsMarchDate (march_days (400 * q + 100 * c + 4 * p + u) + n) (400 * q + 100 * c + 4 * p + u) month n
date_in_parts q c p u n month hc hp hu room is =
    let day = 36524 * c + 1461 * p + 365 * u + n in
    let h = day_in_era q c p u n hc hp hu room in
    let bound : day < 146097 = h.in_era in
    let whole = march_days-parts q c p u hc hp hu in
    let rest : (march_days (400 * q + 100 * c + 4 * p + u) + n) % 146097 ≡ day = rw whole (omega arith) in
    let era : (march_days (400 * q + 100 * c + 4 * p + u) + n) / 146097 ≡ q = rw whole (omega arith) in
    let year : year_of_era day ≡ 100 * c + 4 * p + u = h.year_is in
    let place : day_of_year day ≡ n = h.day_is in
    record { year_is = rw (rest, era, year) (omega arith); month_is = rw (rest, place) is; day_is = rw (rest, place) refl }

-- a day before the next year has this date
pub march_date : (year month n : ℕ) → march_days year + n < march_days (suc year) → (5 * n + 2) / 153 ≡ month → IsMarchDate (march_days year + n) year month n
march_date year month n room is =
    let q = year / 400 in
    let c = year % 400 / 100 in
    let p = year % 100 / 4 in
    let u = year % 4 in
    let parts : year ≡ 400 * q + 100 * c + 4 * p + u = omega arith in
    subst (λ (y : ℕ). IsMarchDate (march_days y + n) y month n) (sym parts)
    (date_in_parts q c p u n month (omega arith) (omega arith) (omega arith) (subst (λ (y : ℕ). march_days y + n < march_days (suc y)) parts room) is)
