-- The fields of a moment from those of its datetime.
use Rattle.std.proofs.Common.{◌≡◌, ℕ, refl, arith, pos, ◌+ℤ◌, ◌*ℤ◌, ◌≤ℤ◌}
use Rattle.std.proofs.{lemmas.Int.by_lt_z, lemmas.Bool.Decides.nat_tests}
use Rattle.jiff_core.specs.DateTime.{civil_nanos, civil_seconds}
use Rattle.jiff_core.specs.{declared.civil.datetime.DateTime.DateTime, Calendar.days_from_civil, Date.epoch_day, Time.time_seconds}
use Rattle.jiff_core.proofs.DateTimeLemmas.{civil_nanos-parts, civil_nanos-civil_seconds, time_nanos_bound}
use Rattle.jiff_core.proofs.{SignedLemmas.signed_arith, DateLemmas.civil, CalendarLemmas.days_from_civil-day_count, CalendarLemmas.day_count-lt_year}
use Rattle.desk_model.specs.Moment.{IsCivil}

-- 1970-01-01 is day 0
epoch : days_from_civil (pos 1970) 1 1 ≡ pos 0
unfolding days_from_civil
epoch = omega (arith, signed_arith)

-- a moment lies on day 0 or later
day_low : (d : DateTime) (t : ℕ) → civil_nanos d ≡ pos t *ℤ pos 1_000_000_000 → pos 0 ≤ℤ epoch_day d.date
day_low d t e = omega (arith, signed_arith, civil_nanos-parts d, time_nanos_bound d.time)

-- a moment's year is 1970 or a later one
pub year_low : (d : DateTime) (t : ℕ) → civil_nanos d ≡ pos t *ℤ pos 1_000_000_000 → pos 1970 ≤ℤ d.date.year
year_low d t e =
    by_lt_z d.date.year (pos 1970)
    (λ lt. absurd
    (omega (
      arith,
      signed_arith,
      epoch,
      day_low d t e,
      days_from_civil-day_count d.date.year d.date.month d.date.day,
      days_from_civil-day_count (pos 1970) 1 1,
      day_count-lt_year d.date.year d.date.month d.date.day (pos 1970) 1 1 (civil d.date) (omega arith) lt,
    )))
    (λ ge. ge)

-- the seconds of a moment
seconds_of : (d : DateTime) (t : ℕ) → civil_nanos d ≡ pos t *ℤ pos 1_000_000_000 → civil_seconds d ≡ pos t
seconds_of d t e = grind (arith, nat_tests, signed_arith, civil_nanos-civil_seconds)

-- the seconds of a datetime are its days and its time
parts_of : (d : DateTime) → civil_seconds d ≡ epoch_day d.date *ℤ pos 86_400 +ℤ pos (time_seconds d.time)
unfolding civil_seconds
parts_of d = refl

-- a datetime's fields are those of its moment
pub civil_from : (d : DateTime) (t y : ℕ) → civil_nanos d ≡ pos t *ℤ pos 1_000_000_000 → pos y ≡ d.date.year
    → IsCivil t y d.date.month d.date.day d.time.hour d.time.minute d.time.second
civil_from d t y e year = grind (arith, nat_tests, civil, seconds_of, parts_of)
