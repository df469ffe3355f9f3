-- The text of a datetime as it is written is that of its moment.
use Rattle.std.proofs.Common.{◌≡◌, ℕ, ◌+◌, ◌/◌, ◌%◌, ◌<◌, ◌∷◌, [], ◌++◌, List, None, refl, ap, ◌∙◌, arith, ℤ, pos, ◌*ℤ◌, ◌≤ℤ◌}
use Rattle.std.proofs.lemmas.Bool.Decides.{nat_tests}
use Rattle.jiff.specs.Names.{iso_datetime_text}
use Rattle.jiff_core.specs.{DateTime.civil_nanos, declared.civil.datetime.DateTime.DateTime}
use Rattle.jiff_core.proofs.{SignedLemmas.signed_arith, DateTimeLemmas.civil_nanos-parts, DateTimeLemmas.time_nanos_bound}
use Rattle.jiff_fmt.specs.Text.{fraction_part, pad2, pad4, year_text}
use Rattle.desk_model.specs.Moment.{IsMomentText, two_digits, four_digits}
use Rattle.moments.proofs.{Civil.civil_from, Civil.year_low, Texts.date_digits}

-- a number below 100 in two digits
two_digits-pad2 : (n : ℕ) → n < 100 → pad2 n ≡ two_digits n
two_digits-pad2 n low = let tens : n / 10 ≡ n / 10 % 10 = omega arith in ap (λ k. (48 + k) ∷ (48 + n % 10) ∷ []) tens

-- a number below 10000 in four digits
four_digits-pad4 : (n : ℕ) → n < 10000 → pad4 n ≡ four_digits n
four_digits-pad4 n low = grind (arith, nat_tests)

-- a year that is no earlier than 1970 is written without a sign
year_written : (z : ℤ) → pos 1970 ≤ℤ z → (y : ℕ) × (pos y ≡ z) × (year_text z ≡ pad4 y)
year_written z h = grind (arith, nat_tests)

-- a datetime that is a whole second has no fraction
fraction_of : (d : DateTime) (t : ℕ) → civil_nanos d ≡ pos t *ℤ pos 1_000_000_000 → fraction_part None d.time.subsec_nanosecond ≡ []
fraction_of d t e = grind (arith, nat_tests, signed_arith, civil_nanos-parts, time_nanos_bound)

-- the text of these parts, with the mark of UTC
abbrev text_of_parts : (year month day hour minute second fraction : List ℕ) → List ℕ
text_of_parts year month day hour minute second fraction =
    ((year ++ 45 ∷ [] ++ month ++ 45 ∷ [] ++ day) ++ 84 ∷ (hour ++ 58 ∷ minute ++ 58 ∷ second ++ fraction)) ++ 90 ∷ []

-- the same parts make the same text
same_parts : (y m d h mi s f y₂ m₂ d₂ h₂ mi₂ s₂ f₂ : List ℕ) → y ≡ y₂ → m ≡ m₂ → d ≡ d₂ → h ≡ h₂ → mi ≡ mi₂ → s ≡ s₂ → f ≡ f₂
    → text_of_parts y m d h mi s f ≡ text_of_parts y₂ m₂ d₂ h₂ mi₂ s₂ f₂
same_parts y m d h mi s f y₂ m₂ d₂ h₂ mi₂ s₂ f₂ a b c e g i j = rw (a, b, c, e, g, i, j) refl

-- the text of a civil datetime, and the mark of UTC, are the text of its moment
pub datetime_written : (d : DateTime) (t : ℕ) → civil_nanos d ≡ pos t *ℤ pos 1_000_000_000 → IsMomentText t (iso_datetime_text d ++ 90 ∷ [])
datetime_written d t e =
    let (y, same, written) = year_written d.date.year (year_low d t e) in
    let civil = civil_from d t y e same in
    let low = date_digits y d.date.month d.date.day civil.date in
    let whole =
    same_parts _ _ _ _ _ _ _ _ _ _ _ _ _ _ (written ∙ four_digits-pad4 y low.0) (two_digits-pad2 d.date.month low.1)
    (two_digits-pad2 d.date.day low.2) (two_digits-pad2 d.time.hour (omega (arith, civil.hour_in)))
    (two_digits-pad2 d.time.minute (omega (arith, civil.minute_in))) (two_digits-pad2 d.time.second (omega (arith, civil.second_in)))
    (fraction_of d t e) in
    (y, d.date.month, d.date.day, d.time.hour, d.time.minute, d.time.second, civil, whole)
