-- Numbers of objects and their decimal texts.
use Rattle.std.proofs.Common.{◌≡◌, ◌≢◌, ℕ, ◌<◌, ◌≤◌, ◌^◌, List, length, get_or, arith, sym, subst, ap, ◌∙◌, decimal}
use Rattle.std.proofs.lemmas.Fmt.{parse-decimal, decimal_is_IsNumeral, decimal-digits_value, decimal_digit, first_decimal}
use Rattle.std.proofs.lemmas.Str.Parse.{IsNumeralModel, numerals_by_value, tells_digits, digit_at, parse_plain}
use Rattle.std.specs.{Int.IsInRange, Result.OkIff, Prelude.Result, Prelude.Ok, Str.Parse.AllDigits, Str.Parse.digits_value, Str.Parse.ParsesUnsigned}
use Rattle.http_routes.specs.Routes.{IsNumberText}
use Rattle.desk_model.specs.Limits.{last_number}

-- digits and their value, in std's words
own : IsNumeralModel (AllDigits 10) (digits_value 10)
own = numerals_by_value _ tells_digits

-- a number of an object has 64 bits
pub fits : (n : ℕ) → n ≤ last_number → n < 2 ^ 64
fits n h = omega arith

-- its text parses to it
pub number_parses : {E : Type 0} (text : List ℕ) (n : ℕ) (r : Result ℕ E) → ParsesUnsigned 64 10 text r → IsNumberText text n → r ≡ Ok n
number_parses text n r parses h = parse-decimal 64 n text r (fits n h.last) (fits n h.last) h.digits parses

-- its text begins with a digit other than zero
pub number_begins : (text : List ℕ) (n : ℕ) → IsNumberText text n → IsInRange 49 57 (get_or text 0 0)
number_begins text n h = grind (arith, decimal_is_IsNumeral, first_decimal, digit_at)

-- what is written so is not zero
positive : (text : List ℕ) (n : ℕ) → text ≡ decimal n → 48 < get_or text 0 0 → 1 ≤ n
positive text n e above = grind (arith, decimal_digit)

-- what parses and begins so is the text of its number
pub parsed_is_number : {E : Type 0} (text : List ℕ) (n : ℕ) (r : Result ℕ E) → ParsesUnsigned 64 10 text r
    → IsInRange 49 57 (get_or text 0 0) → r ≡ Ok n → n ≤ last_number → IsNumberText text n
parsed_is_number {E} text n r parses begins e small =
    let plain : get_or text 0 0 ≢ 43 = λ q. omega (arith, begins.0) in
    let P : Result ℕ E → Type 0 = λ v. OkIff v (AllDigits 10 text × (0 < length text) × (digits_value 10 text < 2 ^ 64)) (digits_value 10 text) in
    let read : (AllDigits 10 text × (0 < length text) × (digits_value 10 text < 2 ^ 64)) × (n ≡ digits_value 10 text) =
    subst P e (parse_plain own 64 text r parses plain) in
    let back : decimal (digits_value 10 text) ≡ text =
    decimal-digits_value own text read.0.0 read.0.1 (λ q. absurd (omega (arith, begins.0))) read.0.2 in
    let digits : text ≡ decimal n = sym back ∙ ap (λ k. decimal k) (sym read.1) in
    record { digits = digits; first = positive text n digits (omega (arith, begins.0)); last = small }
