-- Decimal texts, and what is parsed of them.
use Rattle.std.proofs.Common.{◌≡◌, ◌≢◌, ℕ, zero, suc, ◌<◌, ◌^◌, List, length, get_or, arith, sym, subst, ap, ◌∙◌, codes, decimal}
use Rattle.std.proofs.lemmas.Fmt.{parse-decimal, decimal_is_IsNumeral, decimal-digits_value, decimal_digit, first_decimal}
use Rattle.std.proofs.lemmas.Str.Parse.{IsNumeralModel, numerals_by_value, tells_digits, digit_at, parse_plain}
use Rattle.std.specs.{Int.IsInRange, Result.OkIff, Prelude.Result, Prelude.Ok, Str.Parse.AllDigits, Str.Parse.digits_value, Str.Parse.ParsesUnsigned}
use Rattle.app_words.specs.Numbers.{IsDecimal}

-- digits and their value, in std's words
own : IsNumeralModel (AllDigits 10) (digits_value 10)
own = numerals_by_value _ tells_digits

-- the text of zero
pub zero_is_decimal : (text : List ℕ) → text ≡ codes "0" → IsDecimal text 0
zero_is_decimal text is = record { digits = is ∙ sym (decimal_digit 0 (omega arith)); fits = omega arith }

-- any other decimal text begins with a digit other than zero
pub decimal_begins : (text : List ℕ) (n : ℕ) → IsDecimal text n → text ≢ codes "0" → IsInRange 49 57 (get_or text 0 0)
decimal_begins text zero h other = absurd (other (h.digits ∙ decimal_digit 0 (omega arith)))
decimal_begins text (suc n) h other =
    let numeral = decimal_is_IsNumeral (suc n) h.fits in
    let above : 48 < get_or (decimal (suc n)) 0 0 = first_decimal (suc n) (omega arith) h.fits in
    let digit : IsInRange 48 57 (get_or (decimal (suc n)) 0 0) = digit_at (decimal (suc n)) 0 numeral.0.1 numeral.0.0 in
    rw (h.digits) (omega arith, digit.1)

-- and parses to its number
pub decimal_parses : {E : Type 0} (text : List ℕ) (n : ℕ) (r : Result ℕ E) → ParsesUnsigned 64 10 text r → IsDecimal text n → r ≡ Ok n
decimal_parses text n r parses h = parse-decimal 64 n text r h.fits h.fits h.digits parses

-- what parses and begins so is the decimal text of its number
pub parsed_is_decimal : {E : Type 0} (text : List ℕ) (n : ℕ) (r : Result ℕ E) → ParsesUnsigned 64 10 text r
    → IsInRange 49 57 (get_or text 0 0) → r ≡ Ok n → IsDecimal text n
parsed_is_decimal {E} text n r parses begins e =
    let plain : get_or text 0 0 ≢ 43 = λ q. omega (arith, begins.0) in
    let P : Result ℕ E → Type 0 = λ v. OkIff v (AllDigits 10 text × (0 < length text) × (digits_value 10 text < 2 ^ 64)) (digits_value 10 text) in
    let read : (AllDigits 10 text × (0 < length text) × (digits_value 10 text < 2 ^ 64)) × (n ≡ digits_value 10 text) =
    subst P e (parse_plain own 64 text r parses plain) in
    let back : decimal (digits_value 10 text) ≡ text =
    decimal-digits_value own text read.0.0 read.0.1 (λ q. absurd (omega (arith, begins.0))) read.0.2 in
    record { digits = sym back ∙ ap (λ k. decimal k) (sym read.1); fits = rw (read.1) (read.0.2) }
