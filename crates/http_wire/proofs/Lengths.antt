-- Digits, one after another.
use Rattle.std.proofs.Common.{◌≡◌, inl, inr, ◌+◌, ◌*◌, ◌<◌, ◌≤◌, ℕ, suc, Bool, true, false, List, [], ◌∷◌, take, length, get_or, arith, add-one, Some, None}
use Rattle.std.proofs.Common.{refl, nat_lt}
use Rattle.std.proofs.{Math.Seq.take-suc, lemmas.List.take_all, lemmas.Bool.Decides.leb_tells, lemmas.List.Folds.list_all_at, lemmas.Bool.lt-ltb}
use Rattle.std.proofs.{lemmas.Bool.cases_lt, lemmas.Int.Digits.digits_push, lemmas.Int.Digits.digits_value_more}
use Rattle.std.specs.{Prelude.if◌then◌else◌, Prelude.◌&&◌, List.list_all, Char.digit_value, Str.Parse.AllDigits, Str.Parse.digits_value}
use Rattle.http_wire.specs.Framing.{is_digit, length_in, saturated}

-- one digit more
pub more_digits : (text : List ℕ) (i : ℕ) → i < length text → AllDigits 10 (take i text) → digit_value (get_or text i 0) < 10
    → AllDigits 10 (take (i + 1) text)
more_digits text i within h k = rw (add-one, take-suc text i 0 within) (digits_push 10 (take i text) (get_or text i 0) h k)

-- the number with one digit more, saturated
pub more_value : (text : List ℕ) (i n tens d : ℕ) → i < length text → n ≡ saturated (digits_value 10 (take i text)) → tens ≡ saturated (n * 10)
    → d ≡ digit_value (get_or text i 0) → saturated (tens + d) ≡ saturated (digits_value 10 (take (i + 1) text))
more_value text i n tens d within e t k = omega (arith, digits_value_more 10 text i within)

-- digits pass the test
all_digits : (text : List ℕ) → AllDigits 10 text → list_all is_digit text ≡ true
all_digits [] h = refl
all_digits (c ∷ cs) h = rw (lt-ltb (digit_value c) 10 h.0) (all_digits cs h.1)

-- the number of digits
pub length_of_digits : (text : List ℕ) → 0 < length text → AllDigits 10 text → length_in text ≡ Some (digits_value 10 text)
length_of_digits text some h = rw (lt-ltb 0 (length text) some, all_digits text h) refl

-- what fails the test has no number
no_length : (text : List ℕ) (b : Bool) → list_all is_digit text ≡ false → (if b && list_all is_digit text then Some (digits_value 10 text) else None) ≡ None
no_length text true e = rw e refl
no_length text false e = refl

-- 10 or more is no digit
above : (n : ℕ) → 10 ≤ n → nat_lt n 10 ≡ false
above n h = elim (leb_tells (suc n) 10) [ inl w ↦ absurd (omega arith) | inr w ↦ w.0 ]

-- what is no digit makes it none
pub length_of_none : (text : List ℕ) (i : ℕ) → i < length text → (digit_value (get_or text i 0) < 10 → ⊥) → length_in text ≡ None
length_of_none text i within other =
    let h : 10 ≤ digit_value (get_or text i 0) = elim (cases_lt (digit_value (get_or text i 0)) 10) [ inl w ↦ absurd (other w) | inr w ↦ w ] in
    no_length text (nat_lt 0 (length text)) (list_all_at is_digit text i 0 within (above (digit_value (get_or text i 0)) h))

-- and so does no text
pub length_of_no_text : (text : List ℕ) → length text ≡ 0 → length_in text ≡ None
length_of_no_text [] h = refl
length_of_no_text (c ∷ cs) h = absurd (omega arith)

-- what was counted of the whole text is its number
pub length_of_all : (text : List ℕ) (i n : ℕ) → 0 < length text → length text ≤ i → AllDigits 10 (take i text)
    → n ≡ saturated (digits_value 10 (take i text)) → (m : ℕ) × (length_in text ≡ Some m) × (n ≡ saturated m)
length_of_all text i n some all h e =
    let whole : take i text ≡ text = take_all i text all in
    (digits_value 10 text, length_of_digits text some (rw whole at h), rw whole at e)
