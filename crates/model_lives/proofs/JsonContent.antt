-- What a string of a UTF-8 text stands for is UTF-8 (RFC 8259, 7).
use Rattle.std.proofs.Common.{◌≡◌, ℕ, zero, suc, ◌<◌, ◌≤◌, List, [], ◌∷◌, ◌++◌, length, Option, IsUtf8, IfSome, refl, sym, subst, Bool}
use Rattle.std.proofs.Common.{true, false, cond, arith, append-nil, append_assoc, encode_utf8}
use Rattle.std.proofs.lemmas.{Bool.Decides.nat_tests, Bool.and_parts, Bool.eqb-true, Bool.ltb-true, Bool.lt-ltb, Str.IsUtf8-append, Str.IsUtf8-encode}
use Rattle.std.specs.{Prelude.◌==◌, Prelude.◌&&◌, Prelude.nat_lt, Prelude.option_and_then, Char.IsScalar, Char.digit_value, Char.is_digit}
use Rattle.model_laws.proofs.AsciiTexts.{ascii_text, parted}
use Rattle.json.specs.Text.{content, plain, after_backslash, after_u, after_high, code_unit, short_escape, is_high_surrogate, is_low_surrogate, surrogate_pair}
use Rattle.json.specs.Text.{prepend}

-- what follows an ASCII byte is a text
after_ascii : (b : ℕ) (rest : List ℕ) → IsUtf8 (b ∷ rest) → b < 128 → IsUtf8 rest
after_ascii b rest whole ascii = (parted [] b rest whole ascii).after

-- ---- options

-- what holds of either of two options, by a test
some_by : {A : Type 0} (P : A → Type 0) (b : Bool) (o p : Option A) → (b ≡ true → IfSome o P) → (b ≡ false → IfSome p P) → IfSome (cond b o p) P
some_by P b o p h k = grind arith

-- and of a value under a function that may fail
pub then_holds : {A B : Type 0} (P : A → Type 0) (Q : B → Type 0) (f : A → Option B) → ((a : A) → P a → IfSome (f a) Q) → (o : Option A) → IfSome o P →
    IfSome (option_and_then f o) Q
then_holds P Q f h o k = grind arith

-- ---- escapes

-- what stands behind these bytes makes a text with them, if there is something
abbrev IsTextBehind : List ℕ → Option (List ℕ) → Type 0
IsTextBehind front o = IfSome o (λ s. IsUtf8 (front ++ s))

-- a text behind a text
behind : (front : List ℕ) (o : Option (List ℕ)) → IsUtf8 front → IsTextBehind [] o → IsTextBehind front o
behind front o h k = grind (arith, IsUtf8-append)

-- and with it
prepended : (front bytes : List ℕ) (o : Option (List ℕ)) → IsTextBehind (front ++ bytes) o → IsTextBehind front (prepend bytes o)
prepended front bytes o h = grind (arith, append_assoc)

-- a byte behind a backslash and what it stands for are ASCII
short_ascii : (x : ℕ) → IfSome (short_escape x) (λ c. (x < 128) × (c < 128))
unfolding short_escape
short_ascii x = grind arith

-- a hex digit is ASCII, and its value is below 16
pub record IsHex (x : ℕ) : Type 0 where
  pub ascii : x < 128
  pub small : digit_value x < 16

-- the digits of a code unit
digit_of : (x : ℕ) → is_digit x 16 ≡ true → IsHex x
digit_of x h = record { ascii = grind (arith, nat_tests); small = ltb-true (digit_value x) 16 h }

-- four hex digits are ASCII, and spell a number of 16 bits
pub record IsUnit (a b c d u : ℕ) : Type 0 where
  pub first : a < 128
  pub second : b < 128
  pub third : c < 128
  pub fourth : d < 128
  pub small : u < 65536

-- what four bytes spell, if they spell something
unit_of : (a b c d : ℕ) → IfSome (code_unit a b c d) (IsUnit a b c d)
unfolding code_unit
unit_of a b c d =
    some_by (IsUnit a b c d) (is_digit a 16 && is_digit b 16 && is_digit c 16 && is_digit d 16) _ _ (λ h.
    let p = and_parts _ (is_digit d 16) h in
    let q = and_parts _ (is_digit c 16) p.0 in
    let r = and_parts (is_digit a 16) (is_digit b 16) q.0 in
    let one : IsHex a = digit_of a r.0 in
    let two : IsHex b = digit_of b r.1 in
    let three : IsHex c = digit_of c q.1 in
    let four : IsHex d = digit_of d p.1 in
    record { first = one.ascii; second = two.ascii; third = three.ascii; fourth = four.ascii; small = omega arith }) (λ no. tt)

-- what stands behind four hex digits is a text
after_unit : (a b c d u : ℕ) (rest : List ℕ) → IsUnit a b c d u → IsUtf8 (a ∷ b ∷ c ∷ d ∷ rest) → IsUtf8 rest
after_unit a b c d u rest h text =
    after_ascii d rest (after_ascii c (d ∷ rest) (after_ascii b (c ∷ d ∷ rest) (after_ascii a (b ∷ c ∷ d ∷ rest) text h.first) h.second) h.third) h.fourth

-- a code unit that is no surrogate is a character
unit_scalar : (u : ℕ) → u < 65536 → is_high_surrogate u ≡ false → is_low_surrogate u ≡ false → IsScalar u
unit_scalar u small high low = grind (arith, nat_tests)

-- and so is what two surrogates stand for
pair_scalar : (h l : ℕ) → is_high_surrogate h ≡ true → is_low_surrogate l ≡ true → IsScalar (surrogate_pair h l)
pair_scalar h l high low = grind (arith, nat_tests)

-- ---- strings

-- the content of what is no longer than n, up to the quotation mark, is a text
abbrev GivesTexts : ℕ → Type 0
GivesTexts n = (rest : List ℕ) → length rest ≤ n → IsUtf8 rest → IsTextBehind [] (content plain rest)

-- a character and what follows it
character_then : (c : ℕ) (o : Option (List ℕ)) → IsScalar c → IsTextBehind [] o → IsTextBehind [] (prepend (encode_utf8 c) o)
character_then c o scalar h = prepended [] (encode_utf8 c) o (behind (encode_utf8 c) o (IsUtf8-encode c scalar) h)

-- the second half of a surrogate pair
low_half : (n : ℕ) → GivesTexts n → (h : ℕ) → is_high_surrogate h ≡ true → (rest : List ℕ) → length rest ≤ n → IsUtf8 rest →
    IsTextBehind [] (content (after_high h) rest)
unfolding content
low_half n more h high (s ∷ u ∷ a ∷ b ∷ c ∷ d ∷ rest) fits text =
    some_by IsUtf8 ((s == 92) && (u == 117)) _ _ (λ p.
    let parts = and_parts (s == 92) (u == 117) p in
    let mark : s ≡ 92 = eqb-true s 92 parts.0 in
    let letter : u ≡ 117 = eqb-true u 117 parts.1 in
    let digits : IsUtf8 (a ∷ b ∷ c ∷ d ∷ rest) = after_ascii u _ (after_ascii s _ text (omega arith)) (omega arith) in
    then_holds (IsUnit a b c d) IsUtf8 _ (λ l unit.
    some_by IsUtf8 (is_low_surrogate l) _ _ (λ low.
    character_then (surrogate_pair h l) (content plain rest) (pair_scalar h l high low) (more rest (omega arith) (after_unit a b c d l rest unit digits)))
    (λ no. tt)) (code_unit a b c d) (unit_of a b c d)) (λ no. tt)
low_half n more h high _ fits text = tt

-- what stands behind `\u`
unit_then : (n : ℕ) → GivesTexts n → (rest : List ℕ) → length rest ≤ n → IsUtf8 rest → IsTextBehind [] (content after_u rest)
unfolding content
unit_then n more (a ∷ b ∷ c ∷ d ∷ rest) fits text =
    then_holds (IsUnit a b c d) IsUtf8 _ (λ u unit.
    let after : IsUtf8 rest = after_unit a b c d u rest unit text in
    some_by IsUtf8 (is_high_surrogate u) _ _ (λ high. low_half n more u high rest (omega arith) after) (λ high.
    some_by IsUtf8 (is_low_surrogate u) _ _ (λ low. tt) (λ low.
    character_then u (content plain rest) (unit_scalar u unit.small high low) (more rest (omega arith) after))))
    (code_unit a b c d) (unit_of a b c d)
unit_then n more _ fits text = tt

-- what stands behind a backslash
escape_then : (n : ℕ) → GivesTexts n → (rest : List ℕ) → length rest ≤ n → IsUtf8 rest → IsTextBehind [] (content after_backslash rest)
unfolding content
escape_then n more [] fits text = tt
escape_then n more (x ∷ rest) fits text =
    some_by IsUtf8 (x == 117) _ _ (λ p.
    let letter : x ≡ 117 = eqb-true x 117 p in unit_then n more rest (omega arith) (after_ascii x rest text (omega arith))) (λ no.
    then_holds (λ c. (x < 128) × (c < 128)) IsUtf8 _ (λ c h.
    prepended [] (c ∷ []) (content plain rest)
    (behind (c ∷ []) (content plain rest) (ascii_text (c ∷ []) (rw (lt-ltb c 128 h.1) refl)) (more rest (omega arith) (after_ascii x rest text h.0))))
    (short_escape x) (short_ascii x))

-- up to the quotation mark, behind some bytes
content_text : (n : ℕ) (front rest : List ℕ) → length rest ≤ n → IsUtf8 (front ++ rest) → IsTextBehind front (content plain rest)
unfolding content
content_text n front [] fits text = tt
content_text zero front (x ∷ rest) fits text = absurd (omega arith)
content_text (suc n) front (x ∷ rest) fits text =
    some_by (λ s. IsUtf8 (front ++ s)) (x == 34) _ _ (λ p.
    let mark : x ≡ 34 = eqb-true x 34 p in subst IsUtf8 (sym (append-nil front)) (parted front x rest text (omega arith)).before) (λ p.
    some_by (λ s. IsUtf8 (front ++ s)) (x == 92) _ _ (λ q.
    let mark : x ≡ 92 = eqb-true x 92 q in
    let parts = parted front x rest text (omega arith) in
    behind front (content after_backslash rest) parts.before
    (escape_then n (λ after small whole. content_text n [] after small whole) rest (omega arith) parts.after)) (λ q.
    some_by (λ s. IsUtf8 (front ++ s)) (nat_lt x 32) _ _ (λ control. tt) (λ shown.
    prepended front (x ∷ []) (content plain rest)
    (content_text n (front ++ x ∷ []) rest (omega arith) (subst IsUtf8 (sym (append_assoc front (x ∷ []) rest)) text)))))

-- the content of a string that a text goes on with is a text
pub string_text : (rest : List ℕ) → IsUtf8 rest → IfSome (content plain rest) IsUtf8
string_text rest text = content_text (length rest) [] rest (omega arith) text
