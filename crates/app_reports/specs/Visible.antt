-- Texts in the visible characters of ASCII.
use Rattle.std.specs.Prelude.{ℕ, ◌/◌, ◌%◌, ◌++◌, ◌&&◌, List, [], ◌∷◌, chars, codes, cond, nat_lt}
use Rattle.std.specs.{List.flat_map, Char.Escape.encode_utf16, Char.digit_char}

-- a unit of UTF-16 as JSON escapes it (RFC 8259, 7), in lower case
abbrev pub unit_escape : ℕ → List ℕ
unit_escape u = codes "\\u" ++ (digit_char (u / 4096) ∷ digit_char (u / 256 % 16) ∷ digit_char (u / 16 % 16) ∷ digit_char (u % 16) ∷ [])

-- a character: as it stands from the space to the tilde, else each of its units so
abbrev pub visible_char : ℕ → List ℕ
visible_char c = cond (nat_lt 31 c && nat_lt c 127) (c ∷ []) (flat_map unit_escape (encode_utf16 c))

-- each character of a text so
abbrev pub visible : List ℕ → List ℕ
visible text = flat_map visible_char (chars text)
