-- Names that are written in ASCII, without Punycode: IDNA lowers their letters, and nothing else.
use Rattle.std.specs.Prelude.{◌≡◌, ℕ, Bool, true, false, not, ◌&&◌, ◌==◌, nat_eq, List, map, drop, codes, Option, Some, None, refl, if◌then◌else◌}
use Rattle.std.specs.{Char.is_ascii, Char.to_ascii_lowercase, List.list_all, List.list_any, List.starts_with}
use Rattle.std.proofs.{Common.get_or, Common.◌<◌, Common.◌∙◌, Common.ltb-true, lemmas.Bool.and_parts, lemmas.Bool.not-true, lemmas.List.Elements.All-weaker}
use Rattle.std.proofs.{lemmas.List.Sums.AllPass-from_list_all, lemmas.Str.Ascii.IsAscii-from_all}
use Rattle.idna.specs.{Validity.has_ace_prefix, declared.deny_list.TheConstants.AsciiDenyList.EMPTY}
use Rattle.idna.proofs.{Uts46Lemmas.domain_to_ascii-ascii, ValidityLemmas.denies-EMPTY}
use Rattle.desk_model.specs.{BaseName.is_base_name, BaseName.labels_of, Name.Name, Names.ascii_form, Names.name_of, Names.name_with}

-- the text in lower case
abbrev pub lowered : List ℕ → List ℕ
lowered text = map to_ascii_lowercase text

-- ASCII, of which no label claims to be Punycode
abbrev pub is_plain : List ℕ → Bool
is_plain text = list_all is_ascii text && list_all (λ l. not (starts_with nat_eq l (codes "xn--"))) (labels_of (lowered text))

-- the text has the mark of a wildcard
abbrev pub is_marked : List ℕ → Bool
is_marked text = starts_with nat_eq text (codes "*.")

-- what stands behind the mark, if there is one
abbrev pub unmarked : List ℕ → List ℕ
unmarked text = if is_marked text then drop 2 text else text

-- the name with this rest, in lower case
abbrev pub lowered_with : Bool → List ℕ → Option Name
lowered_with wildcard rest =
    if list_any (λ c. c == 42) rest then None
    else (if is_base_name (lowered rest) then Some (record { base = lowered rest; wildcard = wildcard }) else None)

-- IDNA lowers what is plain
ascii_form-plain : (text : List ℕ) → is_plain text ≡ true → ascii_form text ≡ Some (lowered text)
unfolding has_ace_prefix
ascii_form-plain text h =
    let parts = and_parts (list_all is_ascii text) _ h in
    domain_to_ascii-ascii EMPTY text
    (IsAscii-from_all text (All-weaker (λ c. is_ascii c ≡ true) (λ c. c < 128) (λ c e. ltb-true c 128 e) text (AllPass-from_list_all is_ascii text parts.0)))
    (λ k d lt. denies-EMPTY (get_or text k d))
    (All-weaker (λ l. not (has_ace_prefix l) ≡ true) (λ l. has_ace_prefix l ≡ false) (λ l e. not-true _ e) (labels_of (lowered text))
    (AllPass-from_list_all (λ l. not (has_ace_prefix l)) (labels_of (lowered text)) parts.1))

-- a rest that is plain
name_with-plain : (wildcard : Bool) (rest : List ℕ) → is_plain rest ≡ true → name_with wildcard rest ≡ lowered_with wildcard rest
name_with-plain wildcard rest h = rw (ascii_form-plain rest h)

-- the name that a plain text stands for
pub plain_name : (text : List ℕ) → is_plain (unmarked text) ≡ true → name_of text ≡ lowered_with (is_marked text) (unmarked text)
unfolding name_of
plain_name text h = by (is_marked text) ∙ name_with-plain (is_marked text) (unmarked text) h
  where
    by : (marked : Bool) → (if marked then name_with true (drop 2 text) else name_with false text) ≡ name_with marked (if marked then drop 2 text else text)
    by true = refl
    by false = refl
