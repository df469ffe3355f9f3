-- Which texts are names, and of what (RFC 8555, 7.1.3, 7.1.4; UTS 46).
use Rattle.std.specs.Prelude.{◌≡◌, ℕ, List, [], ◌∷◌, ◌++◌, replicate, true, Some, None, codes}
use Rattle.desk_model.specs.Names.{name_of, shown_name}
use Rattle.model_examples.specs.Calls.{simple}

-- the text is no name
abbrev pub IsNoName : List ℕ → Type 0
IsNoName text = name_of text ≡ None

-- the text stands for the base itself
abbrev pub IsSimple : (text base : List ℕ) → Type 0
IsSimple text base = name_of text ≡ Some (simple base)

-- the text stands for all names right below the base
abbrev pub IsWildcard : (text base : List ℕ) → Type 0
IsWildcard text base = name_of text ≡ Some (record { base = base; wildcard = true })

-- ---- no names

-- a label that claims to be Punycode and is not
abbrev pub FalsePunycode : Type 0
FalsePunycode = IsNoName (codes "xn--a.example")

-- three labels of 63 bytes, and one more of so many
abbrev pub four_labels : ℕ → List ℕ
four_labels last = replicate 63 97 ++ (46 ∷ (replicate 63 97 ++ (46 ∷ (replicate 63 97 ++ (46 ∷ replicate last 97)))))

-- ---- names

-- `*.Bücher.example`
abbrev pub Books : Type 0
Books = IsWildcard (codes "*.B" ++ (0xC3 ∷ 0xBC ∷ codes "cher.example")) (codes "xn--bcher-kva.example")

-- a full stop of another script, U+3002
abbrev pub IdeographicStop : Type 0
IdeographicStop = IsSimple (codes "a" ++ (0xE3 ∷ 0x80 ∷ 0x82 ∷ codes "example")) (codes "a.example")

-- the text of a wildcard
abbrev pub WildcardShown : Type 0
WildcardShown = shown_name (record { base = codes "xn--bcher-kva.example"; wildcard = true }) ≡ codes "*.xn--bcher-kva.example"

-- which texts are names, and of what
pub record NamesAreRead : Type 0 where
  -- ---- no names
  -- a star alone
  pub star : IsNoName (codes "*")
  -- a star behind the first
  pub two_stars : IsNoName (codes "*.*.a.b")
  -- a star within a label
  pub star_within : IsNoName (codes "*a.example")
  -- a star with nothing behind it
  pub star_of_nothing : IsNoName (codes "*.")
  -- no text
  pub no_text : IsNoName []
  -- an empty label
  pub empty_label : IsNoName (codes "a..b")
  -- a full stop at the end
  pub final_dot : IsNoName (codes "a.b.")
  -- an address
  pub address : IsNoName (codes "1.2.3.4")
  pub false_punycode : FalsePunycode
  -- a label alone
  pub one_label : IsNoName (codes "localhost")
  -- a label alone below a wildcard
  pub wildcard_of_label : IsNoName (codes "*.localhost")
  -- a hyphen in front
  pub hyphen_in_front : IsNoName (codes "-a.example")
  -- a hyphen at the end of a label
  pub hyphen_at_end : IsNoName (codes "a-.example")
  -- a character that no host name has
  pub low_line : IsNoName (codes "a_b.example")
  -- a label of 64 bytes
  pub long_label : IsNoName (replicate 64 97 ++ codes ".example")
  -- 254 bytes
  pub long_name : IsNoName (four_labels 62)
  -- ---- names
  -- a label of 63 bytes
  pub longest_label : IsSimple (replicate 63 97 ++ codes ".example") (replicate 63 97 ++ codes ".example")
  -- 253 bytes
  pub longest_name : IsSimple (four_labels 61) (four_labels 61)
  -- the mark of a wildcard does not count
  pub longest_wildcard : IsWildcard (codes "*." ++ four_labels 61) (four_labels 61)
  -- upper case is lowered
  pub upper_case : IsSimple (codes "Example.ORG") (codes "example.org")
  pub books : Books
  pub ideographic_stop : IdeographicStop
  -- hyphens in the third and fourth place
  pub inner_hyphens : IsSimple (codes "ab--c.example") (codes "ab--c.example")
  -- digits in all labels but the last
  pub digits_in_front : IsSimple (codes "1.2.3.a") (codes "1.2.3.a")
  pub wildcard_shown : WildcardShown
