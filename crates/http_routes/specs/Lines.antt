-- The lines of a batch: a call in, a reply out.
use Rattle.std.specs.Prelude.{◌≡◌, ℕ, ◌++◌, List, Option, Some, None, Ok, codes, decimal, option_and_then, IsUtf8}
use Rattle.hex.specs.Hex.{decode_of, encode_lower}
use Rattle.serde_json.specs.{Data.Data, Read.read, Written.compact_text, Find.get, Find.as_number, Find.as_u64}
use Rattle.desk_model.specs.{Keys.text_member, Refusals.problem_document, declared.reply.Reply.Reply, declared.reply.Body.Body}
use Rattle.desk_model.specs.declared.reply.Body.TheVariants as body
use Rattle.http_routes.specs.declared.lines.{Line.Line, LineFault.LineFault}
use Rattle.http_routes.specs.declared.lines.LineFault.TheVariants as linefault

-- ---- a line in

-- the value's whole number of this name, from 0 to 2^64 - 1
abbrev pub whole_member : List ℕ → Data → Option ℕ
whole_member name d = option_and_then as_u64 (option_and_then as_number (get name d))

-- the value is an object with these members; others are passed over
pub record IsLine (d : Data) (l : Line) : Type 0 where
  pub at : whole_member (codes "at") d ≡ Some l.at
  pub digits : List ℕ
  pub digits_there : text_member (codes "random") d ≡ Some digits
  pub random : decode_of digits ≡ Ok l.random
  pub method : text_member (codes "method") d ≡ Some l.method
  pub path : text_member (codes "path") d ≡ Some l.path
  pub body : text_member (codes "body") d ≡ Some l.body

-- the bytes are the JSON text of such an object
pub record Spells (bytes : List ℕ) (l : Line) : Type 0 where
  pub is_text : IsUtf8 bytes
  pub value : Data
  pub read : read bytes ≡ Some value
  pub line : IsLine value l

-- why the value is no line, or is not read as one: it has not these members, or memory was refused
abbrev pub IsNoLine : Data → LineFault → Type 0
IsNoLine d linefault.NotACall = (l : Line) → IsLine d l → ⊥
IsNoLine d linefault.Memory = Unit {0}

-- why the bytes are none
abbrev pub SpellsNone : List ℕ → LineFault → Type 0
SpellsNone bytes linefault.NotACall = (l : Line) → Spells bytes l → ⊥
SpellsNone bytes linefault.Memory = Unit {0}

-- ---- a line out

-- a text, or a hyphen where there is none
abbrev pub field : Option (List ℕ) → List ℕ
field None = codes "-"
field (Some text) = text

abbrev pub body_text : Body → List ℕ
body_text body.Empty = codes "-"
body_text (body.Json d) = compact_text d
body_text (body.Problem p) = compact_text (problem_document p)
body_text (body.Certificate bytes) = codes "hex:" ++ encode_lower bytes

-- four fields, separated by one space
abbrev pub line_text : Reply → List ℕ
line_text r = decimal r.status ++ codes " " ++ field r.location ++ codes " " ++ field r.nonce ++ codes " " ++ body_text r.body
