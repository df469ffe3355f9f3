-- What the members of a key's value say of its text.
use Rattle.std.proofs.Common.{◌≡◌, ℕ, List, Option, Some, None, rules}
use Rattle.std.specs.Prelude.{IsTrue, option_and_then, if◌then◌else◌}
use Rattle.serde_json.specs.Data.{Data}
use Rattle.desk_model.specs.Keys.{Key, IsKey, IsKeyText, canonical_text, is_number_text, number_member, text_member}

-- the same, of a string that may be absent
number_by : (o : Option (List ℕ)) (x : List ℕ) → option_and_then (λ s. if is_number_text s then Some s else None) o ≡ Some x → IsTrue (is_number_text x)
number_by o x h = search rules

-- the number of a member has the form of one
pub is_number_of_member : (name : List ℕ) (d : Data) (x : List ℕ) → number_member name d ≡ Some x → IsTrue (is_number_text x)
is_number_of_member name d x h = number_by (text_member name d) x h

-- the canonical text of a key of the right form is a key's text
pub text_of_key : (text : List ℕ) (key : Key) → IsKey key → text ≡ canonical_text key → IsKeyText text
text_of_key text key formed whole = record { key = key; formed = formed; whole = whole }
