-- JSON values whose compact text reads back as them.
use Rattle.std.specs.Prelude.{◌≡◌, ℕ, zero, suc, List, Bool, true, false, ◌&&◌, not, Some, unwrap_or}
use Rattle.serde_json.specs.Data.{Data, null, boolean, number, string, array, object, Items, no_items, item, Members, no_members, member}
use Rattle.serde_json.specs.{Find.is_float, Read.read, Written.compact_text}

-- the value that a text reads as
abbrev pub data_in : List ℕ → Data
data_in text = unwrap_or (read text) null

-- the text is the compact text of the value that it reads as
abbrev pub IsWritten : List ℕ → Type 0
IsWritten text = (d : Data) × (read text ≡ Some d) × (text ≡ compact_text d)

-- no float, and lists and objects in one another no more than so many times
abbrev mutual
  pub is_plain : ℕ → Data → Bool
  is_plain n null = true
  is_plain n (boolean b) = true
  is_plain n (number x) = not (is_float x)
  is_plain n (string s) = true
  is_plain zero (array ds) = false
  is_plain (suc n) (array ds) = items_are_plain n ds
  is_plain zero (object ms) = false
  is_plain (suc n) (object ms) = members_are_plain n ms

  pub items_are_plain : ℕ → Items → Bool
  items_are_plain n no_items = true
  items_are_plain n (item d ds) = is_plain n d && items_are_plain n ds

  pub members_are_plain : ℕ → Members → Bool
  members_are_plain n no_members = true
  members_are_plain n (member k d ms) = is_plain n d && members_are_plain n ms

-- what the documents of replies are: a list of documents that hold a list of documents is the deepest
abbrev pub is_document : Data → Bool
is_document d = is_plain 8 d
