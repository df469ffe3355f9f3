-- Objects of strings, and of objects of strings, as the grammar of `json` reads them.
use Rattle.std.specs.Prelude.{Bool, true, false, ◌&&◌}
use Rattle.json.specs.Json as json
use Rattle.serde_json.specs.Data.{Data, null, boolean, string, object, Members, no_members, put}

-- a string
abbrev pub is_text : json.Json → Bool
is_text (json.string s) = true
is_text _ = false

-- members that are strings
abbrev pub are_texts : json.Members → Bool
are_texts json.no_members = true
are_texts (json.member k j ms) = is_text j && are_texts ms

-- a string, or an object of strings
abbrev pub is_text_or_texts : json.Json → Bool
is_text_or_texts (json.string s) = true
is_text_or_texts (json.object ms) = are_texts ms
is_text_or_texts _ = false

-- members that are strings or objects of strings
abbrev pub are_shallow : json.Members → Bool
are_shallow json.no_members = true
are_shallow (json.member k j ms) = is_text_or_texts j && are_shallow ms

-- an object of strings and of objects of strings
abbrev pub is_shallow : json.Json → Bool
is_shallow (json.object ms) = are_shallow ms
is_shallow _ = false

-- the value of one that has neither numbers nor lists, of which nothing is said
abbrev mutual
  pub plain_value : json.Json → Data
  plain_value json.null = null
  plain_value (json.boolean b) = boolean b
  plain_value (json.number s) = null
  plain_value (json.string s) = string s
  plain_value (json.array js) = null
  plain_value (json.object ms) = object (plain_members ms no_members)

  -- the members go in one after another
  pub plain_members : json.Members → Members → Members
  plain_members json.no_members found = found
  plain_members (json.member k j ms) found = plain_members ms (put k (plain_value j) found)
