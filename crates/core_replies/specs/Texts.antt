-- The tokens that documents are written by, one behind the other.
use Rattle.std.specs.Prelude.{◌≡◌, ℕ, List, [], ◌∷◌, ◌++◌, Some, true}
use Rattle.std.specs.List.{flat_map}
use Rattle.json.specs.{Token.Token, Tree.json_tokens}
use Rattle.serde_json.specs.{Data.Data, Data.no_members, Read.of_json, Written.outline}
use Rattle.desk_model.specs.{Json.members, Kept.EachOf, Plain.is_document}
use Rattle.core_replies.specs.Shown.{with_members}

-- the tokens of a value
abbrev pub tokens_of : Data → List Token
tokens_of d = json_tokens (outline d)

-- of a member, its name first
abbrev pub member_tokens : List ℕ × Data → List Token
member_tokens m = Token.key m.0 ∷ tokens_of m.1

-- what its tokens are read as is the value
abbrev pub ReadsBack : Data → Type 0
ReadsBack d = of_json (outline d) ≡ Some d

-- these members stand in the order of their names, each once
abbrev pub AreInOrder : List (List ℕ × Data) → Type 0
AreInOrder ms = with_members ms no_members ≡ members ms

-- behind what stood there stand the tokens of these members
pub record HasMembers (old new : List Token) (ms : List (List ℕ × Data)) : Type 0 where
  pub text : new ≡ old ++ flat_map member_tokens ms
  pub back : EachOf (λ m. ReadsBack m.1) ms

-- of these values
pub record HasValues (old new : List Token) (ds : List Data) : Type 0 where
  pub text : new ≡ old ++ flat_map tokens_of ds
  pub back : EachOf ReadsBack ds

-- these tokens are those of a document
pub record IsText (text : List Token) (d : Data) : Type 0 where
  pub values : HasValues [] text (d ∷ [])
  pub plain : is_document d ≡ true
