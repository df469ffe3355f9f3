-- What the shortest texts are read as.
use Rattle.std.proofs.Common.{◌≡◌, [], codes, Some, None, refl}
use Rattle.serde_json.specs.{Data.object, Data.no_members, Read.read}
use Rattle.serde_json.proofs.OnLiterals.{serde_json_on_literals}

-- no text is no JSON
pub read-nothing : read [] ≡ None
unfolding serde_json_on_literals
read-nothing = refl

-- an object without members
pub read-empty_object : read (codes "{}") ≡ Some (object no_members)
unfolding serde_json_on_literals
read-empty_object = refl
