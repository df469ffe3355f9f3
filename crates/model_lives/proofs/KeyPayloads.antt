-- The keys that payloads spell are keys that the desk accepts.
use Rattle.std.proofs.Common.{ℕ, List, Option, IfSome, refl, arith}
use Rattle.std.specs.Prelude.{IsTrue, codes}
use Rattle.desk_model.proofs.KeyShapes.{curve_known}
use Rattle.serde_json.specs.Data.{Data}
use Rattle.desk_model.specs.Keys.{IsKey, IsKeyText, canonical_text, ec_by, is_number_text, key_in, key_of_type, number_member, okp_by, rsa_by, text_member}
use Rattle.desk_model.specs.{Payload.key_change, Payload.key_text_in, declared.payload.KeyChange.KeyChange}
use Rattle.model_lives.proofs.JsonTexts.{map_holds}

-- a number has the form of one
abbrev IsNumber : List ℕ → Type 0
IsNumber s = IsTrue (is_number_text s)

-- a member that is a number
number_formed : (name : List ℕ) (d : Data) → IfSome (number_member name d) IsNumber
number_formed name d = grind arith

-- a key on a curve
ec_formed : (crv x y : Option (List ℕ)) → IfSome x IsNumber → IfSome y IsNumber → IfSome (ec_by crv x y) IsKey
ec_formed crv x y h k = grind (arith, curve_known)

-- an RSA key
rsa_formed : (e n : Option (List ℕ)) → IfSome e IsNumber → IfSome n IsNumber → IfSome (rsa_by e n) IsKey
rsa_formed e n h k = grind arith

-- an Ed25519 key
okp_formed : (crv x : Option (List ℕ)) → IfSome x IsNumber → IfSome (okp_by crv x) IsKey
okp_formed crv x h = grind arith

-- a key of this type
type_formed : (d : Data) (kty : Option (List ℕ)) → IfSome (key_of_type d kty) IsKey
type_formed d kty = grind (arith, ec_formed, number_formed, rsa_formed, okp_formed)

-- the key that a value spells
key_formed : (d : Data) → IfSome (key_in d) IsKey
unfolding key_in
key_formed d = type_formed d (text_member (codes "kty") d)

-- its canonical text
key_text_formed : (d : Data) → IfSome (key_text_in d) IsKeyText
key_text_formed d = map_holds IsKey IsKeyText canonical_text (λ k formed. record { key = k; formed = formed; whole = refl }) (key_in d) (key_formed d)

-- an account is to get a key that the desk accepts, or one that it does not
abbrev pub ChangesToKey : KeyChange → Type 0
ChangesToKey c = IfSome c.new_key IsKeyText

-- the key that a payload names
pub key_change_formed : (payload : List ℕ) → IfSome (key_change payload) ChangesToKey
key_change_formed payload = grind (arith, key_text_formed)
