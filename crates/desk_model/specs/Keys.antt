-- The keys of accounts, their canonical texts (RFC 7638, 3) and what is made of them.
use Rattle.std.specs.Prelude.{◌≡◌, ℕ, Bool, ◌⊎◌, ◌&&◌, ◌||◌, ◌==◌, List, ◌++◌}
use Rattle.std.specs.Prelude.{length, codes, Option, Some, None, IsTrue, bytes_eq, option_and_then, if◌then◌else◌}
use Rattle.std.specs.{Int.is_in_range, Char.is_ascii_alphanumeric, List.list_all, Option.option_zip}
use Rattle.serde_json.specs.{Data.Data, Find.get, Find.as_str}
use Rattle.sha2.specs.Sha256.{sha256}

-- a public key, by the strings of its members
pub data Key : Type 0 where
  ec : (crv x y : List ℕ) → Key
  rsa : (e n : List ℕ) → Key
  okp : (x : List ℕ) → Key

-- a character of the URL-safe base64 alphabet
abbrev pub is_base64url_byte : ℕ → Bool
is_base64url_byte c = is_ascii_alphanumeric c || (c == 45 || c == 95)

-- 1 to 4096 such characters
abbrev pub is_number_text : List ℕ → Bool
is_number_text s = is_in_range 1 4096 (length s) && list_all is_base64url_byte s

-- a curve of the NIST that is served
abbrev pub IsCurve : List ℕ → Type 0
IsCurve crv = (crv ≡ codes "P-256") ⊎ (crv ≡ codes "P-384") ⊎ (crv ≡ codes "P-521")

-- the value's string of this name
abbrev pub text_member : List ℕ → Data → Option (List ℕ)
text_member name d = option_and_then as_str (get name d)

-- the value's strings of these names
abbrev pub text_members : (first second : List ℕ) → Data → Option (List ℕ × List ℕ)
text_members first second d = option_zip (text_member first d) (text_member second d)

-- the value's number of this name, written in base64url
abbrev pub number_member : List ℕ → Data → Option (List ℕ)
number_member name d = option_and_then (λ s. if is_number_text s then Some s else None) (text_member name d)

abbrev pub IsEc : Data → List ℕ → List ℕ → List ℕ → Type 0
IsEc d crv x y =
    (text_member (codes "crv") d ≡ Some crv) × IsCurve crv
    × (number_member (codes "x") d ≡ Some x) × (number_member (codes "y") d ≡ Some y)

abbrev pub IsRsa : Data → List ℕ → List ℕ → Type 0
IsRsa d e n = (number_member (codes "e") d ≡ Some e) × (number_member (codes "n") d ≡ Some n)

abbrev pub IsOkp : Data → List ℕ → Type 0
IsOkp d x = (text_member (codes "crv") d ≡ Some (codes "Ed25519")) × (number_member (codes "x") d ≡ Some x)

-- the value spells the key
abbrev pub IsKeyOf : Data → Key → Type 0
IsKeyOf d (ec crv x y) = (text_member (codes "kty") d ≡ Some (codes "EC")) × IsEc d crv x y
IsKeyOf d (rsa e n) = (text_member (codes "kty") d ≡ Some (codes "RSA")) × IsRsa d e n
IsKeyOf d (okp x) = (text_member (codes "kty") d ≡ Some (codes "OKP")) × IsOkp d x

-- the curve is one of them
abbrev pub is_curve : List ℕ → Bool
is_curve crv = bytes_eq crv (codes "P-256") || (bytes_eq crv (codes "P-384") || bytes_eq crv (codes "P-521"))

abbrev pub ec_by : (crv x y : Option (List ℕ)) → Option Key
ec_by (Some crv) (Some x) (Some y) = if is_curve crv then Some (ec crv x y) else None
ec_by _ _ _ = None

abbrev pub rsa_by : (e n : Option (List ℕ)) → Option Key
rsa_by (Some e) (Some n) = Some (rsa e n)
rsa_by _ _ = None

abbrev pub okp_by : (crv x : Option (List ℕ)) → Option Key
okp_by (Some crv) (Some x) = if bytes_eq crv (codes "Ed25519") then Some (okp x) else None
okp_by _ _ = None

abbrev pub key_of_type : Data → Option (List ℕ) → Option Key
key_of_type d None = None
key_of_type d (Some kty) =
    if bytes_eq kty (codes "EC") then ec_by (text_member (codes "crv") d) (number_member (codes "x") d) (number_member (codes "y") d)
    else (if bytes_eq kty (codes "RSA") then rsa_by (number_member (codes "e") d) (number_member (codes "n") d)
    else (if bytes_eq kty (codes "OKP") then okp_by (text_member (codes "crv") d) (number_member (codes "x") d)
    else None))

-- the key that the value spells, if it spells one
unfoldable pub key_in : Data → Option Key
key_in d = key_of_type d (text_member (codes "kty") d)

-- the canonical text of a key
abbrev pub canonical_text : Key → List ℕ
canonical_text (ec crv x y) =
    codes "{\"crv\":\"" ++ (crv ++ (codes "\",\"kty\":\"EC\",\"x\":\"" ++ (x ++ (codes "\",\"y\":\"" ++ (y ++ codes "\"}")))))
canonical_text (rsa e n) =
    codes "{\"e\":\"" ++ (e ++ (codes "\",\"kty\":\"RSA\",\"n\":\"" ++ (n ++ codes "\"}")))
canonical_text (okp x) =
    codes "{\"crv\":\"Ed25519\",\"kty\":\"OKP\",\"x\":\"" ++ (x ++ codes "\"}")

-- the strings of a key have the forms that are asked of them
abbrev pub IsKey : Key → Type 0
IsKey (ec crv x y) = IsCurve crv × IsTrue (is_number_text x) × IsTrue (is_number_text y)
IsKey (rsa e n) = IsTrue (is_number_text e) × IsTrue (is_number_text n)
IsKey (okp x) = IsTrue (is_number_text x)

-- the thumbprint of a key, by its canonical text (RFC 7638, 3)
abbrev pub thumbprint : List ℕ → List ℕ
thumbprint text = sha256 text

-- the text is the canonical text of a key
pub record IsKeyText (text : List ℕ) : Type 0 where
  pub key : Key
  pub formed : IsKey key
  pub whole : text ≡ canonical_text key
