-- The shapes of canonical texts (RFC 7638, 3), by what stands round the numbers.
use Rattle.std.specs.Prelude.{◌≡◌, ℕ, List, ◌∷◌, ◌++◌, ◌⊎◌, codes, IsTrue}
use Rattle.desk_model.specs.Keys.{is_number_text}

-- a number, its quotation mark and the rest
abbrev pub IsNumberThen : (text rest : List ℕ) → Type 0
IsNumberThen text rest = (number : List ℕ) × IsTrue (is_number_text number) × (text ≡ number ++ 34 ∷ rest)

-- a number at the end of an object
abbrev pub IsLastNumber : List ℕ → Type 0
IsLastNumber text = IsNumberThen text (codes "}")

-- such a number behind a head
abbrev pub HasOneNumber : (head text : List ℕ) → Type 0
HasOneNumber head text = (rest : List ℕ) × (text ≡ head ++ rest) × IsLastNumber rest

-- two numbers with this between the quotation marks, at the end of an object
abbrev pub AreTwoNumbers : (between text : List ℕ) → Type 0
AreTwoNumbers between text = (rest : List ℕ) × IsNumberThen text rest × HasOneNumber between rest

-- two such numbers behind a head
abbrev pub HasTwoNumbers : (head between text : List ℕ) → Type 0
HasTwoNumbers head between text = (rest : List ℕ) × (text ≡ head ++ rest) × AreTwoNumbers between rest

-- what stands before the first number of a key on a curve
abbrev pub ec_head : List ℕ → List ℕ
ec_head curve = codes "{\"crv\":\"" ++ (curve ++ codes "\",\"kty\":\"EC\",\"x\":\"")

-- the shape of a key on a curve of the NIST
abbrev pub HasEcShape : List ℕ → Type 0
HasEcShape text =
    HasTwoNumbers (ec_head (codes "P-256")) (codes ",\"y\":\"") text
    ⊎ HasTwoNumbers (ec_head (codes "P-384")) (codes ",\"y\":\"") text
    ⊎ HasTwoNumbers (ec_head (codes "P-521")) (codes ",\"y\":\"") text

-- the text is of one of the shapes of canonical texts
abbrev pub HasKeyShape : List ℕ → Type 0
HasKeyShape text =
    HasEcShape text
    ⊎ HasTwoNumbers (codes "{\"e\":\"") (codes ",\"kty\":\"RSA\",\"n\":\"") text
    ⊎ HasOneNumber (codes "{\"crv\":\"Ed25519\",\"kty\":\"OKP\",\"x\":\"") text
