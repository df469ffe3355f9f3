-- Thumbprints and what challenges ask for (RFC 7638; RFC 8555, 8.1, 8.4).
use Rattle.std.specs.Prelude.{◌≡◌, ℕ, List, codes}
use Rattle.sha2.specs.Sha256.{sha256}
use Rattle.desk_model.specs.Tokens.{base64url, dns_value_of}

-- the key of RFC 7638, 3.1
abbrev pub rsa_key : List ℕ
rsa_key =
    codes "{\"e\":\"AQAB\",\"kty\":\"RSA\",\"n\":\"0vx7agoebGcQSuuPiLJXZptN9nndrQmbXEps2aiAFbWhM78LhWx4cbbfAAtVT86zwu1RK7aPFFxuhDR1L6tSoc_BJECPebWKRXjBZCiFV4n3oknjhMstn64tZ_2W-5JsGY4Hc5n9yBXArwl93lqt7_RN5w6Cf0h4QyQ5v-65YGjQR0_FDW2QvzqY368QQMicAtaSqzs8KJZgnYb9c7d0zgdAZHzu6qMQvRL5hajrn1n91CbOpbISD08qNLyrdkt-bFTWhAI4vMQFh6WeZu0fM4lFd2NcRwr3XPksINHaQ-G_xBniIqbw0Ls1jF44-csFCur-kEgU8awapJzKnqDKgw\"}"

-- thumbprints and the texts that challenges ask for
pub record KeysHold : Type 0 where
  -- its thumbprint
  pub rsa_thumbprint : base64url (sha256 rsa_key) ≡ codes "NzbLsXh8uDCcd-6MNwXF4W_7noWXFZAfHkxZsRGC9Xs"
  -- the TXT record for a key authorization
  pub dns_value : dns_value_of (codes "abc") ≡ codes "ungWv48Bz-pBQUDeXa4iI7ADYaOWF3qctBD_YfIAFa0"
