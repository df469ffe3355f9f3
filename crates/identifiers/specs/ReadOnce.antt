-- What is read once in a signed request: its nonce, and what it asks where it is for another key (RFC 8555, 6.5 and 7.3.5).
use Rattle.std.specs.Prelude.{ℕ, List, Option, None, option_map}
use Rattle.desk_model.specs.{Payload.key_change, Tokens.NonceText, declared.call.Target.Target, declared.payload.KeyChange.KeyChange}
use Rattle.desk_model.specs.declared.call.Target.TheVariants as to

-- a nonce that was read, as what its text spells
abbrev pub spelled_nonce : Option (ℕ × List ℕ) → Option NonceText
spelled_nonce nonce = option_map (λ p. record { serial = p.0; random = p.1 }) nonce

-- what a request to a target asks, if it is for another key
abbrev pub target_key_change : Target → List ℕ → Option KeyChange
target_key_change to.KeyChange payload = key_change payload
target_key_change _ payload = None
