-- Terms whose lives keep their limits, and which break one, break that of the base.
use Rattle.std.proofs.Common.{◌≡◌, Bool, true, false, refl}
use Rattle.std.specs.Prelude.{◌&&◌}
use Rattle.desk_model.specs.Terms.{Terms, are_terms, is_base, is_life}

-- of four tests that do not all hold, the last three of which do, the first does not
first_fails : (b n o a : Bool) → n ≡ true → o ≡ true → a ≡ true → (b && (n && (o && a))) ≡ false → b ≡ false
first_fails false n o a kn ko ka fails = refl
first_fails true true true true kn ko ka fails = absurd (cc fails)
first_fails true true true false kn ko ka fails = absurd (cc ka)
first_fails true true false a kn ko ka fails = absurd (cc ko)
first_fails true false o a kn ko ka fails = absurd (cc kn)

pub base_breaks : (t : Terms) → is_life t.nonce_life ≡ true → is_life t.order_life ≡ true → is_life t.authz_life ≡ true → are_terms t ≡ false
    → is_base t.base ≡ false
base_breaks t n o a fails = first_fails (is_base t.base) (is_life t.nonce_life) (is_life t.order_life) (is_life t.authz_life) n o a fails
