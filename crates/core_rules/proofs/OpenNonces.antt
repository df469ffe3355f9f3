-- The nonce of a serial, by whether it lasts and which random bytes it has.
use Rattle.std.proofs.Common.{◌≡◌, ℕ, cond, ◌&&◌, Option, Some, None, sym, ap, ◌∙◌, arith}
use Rattle.std.specs.Prelude.{bytes_eq}
use Rattle.desk_model.specs.{Effect.swept, Effect.lasts, Questions.nonce_on, Tables.Tables, Tokens.NonceText, declared.objects.Nonce.Nonce, Rules.if_spelled}
use Rattle.desk_model.specs.{Rules.open_nonce_in}
use Rattle.model_laws.specs.Ordered.{IsOrdered}
use Rattle.core_rules.specs.Lists.{only}
use Rattle.core_rules.proofs.Looking.{find-only}

-- among those that last, of a text that spells a serial
found : (T : Tables) (m : ℕ) → IsOrdered T → (t : NonceText) (o : Option Nonce) → o ≡ nonce_on T t.serial →
    open_nonce_in (swept m T) (Some t) ≡ if_spelled t (only (lasts T.meta.policy m) o)
found T m ordered t o is =
    ap (if_spelled t)
    (find-only (λ n. n.serial) (lasts T.meta.policy m) 1 t.serial T.nonces ordered.nonces.0
    ∙ ap (only (lasts T.meta.policy m)) (sym is))

-- a nonce that is there
pub opens : (T : Tables) (m : ℕ) → IsOrdered T → (t : NonceText) (n : Nonce) → Some n ≡ nonce_on T t.serial →
    open_nonce_in (swept m T) (Some t) ≡ cond (lasts T.meta.policy m n && bytes_eq n.random t.random) (Some t.serial) None
opens T m ordered t n is = found T m ordered t (Some n) is ∙ grind arith

-- and one that is not
pub absent : (T : Tables) (m : ℕ) → IsOrdered T → (t : NonceText) → None ≡ nonce_on T t.serial → open_nonce_in (swept m T) (Some t) ≡ None
absent T m ordered t is = found T m ordered t None is
