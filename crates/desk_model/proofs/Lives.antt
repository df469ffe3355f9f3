-- The limits of terms, one by one.
use Rattle.std.proofs.{Common.◌≡◌, Common.ℕ, Common.◌≤◌, Common.true, Common.arith, lemmas.Bool.Decides.nat_tests, lemmas.Bool.and_parts}
use Rattle.std.specs.Prelude.{IsTrue, ◌&&◌}
use Rattle.desk_model.specs.{Limits.longest_life, Terms.Terms, Terms.are_terms, Terms.is_base, Terms.is_life}

-- a life has a limit
life_limit : (n : ℕ) → is_life n ≡ true → n ≤ longest_life
life_limit n e = grind (arith, nat_tests)

-- the lives of terms have limits
pub lives_limited : (t : Terms) → IsTrue (are_terms t) → (t.nonce_life ≤ longest_life) × (t.order_life ≤ longest_life) × (t.authz_life ≤ longest_life)
lives_limited t e =
    let lives = (and_parts (is_base t.base) (is_life t.nonce_life && (is_life t.order_life && is_life t.authz_life)) e).1 in
    let later = (and_parts (is_life t.nonce_life) (is_life t.order_life && is_life t.authz_life) lives).1 in (
      life_limit t.nonce_life (and_parts (is_life t.nonce_life) (is_life t.order_life && is_life t.authz_life) lives).0,
      life_limit t.order_life (and_parts (is_life t.order_life) (is_life t.authz_life) later).0,
      life_limit t.authz_life (and_parts (is_life t.order_life) (is_life t.authz_life) later).1,
    )
