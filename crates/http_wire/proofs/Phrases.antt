-- The phrase that is looked up is that of the definition.
use Rattle.std.proofs.Common.{◌≡◌, ℕ, List, [], true, false, ◌&&◌, nat_le, nat_lt, if◌then◌else◌, Option, Some, None, Bor, option_map, unwrap_or}
use Rattle.std.proofs.Common.{sym, ap, ◌∙◌, arith}
use Rattle.std.proofs.lemmas.Bool.Decides.{nat_tests}
use Rattle.http.specs.StatusCode.{IsStatusCode, reason_phrase}
use Rattle.http_wire.specs.Replies.{phrase}

-- the text that is there, or none
text_or_none : (r : Option (Bor (List ℕ))) (d : Bor (List ℕ)) (o : Option (List ℕ)) → option_map (λ s. s.now) r ≡ o → d.now ≡ []
    → (unwrap_or r d).now ≡ unwrap_or o []
text_or_none None d o same none = none ∙ ap (λ p. unwrap_or p []) same
text_or_none (Some s) d o same none = ap (λ p. unwrap_or p []) same

-- a status code passes the test
passes : (n : ℕ) → IsStatusCode n → (nat_le 100 n && nat_lt n 1000) ≡ true
passes n code = let low = code.0 in let high = code.1 in grind (arith, nat_tests)

-- what is no status code fails it
fails : (n : ℕ) → (IsStatusCode n → ⊥) → (nat_le 100 n && nat_lt n 1000) ≡ false
fails n none = grind (arith, nat_tests)

-- the phrase that `http` has for a status code
pub phrase_of_code : (n m : ℕ) (r : Option (Bor (List ℕ))) (d : Bor (List ℕ)) → IsStatusCode n → m ≡ n
    → option_map (λ s. s.now) r ≡ reason_phrase m → d.now ≡ [] → (unwrap_or r d).now ≡ phrase n
unfolding phrase
phrase_of_code n m r d code same found none =
    text_or_none r d (reason_phrase n) (found ∙ ap reason_phrase same) none
    ∙ ap (λ b. if b then unwrap_or (reason_phrase n) [] else []) (sym (passes n code))

-- another number has none
pub phrase_of_none : (n : ℕ) → (IsStatusCode n → ⊥) → [] ≡ phrase n
unfolding phrase
phrase_of_none n none = ap (λ b. if b then unwrap_or (reason_phrase n) [] else []) (sym (fails n none))
