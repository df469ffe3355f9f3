-- The body of a reply, and the document that it is.
use Rattle.std.proofs.Common.{◌≡◌, ◌∙◌, ◌<◌, ◌+◌, ◌-◌, ℕ, zero, suc, List, [], ◌∷◌, Bool, true, false, ap, arith, codes, drop, length, length-drop, refl, sym}
use Rattle.std.proofs.Common.{take, IsUtf8, None}
use Rattle.std.proofs.{lemmas.List.take_all, lemmas.Str.IsUtf8-from_is_utf8, lemmas.Str.is_utf8-from_IsUtf8}
use Rattle.std.specs.{Prelude.if◌then◌else◌, Prelude.nat_eq, List.starts_with, Str.is_utf8}
use Rattle.serde_json.specs.Read.{read}
use Rattle.app_tasks.specs.Outcomes.{body_of, document_in}

-- the empty line is at the front, or it is further behind
body_next : (reply : List ℕ) (at : ℕ) → at < length reply
    → body_of (drop at reply) ≡ (if starts_with nat_eq (drop at reply) (codes "\r\n\r\n") then drop 4 (drop at reply) else body_of (drop (suc at) reply))
body_next [] at more = absurd (omega (arith, more))
body_next (c ∷ rest) zero more = refl
body_next (c ∷ rest) (suc n) more = body_next rest n (omega (arith, more))

-- it is further behind
pub body_later : (reply : List ℕ) (at : ℕ) → at < length reply
    → starts_with nat_eq (take (length reply - at) (drop at reply)) (codes "\r\n\r\n") ≡ false → body_of (drop (at + 1) reply) ≡ body_of (drop at reply)
body_later reply at more none =
    let size = length-drop at reply in
    let whole = take_all (length reply - at) (drop at reply) (omega (arith, size)) in
    let next : at + 1 ≡ suc at = omega arith in
    ap (λ n. body_of (drop n reply)) next
    ∙ sym (body_next reply at more
    ∙ ap (λ b. if b then drop 4 (drop at reply) else body_of (drop (suc at) reply)) (ap (λ l. starts_with nat_eq l (codes "\r\n\r\n")) (sym whole) ∙ none))

-- a body that is text is what that text is
pub document_is : (body text : List ℕ) → text ≡ body → IsUtf8 body → read text ≡ document_in body
document_is body text same spelled = ap read same ∙ sym (ap (λ b. if b then read body else None) (is_utf8-from_IsUtf8 body spelled))

-- any other is no document
pub no_document : (body : List ℕ) → (IsUtf8 body → ⊥) → None ≡ document_in body
no_document body unspelled = by (is_utf8 body) refl
  where
    by : (b : Bool) → is_utf8 body ≡ b → None ≡ (if b then read body else None)
    by true spelled = absurd (unspelled (IsUtf8-from_is_utf8 body spelled))
    by false not_spelled = refl
