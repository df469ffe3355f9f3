-- Under the number of each challenge that was answered stands the key of its answer, and no other.
use Rattle.std.proofs.Common.{◌≡◌, ◌≢◌, ℕ, List, [], ◌∷◌, filter, option_to_list, refl, arith, rules}
use Rattle.std.specs.Prelude.{◌==◌}
use Rattle.store_columns.specs.{Flat.answer_key, Flat.key_rows, declared.columns.AnswerKey.AnswerKey, declared.columns.Owned.Owned}
use Rattle.model_laws.proofs.Basics.{each, each_both}
use Rattle.model_laws.specs.Distinct.{Distinct}
use Rattle.desk_model.specs.{Kept.EachOf, declared.rows.ChallengeRow.ChallengeRow}

-- the number of a challenge
abbrev number : Owned ChallengeRow → ℕ
number c = c.row.number

-- keys under a number
abbrev under : ℕ → List AnswerKey → List AnswerKey
under n keys = filter (λ (k : AnswerKey). k.challenge == n) keys

-- other challenges have no key of this number
keys_other : (k : ℕ) (rows : List (Owned ChallengeRow)) → EachOf (λ c. k ≢ number c) rows → under k (key_rows rows) ≡ []
keys_other k [] apart = refl
keys_other k (c ∷ cs) apart = grind (arith, (keys_other k cs apart.1))

-- under the number of a challenge stands the key of its answer, or none where it was not answered
abbrev pub IsOwn : List AnswerKey → ChallengeRow → Type 0
IsOwn keys c = under c.number keys ≡ option_to_list (answer_key c)

-- that of the first
own_first : (c : Owned ChallengeRow) (cs : List (Owned ChallengeRow)) → EachOf (λ d. number c ≢ number d) cs → IsOwn (key_rows (c ∷ cs)) c.row
own_first c cs apart = search (rules, keys_other)

-- the key of another challenge is not looked at
own_behind : (c : Owned ChallengeRow) (cs : List (Owned ChallengeRow)) (d : ChallengeRow) → c.row.number ≢ d.number → IsOwn (key_rows cs) d
    → IsOwn (key_rows (c ∷ cs)) d
own_behind c cs d apart own = search rules

-- those of all
pub keys_own : (rows : List (Owned ChallengeRow)) → Distinct number rows → EachOf (λ c. IsOwn (key_rows rows) c.row) rows
keys_own [] apart = tt
keys_own (c ∷ cs) apart = (
  own_first c cs apart.0,
  each _ _ cs (λ d both. own_behind c cs d.row both.0 both.1) (each_both _ _ cs apart.0 (keys_own cs apart.1)),
)
