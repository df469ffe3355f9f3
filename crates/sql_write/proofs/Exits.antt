-- Calls inside a transaction, and what they leave behind a first one.
use Rattle.std.proofs.{Common.◌≡◌, Common.◌⊎◌, Common.arith, Common.Result, Common.OnOk, Common.rules}
use Rattle.sqlite.proofs.StateLemmas.{survives_then}
use Rattle.sqlite.specs.{Effect.Database, State.State, State.Survives}
use Rattle.sql_schema.specs.Advances.{Advances, KeepsLast}
use Rattle.sql_write.specs.declared.stored.Write.{Write}

-- the last commit is as it was before a call that advanced the transaction
pub kept_behind : (a b c : State) (Does : Database → Database → Type 0) → Advances a b Does → Survives b c (λ _. ⊥) → KeepsLast b c → KeepsLast a c
kept_behind a b c Does first on kept clean inside is_open = search rules

-- two calls that commit nothing
pub survives_both : (a b c : State) → Survives a b (λ _. ⊥) → Survives b c (λ _. ⊥) → Survives a c (λ _. ⊥)
survives_both a b c = survives_then a b c _ _ (λ _. ⊥) (λ _ db none. none) (λ _ db none. none)

-- a call behind a first one advances the transaction by both, where it is answered
pub advances_both : {X E : Type 0} (r : Result X E) (a b c : State) (Does Then Both : Database → Database → Type 0)
    → (Does a.now b.now → Then b.now c.now → Both a.now c.now) → Survives b c (λ _. ⊥) → Advances a b Does → OnOk r (Advances b c Then)
    → OnOk r (Advances a c Both)
advances_both r a b c Does Then Both h k l g = grind arith

-- what holds of a write that is one of two
pub in_either : (P : Write → Type 0) (m a b : Write) → (m ≡ a) ⊎ (m ≡ b) → P a → P b → P m
in_either P m a b h k l = search rules
