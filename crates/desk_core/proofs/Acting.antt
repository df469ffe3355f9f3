-- What each arm of a verdict records and shows is what the verdict does.
use Rattle.std.proofs.Common.{◌≡◌, ℕ, true, Result, OnOk, ap, rules}
use Rattle.model_laws.specs.Ordered.{IsOrdered}
use Rattle.desk_model.specs.{Decide.entries_of, Decide.verdict_reply, Effect.effects, Effect.swept, Tables.Tables, declared.rows.Counters.Counters}
use Rattle.desk_model.specs.{declared.reply.Reply.Reply, declared.verdict.Verdict.Verdict}
use Rattle.core_changes.specs.Recorded.{IsAt}
use Rattle.desk_core.specs.HasTexts.{HasTexts}

-- the reply is that of the verdict
abbrev pub Replies : Tables → Counters → Verdict → Reply → Type 0
Replies B C v r =
    (m : ℕ) → IsAt m B C → IsOrdered B → HasTexts (effects m (swept m B) (entries_of v))
    → r ≡ verdict_reply true (effects m (swept m B) (entries_of v)) v

-- the moment of a recording is that of its counters
pub clock_at : (m : ℕ) (B : Tables) (C : Counters) → IsAt m B C → C.clock ≡ m
clock_at m B C at = ap (λ (D : Counters). D.clock) at

-- what holds however a call ended holds where it was answered
pub where_answered : {X E P : Type 0} (r : Result X E) → P → OnOk r P
where_answered r h = search rules
