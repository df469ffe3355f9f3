-- What an entry does to the rows, and what is shown then, depends on no nonce.
use Rattle.std.proofs.Common.{◌≡◌, ℕ, List, [], ◌∷◌, ◌++◌, Bool, refl, arith}
use Rattle.desk_model.specs.{Tables.Tables, declared.entry.Entry.Entry, declared.verdict.Verdict.Verdict, Effect.effect, Effect.effects, Decide.entries_of}
use Rattle.desk_model.specs.{Decide.verdict_reply, declared.entry.Entry.TheVariants.Issued as issued, declared.entry.Entry.TheVariants.Spent as spent}
use Rattle.model_laws.proofs.Plain.{spent_effect}
use Rattle.desk_core.specs.SameRows.{SameRows}

-- ---- what an entry does

-- rows that are the same but for nonces are so after what a verdict records
pub verdict_same : (m : ℕ) (T U : Tables) (v : Verdict) → SameRows T U → SameRows (effects m T (entries_of v)) (effects m U (entries_of v))
verdict_same m T U v h = grind arith

-- the reply of a verdict is the same after it
pub verdict_reply_same : (index : Bool) (m : ℕ) (T U : Tables) (v : Verdict) → SameRows T U →
    verdict_reply index (effects m T (entries_of v)) v ≡ verdict_reply index (effects m U (entries_of v)) v
verdict_reply_same index m T U v h = grind arith

-- a nonce that is spent and one that is issued set the clock and leave each row but the nonces'
pub nonce_effects : (m : ℕ) (T : Tables) (serial : ℕ) (r : List ℕ) →
    SameRows (effects m T (spent serial ∷ issued r ∷ [])) (record T { meta = record T.meta { counters = record T.meta.counters { clock = m } } })
nonce_effects m T serial r = grind (arith, spent_effect)

-- entries after others
pub effects-append : (m : ℕ) (T : Tables) (es fs : List Entry) → effects m T (es ++ fs) ≡ effects m (effects m T es) fs
effects-append m T [] fs = refl
effects-append m T (e ∷ es) fs = effects-append m (effect m T e) es fs
