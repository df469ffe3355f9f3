-- What the deciding code answers, by the rows of the book.
use Rattle.std.specs.Prelude.{ℕ, ◌+◌, ◌*◌, ◌≡◌, ◌<◌, ◌≤◌, ◌⊎◌, List, [], ◌∷◌, ◌++◌, length, take, drop, true, false, Option, Some, None}
use Rattle.desk_model.specs.Shown.{refusal_reply, nonce_reply, with_nonce, fresh_nonce}
use Rattle.desk_model.specs.{Change.recorded_changes, Limits.last_number, Tables.Tables, Run.count_pieces, declared.reply.Reply.Reply}
use Rattle.desk_model.specs.{declared.rows.Change.Change, declared.verdict.Verdict.Verdict, declared.entry.Entry.TheVariants.Issued as issued}
use Rattle.desk_model.specs.{declared.call.Ask.Ask, declared.call.Signed.Signed, Effect.effects, Effect.swept, Rules.office_verdict, Rules.open_nonce}
use Rattle.desk_model.specs.{Rules.signed_verdict, Decide.entries_of, Decide.verdict_reply, Decide.nonce_entries}
use Rattle.desk_model.specs.declared.call.Ask.TheVariants as ask
use Rattle.desk_model.specs.declared.refusal.Refusal.TheVariants as refusal
use Rattle.model_laws.specs.Ordered.{IsOrdered}
use Rattle.desk_core.specs.{HasTexts.HasTexts, Room.IsIssueFault}
use Rattle.core_rules.specs.{Needs.BytesLeft, Needs.NumbersLeft, Needs.NumbersSpent, declared.fault.CoreFault.CoreFault}
use Rattle.core_rules.specs.declared.fault.CoreFault.TheVariants as fault

-- a nonce is issued and nothing else, with this reply
pub record Issues (m : ℕ) (B : Tables) (random : List ℕ) (answer : Reply) (changes : List Change) (reply : Reply) : Type 0 where
  pub recorded : changes ≡ recorded_changes m B (issued (take 16 random) ∷ [])
  pub replies : reply ≡ with_nonce (fresh_nonce B random) answer
  pub nonces : B.meta.counters.nonces < last_number
  pub bytes : 16 ≤ length random

-- a nonce is spent, one is issued, and the verdict is carried out
pub record Passes (m : ℕ) (B : Tables) (random : List ℕ) (serial : ℕ) (v : Verdict) (changes : List Change) (reply : Reply) : Type 0 where
  pub recorded : IsOrdered B → changes ≡ recorded_changes m B (nonce_entries serial random ++ entries_of v)
  pub replies : IsOrdered B → HasTexts (effects m (swept m B) (entries_of v))
      → reply ≡ with_nonce (fresh_nonce B random) (verdict_reply true (effects m (swept m B) (entries_of v)) v)
  pub nonces : B.meta.counters.nonces < last_number
  pub numbers : NumbersLeft B.meta.counters v
  pub tokens : BytesLeft random v
  pub bytes : 16 ≤ length random

-- the verdict on a request without a nonce is carried out
pub record Settles (m : ℕ) (B : Tables) (v : Verdict) (changes : List Change) (reply : Reply) : Type 0 where
  pub recorded : IsOrdered B → changes ≡ recorded_changes m B (entries_of v)
  pub replies : IsOrdered B → HasTexts (effects m (swept m B) (entries_of v)) → reply ≡ verdict_reply false (effects m (swept m B) (entries_of v)) v

abbrev pub MeetsSigned : ℕ → Tables → List ℕ → Signed → Option ℕ → List Change → Reply → Type 0
MeetsSigned m B random s None changes reply = Issues m B random (refusal_reply true refusal.BadNonce []) changes reply
MeetsSigned m B random s (Some serial) changes reply = Passes m B random serial (signed_verdict (swept m B) (drop 16 random) s) changes reply

-- what is answered to an ask
abbrev pub MeetsAsk : ℕ → Tables → List ℕ → Ask → List Change → Reply → Type 0
MeetsAsk m B random (ask.NewNonce head) changes reply = Issues m B random (nonce_reply head) changes reply
MeetsAsk m B random (ask.Signed s) changes reply = MeetsSigned m B random s (open_nonce (swept m B) s.nonce) changes reply
MeetsAsk m B random (ask.Office a) changes reply = Settles m B (office_verdict (swept m B) a) changes reply

-- out of memory, or too few random bytes for the fresh nonce
abbrev pub IsShort : List ℕ → CoreFault → Type 0
IsShort random fault.Memory = Unit {0}
IsShort random fault.ShortRandom = length random < 16
IsShort random _ = ⊥

-- why a request whose nonce was open is not answered
abbrev pub IsPassedFault : Tables → List ℕ → Verdict → CoreFault → Type 0
IsPassedFault B random v fault.Memory = Unit {0}
IsPassedFault B random v fault.Full = NumbersSpent B.meta.counters v ⊎ (last_number ≤ B.meta.counters.nonces)
IsPassedFault B random v fault.ShortRandom = (B.meta.counters.nonces < last_number) × NumbersLeft B.meta.counters v
    × (length random < 16 * (1 + count_pieces (entries_of v)))

abbrev pub IsSignedFault : ℕ → Tables → List ℕ → Signed → Option ℕ → CoreFault → Type 0
IsSignedFault m B random s None e = IsIssueFault B random e
IsSignedFault m B random s (Some serial) e = IsPassedFault B random (signed_verdict (swept m B) (drop 16 random) s) e

abbrev pub IsAskFault : ℕ → Tables → List ℕ → Ask → CoreFault → Type 0
IsAskFault m B random (ask.NewNonce head) e = IsIssueFault B random e
IsAskFault m B random (ask.Signed s) e = IsSignedFault m B random s (open_nonce (swept m B) s.nonce) e
IsAskFault m B random (ask.Office a) e = e ≡ fault.Memory
