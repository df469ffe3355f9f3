-- How a revocation ends by what is heard of the desk that was asked.
use Rattle.std.proofs.Common.{ℕ, inl, inr, List, Option, None, Some, Result, Ok, Err, ◌∙◌, ap}
use Rattle.app_words.specs.declared.command.Revocation.{Revocation}
use Rattle.desk_http.specs.declared.asking.Unheard.TheVariants as cause
use Rattle.desk_model.specs.declared.refusal.Refusal.{Refusal}
use Rattle.app_tasks.specs.{Asked.Hears, Asked.RevokesServed, Asked.TellsReply, Asked.refused, Asked.revoked, Asked.unheard, declared.fault.Fault.Fault}

-- why a desk was not heard, or another fault
abbrev fault_in : Result (Option Refusal) Fault → Fault → Fault
fault_in (Ok refusal) other = other
fault_in (Err why) other = why

-- a desk that was asked has done it, has refused, or was not heard
pub served : (what : Revocation) (heard : Result (Option Refusal) Fault) (was is : Option (List ℕ)) (how : Result ℕ Fault) → Hears what heard
    → TellsReply what heard was is how → RevokesServed what was is how
served what (Ok None) was is how (inl it) told = absurd (cc it.1)
served what (Ok None) was is how (inr it) told = revoked it.0 it.1 told
served what (Ok (Some refusal)) was is how (inl it) told = absurd (cc it.1)
served what (Ok (Some refusal)) was is how (inr it) told = refused it.0 refusal it.1 told.0 told.1
served what (Err why) was is how (inl it) told =
    unheard (inl (it.0, told.0 ∙ ap (λ (heard : Result (Option Refusal) Fault). Err (fault_in heard why)) it.1)) told.1
served what (Err why) was is how (inr it) told =
    elim it.1 [
      | inl strange ↦ unheard (inl (cause.Unanswered, told.0 ∙ ap (λ (e : Fault). Err e) strange.1)) told.1
      | inr full ↦ unheard (inr (told.0 ∙ ap (λ (e : Fault). Err e) full)) told.1
    ]
