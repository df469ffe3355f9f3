use Rattle.std.proofs.{Common.◌≡◌, Common.◌∙◌, Common.[], Common.List, Common.ℕ, Common.Ok, Common.ap, Common.refl, Common.subst, KnownBytes.Appends-nil}
use Rattle.std.specs.Prelude.{◌↔◌, IsTrue}
use Rattle.app_tasks.specs.Looking as looking
use Rattle.app_tasks.proofs.looking.ask_and_show.Goals as goal

pub returns-in-Err : goal.returns-in-Err
returns-in-Err g c = looking.unheard c.in-Err.unheard [] refl (Appends-nil _)

pub returns-in-Ok-copy_by : goal.returns-in-Ok-copy_by
returns-in-Ok-copy_by g c =
    let all = c.in-Ok-copy_by.ensures.all in
    looking.shown all.0 c.in-Ok-copy_by.is_nothing all.1
    (subst (λ (t : List ℕ). IsTrue c.in-Ok-copy_by.is_nothing ↔ (all.0 ≡ t)) (c.as_bytes-nothing.ensures.value ∙ c.nothing_of.ensures) all.2)
    (ap Ok c.shown_status.ensures)

pub returns-in-Err-Unheard : goal.returns-in-Err-Unheard
returns-in-Err-Unheard g c =
    looking.unheard c.in-Err-Unheard.unheard c.in-Err-Unheard.ensures.part.0 refl c.in-Err-Unheard.ensures.part.1
