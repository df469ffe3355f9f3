use Rattle.std.proofs.Common.{ap, inr, sym, ◌∙◌}
use Rattle.app_tasks.specs.Deeds.{is_too_far}
use Rattle.app_tasks.proofs.answering.ServeConnections.start_unless_ahead.Goals as goal

pub returns : goal.returns
returns g c =
    let most = c.args.self.now.serving.max_ahead in
    inr (
      ap (λ lead. is_too_far lead most) (sym c.seconds_ahead-lead.ensures) ∙ sym c.is_too_far.ensures ∙ c.if-is_too_far.false,
      c.serve.ensures,
    )
