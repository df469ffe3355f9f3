use Rattle.std.proofs.Common.{inr, sym, ◌∙◌}
use Rattle.app_tasks.proofs.answering.ServeConnections.start.Goals as goal

pub returns : goal.returns
returns g c = inr (sym c.lacks_moment.ensures ∙ c.if-lacks_moment.false, c.start_unless_ahead.ensures)
