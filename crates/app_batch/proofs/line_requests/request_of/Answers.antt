use Rattle.std.proofs.Common.{sym, ◌∙◌}
use Rattle.app_batch.specs.LineRequests.{ill_formed}
use Rattle.app_batch.proofs.line_requests.request_of.Goals as goal

pub returns-then-not-are_visible : goal.returns-then-not-are_visible
returns-then-not-are_visible c = ill_formed (sym c.are_visible.ensures ∙ c.if-not-are_visible.true)
