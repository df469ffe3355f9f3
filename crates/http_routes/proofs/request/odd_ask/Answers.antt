use Rattle.http_routes.proofs.request.odd_ask.Goals as goal
use Rattle.std.proofs.Common.{arith}

pub returns : goal.returns
returns c = grind arith

pub returns-in_default : goal.returns-in_default
returns-in_default c = grind arith
