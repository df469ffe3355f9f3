use Rattle.http_routes.proofs.request.signed_ask.Goals as goal
use Rattle.std.proofs.Common.{arith}

pub returns-in-Some : goal.returns-in-Some
returns-in-Some c = grind arith

pub returns : goal.returns
returns c = grind arith
