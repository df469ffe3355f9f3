use Rattle.http_wire.proofs.AtPaths.{are_served}
use Rattle.http_wire.proofs.served.shown_urls_are_served.Goals as goal

pub returns-clause-served : goal.returns-clause-served
returns-clause-served c = are_served
