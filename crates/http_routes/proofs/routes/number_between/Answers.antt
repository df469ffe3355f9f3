use Rattle.http_routes.proofs.Places.{number_there_or_not}
use Rattle.http_routes.proofs.routes.number_between.Goals as goal

pub returns : goal.returns
returns c =
    number_there_or_not c.args.path.now c.args.before.now c.in_ok-digits.digits.now c.args.after.now c.number_in.result
    c.in_ok-digits.ensures c.number_in.ensures
