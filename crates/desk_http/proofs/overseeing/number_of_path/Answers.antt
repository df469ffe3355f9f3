use Rattle.desk_http.proofs.Locating.{order_or_none}
use Rattle.desk_http.proofs.overseeing.number_of_path.Goals as goal

pub returns-in-None : goal.returns-in-None
returns-in-None c = order_or_none c.args.path.now c.number_between-in-None.result c.in-None.ensures c.number_between-in-None.ensures
