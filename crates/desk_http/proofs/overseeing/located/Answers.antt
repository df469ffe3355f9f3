use Rattle.desk_http.proofs.Locating.{located_at}
use Rattle.desk_http.proofs.overseeing.located.Goals as goal

pub returns-in-Some : goal.returns-in-Some
returns-in-Some c = located_at c.args.base.now _ _ _ c.number_of_url.result c.in-Some.is c.as_str.ensures c.number_of_url.ensures
