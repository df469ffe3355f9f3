use Rattle.desk_http.proofs.Ending.{match_of}
use Rattle.desk_http.proofs.connections.respond_with_random.Goals as goal
use Rattle.std.proofs.Common.{refl, rules}

pub returns-clause-served : goal.returns-clause-served
returns-clause-served g c = λ remaining is. (
  record {
    parsed = c.args.parsed;
    is_heard = is;
    at = c.args.at;
    random = c.draw.new.bytes;
    enough = search rules;
    does = match_of _ _ c.respond.result (c.respond.ensures.served remaining is) (c.respond.ensures.failed remaining is);
  },
  refl,
  refl,
)
