use Rattle.std.proofs.Common.{None, ◌≡◌, ◌∙◌, ap, refl, subst, sym}
use Rattle.desk_http.proofs.connections.serve_in_place.Goals as goal
use Rattle.http_wire.specs.declared.call.ParsedRequest.{ParsedRequest, ParsedRequest}
use Rattle.desk_http.specs.InTurn.{looked, parsed}
use Rattle.desk_http.specs.Logged.{object_asked}
use Rattle.desk_http.specs.Showing.{looked_in}

pub returns-in-Some-clause-served : goal.returns-in-Some-clause-served
returns-in-Some-clause-served g c remaining is =
    looked (record {
      parsed = c.args.parsed;
      is_heard = is;
      looked = c.in-Some.looked.now;
      asks = sym c.in-Some.ensures;
      shows = c.show.ensures.shows;
    }) c.call_summary-call.ensures.object refl

pub returns-in-Ok-clause-served : goal.returns-in-Ok-clause-served
returns-in-Ok-clause-served g c remaining is =
    let s = c.in-Ok.ensures.served remaining is in
    parsed s.0
    (subst (λ (q : ParsedRequest). looked_in q.request ≡ None) (sym s.2) (sym c.in-None.ensures))
    s.1
    (c.call_summary-call.ensures.object ∙ ap (λ (q : ParsedRequest). object_asked q.request) (sym s.2))
    c.respond_at.ensures.followed
