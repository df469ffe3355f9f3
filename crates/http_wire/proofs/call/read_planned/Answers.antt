use Rattle.http_wire.specs.ParsedRequest.{IsPlan}
use Rattle.http_wire.specs.declared.call.Plan.TheVariants as plan
use Rattle.http_wire.proofs.{Asked.request_behind, Bytes.takes_within, Limits.body_within}
use Rattle.http_wire.proofs.call.read_planned.Goals as goal
use Rattle.desk_model.specs.Limits.{longest_body}

pub returns-in-Ok-clause-request : goal.returns-in-Ok-clause-request
returns-in-Ok-clause-request g c = λ path link fields given.
    let p : IsPlan c.args.method.now path fields (plan.Takes c.in-Takes.resource c.in-Takes.count) =
    rw c.in-Takes.is at given in
    request_behind (λ v. v.items) (g.R.Read.remaining c.args.reader.now) c.args.method.now path fields c.args.begun.now
    c.in-Takes.resource c.in-Takes.count c.in-Ok.body c.answer_to.result p.0 p.1 (rw c.in-Ok.is at c.in_ok-body-in-Takes.ensures.body)
    (rw link at c.answer_to.ensures)

pub returns-in-Ok-clause-taken : goal.returns-in-Ok-clause-taken
returns-in-Ok-clause-taken g c = λ path fields given.
    let p : IsPlan c.args.method.now path fields (plan.Takes c.in-Takes.resource c.in-Takes.count) =
    rw c.in-Takes.is at given in
    takes_within (g.R.Read.remaining c.args.reader.now) (g.R.Read.remaining c.read_body.new.reader) c.in-Takes.count longest_body
    (body_within c.in-Takes.resource fields c.in-Takes.count p.1) c.read_body.ensures.taken
