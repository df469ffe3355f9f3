use Rattle.std.proofs.Common.{Err, Ok, refl, subst, unwrap_or}
use Rattle.app_tasks.specs.{Deeds.TakesAny, Deeds.served, Showing.desk_shower}
use Rattle.desk_http.specs.{InTurn.ServesConnections, declared.moment_bound.MomentBound.MomentBound}
use Rattle.app_tasks.proofs.{Done.served_until, Watching.over_all}
use Rattle.app_tasks.proofs.answering.ServeConnections.serve_overseen.Goals as goal

pub returns-in_err-serve_connections : goal.returns-in_err-serve_connections
returns-in_err-serve_connections g c =
    let v = g.K.Kept.sight in
    let s = c.args.self.now.serving in
    let ended = c.in_err-serve_connections.ensures in
    let bounded : MomentBound → Type 0 = λ b. ServesConnections v g.K.Storage.causes (desk_shower v) TakesAny (unwrap_or s.count 18446744073709551615)
    c.args.desk.now (record { overseer = tt; bound = b }) c.serve_connections.new.desk
    (record { overseer = tt; bound = c.serve_connections.new.watch.bound }) (Err c.in_err-serve_connections.field-0.0) in
    served_until v g.K.Storage.causes s c.args.clock c.args.desk.now c.serve_connections.new.desk c.serve_connections.new.watch.bound
    c.in_err-serve_connections.field-0.0
    c.from_residual.result ended.seen
    (subst bounded (λ i. record { step = c.new.ensures.step i; latest = c.new.ensures.latest i })
    (over_all v g.K.Storage.causes (desk_shower v) c.serve_connections.new.watch TakesAny (λ o. Unit {0}) (λ o. tt)
    _ (unwrap_or s.count 18446744073709551615) c.args.desk.now c.serve_connections.new.desk _ (Err c.in_err-serve_connections.field-0.0) ended.served tt
    (λ before log_entry after stays took. (tt, tt)))) c.from_residual.ensures.1

pub returns : goal.returns
returns g c =
    let v = g.K.Kept.sight in
    let s = c.args.self.now.serving in
    let ended = c.in_ok-serve_connections.ensures in
    let bounded : MomentBound → Type 0 = λ b. ServesConnections v g.K.Storage.causes (desk_shower v) TakesAny (unwrap_or s.count 18446744073709551615)
    c.args.desk.now (record { overseer = tt; bound = b }) c.serve_connections.new.desk
    (record { overseer = tt; bound = c.serve_connections.new.watch.bound }) (Ok c.in_ok-serve_connections.field-0) in
    served (Ok c.in_ok-serve_connections.field-0) c.serve_connections.new.watch.bound ended.seen
    (subst bounded (λ i. record { step = c.new.ensures.step i; latest = c.new.ensures.latest i })
    (over_all v g.K.Storage.causes (desk_shower v) c.serve_connections.new.watch TakesAny (λ o. Unit {0}) (λ o. tt)
    _ (unwrap_or s.count 18446744073709551615) c.args.desk.now c.serve_connections.new.desk _ (Ok c.in_ok-serve_connections.field-0) ended.served tt
    (λ before log_entry after stays took. (tt, tt)))) refl
