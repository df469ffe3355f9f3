use Rattle.std.proofs.Common.{None, ◌∙◌}
use Rattle.desk_http.proofs.Refusing.{late_changes_nothing, refused_late}
use Rattle.desk_http.proofs.connections.respond_at.Goals as goal

pub returns-in-Ok-clause-served : goal.returns-in-Ok-clause-served
returns-in-Ok-clause-served g c remaining is =
    let s = c.in-Ok.ensures.served remaining is in (s.0, s.1 ∙ c.moment_for-acting.ensures.moment, s.2)

pub returns-in-Ok-clause-refused : goal.returns-in-Ok-clause-refused
returns-in-Ok-clause-refused g c is =
    let s = c.in-Ok.ensures.served None tt in
    late_changes_nothing g.K.Kept.sight g.K.Storage.causes c.args.desk.now c.respond_with_random.new.desk _ None _ _ c.in-Ok.served
    (refused_late c.args.bound.now c.args.at is) (s.0, s.1 ∙ c.moment_for-acting.ensures.moment)
