use Rattle.std.proofs.{Common.◌++◌, Common.◌∙◌, Common.OnOk, Common.ap, Common.subst, KnownBytes.Appends-trans}
use Rattle.std.specs.Io.KnownBytes.{Appends}
use Rattle.app_reports.specs.About.{ahead, base_said, clock_said, lives_said}
use Rattle.app_reports.proofs.Printing.{on_ok}
use Rattle.app_reports.proofs.tally.write_known.Goals as goal

pub returns : goal.returns
returns g c =
    let policy = c.args.meta.now.policy in
    let clock = c.args.meta.now.counters.clock in
    let was = g.W.Write.contents c.args.out.now in
    let based = g.W.Write.contents c.write_base.new.out in
    let lived = g.W.Write.contents c.write_lives.new.out in
    let is = g.W.Write.contents c.write_clock.new.out in
    let known = clock_said clock (ahead clock c.args.now) in
    on_ok c.write_clock.result
    (λ written. Appends-trans was based is (base_said policy) (lives_said policy ++ known) c.in_ok-write_base.ensures
    (Appends-trans based lived is (lives_said policy) known c.in_ok-write_lives.ensures written))
    (subst (λ t. OnOk c.write_clock.result (Appends lived is t))
    (ap (clock_said c.moment-clock.result) c.seconds_ahead.ensures ∙ ap (λ t. clock_said t (ahead t c.args.now)) c.moment-clock.ensures.same)
    c.write_clock.ensures)
