use Rattle.std.proofs.{Common.subst, KnownBytes.Appends-trans, lemmas.Result.on_ok_weaker}
use Rattle.std.specs.Io.KnownBytes.{Appends}
use Rattle.app_tasks.specs.Metrics.{clock_text}
use Rattle.app_tasks.proofs.metrics.write_snapshot.Goals as goal

pub returns : goal.returns
returns g c =
    let clock =
    subst (λ m. Appends (g.W.Write.contents c.write_made.new.out) (g.W.Write.contents c.write_clock.new.out) (clock_text m c.args.snapshot.now.ahead))
    c.moment.ensures.same c.in_ok-write_clock.ensures in
    on_ok_weaker c.write_waiting.result
    (λ waiting. Appends-trans _ _ _ _ _ c.in_ok-write_served.ensures
    (Appends-trans _ _ _ _ _ c.in_ok-write_made.ensures
    (Appends-trans _ _ _ _ _ clock
    (Appends-trans _ _ _ _ _ c.in_ok-write_files.ensures waiting)))) c.write_waiting.ensures
