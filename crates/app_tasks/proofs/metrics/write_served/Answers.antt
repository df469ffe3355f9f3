use Rattle.std.proofs.{KnownBytes.Appends-trans, lemmas.Result.on_ok_weaker}
use Rattle.app_tasks.proofs.metrics.write_served.Goals as goal

pub returns : goal.returns
returns g c =
    on_ok_weaker c.write_faults.result
    (λ faults. Appends-trans _ _ _ _ _ c.in_ok-write_number.ensures
    (Appends-trans _ _ _ _ _ c.in_ok-write_text.ensures
    (Appends-trans _ _ _ _ _ c.in_ok-write_calls.ensures
    (Appends-trans _ _ _ _ _ c.in_ok-write_text-2.ensures
    (Appends-trans _ _ _ _ _ c.in_ok-write_seconds.ensures
    (Appends-trans _ _ _ _ _ c.in_ok-write_slowest.ensures
    (Appends-trans _ _ _ _ _ c.in_ok-write_text-3.ensures faults))))))) c.write_faults.ensures
