use Rattle.std.proofs.Common.{OnOk, subst}
use Rattle.std.specs.Io.KnownBytes.{Appends}
use Rattle.app_tasks.specs.{Metrics.calls_text, Metrics.classes_text, Totals.calls_of}
use Rattle.app_tasks.proofs.metrics.write_calls_of.Goals as goal

pub returns : goal.returns
unfolding calls_text
returns g c =
    let was = g.W.Write.contents c.args.out.now in
    let is = g.W.Write.contents c.write_classes.new.out in
    subst (λ l. OnOk c.write_classes.result (Appends was is (classes_text l (calls_of c.args.served.now c.args.route)))) c.label_of.ensures
    (subst (λ n. OnOk c.write_classes.result (Appends was is (classes_text c.label_of.result.now n))) c.calls_of.ensures c.write_classes.ensures)
