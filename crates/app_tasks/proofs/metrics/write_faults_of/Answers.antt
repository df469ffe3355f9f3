use Rattle.std.proofs.Common.{OnOk, subst}
use Rattle.std.specs.Io.KnownBytes.{Appends}
use Rattle.app_tasks.specs.Metrics.{fault_count, fault_text}
use Rattle.app_tasks.proofs.metrics.write_faults_of.Goals as goal

pub returns : goal.returns
unfolding fault_text
returns g c =
    subst (λ n. OnOk c.writeln.result (Appends (g.W.Write.contents c.args.out.now) (g.W.Write.contents c.writeln.new.self) (fault_count c.args.number n)))
    c.faults_of-count.ensures c.writeln.ensures.bytes
