use Rattle.std.proofs.Common.{◌++◌, OnOk, codes, subst}
use Rattle.std.specs.Io.KnownBytes.{Appends}
use Rattle.app_reports.proofs.tally.write_base.Goals as goal

pub returns : goal.returns
returns g c =
    subst (λ base. OnOk c.writeln.result (Appends (g.W.Write.contents c.args.out.now) (g.W.Write.contents c.writeln.new.self)
    (codes "format: 2\nbase: " ++ (base ++ codes "\n")))) c.base-base.ensures.base c.writeln.ensures.bytes
