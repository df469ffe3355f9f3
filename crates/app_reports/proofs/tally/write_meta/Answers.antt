use Rattle.std.proofs.Common.{subst}
use Rattle.std.specs.Io.KnownBytes.{Appends}
use Rattle.app_reports.specs.About.{meta_said}
use Rattle.app_reports.proofs.tally.write_meta.Goals as goal

-- what is said of the row is said of that of the tables
pub returns-clause-printed : goal.returns-clause-printed
returns-clause-printed g c honest T holds =
    subst (λ meta. Appends (g.W.Write.contents c.args.out.now) (g.W.Write.contents c.write_known.new.out) (meta_said c.args.now meta))
    (c.in_ok-meta.ensures.found honest T holds) c.in_ok-write_known.ensures
