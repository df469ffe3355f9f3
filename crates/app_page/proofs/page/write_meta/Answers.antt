use Rattle.std.proofs.Common.{subst}
use Rattle.std.specs.Io.KnownBytes.{Appends}
use Rattle.app_page.specs.Page.{head_html}
use Rattle.app_page.proofs.page.write_meta.Goals as goal

-- what is said of the row is said of that of the tables
pub returns-clause-printed : goal.returns-clause-printed
returns-clause-printed g c honest T holds =
    subst (λ meta. Appends (g.W.Write.contents c.args.out.now) (g.W.Write.contents c.write_head.new.out) (head_html meta))
    (c.in_ok-meta.ensures.found honest T holds) c.in_ok-write_head.ensures
