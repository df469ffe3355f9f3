use Rattle.std.proofs.{Common.◌++◌, Common.◌-◌, Common.◌^◌, Common.length, Common.min, Common.subst, Common.take, KnownBytes.Appends-trans}
use Rattle.std.specs.{Io.KnownBytes.Appends, List.filter, List.flat_map}
use Rattle.model_parts.specs.Above.{above}
use Rattle.app_page.specs.Page.{count_html}
use Rattle.app_page.proofs.tables.write_table.Goals as goal

-- what stands before it, the first rows, and how many there are
pub returns-clause-printed : goal.returns-clause-printed
returns-clause-printed g c honest T holds =
    let rows = filter (g.Q.Query.wanted c.args.which.now) (above g.R.Row.number c.args.above (g.R.PassedRow.rows T)) in
    let first = flat_map (g.R.PageRow.html T) (take 50 rows) in
    let count = min (length rows) (2 ^ 64 - 1) in
    let shown = c.in_ok-count.ensures.printed honest T holds in
    let was = g.W.Write.contents c.args.out.now in
    let headed = g.W.Write.contents c.write_text.new.out in
    let filled = g.W.Write.contents c.write_rows.new.out in
    let is = g.W.Write.contents c.write_count.new.out in
    Appends-trans was headed is c.args.head.now (first ++ count_html count) c.in_ok-write_text.ensures
    (Appends-trans headed filled is first (count_html count) shown.0
    (subst (λ n. Appends filled is (count_html n)) shown.1 c.in_ok-write_count.ensures))
