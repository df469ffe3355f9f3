use Rattle.std.proofs.{Common.◌++◌, Common.OnOk, Common.subst, KnownBytes.Appends-trans}
use Rattle.std.specs.Io.KnownBytes.{Appends}
use Rattle.app_reports.specs.About.{statuses_said}
use Rattle.app_page.specs.Page.{head_html, tables_html}
use Rattle.app_page.specs.declared.texts.TheConstants as page
use Rattle.app_reports.proofs.{Printing.on_ok, Reporting.report_failed, Reporting.reports_then, Reporting.unchanged_reported}
use Rattle.store_api.proofs.Readings.{unchanged_both}
use Rattle.app_page.proofs.page.write_page.Goals as goal

-- the beginning, the counts, and the tables by the counters that stand in the desk's own row
pub returns-clause-printed : goal.returns-clause-printed
returns-clause-printed g c honest T holds =
    let counted = c.write_tables.ensures.reads.honest honest in
    let begun = c.in_ok-write_statuses.ensures.reads.honest counted in
    let has = c.in_ok-counters.ensures.reads.tables begun T holds in
    let had = c.in_ok-write_statuses.ensures.reads.tables counted T has in
    let head = head_html T.meta in
    let counts = statuses_said T in
    let tables = tables_html T.meta.counters T in
    let w0 = g.W.Write.contents c.args.out.now in
    let w1 = g.W.Write.contents c.write_meta.new.out in
    let w2 = g.W.Write.contents c.write_statuses.new.out in
    let w3 = g.W.Write.contents c.write_text.new.out in
    let w4 = g.W.Write.contents c.write_tables.new.out in
    on_ok c.write_tables.result
    (λ written. Appends-trans w0 w1 w4 head (counts ++ (page.COUNTED.now ++ tables)) (c.in_ok-counters.ensures.printed begun T holds)
    (Appends-trans w1 w2 w4 counts (page.COUNTED.now ++ tables) (c.in_ok-write_statuses.ensures.printed counted T has)
    (Appends-trans w2 w3 w4 page.COUNTED.now tables c.in_ok-write_text.ensures written)))
    (subst (λ k. OnOk c.write_tables.result (Appends w3 w4 (tables_html k T))) (c.in_ok-counters.ensures.counters begun T holds)
    (c.write_tables.ensures.printed honest T had))

pub returns-in_err-write_statuses-clause-reads : goal.returns-in_err-write_statuses-clause-reads
returns-in_err-write_statuses-clause-reads g c =
    report_failed c.from_residual-in_err-write_statuses.result (unchanged_reported c.in_ok-counters.ensures.reads)
    c.in_err-write_statuses.ensures.reads c.from_residual-in_err-write_statuses.ensures.1

pub returns-clause-reads : goal.returns-clause-reads
returns-clause-reads g c =
    reports_then c.write_tables.result
    (unchanged_both (unchanged_reported c.in_ok-counters.ensures.reads) (unchanged_reported c.in_ok-write_statuses.ensures.reads))
    c.write_tables.ensures.reads
