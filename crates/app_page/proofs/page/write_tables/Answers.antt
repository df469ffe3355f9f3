use Rattle.std.proofs.{Common.◌++◌, Common.subst, KnownBytes.Appends-trans}
use Rattle.std.specs.Io.KnownBytes.{Appends}
use Rattle.app_page.specs.Page.{ending_html, last_html, soon_after, waiting_html}
use Rattle.app_page.specs.declared.texts.TheConstants as page
use Rattle.app_reports.proofs.Reporting.{report_failed, unchanged_reported}
use Rattle.store_api.proofs.Readings.{unchanged_both}
use Rattle.app_page.proofs.page.write_tables.Goals as goal

-- the tables, one after the other
pub returns-clause-printed : goal.returns-clause-printed
returns-clause-printed g c honest T holds =
    let ended = c.in_ok-write_last.ensures.reads.honest honest in
    let waited = c.in_ok-write_ending.ensures.reads.honest ended in
    let has = c.in_ok-write_waiting.ensures.reads.tables waited T holds in
    let had = c.in_ok-write_ending.ensures.reads.tables ended T has in
    let waiting = waiting_html T in
    let ending = ending_html (soon_after c.args.counters.clock) T in
    let last = last_html c.args.counters.orders T in
    let w0 = g.W.Write.contents c.args.out.now in
    let w1 = g.W.Write.contents c.write_waiting.new.out in
    let w2 = g.W.Write.contents c.write_ending.new.out in
    let w3 = g.W.Write.contents c.write_last.new.out in
    let w4 = g.W.Write.contents c.write_text.new.out in
    Appends-trans w0 w1 w4 waiting (ending ++ (last ++ page.END.now)) (c.in_ok-write_waiting.ensures.printed waited T holds)
    (Appends-trans w1 w2 w4 ending (last ++ page.END.now)
    (subst (λ m. Appends w1 w2 (ending_html m T)) c.soon_after.ensures (c.in_ok-write_ending.ensures.printed ended T has))
    (Appends-trans w2 w3 w4 last page.END.now (c.in_ok-write_last.ensures.printed honest T had) c.in_ok-write_text.ensures))

pub returns-in_err-write_last-clause-reads : goal.returns-in_err-write_last-clause-reads
returns-in_err-write_last-clause-reads g c =
    report_failed c.from_residual-in_err-write_last.result
    (unchanged_both (unchanged_reported c.in_ok-write_waiting.ensures.reads) (unchanged_reported c.in_ok-write_ending.ensures.reads))
    c.in_err-write_last.ensures.reads c.from_residual-in_err-write_last.ensures.1
