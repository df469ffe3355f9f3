use Rattle.std.proofs.{Common.◌++◌, Common.subst, KnownBytes.Appends-trans}
use Rattle.std.specs.Io.KnownBytes.{Appends}
use Rattle.desk_model.specs.Moment.{moment_text}
use Rattle.moments.specs.Capped.{capped}
use Rattle.app_page.specs.Html.{escaped}
use Rattle.app_page.specs.declared.texts.TheConstants as page
use Rattle.app_reports.proofs.Printing.{on_ok}
use Rattle.app_page.proofs.page.write_head.Goals as goal

pub returns : goal.returns
returns g c =
    let base = escaped c.args.meta.now.policy.base in
    let clock = moment_text (capped c.args.meta.now.counters.clock) in
    let was = g.W.Write.contents c.args.out.now in
    let begun = g.W.Write.contents c.write_text.new.out in
    let based = g.W.Write.contents c.write_escaped.new.out in
    let more = g.W.Write.contents c.write_text-2.new.out in
    let clocked = g.W.Write.contents c.write_moment.new.out in
    let is = g.W.Write.contents c.write_text-3.new.out in
    let base_written = subst (λ b. Appends begun based (escaped b)) c.base.ensures.base c.in_ok-write_escaped.ensures in
    let clock_written = subst (λ m. Appends more clocked (moment_text (capped m))) c.moment.ensures.same c.in_ok-write_moment.ensures in
    on_ok c.write_text-3.result
    (λ written. Appends-trans was begun is page.HEAD.now (base ++ (page.CLOCK.now ++ (clock ++ page.COUNTS.now))) c.in_ok-write_text.ensures
    (Appends-trans begun based is base (page.CLOCK.now ++ (clock ++ page.COUNTS.now)) base_written
    (Appends-trans based more is page.CLOCK.now (clock ++ page.COUNTS.now) c.in_ok-write_text-2.ensures
    (Appends-trans more clocked is clock page.COUNTS.now clock_written written)))) c.write_text-3.ensures
