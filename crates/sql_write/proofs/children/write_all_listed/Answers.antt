use Rattle.std.proofs.Common.{◌∙◌, rules}
use Rattle.sql_write.specs.Fits.{FitsListed}
use Rattle.sql_write.proofs.{RowsInTurn.each_owned, Written.turned_more, Written.turned_until}
use Rattle.sql_write.proofs.children.write_all_listed.Goals as goal

pub loop-row-preserved : goal.loop-row-preserved
loop-row-preserved g c =
    let after = c.in_ok-write_listed.ensures in
    record { same = after.same_reference ∙ c.loop-row.invariant.same; writes = turned_more _ c.loop-row.invariant.writes (search rules) after.writes }

pub returns-in_err-write_listed-clause-writes : goal.returns-in_err-write_listed-clause-writes
returns-in_err-write_listed-clause-writes g c =
    let stops = turned_until _ c.loop-row.invariant.writes (search rules) c.in_err-write_listed.ensures.writes in
    search (rules, stops)

pub returns-in_err-write_listed-clause-fits : goal.returns-in_err-write_listed-clause-fits
returns-in_err-write_listed-clause-fits g c all =
    let at = each_owned FitsListed c.args.order c.args.rows.now c.loop-row.row-index _ (search rules) all in
    let fits = c.in_err-write_listed.ensures.fits at in
    search (rules, fits)
