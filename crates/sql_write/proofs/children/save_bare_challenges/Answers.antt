use Rattle.std.proofs.Common.{◌∙◌, rules}
use Rattle.sql_write.specs.Fits.{FitsChallenge}
use Rattle.sql_write.proofs.{RowsInTurn.each_owned, Written.turned_more, Written.turned_until}
use Rattle.sql_write.proofs.children.save_bare_challenges.Goals as goal

pub loop-row-preserved : goal.loop-row-preserved
loop-row-preserved g c =
    let after = c.in_ok-save_challenge.ensures in
    record { same = after.same_reference ∙ c.loop-row.invariant.same; writes = turned_more _ c.loop-row.invariant.writes (search rules) after.writes }

pub returns-in_err-save_challenge-clause-writes : goal.returns-in_err-save_challenge-clause-writes
returns-in_err-save_challenge-clause-writes g c =
    let stops = turned_until _ c.loop-row.invariant.writes (search rules) c.in_err-save_challenge.ensures.writes in
    search (rules, stops)

pub returns-in_err-save_challenge-clause-fits : goal.returns-in_err-save_challenge-clause-fits
returns-in_err-save_challenge-clause-fits g c all =
    let at = each_owned FitsChallenge c.args.authorization c.args.rows.now c.loop-row.row-index _ (search rules) all in
    let fits = c.in_err-save_challenge.ensures.fits at in
    search (rules, fits)
