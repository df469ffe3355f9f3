use Rattle.std.proofs.Common.{◌∙◌, rules}
use Rattle.sql_write.proofs.{Written.turned_more, Written.turned_until}
use Rattle.sql_write.proofs.children.write_keys.Goals as goal

pub loop-row-preserved : goal.loop-row-preserved
loop-row-preserved g c =
    let after = c.in_ok-write_key.ensures in
    record { same = after.same_reference ∙ c.loop-row.invariant.same; writes = turned_more _ c.loop-row.invariant.writes (search rules) after.writes }

pub returns-in_err-write_key-clause-writes : goal.returns-in_err-write_key-clause-writes
returns-in_err-write_key-clause-writes g c =
    let stops = turned_until _ c.loop-row.invariant.writes (search rules) c.in_err-write_key.ensures.writes in
    search (rules, stops)
