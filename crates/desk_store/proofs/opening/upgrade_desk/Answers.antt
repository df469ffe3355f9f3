use Rattle.std.proofs.Common.{inr}
use Rattle.sqlite.specs.Held.{state}
use Rattle.desk_store.proofs.{NothingWritten.failed, Upgrading.upgrade_left}
use Rattle.desk_store.proofs.opening.upgrade_desk.Goals as goal

pub returns-in-Ok-upgrade_with-clause-left : goal.returns-in-Ok-upgrade_with-clause-left
returns-in-Ok-upgrade_with-clause-left g c =
    upgrade_left (state g.S.Store c.args.conn.now) (state g.S.Store c.find_additions.new.conn) (state g.S.Store c.upgrade_with.new.conn) _
    c.find_additions.ensures.reads.asks c.in-Ok.ensures.reads.unchanged c.in-Ok.ensures.added c.upgrade_with.ensures.left

pub returns-in-Err-upgrade_with-clause-left : goal.returns-in-Err-upgrade_with-clause-left
returns-in-Err-upgrade_with-clause-left g c =
    upgrade_left (state g.S.Store c.args.conn.now) (state g.S.Store c.find_additions.new.conn) (state g.S.Store c.upgrade_with.new.conn) _
    c.find_additions.ensures.reads.asks c.in-Ok.ensures.reads.unchanged c.in-Ok.ensures.added c.upgrade_with.ensures.left

pub returns-in-Err-upgrade_with-clause-failed : goal.returns-in-Err-upgrade_with-clause-failed
returns-in-Err-upgrade_with-clause-failed g c =
    inr (record {
      from = c.find_additions.new.conn;
      asked = c.find_additions.ensures.reads.asks;
      additions = c.in-Ok.additions;
      added = c.in-Ok.ensures.added;
      save = c.in-Err-upgrade_with.ensures.failed;
    })
