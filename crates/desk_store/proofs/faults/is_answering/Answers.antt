use Rattle.std.proofs.Common.{sym, ◌∙◌}
use Rattle.sqlite.specs.Held.{state}
use Rattle.sql_schema.proofs.StaysLemmas.{stays_asked}
use Rattle.desk_store.proofs.Silence.{open_told, silent_told}
use Rattle.desk_store.proofs.faults.is_answering.Goals as goal

pub returns-clause-unchanged : goal.returns-clause-unchanged
returns-clause-unchanged g c clean told =
    open_told c.prepare.result (state g.S.Store c.args.conn.now) (state g.S.Store c.prepare.new.self) _ (c.prepare.ensures.ok clean)
    (c.prepare.ensures.err clean) (sym c.tells_open.ensures ∙ told)

pub returns-clause-silent : goal.returns-clause-silent
returns-clause-silent g c clean told =
    silent_told c.prepare.result (state g.S.Store c.args.conn.now) (state g.S.Store c.prepare.new.self) (c.prepare.ensures.err clean)
    (sym c.tells_open.ensures ∙ told)

pub returns-clause-asks : goal.returns-clause-asks
returns-clause-asks g c = record {
  survives = c.prepare.ensures.survives;
  stays = λ clean. stays_asked c.prepare.result (state g.S.Store c.args.conn.now) (state g.S.Store c.prepare.new.self) _ _
      (c.prepare.ensures.ok clean) (c.prepare.ensures.err clean);
  idle = c.prepare.ensures.mode;
}
