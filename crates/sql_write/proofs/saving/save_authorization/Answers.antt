use Rattle.std.proofs.Common.{rules, subst}
use Rattle.std.specs.Prelude.{option_copied}
use Rattle.sqlite.specs.Held.{state}
use Rattle.sql_write.proofs.Written.{written_first, written_then}
use Rattle.sql_write.specs.Makes.{PutsChallenges, PutsOver, SavesAuthorization}
use Rattle.sql_write.specs.{Refusals.HasWritten, Statements.saves_bare_authorization, Statements.saves_challenges}
use Rattle.sql_write.proofs.saving.save_authorization.Goals as goal
use Rattle.sql_tables.specs.Layouts.{authorization_layout}

pub returns-clause-writes : goal.returns-clause-writes
returns-clause-writes g c =
    let stored = option_copied c.args.stored in
    let row = c.args.row.now in
    let mid = c.save_bare_authorization.new.tx.conn.now in
    let last = subst (λ rows. HasWritten g.S.Store (saves_challenges stored c.args.last.now.challenges row.number rows) (PutsChallenges stored row.number rows)
    mid c.save_challenges.new.tx.conn.now c.save_challenges.result) c.as_slice.ensures c.save_challenges.ensures.writes in
    written_then g.S.Store _ _ (PutsOver authorization_layout stored row) (PutsChallenges stored row.number row.challenges) _
    _ _ _ tt c.save_challenges.result (λ first then. ((state g.S.Store mid).now, first, then)) c.in_ok-save_bare_authorization.ensures.writes last

pub returns-in_err-save_bare_authorization-clause-writes : goal.returns-in_err-save_bare_authorization-clause-writes
returns-in_err-save_bare_authorization-clause-writes g c =
    let stored = option_copied c.args.stored in
    let row = c.args.row.now in
    let stops = written_first g.S.Store {X = Unit {0}} (saves_bare_authorization stored c.args.last.now.authorizations row)
    (saves_challenges stored c.args.last.now.challenges row.number row.challenges) _ (SavesAuthorization stored row) _ _ _
    c.in_err-save_bare_authorization.ensures.writes in
    search (rules, stops)
