use Rattle.std.proofs.Common.{rules}
use Rattle.std.specs.{List.flat_map, Prelude.option_copied}
use Rattle.sqlite.specs.Held.{state}
use Rattle.store_columns.specs.Flat.{key_rows, owned_by}
use Rattle.sql_write.proofs.Written.{written_first, written_then}
use Rattle.sql_write.specs.Makes.{PutsAllOver, PutsChallenges, challenge_under, key_under}
use Rattle.sql_write.specs.Statements.{saves_answer, saves_challenge}
use Rattle.sql_write.proofs.children.save_challenges.Goals as goal
use Rattle.sql_tables.specs.Layouts.{challenge_layout, key_layout}

pub returns-clause-writes : goal.returns-clause-writes
returns-clause-writes g c =
    let stored = option_copied c.args.stored in
    let rows = owned_by c.args.authorization c.args.rows.now in
    let mid = (state g.S.Store c.save_bare_challenges.new.tx.conn.now).now in
    written_then g.S.Store _ _ (PutsAllOver challenge_layout (challenge_under stored) rows) (PutsAllOver key_layout (key_under stored) (key_rows rows)) _
    _ _ _ tt c.save_answers.result (λ first last. (mid, first, last)) c.in_ok-save_bare_challenges.ensures.writes c.save_answers.ensures.writes

pub returns-in_err-save_bare_challenges-clause-writes : goal.returns-in_err-save_bare_challenges-clause-writes
returns-in_err-save_bare_challenges-clause-writes g c =
    let stored = option_copied c.args.stored in
    let stops = written_first g.S.Store {X = Unit {0}} (flat_map (saves_challenge stored c.args.last c.args.authorization) c.args.rows.now)
    (flat_map (saves_answer stored c.args.last) c.args.rows.now) _ (PutsChallenges stored c.args.authorization c.args.rows.now) _ _ _
    c.in_err-save_bare_challenges.ensures.writes in
    search (rules, stops)
