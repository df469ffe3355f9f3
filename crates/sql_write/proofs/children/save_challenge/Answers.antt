use Rattle.std.proofs.Common.{◌∙◌, ap}
use Rattle.std.specs.Prelude.{option_copied, option_map, nat_lt}
use Rattle.sql_write.proofs.{Differing.challenge_differs, Over.differs_under, Over.set_none, Over.set_some}
use Rattle.sql_write.specs.{Differences.challenge_difference, Stored.stored_challenge, Statements.challenge_writing, Statements.writes}
use Rattle.sql_write.proofs.children.save_challenge.Goals as goal

pub returns-in-Some-clause-writes : goal.returns-in-Some-clause-writes
returns-in-Some-clause-writes g c =
    let n = c.args.authorization in
    let row = c.args.row.now in
    let stored = stored_challenge (option_copied c.args.stored) row.number in
    set_some g.S.Store (challenge_differs n row stored) (nat_lt c.args.last row.number) (λ m. writes challenge_writing m (record { owner = n; row = row }))
    (differs_under n (λ old. challenge_difference old row) stored) c.of.ensures
    (c.challenge_difference-difference.ensures ∙ ap (option_map (λ old. challenge_difference old row)) c.stored_challenge.ensures) c.in-Some.is
    c.write_challenge.ensures.writes

pub returns-in-None-clause-writes : goal.returns-in-None-clause-writes
returns-in-None-clause-writes g c =
    let n = c.args.authorization in
    let row = c.args.row.now in
    let stored = stored_challenge (option_copied c.args.stored) row.number in
    set_none g.S.Store (challenge_differs n row stored) (nat_lt c.args.last row.number) (λ m. writes challenge_writing m (record { owner = n; row = row }))
    (differs_under n (λ old. challenge_difference old row) stored) c.of.ensures
    (c.challenge_difference-difference.ensures ∙ ap (option_map (λ old. challenge_difference old row)) c.stored_challenge.ensures) c.in-None.is
