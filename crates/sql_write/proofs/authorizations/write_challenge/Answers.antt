use Rattle.sql_write.proofs.RowWrites.{challenge_texts, row_written}
use Rattle.sql_write.proofs.authorizations.write_challenge.Goals as goal

pub returns-clause-writes : goal.returns-clause-writes
returns-clause-writes g c =
    row_written g.S.Store challenge_texts (record { owner = c.args.authorization; row = c.args.row.now }) c.args.write
    (c.challenge_values.ensures.all c.args.authorization c.in_ok-numbers.ensures.numbers)
    (c.challenge_values.ensures.updates c.args.authorization c.in_ok-numbers.ensures.numbers) c.write_row.ensures.ran
