use Rattle.std.proofs.Common.{◌∙◌, ap, sym}
use Rattle.std.specs.Prelude.{nat_lt}
use Rattle.sql_write.proofs.{Differing.always_written, RowsInTurn.puts_added, Written.written_as, Written.written_with}
use Rattle.sql_write.specs.Statements.{nonce_writing, of_some, writes}
use Rattle.sql_write.proofs.saving.save_nonce.Goals as goal
use Rattle.sql_tables.specs.Layouts.{nonce_layout}

pub returns-in-Some-clause-writes : goal.returns-in-Some-clause-writes
returns-in-Some-clause-writes g c =
    let row = c.args.row.now in
    let is = sym c.of.ensures ∙ c.in-Some.is in
    written_with g.S.Store _ _ _ _ _ c.write_nonce.result (sym (ap (of_some (λ m. writes nonce_writing m row)) is))
    (written_as g.S.Store _ _ _ _ _ _ (puts_added nonce_layout row c.in-Some.write _ _) c.write_nonce.ensures.writes)

pub returns-in-None-clause-writes : goal.returns-in-None-clause-writes
returns-in-None-clause-writes g c = absurd (always_written (nat_lt c.args.last c.args.row.now.serial) (sym c.of.ensures ∙ c.in-None.is))
