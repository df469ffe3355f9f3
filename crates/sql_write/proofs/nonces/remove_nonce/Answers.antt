use Rattle.std.proofs.Common.{rules}
use Rattle.sql_write.proofs.Written.{run_written}
use Rattle.sql_write.proofs.nonces.remove_nonce.Goals as goal
use Rattle.sql_tables.specs.{Effects.Removes, Layouts.nonce_layout}
use Rattle.sql_tables.proofs.Removal.{advances_removal}

pub returns-clause-writes : goal.returns-clause-writes
returns-clause-writes g c =
    run_written g.S.Store _ _ _ (Removes nonce_layout c.args.serial) _ _ c.execute_or_fault.result (search rules) c.execute_or_fault.ensures.ran
    (advances_removal c.args.serial _ _ _ (search rules))
