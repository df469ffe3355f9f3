use Rattle.store_api.proofs.Found.{fails_behind}
use Rattle.store_api.proofs.minimal_part.add_missing_holders.Goals as goal

pub returns-in_err-add_missing : goal.returns-in_err-add_missing
returns-in_err-add_missing g c = fails_behind _ c.loop-row.invariant c.in_err-add_missing.ensures c.from_residual.ensures.1
