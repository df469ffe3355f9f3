use Rattle.std.proofs.Common.{arith}
use Rattle.store_columns.proofs.meta.read_meta.Goals as goal

pub returns : goal.returns
returns c = grind arith
