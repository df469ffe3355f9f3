use Rattle.desk_model.specs.Effect.{swept}
use Rattle.desk_core.proofs.{Spaced.no_numbers}
use Rattle.desk_core.proofs.decisions.office.Goals as goal
use Rattle.std.proofs.Common.{arith}

pub act_without_nonce-requires-clause-numbers : goal.act_without_nonce-requires-clause-numbers
act_without_nonce-requires-clause-numbers c = grind (arith, (no_numbers c.args.book.now.meta.counters c.args.ask.now (swept c.args.moment c.args.book.now)))
