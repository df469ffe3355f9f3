use Rattle.store_book.proofs.Steps.{next_key}
use Rattle.store_book.proofs.keys.KeyCheckRowCheckChallKeyColumns.passes.Goals as goal
use Rattle.std.proofs.Common.{rules}

pub returns-then-first-row-clause-fine : goal.returns-then-first-row-clause-fine
returns-then-first-row-clause-fine c first rows rest so_far are =
    search (rules, (next_key rows c.args.row.now rest c.args.self.now.left.now first.left.now so_far are))

pub returns-in_default-clause-fine : goal.returns-in_default-clause-fine
returns-in_default-clause-fine c first rows rest so_far are =
    search (rules, (next_key rows c.args.row.now rest c.args.self.now.left.now first.left.now so_far are))
