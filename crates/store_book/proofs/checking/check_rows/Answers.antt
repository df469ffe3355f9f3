use Rattle.store_book.proofs.SliceLoops.{row-among}
use Rattle.store_book.proofs.checking.check_rows.Goals as goal
use Rattle.std.proofs.Common.{rules}

pub returns-then-not-branch : goal.returns-then-not-branch
returns-then-not-branch g c _ all = search (rules, (row-among c.args.rows.now c.loop-row.row-index _ _ c.loop-row-test.true c.row-item.is))
