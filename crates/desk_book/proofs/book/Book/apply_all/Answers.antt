use Rattle.desk_book.proofs.Applied.{applied-last}
use Rattle.desk_book.proofs.book.Book.apply_all.Goals as goal
use Rattle.std.proofs.Common.{rules}

pub loop-change-preserved : goal.loop-change-preserved
loop-change-preserved c = search (rules, applied-last)
