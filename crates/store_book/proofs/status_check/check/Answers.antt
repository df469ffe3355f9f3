use Rattle.store_book.proofs.Pushed.{picture-no_faults}
use Rattle.store_book.proofs.status_check.check.Goals as goal
use Rattle.std.proofs.Common.{rules}

pub returns-clause-picture : goal.returns-clause-picture
returns-clause-picture c = search (rules, picture-no_faults)
