use Rattle.model_laws.proofs.Basics.{list_any-map}
use Rattle.desk_book.proofs.at_moment.lists_overdue.Goals as goal
use Rattle.std.proofs.Common.{rules}

pub returns : goal.returns
returns c = search (rules, list_any-map)
