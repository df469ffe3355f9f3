use Rattle.std.proofs.Common.{◌∙◌, sym, rules}
use Rattle.desk_model.specs.{Derived.numbers_of}
use Rattle.core_replies.proofs.ShownWork.{swept-names}
use Rattle.core_replies.proofs.order_documents.order_names.Goals as goal

pub returns-clause-stored : goal.returns-clause-stored
returns-clause-stored c = search rules

pub returns-clause-swept : goal.returns-clause-swept
returns-clause-swept c moment = returns-clause-stored c ∙ sym (swept-names moment c.args.book.now (numbers_of c.args.row.now.listed))
