use Rattle.std.proofs.{Common.◌∙◌, Common.rules, lemmas.Result.IfOk-weaker}
use Rattle.identifiers.proofs.NameOf.{name_of-IsNameOf, name_of-finds}
use Rattle.identifiers.proofs.names.read_name.Goals as goal

pub returns-clause-named : goal.returns-clause-named
returns-clause-named c = search (rules, IfOk-weaker, name_of-IsNameOf)

pub returns-clause-refused : goal.returns-clause-refused
returns-clause-refused c = λ e base wildcard named.
    let none = c.without_mark-wildcard.ensures ∙ c.name_with.ensures.not_found e in
    let some = (name_of-finds c.args.text.now base wildcard).0 named in
    cc (none, some)
