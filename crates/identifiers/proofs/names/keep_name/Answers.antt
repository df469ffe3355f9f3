use Rattle.std.proofs.Common.{◌∙◌, refl, rules}
use Rattle.identifiers.proofs.NamesKept.{kept-new, kept-known}
use Rattle.identifiers.proofs.names.keep_name.Goals as goal

pub returns-then-has_name : goal.returns-then-has_name
returns-then-has_name c = search (rules, kept-known)

pub returns : goal.returns
returns c =
    λ before known.
    c.in_ok-push.ensures.items
    ∙ kept-new before c.args.names.now.items c.as_slice.result.now c.args.name _ c.has_name.result c.has_name.ensures refl
    c.as_slice.ensures.value known c.if-has_name.false
