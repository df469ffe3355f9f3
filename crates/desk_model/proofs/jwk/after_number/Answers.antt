use Rattle.std.proofs.{Common.lit<, lemmas.Str.Pattern.split_parts}
use Rattle.desk_model.proofs.Numbers.{no_mark_no_number, number_is_first}
use Rattle.desk_model.proofs.jwk.after_number.Goals as goal

pub returns-in_default : goal.returns-in_default
returns-in_default c = λ number rest _ e.
    let parts = split_parts 34 c.args.text.now c.split_once.result c.split_once.ensures.cases (lit< tt) in
    no_mark_no_number c.args.text.now (rw c.in_default.is at parts) number rest e

pub returns-else-is_number : goal.returns-else-is_number
returns-else-is_number c = λ number rest num e.
    let parts = split_parts 34 c.args.text.now c.split_once.result c.split_once.ensures.cases (lit< tt) in
    let yes = number_is_first c.args.text.now c.in-Some.number.now c.in-Some.rest.now number rest (rw c.in-Some.is at parts) num e in
    let is = c.is_number.ensures in
    let no = c.if-is_number.false in
    cc (yes, is, no)
