use Rattle.std.proofs.Common.{refl}
use Rattle.desk_model.proofs.Labels.{last_full_stop}
use Rattle.desk_model.proofs.dns_name.has_top_label.Goals as goal

pub returns-in-Some : goal.returns-in-Some
returns-in-Some c =
    let split = c.in-Some.ensures.cases in
    let ends = last_full_stop c.args.name.now c.in-Some.last.now split.0 split.1 split.2 split.4 in
    rw (ends.0, ends.1, c.is_all_digits.ensures) refl
