use Rattle.std.proofs.Common.{◌≡◌, ap, length, rules, subst, sym, ◌∙◌}
use Rattle.std.proofs.{Math.ListN.get_or, Math.ListN.get_or-map, lemmas.List.length-map}
use Rattle.store_columns.specs.{Columns.meta_columns, Limits.IsStoredMeta, Reading.IsRead}
use Rattle.sql_read.specs.{First.raised_meta, Spelled.meta_in}
use Rattle.sql_read.proofs.first.only_meta.Goals as goal

pub returns-in_default-clause-none : goal.returns-in_default-clause-none
returns-in_default-clause-none c none row stored same =
    let one : length c.args.rows.now ≡ 1 = sym (length-map c.args.rows.now (λ r. raised_meta (meta_in r))) ∙ ap length same in
    search (rules, one)

pub returns-clause-none : goal.returns-clause-none
returns-clause-none c none row stored same =
    let item = c.row-item.result in
    let read = subst (IsRead meta_columns IsStoredMeta c.raised_meta.result) none c.in_ok-read.ensures in
    let spelled = ap (λ r. raised_meta (meta_in r)) c.row-item.is ∙ sym (get_or-map (λ r. raised_meta (meta_in r)) c.args.rows.now 0 item)
    ∙ ap (λ all. get_or all 0 (raised_meta (meta_in item))) same in
    read row stored (c.raised_meta.ensures ∙ ap raised_meta c.in_ok-columns.ensures.read ∙ spelled)
