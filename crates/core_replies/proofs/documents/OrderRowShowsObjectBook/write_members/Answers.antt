use Rattle.std.proofs.Common.{ap, map, ◌∙◌}
use Rattle.serde_json.specs.Data.{string}
use Rattle.desk_model.specs.{Derived.numbers_of, Document.rows_of, Names.shown_name}
use Rattle.core_replies.proofs.{Results.on_ok, ShownWork.listed-names, Writing.list_is, Writing.member_is, Writing.members_then}
use Rattle.core_replies.proofs.documents.OrderRowShowsObjectBook.write_members.Goals as goal

pub returns-clause-written : goal.returns-clause-written
returns-clause-written c =
    on_ok c.number_member.result (λ number. members_then (member_is (c.deref.ensures ∙ c.in_ok-csr.ensures) c.in_ok-member.ensures)
    (members_then (list_is (listed-names c.args.by.now.authorizations c.as_slice.result.now
    ∙ ap (λ places. map (λ a. string (shown_name a.name)) (rows_of c.args.by.now.authorizations (numbers_of places))) c.as_slice.ensures)
    c.in_ok-write_list.ensures) number)) c.number_member.ensures
