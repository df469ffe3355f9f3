use Rattle.std.proofs.Common.{ap, map, ◌∙◌}
use Rattle.serde_json.specs.Data.{string}
use Rattle.core_replies.proofs.{Results.on_ok, Gathered.each-shows-one, Writing.list_is, Writing.member_is, Writing.members_then}
use Rattle.core_replies.proofs.documents.AccountRowShowsObjectPolicy.write_members.Goals as goal

pub returns-clause-written : goal.returns-clause-written
returns-clause-written c =
    on_ok c.member-2.result (λ status.
    members_then (list_is (each-shows-one string c.as_slice.result.now ∙ ap (map string) c.as_slice.ensures) c.in_ok-write_list.ensures)
    (members_then (member_is (c.deref.ensures ∙ c.in_ok-orders.ensures) c.in_ok-member.ensures) (member_is c.as_str.ensures status)))
    c.member-2.ensures
