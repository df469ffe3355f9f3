use Rattle.std.proofs.Common.{◌∙◌}
use Rattle.core_replies.proofs.{Results.on_ok, Writing.member_is, Writing.members_then}
use Rattle.core_replies.proofs.documents.PolicyShowsObjectUnit.write_members.Goals as goal

pub returns-clause-written : goal.returns-clause-written
returns-clause-written c =
    on_ok c.member-4.result (λ order. members_then (member_is (c.deref.ensures ∙ c.in_ok-url.ensures) c.in_ok-member.ensures)
    (members_then (member_is (c.deref-2.ensures ∙ c.in_ok-url-2.ensures) c.in_ok-member-2.ensures)
    (members_then (member_is (c.deref-3.ensures ∙ c.in_ok-url-3.ensures) c.in_ok-member-3.ensures)
    (member_is (c.deref-4.ensures ∙ c.in_ok-url-4.ensures) order)))) c.member-4.ensures
