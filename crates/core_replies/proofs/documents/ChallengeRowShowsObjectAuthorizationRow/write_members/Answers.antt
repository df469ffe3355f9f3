use Rattle.std.proofs.Common.{◌∙◌, ap}
use Rattle.desk_model.specs.{Document.expected_by, Tokens.authorization_of, Tokens.token_text}
use Rattle.core_replies.proofs.{Results.on_ok, Writing.member_is, Writing.members_then}
use Rattle.core_replies.proofs.documents.ChallengeRowShowsObjectAuthorizationRow.write_members.Goals as goal

pub returns-clause-written : goal.returns-clause-written
returns-clause-written c =
    on_ok c.member-4.result (λ kind. members_then c.in_ok-number_member.ensures
    (members_then (member_is (c.deref.ensures
    ∙ c.in_ok-expected.ensures
    ∙ ap (λ thumb. expected_by c.args.self.now.kind (authorization_of (token_text c.args.self.now.token) thumb)) c.answer_thumb.ensures)
    c.in_ok-member.ensures)
    (members_then (member_is c.base.ensures.base c.in_ok-member-2.ensures)
    (members_then (member_is (c.deref-2.ensures ∙ c.in_ok-token_text.ensures) c.in_ok-member-3.ensures)
    (member_is c.as_str.ensures kind))))) c.member-4.ensures
