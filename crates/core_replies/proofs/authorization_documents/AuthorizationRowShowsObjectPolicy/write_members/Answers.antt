use Rattle.std.proofs.Common.{ap, map, subst, ◌∙◌, arith}
use Rattle.std.specs.Prelude.{codes, true, ◌∷◌, []}
use Rattle.serde_json.specs.Data.{boolean}
use Rattle.desk_model.specs.{Document.challenge_document, Document.identifier, Document.shown_challenges, Json.when}
use Rattle.core_replies.specs.{Shown.capped_challenge, Texts.HasMembers, Texts.HasValues}
use Rattle.core_replies.proofs.Writing.{list_is, member_is, members_then, named_value}
use Rattle.core_replies.proofs.{Results.on_ok, ShownAuthorizations.challenges-shown, ShownAuthorizations.shown-capped}
use Rattle.core_replies.proofs.authorization_documents.AuthorizationRowShowsObjectPolicy.write_members.Goals as goal

pub returns-clause-written : goal.returns-clause-written
returns-clause-written c =
    on_ok c.write_wildcard.result (λ wildcard.
    members_then (list_is
    (challenges-shown c.args.by.now c.as_slice-challenges.result.now c.is_reported.result c.is_reported.ensures
    ∙ ap (λ rows. map (λ x. challenge_document c.args.by.now (capped_challenge x)) (shown_challenges rows)) c.as_slice-challenges.ensures
    ∙ shown-capped c.args.by.now c.args.self.now.challenges) c.in_ok-write_list.ensures)
    (members_then (member_is (c.deref.ensures ∙ c.in_ok-expires.ensures) c.in_ok-member.ensures)
    (members_then (named_value (codes "identifier") (identifier c.args.self.now.name.base) c.in_ok-name.ensures
    (subst (λ name. HasValues c.name.new.self c.write_identifier.new.text (identifier name ∷ [])) c.base.ensures.base c.in_ok-write_identifier.ensures))
    (members_then (member_is c.as_str.ensures c.in_ok-member-2.ensures)
    (subst (λ b. HasMembers c.member-2.new.self c.write_wildcard.new.text (when b (codes "wildcard", boolean true))) c.is_wildcard.ensures wildcard)))))
    c.write_wildcard.ensures

pub returns-clause-in_order : goal.returns-clause-in_order
returns-clause-in_order c = grind arith
