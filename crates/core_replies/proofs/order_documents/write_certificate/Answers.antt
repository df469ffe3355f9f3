use Rattle.std.proofs.Common.{◌∙◌, ap, subst, sym}
use Rattle.std.specs.Prelude.{codes, is_some}
use Rattle.serde_json.specs.Data.{string}
use Rattle.desk_model.specs.{Json.when, Document.certificate_url}
use Rattle.core_replies.specs.Texts.{HasMembers}
use Rattle.core_replies.proofs.{Results.on_ok, Writing.member_is}
use Rattle.core_replies.proofs.order_documents.write_certificate.Goals as goal

pub returns : goal.returns
returns c =
    on_ok c.member.result (λ made. subst (HasMembers c.args.text.now c.member.new.self)
    (sym (ap (λ o. when (is_some o) (codes "certificate", string (certificate_url c.args.policy.now c.args.row.now.number))) c.in-Some.is))
    (member_is (c.deref.ensures ∙ c.in_ok-url.ensures) made)) c.member.ensures
