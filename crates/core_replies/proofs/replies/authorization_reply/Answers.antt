use Rattle.core_replies.specs.Shown.{capped_authorization}
use Rattle.core_replies.proofs.{ShownAuthorizations.capped_authorization-same, PlainDocuments.authorization_plain}
use Rattle.core_replies.proofs.replies.authorization_reply.Goals as goal
use Rattle.std.proofs.Common.{rules}

pub shown_document-requires : goal.shown_document-requires
shown_document-requires c = authorization_plain c.args.policy.now (capped_authorization c.args.row.now)

pub returns : goal.returns
returns c T same dated = search (rules, capped_authorization-same)
