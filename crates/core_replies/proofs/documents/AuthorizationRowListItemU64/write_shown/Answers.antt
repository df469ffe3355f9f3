use Rattle.core_replies.proofs.{ShownWork.answered-waiting}
use Rattle.core_replies.proofs.documents.AuthorizationRowListItemU64.write_shown.Goals as goal
use Rattle.std.proofs.Common.{rules}

pub returns : goal.returns
returns c = search (rules, answered-waiting)
