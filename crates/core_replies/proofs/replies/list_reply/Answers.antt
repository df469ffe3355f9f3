use Rattle.std.proofs.Common.{◌∙◌, ap, sym, rules}
use Rattle.desk_model.specs.{Plain.is_document, Shown.list_reply, Shown.ok}
use Rattle.core_replies.proofs.PlainDocuments.{challenge_work_plain, order_work_plain, orders_plain}
use Rattle.core_replies.proofs.ShownLists.{challenges-are, orders-are, work-is}
use Rattle.core_replies.proofs.replies.list_reply.Goals as goal

pub listing_document-requires : goal.listing_document-requires
listing_document-requires c =
    ap is_document (orders-are c.parts-moment.result.1 c.in-Orders.number c.parts-moment.result.0.now c.args.at.now c.orders.result.now
    c.orders.ensures c.parts-moment.ensures)
    ∙ orders_plain c.args.at.now c.in-Orders.number

pub returns-in_ok-orders-in-Orders : goal.returns-in_ok-orders-in-Orders
returns-in_ok-orders-in-Orders c =
    c.json_reply-in-Orders.ensures
    ∙ ap (ok 200) (c.in_ok-orders-in-Orders.ensures
    ∙ orders-are c.parts-moment.result.1 c.in-Orders.number c.parts-moment.result.0.now c.args.at.now c.orders.result.now
    c.orders.ensures c.parts-moment.ensures)
    ∙ ap (list_reply c.args.at.now) (sym c.in-Orders.is)

pub listing_document-requires-in-ChallengeWork : goal.listing_document-requires-in-ChallengeWork
listing_document-requires-in-ChallengeWork c =
    ap is_document (challenges-are c.parts-moment.result.1 c.parts-moment.result.0.now c.args.at.now c.authorizations.result.now
    c.authorizations.ensures c.parts-moment.ensures)
    ∙ challenge_work_plain c.args.at.now

pub returns-in_ok-work-in-ChallengeWork : goal.returns-in_ok-work-in-ChallengeWork
returns-in_ok-work-in-ChallengeWork c = search (rules, challenges-are)

pub listing_document-requires-in-OrderWork : goal.listing_document-requires-in-OrderWork
listing_document-requires-in-OrderWork c =
    ap is_document (work-is c.parts-moment.result.1 c.parts-moment.result.0.now c.args.at.now c.orders-in-OrderWork.result.now
    c.orders-in-OrderWork.ensures c.parts-moment.ensures)
    ∙ order_work_plain c.args.at.now

pub returns-in_ok-waiting-in-OrderWork : goal.returns-in_ok-waiting-in-OrderWork
returns-in_ok-waiting-in-OrderWork c =
    c.json_reply-in-OrderWork.ensures
    ∙ ap (ok 200) (c.in_ok-waiting-in-OrderWork.ensures
    ∙ work-is c.parts-moment.result.1 c.parts-moment.result.0.now c.args.at.now c.orders-in-OrderWork.result.now
    c.orders-in-OrderWork.ensures c.parts-moment.ensures)
    ∙ ap (list_reply c.args.at.now) (sym c.in-OrderWork.is)
