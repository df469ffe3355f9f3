use Rattle.std.proofs.Common.{drop, sym, ap, subst, ◌∙◌}
use Rattle.desk_model.specs.declared.call.Target.TheVariants as to
use Rattle.identifiers.specs.{AskedOrders.target_order, ReadOnce.target_key_change}
use Rattle.core_rules.specs.Needs.{IsJudged}
use Rattle.core_rules.proofs.{AskedOrders.order_judged, Sparing.asked-change, Sparing.sent, Sparing.target-made, Sparing.target-spared}
use Rattle.core_rules.proofs.judging.target_verdict.Goals as goal

pub returns-in-NewAccount : goal.returns-in-NewAccount
returns-in-NewAccount c =
    target-made c.args.at.now c.args.random.now c.args.sender c.args.payload.text.now c.args.signed.now.target
    to.NewAccount tt c.new_account_target.result (sent c.request.ensures c.in-NewAccount.is) c.new_account_target.ensures

pub returns-in-Account : goal.returns-in-Account
returns-in-Account c =
    target-made c.args.at.now c.args.random.now c.args.sender c.args.payload.text.now c.args.signed.now.target
    (to.Account c.in-Account.number) tt c.account_target.result (sent c.request.ensures c.in-Account.is) c.account_target.ensures

pub returns-in-Orders : goal.returns-in-Orders
returns-in-Orders c =
    target-spared c.args.at.now c.args.random.now c.args.sender c.args.payload.text.now c.args.signed.now.target
    (to.Orders c.in-Orders.number) tt _ (sent c.request.ensures c.in-Orders.is) c.orders_target.ensures

pub returns-in-Order : goal.returns-in-Order
returns-in-Order c =
    target-spared c.args.at.now c.args.random.now c.args.sender c.args.payload.text.now c.args.signed.now.target
    (to.Order c.in-Order.number) tt _ (sent c.request.ensures c.in-Order.is) c.order_target.ensures

pub returns-in-Finalize : goal.returns-in-Finalize
returns-in-Finalize c =
    target-made c.args.at.now c.args.random.now c.args.sender c.args.payload.text.now c.args.signed.now.target
    (to.Finalize c.in-Finalize.number) tt c.finalize_target.result (sent c.request.ensures c.in-Finalize.is) c.finalize_target.ensures

pub returns-in-Cert : goal.returns-in-Cert
returns-in-Cert c =
    target-spared c.args.at.now c.args.random.now c.args.sender c.args.payload.text.now c.args.signed.now.target
    (to.Cert c.in-Cert.number) tt _ (sent c.request.ensures c.in-Cert.is) c.certificate_target.ensures

pub returns-in-Authz : goal.returns-in-Authz
returns-in-Authz c =
    target-spared c.args.at.now c.args.random.now c.args.sender c.args.payload.text.now c.args.signed.now.target
    (to.Authz c.in-Authz.number) tt _ (sent c.request.ensures c.in-Authz.is) c.authorization_target.ensures

pub returns-in-Chall : goal.returns-in-Chall
returns-in-Chall c =
    target-spared c.args.at.now c.args.random.now c.args.sender c.args.payload.text.now c.args.signed.now.target
    (to.Chall c.in-Chall.number) tt _ (sent c.request.ensures c.in-Chall.is) c.challenge_target.ensures

pub returns-in-KeyChange : goal.returns-in-KeyChange
returns-in-KeyChange c =
    target-made c.args.at.now c.args.random.now c.args.sender c.args.payload.text.now c.args.signed.now.target
    to.KeyChange tt c.key_change_target.result (sent c.request.ensures c.in-KeyChange.is)
    (asked-change c.args.at.now (drop 16 c.args.random.now) c.args.sender c.args.payload.text.now c.args.signed.now.target c.key_change.result.now
    c.key_change_target.result (sent c.request.ensures c.in-KeyChange.is)
    (c.key_change.ensures ∙ ap (target_key_change c.args.signed.now.target) (sym c.requires.text)) c.key_change_target.ensures)

pub returns-in-NewOrder : goal.returns-in-NewOrder
returns-in-NewOrder c =
    subst (IsJudged c.args.at.now.meta.counters c.args.random.now c.order_verdict.result)
    (order_judged c.args.at.now (drop 16 c.args.random.now) c.args.sender c.args.payload.text.now c.args.signed.now.target c.order.result.now
    (sent c.request.ensures c.in-NewOrder.is) (c.order.ensures ∙ ap (target_order c.args.signed.now.target) (sym c.requires.text)))
    c.order_verdict.ensures
