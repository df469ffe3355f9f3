use Rattle.std.proofs.{Common.ap, Common.subst, Common.◌∙◌, lemmas.Result.err_from_is_err_and}
use Rattle.std.specs.Prelude.{sum_by}
use Rattle.desk_model.specs.declared.rows.Counters.{Counters}
use Rattle.core_rules.specs.{Making.drawn_for, Making.made_for, Making.wanted_for, Needs.IsNeedFault}
use Rattle.core_rules.proofs.NamesWanted.{wanted-served}
use Rattle.core_rules.proofs.OrderNeeds.{order_for, order_full, order_numbered, order_short, order_made}
use Rattle.core_rules.proofs.new_orders.order_for.Goals as goal

pub returns-in_err-has_numbers : goal.returns-in_err-has_numbers
returns-in_err-has_numbers c =
    let p = err_from_is_err_and c.from_residual-in_err-has_numbers.result c.from_residual-in_err-has_numbers.ensures.1 in
    let fails = c.in_err-has_numbers.ensures in
    let T = c.args.at.now in
    let served = c.deref.ensures.value ∙ c.in_ok-served.ensures in
    rw p.1
    (subst (λ (m : Counters). IsNeedFault m c.args.random.now (order_for T c.args.account c.args.names.now c.args.random.now) p.0) c.counters-counters.ensures
    (order_full T (record c.counters-counters.result { clock = T.meta.counters.clock }) c.args.random.now c.args.account
    c.args.names.now c.count_made-made.result.0 c.count_made-made.result.1 p.0
    (c.count_made-made.ensures.made ∙ ap (sum_by made_for) served)
    (c.count_made-made.ensures.drawn ∙ ap (sum_by drawn_for) served)
    (p.2 ∙ fails.0) fails.1))

pub returns-in_err-has_tokens : goal.returns-in_err-has_tokens
returns-in_err-has_tokens c =
    let p = err_from_is_err_and c.from_residual-in_err-has_tokens.result c.from_residual-in_err-has_tokens.ensures.1 in
    let fails = c.in_err-has_tokens.ensures in
    let T = c.args.at.now in
    let served = c.deref.ensures.value ∙ c.in_ok-served.ensures in
    let made = c.count_made-made.ensures.made ∙ ap (sum_by made_for) served in
    let drawn = c.count_made-made.ensures.drawn ∙ ap (sum_by drawn_for) served in
    rw p.1
    (subst (λ (m : Counters). IsNeedFault m c.args.random.now (order_for T c.args.account c.args.names.now c.args.random.now) p.0) c.counters-counters.ensures
    (order_short T (record c.counters-counters.result { clock = T.meta.counters.clock }) c.args.random.now c.args.account
    c.args.names.now c.count_made-made.result.1 p.0
    drawn (p.2 ∙ fails.0) fails.1
    (order_numbered T (record c.counters-counters.result { clock = T.meta.counters.clock }) c.args.random.now c.args.account
    c.args.names.now c.count_made-made.result.0 c.count_made-made.result.1 made drawn c.in_ok-has_numbers.ensures)))

pub returns : goal.returns
returns c =
    let T = c.args.at.now in
    let served = c.deref.ensures.value ∙ c.in_ok-served.ensures in
    order_made T T.meta.counters (record c.counters-counters.result { clock = T.meta.counters.clock })
    c.args.random.now c.later_random.result.now c.args.account c.args.names.now c.new.result
    c.count_made-made.result.0 c.count_made-made.result.1
    (c.new.ensures ∙ c.in_ok-wanted.ensures ∙ ap (λ ss. wanted_for ss c.later_random.result.now) c.in_ok-served.ensures
    ∙ wanted-served T c.args.account c.args.names.now c.later_random.result.now)
    c.later_random.ensures c.counters-counters.ensures
    (c.count_made-made.ensures.made ∙ ap (sum_by made_for) served)
    (c.count_made-made.ensures.drawn ∙ ap (sum_by drawn_for) served)
    c.in_ok-has_numbers.ensures c.in_ok-has_tokens.ensures
