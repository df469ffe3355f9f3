use Rattle.std.proofs.Common.{◌≡◌, ◌≤◌, ◌∙◌, ap, max, subst, sym, rules}
use Rattle.desk_model.specs.{Limits.last_moment, declared.call.Call.Call}
use Rattle.desk_core.proofs.DecidingAsks.{code_decides, ok_part, err_part}
use Rattle.desk_core.proofs.{decisions.decide.Goals.After-decide_at, DecidingFaults.code_fails}
use Rattle.desk_core.specs.Outcomes.{MeetsAsk, IsAskFault}
use Rattle.identifiers.specs.Parsed.{ask_of}
use Rattle.desk_core.proofs.decisions.decide.Goals as goal

pub decide_at-requires : goal.decide_at-requires
decide_at-requires c =
    c.moment_of-moment.ensures.in_time (subst (λ (k : Call). k.at ≤ last_moment) (sym c.call-whole.ensures.call) c.call-whole.ensures.in_time)

-- the moment of the decision
acts : (c : After-decide_at) → c.moment_of-moment.result ≡ max c.args.call.now.at c.args.book.now.meta.counters.clock
acts c = search rules

pub returns-clause-decided : goal.returns-clause-decided
returns-clause-decided c =
    ok_part (λ o. MeetsAsk c.moment_of-moment.result c.args.book.now c.as_slice.result.now (ask_of c.ask.result.now) o.changes.items o.reply)
    (λ e. IsAskFault c.moment_of-moment.result c.args.book.now c.as_slice.result.now (ask_of c.ask.result.now) e)
    c.decide_at.result c.decide_at.ensures
    (λ o meets F legal part.
    code_decides F c.args.call.now c.args.book.now c.moment_of-moment.result c.as_slice.result.now o.changes.items o.reply legal part
    c.call-whole.ensures.formed c.call-whole.ensures.in_time
    (acts c) (c.as_slice.ensures ∙ ap (λ (k : Call). k.random) c.call-whole.ensures.call)
    (λ ordered. subst (λ a. MeetsAsk c.moment_of-moment.result c.args.book.now c.as_slice.result.now a o.changes.items o.reply) c.ask.ensures (meets ordered)))

pub returns-clause-faulty : goal.returns-clause-faulty
returns-clause-faulty c =
    err_part (λ o. MeetsAsk c.moment_of-moment.result c.args.book.now c.as_slice.result.now (ask_of c.ask.result.now) o.changes.items o.reply)
    (λ e. IsAskFault c.moment_of-moment.result c.args.book.now c.as_slice.result.now (ask_of c.ask.result.now) e)
    c.decide_at.result c.decide_at.ensures
    (λ e fails F legal part.
    code_fails F c.args.call.now c.args.book.now c.moment_of-moment.result c.as_slice.result.now e legal part
    c.call-whole.ensures.in_time
    (acts c) (c.as_slice.ensures ∙ ap (λ (k : Call). k.random) c.call-whole.ensures.call)
    (λ ordered. subst (λ a. IsAskFault c.moment_of-moment.result c.args.book.now c.as_slice.result.now a e) c.ask.ensures (fails ordered)))
