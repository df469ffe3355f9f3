use Rattle.std.proofs.{Common.inr, lemmas.Result.IfErr-weaker, lemmas.Result.MatchResult-weaker}
use Rattle.desk_store.specs.Making.{IsNewDesk}
use Rattle.sqlite.specs.Held.{state}
use Rattle.desk_files.proofs.Adopting.{clean_before, left_on, still_made, survived}
use Rattle.desk_files.proofs.stored_desk.make_desk.Goals as goal

pub returns-in-Ok-clause-left : goal.returns-in-Ok-clause-left
returns-in-Ok-clause-left g c free =
    let old = state g.S.Store c.args.conn in
    let made = state g.S.Store c.in-Ok.store.conn in
    let first = survived old made (IsNewDesk c.args.policy c.args.at old) (c.in-Ok.ensures.left free) in
    MatchResult-weaker c.adopt.result c.adopt.ensures.asks
    (λ desk asked. left_on old made (state g.S.Store desk.store.conn) (IsNewDesk c.args.policy c.args.at old) first asked)
    (λ un asked. left_on old made (state g.S.Store un.conn) (IsNewDesk c.args.policy c.args.at old) first asked)

pub returns-in-Ok-clause-back : goal.returns-in-Ok-clause-back
returns-in-Ok-clause-back g c free =
    let made = state g.S.Store c.in-Ok.store.conn in
    MatchResult-weaker c.adopt.result c.adopt.ensures.asks (λ desk asked. tt)
    (λ un asked clean. let new = state g.S.Store un.conn in
    inr (λ is_open empty unlimited. still_made g.S.Store c.args.policy c.args.at c.in-Ok.store new
    (c.in-Ok.ensures.made (clean_before made new asked clean) unlimited) asked clean is_open))

pub returns-in-Ok-clause-failed : goal.returns-in-Ok-clause-failed
returns-in-Ok-clause-failed g c free =
    IfErr-weaker c.adopt.result _ _
    (λ un failed. inr (record { from = c.in-Ok.store.conn; done = c.in-Ok.ensures.left free; asked = failed })) c.adopt.ensures.failed
