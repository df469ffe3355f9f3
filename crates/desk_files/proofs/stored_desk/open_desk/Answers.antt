use Rattle.std.proofs.{Common.inr, lemmas.Result.IfErr-weaker, lemmas.Result.IfOk-weaker, lemmas.Result.MatchResult-weaker}
use Rattle.sql_schema.proofs.StaysLemmas.{asks_then}
use Rattle.desk_store.specs.Opening.{IsUpgraded}
use Rattle.sqlite.specs.Held.{state}
use Rattle.desk_files.proofs.Adopting.{clean_before, left_on, survived}
use Rattle.desk_files.proofs.stored_desk.open_desk.Goals as goal

pub returns-in-Ok-clause-asks : goal.returns-in-Ok-clause-asks
returns-in-Ok-clause-asks g c keys =
    let old = state g.S.Store c.args.conn in
    let opened = state g.S.Store c.in-Ok.store.conn in
    MatchResult-weaker c.adopt.result c.adopt.ensures.asks
    (λ desk asked. asks_then old opened (state g.S.Store desk.store.conn) (c.in-Ok.ensures.asks keys) asked)
    (λ un asked. asks_then old opened (state g.S.Store un.conn) (c.in-Ok.ensures.asks keys) asked)

pub returns-in-Ok-clause-kept : goal.returns-in-Ok-clause-kept
returns-in-Ok-clause-kept g c =
    IfOk-weaker c.adopt.result _ _ (λ desk kept clean T has. kept clean T (λ honest. c.in-Ok.ensures.kept honest T has)) c.adopt.ensures.kept

pub returns-in-Ok-clause-upgraded : goal.returns-in-Ok-clause-upgraded
returns-in-Ok-clause-upgraded g c =
    IfOk-weaker c.adopt.result _ _ (λ desk kept clean T has. kept clean T (λ honest. c.in-Ok.ensures.upgraded honest T has)) c.adopt.ensures.kept

pub returns-in-Ok-clause-whole : goal.returns-in-Ok-clause-whole
returns-in-Ok-clause-whole g c =
    let opened = state g.S.Store c.in-Ok.store.conn in
    MatchResult-weaker c.adopt.result c.adopt.ensures.asks
    (λ desk asked clean keys. c.in-Ok.ensures.whole (clean_before opened (state g.S.Store desk.store.conn) asked clean) keys) (λ un asked. tt)

pub returns-in-Ok-clause-whole_first : goal.returns-in-Ok-clause-whole_first
returns-in-Ok-clause-whole_first g c =
    let opened = state g.S.Store c.in-Ok.store.conn in
    MatchResult-weaker c.adopt.result c.adopt.ensures.asks
    (λ desk asked clean none. c.in-Ok.ensures.whole_first (clean_before opened (state g.S.Store desk.store.conn) asked clean) none) (λ un asked. tt)

pub returns-in-Ok-clause-left : goal.returns-in-Ok-clause-left
returns-in-Ok-clause-left g c =
    let old = state g.S.Store c.args.conn in
    let opened = state g.S.Store c.in-Ok.store.conn in
    let first = survived old opened (IsUpgraded old) c.in-Ok.ensures.left in
    MatchResult-weaker c.adopt.result c.adopt.ensures.asks
    (λ desk asked. left_on old opened (state g.S.Store desk.store.conn) (IsUpgraded old) first asked)
    (λ un asked. left_on old opened (state g.S.Store un.conn) (IsUpgraded old) first asked)

pub returns-in-Ok-clause-failed : goal.returns-in-Ok-clause-failed
returns-in-Ok-clause-failed g c =
    IfErr-weaker c.adopt.result _ _
    (λ un failed. inr (record { from = c.in-Ok.store.conn; done = c.in-Ok.ensures.left; asked = failed })) c.adopt.ensures.failed
