use Rattle.std.proofs.Common.{◌∙◌, arith, subst, [], Ok, Err, rules, ◌≡◌}
use Rattle.sqlite.specs.Held.{state}
use Rattle.sqlite.proofs.StateLemmas.{survives_then}
use Rattle.sql_schema.specs.Advances.{Performs}
use Rattle.sql_schema.proofs.Steps.{defines_more}
use Rattle.sql_write.proofs.Told.{run_defined, stops_defining}
use Rattle.sql_write.specs.{Refusals.Runs, Refusals.HaveRun, Statements.defines_before}
use Rattle.sql_write.proofs.definitions.define_all.Goals as goal

pub loop-step-preserved : goal.loop-step-preserved
loop-step-preserved g c =
    let first = state g.S.Store c.args.tx.now.conn.now in
    let old = state g.S.Store c.loop-step.tx.conn.now in
    let new = state g.S.Store c.execute.new.tx.conn.now in
    let after = c.in_ok-execute.ensures in
    let count = c.in_ok-execute.field-0 in
    let ran = subst (λ text. Performs text [] old new (Ok count)) c.definition.ensures after.runs in
    record {
      same = after.same_reference ∙ c.loop-step.invariant.same;
      advances = defines_more first old new c.loop-step.step count (omega arith) after.survives c.loop-step.invariant.advances ran;
      told = run_defined g.S.Store c.loop-step.step count _ _ _ c.loop-step.invariant.told
          (subst (λ text. Runs g.S.Store (record { text = text; params = [] }) c.loop-step.tx.conn.now c.execute.new.tx.conn.now (Ok count))
          c.definition.ensures
          after.told);
      survives = survives_then first old new _ _ (λ _. ⊥) (λ _ db none. none) (λ _ db none. none) c.loop-step.invariant.survives after.survives;
    }

pub returns-in_err-execute-clause-told : goal.returns-in_err-execute-clause-told
returns-in_err-execute-clause-told g c =
    let error = c.in_err-execute.field-0.0 in
    let here = subst (λ text. Runs g.S.Store (record { text = text; params = [] }) c.loop-step.tx.conn.now c.execute.new.tx.conn.now (Err error))
    c.definition.ensures c.in_err-execute.ensures.told in
    let stops = stops_defining g.S.Store c.loop-step.step 16 (omega arith) error _ _ _ c.loop-step.invariant.told here in
    search (rules, stops)

pub returns-clause-told : goal.returns-clause-told
returns-clause-told g c =
    let all : c.loop-step.step ≡ 16 = omega arith in
    subst (λ step. HaveRun g.S.Store (defines_before step) c.args.tx.now.conn.now c.loop-step.tx.conn.now) all c.loop-step.invariant.told
