use Rattle.std.proofs.Common.{[], IfErr, inl, inr, refl, ◌∙◌, rules, arith}
use Rattle.std.specs.Prelude.{◌⊎◌}
use Rattle.sqlite.specs.{Held.state, State.HasCleanDisk}
use Rattle.sql_schema.specs.Stays.{Asks}
use Rattle.sql_schema.proofs.StaysLemmas.{asks_then, stays_unchanged}
use Rattle.sql_read.specs.Failures.{FailsHere, IsOutOfMemory}
use Rattle.sql_read.proofs.{Streaming.given_more, Streaming.refused_query, Streaming.stops_all, Results.failed_as}
use Rattle.sql_read.proofs.checked.check_each.Goals as goal

pub loop-preserved : goal.loop-preserved
loop-preserved g c =
    let store = g.S.Store in
    let moved = c.next.follows.holds-at-none in
    let mid = c.loop.rows.conn.now in
    let now = c.next.follows.lender-at-none.conn.now in
    let asks : Asks (state store mid) (state store now) =
    record {
      survives = moved.survives;
      stays = λ clean. stays_unchanged (state store mid) (state store now) (rw c.in_ok-row.was at (moved.same clean));
      idle = moved.mode;
    } in (
      moved.same_reference ∙ c.loop.invariant.0,
      asks_then (state store c.args.conn.now) (state store mid) (state store now) c.loop.invariant.1 asks,
      λ clean.
          let was = c.loop.invariant.2 (omega (arith, moved.survives.clean)) in
          let gives = (rw (c.in_ok-row.was, c.in-Some.is) at (moved.ok clean)) c.args.text.now [] was.given was.gives in
          given_more store c.args.text.now g.C.Selected.spelled g.C.Columns.write g.C.Columns.IsStored g.K.RowCheck.Passed c.args.conn.now mid now
          c.args.check.now c.loop.check c.check_row.new.check c.in-Some.row.now was gives (rw c.in_ok-row.was at (moved.same clean))
          (c.in_ok-check_row.ensures.passed c.if-not-branch.false),
    )

pub returns-in_err-rows-clause-refused : goal.returns-in_err-rows-clause-refused
returns-in_err-rows-clause-refused g c clean =
    let store = g.S.Store in
    let old = c.args.conn.now in
    let new = c.query.follows.lender-at-none in
    let e = c.in_err-rows.field-0.0 in
    failed_as c.from_residual.result e (λ e. IsOutOfMemory e ⊎ FailsHere store old c.args.text.now g.C.Selected.Fits e)
    (inr (record {
      before = old;
      after = new;
      same = refl;
      fails = inl (refused_query store c.args.text.now c.requires.query c.query.result old new e c.in_err-rows.was c.query.follows.holds-at-none clean);
    }))
    c.from_residual.ensures.1

pub returns-in_err-row-clause-refused : goal.returns-in_err-row-clause-refused
returns-in_err-row-clause-refused g c =
    let store = g.S.Store in
    let moved = c.next.follows.holds-at-none in
    let old = c.args.conn.now in
    let mid = c.loop.rows.conn.now in
    let now = c.next.follows.lender-at-none.conn.now in
    let e = c.in_err-row.field-0.0 in
    let whole : HasCleanDisk (state store now)
    → IfErr c.from_residual-in_err-row.result (λ e. IsOutOfMemory e ⊎ FailsHere store old c.args.text.now g.C.Selected.Fits e) = λ clean.
    let was = c.loop.invariant.2 (omega (arith, clean, moved.survives.clean)) in
    let fails = (rw c.in_err-row.was at (moved.err clean)) c.args.text.now [] was.given was.gives in
    failed_as c.from_residual-in_err-row.result e (λ e. IsOutOfMemory e ⊎ FailsHere store old c.args.text.now g.C.Selected.Fits e)
    (inr (record { before = mid; after = now; same = was.same.0.now_is; fails = inl fails })) c.from_residual-in_err-row.ensures.1 in
    search (rules, whole)

pub returns-then-not-branch-clause-stopped : goal.returns-then-not-branch-clause-stopped
returns-then-not-branch-clause-stopped g c clean _ all stored only begun are =
    let store = g.S.Store in
    let moved = c.next.follows.holds-at-none in
    let mid = c.loop.rows.conn.now in
    let now = c.next.follows.lender-at-none.conn.now in
    let late : HasCleanDisk (state store now) = search rules in
    let was = c.loop.invariant.2 (omega (arith, late, moved.survives.clean)) in
    let gives = (rw (c.in_ok-row.was, c.in-Some.is) at (moved.ok late)) c.args.text.now [] was.given was.gives in
    stops_all store c.args.text.now g.C.Selected.spelled g.C.Columns.write g.C.Selected.Fits g.C.Columns.IsStored c.requires.apart
    g.K.RowCheck.Passed g.K.RowCheck.AreAll c.args.conn.now mid now c.args.check.now c.loop.check c.in-Some.row.now was gives
    (rw c.in_ok-row.was at (moved.same late)) (c.in_ok-check_row.ensures.stopped c.if-not-branch.true) all stored only begun are
