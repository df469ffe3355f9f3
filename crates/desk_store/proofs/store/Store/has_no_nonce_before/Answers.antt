use Rattle.std.proofs.Common.{refl, subst, sym}
use Rattle.sql_read.specs.Earliest.{IsEarliest, issues}
use Rattle.desk_store.specs.Known.{IsKnownOf}
use Rattle.desk_store.proofs.{Knowing.issue_learned, Knowing.no_nonces_before, Knowing.not_late, NothingWritten.learns_on, NothingWritten.reads_knowing}
use Rattle.store_api.proofs.Readings.{reads_failed_as}
use Rattle.desk_store.proofs.store.Store.has_no_nonce_before.Goals as goal

pub returns-then-first_issue-moment-clause-found : goal.returns-then-first_issue-moment-clause-found
returns-then-first_issue-moment-clause-found g c clean T has _ =
    no_nonces_before c.args.self.now.known T c.args.moment c.first_issue.result has.known c.first_issue.ensures c.if-first_issue-moment.true

pub returns-in-Ok : goal.returns-in-Ok
returns-in-Ok g c =
    let old = c.args.self.now in
    let read = c.earliest_issue-read.ensures in
    let mid = c.or_fault.new.self in
    let known = c.learn_issue.new.self in
    let knows = learns_on g.S.Store (λ T. IsEarliest (issues T)) old c.earliest_issue-read.new.conn mid known _ c.in-Ok.earliest
    (λ clean T held book. read.found clean T held) c.in-Ok.ensures.found c.or_fault.ensures.honest
    (issue_learned mid.known known c.in-Ok.earliest c.learn_issue.ensures) in
    record {
      reads = reads_knowing g.S.Store old mid (record { conn = mid.conn; known = known }) c.in-Ok.earliest _ refl
          (c.in-Ok.ensures.reads old refl read.asks read.unchanged read.caused) knows;
      found = λ clean T has none.
          no_nonces_before known T c.args.moment c.first_issue-in-Ok.result
          (knows clean T has (subst (λ k. IsKnownOf k T) (sym c.or_fault.ensures.known) has.known)) c.first_issue-in-Ok.ensures
          (not_late c.args.moment c.first_issue-in-Ok.result none);
    }

pub returns-in-Err-clause-reads : goal.returns-in-Err-clause-reads
returns-in-Err-clause-reads g c =
    let read = c.earliest_issue-read.ensures in reads_failed_as (c.in-Err.ensures.reads c.args.self.now refl read.asks read.unchanged read.caused)
