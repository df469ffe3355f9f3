use Rattle.std.proofs.Common.{refl, subst, sym}
use Rattle.sql_read.specs.Earliest.{IsEarliest, authorization_ends}
use Rattle.desk_store.specs.Known.{IsKnownOf}
use Rattle.desk_store.proofs.Knowing.{authorization_end_learned, no_authorizations_past, not_late}
use Rattle.desk_store.proofs.NothingWritten.{learns_on, reads_knowing}
use Rattle.store_api.proofs.Readings.{reads_failed_as}
use Rattle.desk_store.proofs.store.Store.has_no_authorization_past.Goals as goal

pub returns-then-authorization_end-moment-clause-found : goal.returns-then-authorization_end-moment-clause-found
returns-then-authorization_end-moment-clause-found g c clean T has _ =
    no_authorizations_past c.args.self.now.known T c.args.status c.args.moment c.authorization_end.result has.known c.authorization_end.ensures
    c.if-authorization_end-moment.true

pub returns-in-Ok : goal.returns-in-Ok
returns-in-Ok g c =
    let old = c.args.self.now in
    let read = c.earliest_authorization_end-read.ensures in
    let mid = c.or_fault.new.self in
    let known = c.learn_authorization_end.new.self in
    let knows = learns_on g.S.Store (λ T. IsEarliest (authorization_ends T c.args.status)) old c.earliest_authorization_end-read.new.conn mid known _
    c.in-Ok.earliest (λ clean T held book. read.found clean T held) c.in-Ok.ensures.found c.or_fault.ensures.honest
    (authorization_end_learned mid.known known c.args.status c.in-Ok.earliest c.learn_authorization_end.ensures) in
    record {
      reads = reads_knowing g.S.Store old mid (record { conn = mid.conn; known = known }) c.in-Ok.earliest _ refl
          (c.in-Ok.ensures.reads old refl read.asks read.unchanged read.caused) knows;
      found = λ clean T has none.
          no_authorizations_past known T c.args.status c.args.moment c.authorization_end-in-Ok.result
          (knows clean T has (subst (λ k. IsKnownOf k T) (sym c.or_fault.ensures.known) has.known)) c.authorization_end-in-Ok.ensures
          (not_late c.args.moment c.authorization_end-in-Ok.result none);
    }

pub returns-in-Err-clause-reads : goal.returns-in-Err-clause-reads
returns-in-Err-clause-reads g c =
    let read = c.earliest_authorization_end-read.ensures in reads_failed_as (c.in-Err.ensures.reads c.args.self.now refl read.asks read.unchanged read.caused)
