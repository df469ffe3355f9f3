use Rattle.std.proofs.Common.{refl, subst, sym}
use Rattle.sql_read.specs.Earliest.{IsEarliest, order_ends}
use Rattle.desk_store.specs.Known.{IsKnownOf}
use Rattle.desk_store.proofs.{Knowing.no_orders_past, Knowing.not_late, Knowing.order_end_learned, NothingWritten.learns_on, NothingWritten.reads_knowing}
use Rattle.store_api.proofs.Readings.{reads_failed_as}
use Rattle.desk_store.proofs.store.Store.has_no_order_past.Goals as goal

pub returns-then-order_end-moment-clause-found : goal.returns-then-order_end-moment-clause-found
returns-then-order_end-moment-clause-found g c clean T has _ =
    no_orders_past c.args.self.now.known T c.args.status c.args.moment c.order_end.result has.known c.order_end.ensures c.if-order_end-moment.true

pub returns-in-Ok : goal.returns-in-Ok
returns-in-Ok g c =
    let old = c.args.self.now in
    let read = c.earliest_order_end-read.ensures in
    let mid = c.or_fault.new.self in
    let known = c.learn_order_end.new.self in
    let knows = learns_on g.S.Store (λ T. IsEarliest (order_ends T c.args.status)) old c.earliest_order_end-read.new.conn mid known _ c.in-Ok.earliest
    (λ clean T held book. read.found clean T held) c.in-Ok.ensures.found c.or_fault.ensures.honest
    (order_end_learned mid.known known c.args.status c.in-Ok.earliest c.learn_order_end.ensures) in
    record {
      reads = reads_knowing g.S.Store old mid (record { conn = mid.conn; known = known }) c.in-Ok.earliest _ refl
          (c.in-Ok.ensures.reads old refl read.asks read.unchanged read.caused) knows;
      found = λ clean T has none.
          no_orders_past known T c.args.status c.args.moment c.order_end-in-Ok.result
          (knows clean T has (subst (λ k. IsKnownOf k T) (sym c.or_fault.ensures.known) has.known)) c.order_end-in-Ok.ensures
          (not_late c.args.moment c.order_end-in-Ok.result none);
    }

pub returns-in-Err-clause-reads : goal.returns-in-Err-clause-reads
returns-in-Err-clause-reads g c =
    let read = c.earliest_order_end-read.ensures in reads_failed_as (c.in-Err.ensures.reads c.args.self.now refl read.asks read.unchanged read.caused)
