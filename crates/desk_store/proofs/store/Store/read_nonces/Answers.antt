use Rattle.std.proofs.Common.{refl}
use Rattle.store_api.proofs.Readings.{reads_then, unchanged_read}
use Rattle.desk_store.proofs.NothingWritten.{hands_on}
use Rattle.desk_store.proofs.store.Store.read_nonces.Goals as goal

pub returns : goal.returns
returns g c =
    let mid = c.has_no_nonces.new.self in
    let known = c.in_ok-has_no_nonces.ensures.reads in
    let read = c.find_nonces-read.ensures in
    let reads = c.or_fault.ensures.reads mid refl read.asks read.unchanged read.caused in
    record {
      reads = reads_then c.or_fault.result (unchanged_read known) reads;
      found = λ clean T has.
          hands_on g.S.Store _ mid c.find_nonces-read.new.conn c.or_fault.new.self _ c.or_fault.result read.found c.or_fault.ensures.found
          c.or_fault.ensures.honest clean T (known.tables (reads.honest clean) T has);
    }
