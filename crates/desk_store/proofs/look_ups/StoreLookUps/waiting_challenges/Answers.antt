use Rattle.std.proofs.Common.{refl}
use Rattle.desk_store.proofs.NothingWritten.{hands_on}
use Rattle.desk_store.proofs.look_ups.StoreLookUps.waiting_challenges.Goals as goal
use Rattle.sql_read.proofs.Results.{read_then}

pub returns : goal.returns
returns g c =
    let read = c.waiting_challenges-read.ensures in
    record {
      reads = c.or_fault.ensures.reads c.args.self.now refl read.asks read.unchanged read.caused;
      found = λ honest T held. read_then c.or_fault.result
          (hands_on g.S.Store _ c.args.self.now c.waiting_challenges-read.new.conn c.or_fault.new.self _ c.or_fault.result read.found c.or_fault.ensures.found
          c.or_fault.ensures.honest honest T held)
          (λ rows are ordered. are);
    }
