use Rattle.std.proofs.Common.{refl}
use Rattle.desk_store.proofs.NothingWritten.{handed, handed_on}
use Rattle.desk_store.proofs.look_ups.StoreLookUps.find_authorizations.Goals as goal

pub returns : goal.returns
returns g c =
    let read = c.find_authorizations-read.ensures in
    handed_on g.S.Store c.or_fault.result c.in_ok-has_no_authorizations.ensures.reads
    (handed g.S.Store read (c.or_fault.ensures.reads c.has_no_authorizations.new.self refl read.asks read.unchanged read.caused) c.or_fault.ensures.found
    c.or_fault.ensures.honest)
