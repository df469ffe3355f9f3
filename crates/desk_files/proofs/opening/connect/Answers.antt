use Rattle.std.proofs.Common.{ℕ, ◌+◌, Bool, List, ap₂, cond, subst, sym}
use Rattle.sqlite_disk.specs.Events.{Event, replay}
use Rattle.sqlite.specs.{Recovery.Image, WalFiles.image_at}
use Rattle.desk_files.proofs.Refused.{if_there, refuses_no_database}
use Rattle.desk_store.specs.Making.{IsOfStorage}
use Rattle.desk_files.proofs.opening.connect.Goals as goal

-- the bytes of the log and of the database file
abbrev image : List ℕ → List ℕ → Image
image log db = record { log = log; db = db }

-- what one of the two files shows after these calls, by what both began with
abbrev seen : List ℕ → List ℕ → Bool → List Event → List ℕ
seen log db is_log history = (replay (cond is_log log db) history).seen

-- how many faults it met
abbrev faults : List ℕ → List ℕ → Bool → List Event → ℕ
faults log db is_log history = (replay (cond is_log log db) history).faults

pub returns-in-Err-clause-refused : goal.returns-in-Err-clause-refused
returns-in-Err-clause-refused g c =
    if_there c.in-Err.refused c.in-Err.ensures.cause (λ left it clean still found same.
    let shown = ap₂ image (ap₂ (seen g.S.Start.log g.S.Start.db) it.1.0 it.1.1) (ap₂ (seen g.S.Start.log g.S.Start.db) it.2.0 it.2.1) in
    let none = ap₂ (λ m n. m + n) (ap₂ (faults g.S.Start.log g.S.Start.db) it.1.0 it.1.1) (ap₂ (faults g.S.Start.log g.S.Start.db) it.2.0 it.2.1) in
    subst IsOfStorage (sym c.refusal_fault.ensures)
    (refuses_no_database it.0 left (image_at g.S.Start) c.in-Err.error shown none (it.3 clean).0 still found same))

pub returns-in-Err-clause-cause : goal.returns-in-Err-clause-cause
returns-in-Err-clause-cause g c =
    if_there c.in-Err.refused c.in-Err.ensures.cause (λ left it. record {
      error = c.in-Err.error;
      fault = c.refusal_fault.ensures;
      cause = λ clean. (
        it.0,
        ap₂ image (ap₂ (seen g.S.Start.log g.S.Start.db) it.1.0 it.1.1) (ap₂ (seen g.S.Start.log g.S.Start.db) it.2.0 it.2.1),
        ap₂ (λ m n. m + n) (ap₂ (faults g.S.Start.log g.S.Start.db) it.1.0 it.1.1) (ap₂ (faults g.S.Start.log g.S.Start.db) it.2.0 it.2.1),
        (it.3 clean).0,
      );
    })
