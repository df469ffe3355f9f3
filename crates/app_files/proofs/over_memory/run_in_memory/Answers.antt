use Rattle.std.proofs.Common.{refl}
use Rattle.app_files.specs.Endings.{done_in_memory, unmade_in_memory}
use Rattle.app_files.proofs.over_memory.run_in_memory.Goals as goal

pub returns-in-Ok : goal.returns-in-Ok
returns-in-Ok g c =
    done_in_memory (record {
      made = c.in-Ok.store;
      ended = c.run_over-store.result.0;
      new = c.in-Ok.ensures;
      did = c.run_over-store.ensures;
    })

pub returns : goal.returns
returns g c = unmade_in_memory c.in-Err.fault c.failed.ensures refl
