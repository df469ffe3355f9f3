use Rattle.std.proofs.Common.{refl}
use Rattle.app_files.specs.Endings.{done, unopened}
use Rattle.app_files.proofs.over_file.run_over_file.Goals as goal

pub returns-in-Ok : goal.returns-in-Ok
returns-in-Ok g c =
    let ends = c.ended.ensures in
    done c.run_over-store.result.1
    (record {
      opened = c.in-Ok.store;
      ended = c.run_over-store.result.0;
      opens = c.in-Ok.ensures.opened;
      shows = c.in-Ok.ensures.shows;
      did = c.run_over-store.ensures;
    })
    c.close-closed.result.0 c.close-closed.ensures (record { closed = ends.closed; unclosed = ends.unclosed; otherwise = ends.otherwise })

pub returns : goal.returns
returns g c = unopened c.in-Err.fault c.failed.ensures c.in-Err.ensures.unopened refl
