use Rattle.sqlite.specs.WalFiles.{image_at}
use Rattle.desk_files.specs.Opening.{OpensFiles, OpensKnown}
use Rattle.app_files.proofs.Displaced.{of_displaced, of_same}
use Rattle.app_files.proofs.files.open.Goals as goal

pub returns-in-Ok-open_from-clause-opened : goal.returns-in-Ok-open_from-clause-opened
returns-in-Ok-open_from-clause-opened g c =
    let it = c.in-Ok-open_from in
    of_same (OpensFiles (image_at g.S.Start)) c.in_place.result it.store c.in_place.ensures.same it.ensures.opened

pub returns-in-Ok-open_from-clause-shows : goal.returns-in-Ok-open_from-clause-shows
returns-in-Ok-open_from-clause-shows g c =
    let it = c.in-Ok-open_from in
    of_same (OpensKnown (image_at g.S.Start)) c.in_place.result it.store c.in_place.ensures.same it.ensures.shows

pub returns-in-Ok-open_from-clause-unopened : goal.returns-in-Ok-open_from-clause-unopened
returns-in-Ok-open_from-clause-unopened g c =
    let it = c.in-Ok-open_from in
    of_displaced (image_at g.S.Start) it.store c.in_place.result c.in_place.ensures.displaced it.ensures.opened it.ensures.shows
