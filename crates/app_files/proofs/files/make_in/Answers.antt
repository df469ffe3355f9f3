use Rattle.std.proofs.Common.{refl}
use Rattle.sqlite.specs.WalFiles.{image_at}
use Rattle.app_files.proofs.Ending.{is_made, is_unmade}
use Rattle.app_files.proofs.files.make_in.Goals as goal

pub returns-in-Ok : goal.returns-in-Ok
returns-in-Ok g c =
    is_made (image_at g.S.Start) c.args.policy _ c.in-Ok.store c.close.result.0 c.close.result.1 c.at.ensures c.in-Ok.ensures.made
    c.in-Ok.ensures.free c.close.ensures

pub returns-in-Err : goal.returns-in-Err
returns-in-Err g c =
    let fails = c.in-Err.ensures in
    is_unmade (image_at g.S.Start) c.args.policy _ c.in-Err.unmade c.at.ensures fails.unreached fails.refused fails.unmade fails.taken
    fails.cause fails.failed _ refl
