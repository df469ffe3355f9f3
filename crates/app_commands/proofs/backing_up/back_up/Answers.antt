use Rattle.std.proofs.Common.{inl, inr, refl}
use Rattle.app_commands.proofs.backing_up.back_up.Goals as goal

pub returns-in-Err : goal.returns-in-Err
returns-in-Err g c = inl (c.in-Err.fault, c.in-Err.ensures, refl, (refl, refl))

pub returns : goal.returns
returns g c =
    inr (record {
      checked = c.run_over_file-checked.result.0;
      written = _;
      ends = c.run_over_file-checked.ensures;
      told = c.copied.ensures.told;
      silent = c.copied.ensures.silent;
    })
