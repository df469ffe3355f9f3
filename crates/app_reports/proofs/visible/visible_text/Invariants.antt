use Rattle.std.proofs.Common.{◌≡◌, flat_map}
use Rattle.app_reports.specs.Visible.{visible_char}
use Rattle.app_reports.proofs.visible.visible_text.Given as goal

abbrev pub invariant-loop-c : goal.invariant-loop-c
invariant-loop-c l = l.bytes.items ≡ flat_map visible_char l.yielded
