use Rattle.std.proofs.Common.{◌≡◌, flat_map}
use Rattle.app_page.specs.Html.{escape}
use Rattle.app_page.proofs.html.escape_all.Given as goal

abbrev pub invariant-loop-c : goal.invariant-loop-c
invariant-loop-c l = l.bytes.items ≡ flat_map escape l.yielded
