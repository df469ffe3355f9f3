use Rattle.std.proofs.Common.{◌≤◌}
use Rattle.std.specs.{Prelude.length, Prelude.take, Io.KnownBytes.Appends}
use Rattle.desk_http.proofs.serving.write_text.Given as goal

abbrev pub invariant-loop : goal.invariant-loop
invariant-loop g l = record {
  within : l.done ≤ length l.text;
  written : Appends (g.W.Write.contents l.fn.writer) (g.W.Write.contents l.writer) (take l.done l.text);
}
