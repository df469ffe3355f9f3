use Rattle.std.proofs.Common.{◌≡◌}
use Rattle.desk.specs.SeenDesks.{IsSeenOn}
use Rattle.std.specs.Io.Buffered.{reader_remaining}
use Rattle.app_batch.proofs.Turning.{IsAnsweredTo}
use Rattle.app_batch.proofs.lines.answer_lines.Given as goal

abbrev pub invariant-loop-number : goal.invariant-loop-number
invariant-loop-number g l = record {
  seen : IsSeenOn g.K.Kept.sight l.fn.desk l.desk;
  policy : l.desk.policy ≡ l.fn.desk.policy;
  answered :
      IsAnsweredTo g.K.Kept.sight (g.R.Read.remaining l.fn.reader) (reader_remaining g.R.Read.remaining l.reader) (g.W.Write.contents l.fn.writer)
      (g.W.Write.contents l.writer) l.fn.desk l.desk;
}
