use Rattle.std.proofs.Common.{refl, rules, ◌∙◌}
use Rattle.std.specs.Io.Buffered.{reader_remaining}
use Rattle.app_batch.specs.InTurn.{unread, untold}
use Rattle.app_batch.proofs.Turning.{answered_more, answered_none, read_next, stops_behind, told_stop}
use Rattle.desk.proofs.SeeingDesks.{same_policy, seen_once_more}
use Rattle.app_batch.proofs.lines.answer_lines.Goals as goal

pub loop-number-preserved : goal.loop-number-preserved
loop-number-preserved g c =
    record {
      seen =
          seen_once_more g.K.Kept.sight c.args.desk.now c.loop-number.desk c.answer_line.new.desk c.loop-number.invariant.seen
          c.in_ok-answer_line.ensures.acts;
      policy = same_policy g.K.Kept.sight c.loop-number.desk c.answer_line.new.desk c.in_ok-answer_line.ensures.acts ∙ c.loop-number.invariant.policy;
      answered =
          answered_more g.K.Kept.sight (g.R.Read.remaining c.args.reader) (reader_remaining g.R.Read.remaining c.loop-number.reader)
          (reader_remaining g.R.Read.remaining c.next_line.new.reader) (g.W.Write.contents c.args.writer.now) (g.W.Write.contents c.loop-number.writer)
          (g.W.Write.contents c.answer_line.new.writer) c.as_slice.result.now c.args.desk.now c.loop-number.desk c.answer_line.new.desk
          c.loop-number.invariant.answered (rw (c.as_slice.ensures.value) (c.in_ok-next_line.ensures.line (search rules)))
          (c.in_ok-next_line.ensures.rest (search rules)) c.in_ok-answer_line.ensures.answered;
    }

pub returns-in_err-answer_line-clause-seen : goal.returns-in_err-answer_line-clause-seen
returns-in_err-answer_line-clause-seen g c =
    seen_once_more g.K.Kept.sight c.args.desk.now c.loop-number.desk c.answer_line.new.desk c.loop-number.invariant.seen c.in_err-answer_line.ensures.acts

pub returns-in_default-clause-answered : goal.returns-in_default-clause-answered
returns-in_default-clause-answered g c =
    let bytes = g.R.Read.remaining c.args.reader in
    let was = g.W.Write.contents c.args.writer.now in
    stops_behind g.K.Kept.sight bytes bytes was was was c.args.desk.now c.args.desk.now c.args.desk.now
    (answered_none g.K.Kept.sight bytes bytes was c.args.desk.now refl) (unread refl refl)

pub returns-in_err-next_line-clause-answered : goal.returns-in_err-next_line-clause-answered
returns-in_err-next_line-clause-answered g c =
    let bytes = g.R.Read.remaining c.args.reader in
    let was = g.W.Write.contents c.args.writer.now in
    let is = g.W.Write.contents c.loop-number.writer in
    told_stop g.K.Kept.sight bytes was is c.args.desk.now c.loop-number.desk c.from_residual.result c.from_residual.ensures.0
    (stops_behind g.K.Kept.sight bytes (reader_remaining g.R.Read.remaining c.loop-number.reader) was is is c.args.desk.now c.loop-number.desk
    c.loop-number.desk c.loop-number.invariant.answered (unread refl refl))

pub returns-in_err-answer_line-clause-answered : goal.returns-in_err-answer_line-clause-answered
returns-in_err-answer_line-clause-answered g c =
    let bytes = g.R.Read.remaining c.args.reader in
    let was = g.W.Write.contents c.args.writer.now in
    let mid = g.W.Write.contents c.loop-number.writer in
    let is = g.W.Write.contents c.answer_line.new.writer in
    let now = reader_remaining g.R.Read.remaining c.loop-number.reader in
    let so_far = c.loop-number.invariant.answered in
    told_stop g.K.Kept.sight bytes was is c.args.desk.now c.answer_line.new.desk c.from_residual-in_err-answer_line.result
    c.from_residual-in_err-answer_line.ensures.0
    (stops_behind g.K.Kept.sight bytes now was mid is c.args.desk.now c.loop-number.desk c.answer_line.new.desk c.loop-number.invariant.answered
    (untold c.as_slice.result.now
    (read_next bytes now so_far.lines so_far.left c.as_slice.result.now so_far.read
    (rw (c.as_slice.ensures.value) (c.in_ok-next_line.ensures.line (search rules)))) c.in_err-answer_line.ensures.answered))

pub returns-clause-answered : goal.returns-clause-answered
returns-clause-answered g c =
    let is = g.W.Write.contents c.loop-number.writer in
    stops_behind g.K.Kept.sight (g.R.Read.remaining c.args.reader) (reader_remaining g.R.Read.remaining c.loop-number.reader)
    (g.W.Write.contents c.args.writer.now) is is c.args.desk.now c.loop-number.desk c.loop-number.desk c.loop-number.invariant.answered
    (unread refl refl)
