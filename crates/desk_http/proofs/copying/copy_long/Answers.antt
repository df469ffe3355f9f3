use Rattle.std.proofs.Common.{append-nil, arith, length, take, [], ◌++◌, ◌-◌, subst}
use Rattle.std.proofs.{KnownBytes.Appends-nil, KnownBytes.Appends-trans, KnownBytes.Consumes-nil, lemmas.List.take_all}
use Rattle.desk_http.proofs.Pieces.{HasCopied, copied_long, copied_next, where_failed, writes_more}
use Rattle.desk_http.proofs.copying.copy_long.Goals as goal

pub loop-init : goal.loop-init
loop-init g c =
    record { shown = []; bytes = []; read = Consumes-nil _; whole = append-nil c.args.piece.now; written = Appends-nil _ }

pub returns-in_err-copy_piece-clause-part : goal.returns-in_err-copy_piece-clause-part
returns-in_err-copy_piece-clause-part g c =
    where_failed c.from_residual.result _
    (writes_more (g.W.Write.contents c.args.out.now) (g.W.Write.contents c.loop.out) (g.W.Write.contents c.copy_piece.new.out) c.loop.invariant.shown
    c.loop.invariant.written c.in_err-copy_piece.ensures.part)

pub returns-in_default-clause-part : goal.returns-in_default-clause-part
returns-in_default-clause-part g c = (
  c.loop.invariant.shown ++ take (length c.loop.piece - length c.args.last.now) c.loop.piece,
  Appends-trans (g.W.Write.contents c.args.out.now) (g.W.Write.contents c.loop.out) (g.W.Write.contents c.copy_piece.new.out) _ _
      c.loop.invariant.written c.in_ok-copy_piece.ensures.all,
)

pub returns-in_err-copy_end-clause-part : goal.returns-in_err-copy_end-clause-part
returns-in_err-copy_end-clause-part g c =
    where_failed c.from_residual-in_err-copy_end.result _
    (writes_more (g.W.Write.contents c.args.out.now) (g.W.Write.contents c.copy_piece.new.out) (g.W.Write.contents c.copy_end.new.out)
    (c.loop.invariant.shown ++ take (length c.loop.piece - length c.args.last.now) c.loop.piece)
    (Appends-trans (g.W.Write.contents c.args.out.now) (g.W.Write.contents c.loop.out) (g.W.Write.contents c.copy_piece.new.out) _ _
    c.loop.invariant.written c.in_ok-copy_piece.ensures.all)
    c.in_err-copy_end.ensures.part)

pub returns-then-filled-piece-clause-all : goal.returns-then-filled-piece-clause-all
returns-then-filled-piece-clause-all g c =
    copied_long c.args.piece.now (take c.in-Ok.filled c.fill_from.new.buffer) c.in_ok-copy_end.field-0.now c.args.last.now _ _ _
    (g.W.Write.contents c.copy_piece.new.out) _
    (copied_next c.args.piece.now c.loop.piece (take (length c.args.last.now) c.copy_piece.new.piece) (g.R.Read.remaining c.args.reader.now)
    (g.R.Read.remaining c.loop.reader) (g.R.Read.remaining c.fill_from.new.reader) (g.W.Write.contents c.args.out.now)
    (g.W.Write.contents c.loop.out) (g.W.Write.contents c.copy_piece.new.out) (length c.loop.piece - length c.args.last.now)
    (take c.in-Ok.filled c.fill_from.new.buffer) c.loop.invariant c.in_ok-copy_piece.ensures.held c.in_ok-copy_piece.ensures.all c.in-Ok.ensures.read)
    c.in_ok-copy_end.ensures.end c.in_ok-copy_end.ensures.all (c.in-Ok.ensures.end c.if-filled-piece.true)

pub loop-preserved : goal.loop-preserved
loop-preserved g c =
    subst (λ full. HasCopied c.args.piece.now full (g.R.Read.remaining c.args.reader.now) (g.R.Read.remaining c.fill_from.new.reader)
    (g.W.Write.contents c.args.out.now) (g.W.Write.contents c.copy_piece.new.out)) (take_all c.in-Ok.filled c.fill_from.new.buffer (omega arith))
    (copied_next c.args.piece.now c.loop.piece (take (length c.args.last.now) c.copy_piece.new.piece) (g.R.Read.remaining c.args.reader.now)
    (g.R.Read.remaining c.loop.reader) (g.R.Read.remaining c.fill_from.new.reader) (g.W.Write.contents c.args.out.now)
    (g.W.Write.contents c.loop.out) (g.W.Write.contents c.copy_piece.new.out) (length c.loop.piece - length c.args.last.now)
    (take c.in-Ok.filled c.fill_from.new.buffer) c.loop.invariant c.in_ok-copy_piece.ensures.held c.in_ok-copy_piece.ensures.all c.in-Ok.ensures.read)
