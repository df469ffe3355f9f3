use Rattle.std.proofs.Common.{subst}
use Rattle.std.specs.Io.KnownBytes.{Appends}
use Rattle.app_page.proofs.Writing.{writes_next}
use Rattle.app_page.proofs.pieces.write_pieces.Goals as goal

-- the next piece
pub loop-piece-preserved : goal.loop-piece-preserved
loop-piece-preserved g c =
    writes_next g.P.Piece.html _ _ _ c.args.pieces.now c.loop-piece.piece-index _ c.loop-piece-test.true c.loop-piece.invariant
    (subst (λ p. Appends (g.W.Write.contents c.loop-piece.out) (g.W.Write.contents c.write_piece.new.out) (g.P.Piece.html p)) c.piece-item.is
    c.in_ok-write_piece.ensures)
