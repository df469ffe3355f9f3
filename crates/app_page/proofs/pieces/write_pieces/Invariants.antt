use Rattle.std.proofs.Common.{drop}
use Rattle.app_page.proofs.Writing.{WritesUpTo}
use Rattle.app_page.proofs.pieces.write_pieces.Given as goal

abbrev pub invariant-loop-piece : goal.invariant-loop-piece
invariant-loop-piece g l = WritesUpTo g.P.Piece.html (g.W.Write.contents l.fn.out) (g.W.Write.contents l.out) l.pieces (drop l.piece-index l.pieces)
