use Rattle.desk_http.proofs.Pieces.{HasCopied}
use Rattle.desk_http.proofs.copying.copy_long.Given as goal

abbrev pub invariant-loop : goal.invariant-loop
invariant-loop g l =
    HasCopied l.fn.piece l.piece (g.R.Read.remaining l.fn.reader) (g.R.Read.remaining l.reader) (g.W.Write.contents l.fn.out) (g.W.Write.contents l.out)
