use Rattle.std.proofs.{KnownBytes.Appends-kept, Common.arith}
use Rattle.desk_http.proofs.{Sending.piece_more, Sending.piece_within, serving.write_text.Goals.in-Ok, serving.write_text.Goals.in-Err+else-ne}
use Rattle.desk_http.proofs.serving.write_text.Goals as goal

pub loop-preserved : goal.loop-preserved
loop-preserved g c = grind (arith, in-Ok, piece_within, piece_more, in-Err+else-ne, Appends-kept)
