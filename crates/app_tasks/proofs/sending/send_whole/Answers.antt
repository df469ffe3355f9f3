use Rattle.std.proofs.Common.{◌≡◌, arith, length, rules}
use Rattle.app_tasks.proofs.Sent.{moves_more}
use Rattle.app_tasks.proofs.sending.send_whole.Goals as goal

pub loop-left-preserved : goal.loop-left-preserved
loop-left-preserved g c =
    let room : length c.send_piece.new.piece ≡ 65536 = search rules in
    (room, moves_more c.loop-left.invariant.1 c.in_ok-send_piece.ensures.moves (omega (arith, c.in_ok-send_piece.ensures.within)))

pub returns-then-branch-left : goal.returns-then-branch-left
returns-then-branch-left g c =
    let room : length c.send_piece-2.new.piece ≡ 65536 = search rules in record {
      moves = moves_more c.loop-left.invariant.1 c.in_ok-send_piece-2.ensures.moves (omega arith);
      ends = c.in_ok-send_piece-2.ensures.end (omega arith);
    }
