use Rattle.std.proofs.Common.{◌≡◌, length, map, take, pos}
use Rattle.sql_write.proofs.statements.number_columns.Given as goal

abbrev pub invariant-loop-i : goal.invariant-loop-i
invariant-loop-i g l =
    record {
      size : length l.columns ≡ g.row.N;
      written : take l.i l.columns ≡ map (λ n. pos n) (take l.i l.numbers);
    }
