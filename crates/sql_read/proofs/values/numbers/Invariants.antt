use Rattle.std.proofs.Common.{◌≡◌, length, map, take}
use Rattle.sqlite.specs.Order.{column}
use Rattle.sql_read.specs.Spelled.{number_in}
use Rattle.sql_read.proofs.values.numbers.Given as goal

abbrev pub invariant-loop-i : goal.invariant-loop-i
invariant-loop-i g l =
    record {
      size : length l.found ≡ g.row.N;
      read : take l.i l.found ≡ map (λ at. number_in (column l.row at)) (take l.i l.places);
    }
