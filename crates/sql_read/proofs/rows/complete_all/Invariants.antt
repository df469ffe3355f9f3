use Rattle.std.proofs.Common.{◌≡◌, ◌++◌}
use Rattle.std.specs.Vec.Iter.{into_iter_items}
use Rattle.sqlite.specs.Held.{state}
use Rattle.sql_read.proofs.NestLemmas.{Filled}
use Rattle.sql_read.proofs.rows.complete_all.Given as goal

abbrev pub invariant-loop-head : goal.invariant-loop-head
invariant-loop-head g l = record {
  whole : l.fn.heads.items ≡ l.yielded ++ into_iter_items l.head-iterator;
  filled : Filled g.P.Parted.HasItsPart g.P.Parted.bare (state g.S.Store l.initial.conn) (state g.S.Store l.conn) l.yielded l.rows.items;
}
