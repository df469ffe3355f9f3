use Rattle.desk_book.proofs.KeyedRows.{clones_same}
use Rattle.desk_book.proofs.table.TableClone.clone.Goals as goal
use Rattle.std.proofs.{Common.arith, lemmas.Bool.Decides.nat_tests}

pub invariant_of-result : goal.invariant_of-result
invariant_of-result g c = grind (
  arith,
  nat_tests,
  clones_same,
  (clones_same g.R.Clone.is_clone g.met.R.Row.clones c.self.inside.rows.entries c.in_ok-rows.rows.entries c.in_ok-rows.ensures.cases),
)

pub returns : goal.returns
returns g c = grind (
  arith,
  nat_tests,
  clones_same,
  (clones_same g.R.Clone.is_clone g.met.R.Row.clones c.self.inside.rows.entries c.in_ok-rows.rows.entries c.in_ok-rows.ensures.cases),
)
