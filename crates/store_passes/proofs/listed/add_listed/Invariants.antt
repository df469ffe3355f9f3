use Rattle.std.proofs.Common.{◌≡◌, ◌++◌, drop, map}
use Rattle.desk_model.specs.{Derived.numbers_of, Document.rows_of}
use Rattle.store_api.specs.Sight.{ForTables, Unchanged}
use Rattle.store_passes.proofs.listed.add_listed.Given as goal

abbrev pub invariant-loop-place : goal.invariant-loop-place
invariant-loop-place g l = record {
  unchanged : Unchanged g.S.Kept.sight l.fn.source l.source;
  found : ForTables g.S.Kept.sight l.fn.source l.source (λ T.
      l.values.items ++ map g.C.Column.column (rows_of T.authorizations (numbers_of (drop l.place-index l.places)))
      ≡ l.fn.values.items ++ map g.C.Column.column (rows_of T.authorizations (numbers_of l.places)));
}
