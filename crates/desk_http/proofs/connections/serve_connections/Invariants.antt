use Rattle.std.proofs.Common.{◌≡◌, false}
use Rattle.desk_http.specs.{InTurn.ServesMany, Showing.shower}
use Rattle.desk_http.proofs.connections.serve_connections.Given as goal

abbrev pub invariant-loop-served : goal.invariant-loop-served
invariant-loop-served g l = record {
  policy : l.desk.policy ≡ l.fn.desk.policy;
  served :
      ServesMany g.K.Kept.sight g.K.Storage.causes (shower g.H.Hook.kind g.H.Hook.last (g.H.Look.shows l.fn.hook)) g.O.Overseer.takes l.served
      l.fn.desk l.fn.watch l.desk l.watch;
  opened : l.fn.desk.is_closed ≡ false → l.desk.is_closed ≡ false;
}
