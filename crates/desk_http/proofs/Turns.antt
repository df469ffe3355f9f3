-- Connections that are served one after the other.
use Rattle.std.proofs.Common.{◌≡◌, ◌<◌, Err, ℕ, ◌+◌, Bool, true, Option, None, Some, add-one, false, arith, refl}
use Rattle.store_api.specs.{Sight.Sight, Storing.Causes}
use Rattle.desk.specs.{State.DeskState, declared.fault.DeskFault.DeskFault}
use Rattle.desk_http.specs.InTurn.{ServesConnections, ServesFewer, ServesMany, ServesNext, ServesOne, ended_by}
use Rattle.desk_http.specs.{Logged.LogEntry, Showing.Shower, declared.overseeing.Watch.Watch, declared.serve_fault.ServeFault.ServeFault}
use Rattle.desk_http.specs.declared.serve_fault.ServeFault.TheVariants as servefault

module _ {S C : Type 0} (v : Sight S C) (causes : Causes S) (hook : Shower S) {O : Type 0} (takes : O → LogEntry → O → Type 0) where
  -- one more connection is served
  pub serves_more : (n : ℕ) (old mid new : DeskState S) (was between is : Watch O) → ServesMany v causes hook takes n old was mid between
      → ServesOne v causes hook takes None true mid between new is → ServesMany v causes hook takes (n + 1) old was new is
  serves_more n old mid new was between is many one = rw add-one (mid, between, many, one)

  -- the machine fails behind some
  pub fewer_served : (n most : ℕ) (old mid new : DeskState S) (was between is : Watch O) → n < most
      → ServesMany v causes hook takes n old was mid between → (new ≡ mid) × (is.overseer ≡ between.overseer)
      → ServesFewer v causes hook takes most old was new is
  fewer_served n most old mid new was between is le many same =
      record { count = n; fewer = le; between = between; many = rw same.0 many; overseer = same.1 }

  -- the serving ends at a connection
  pub serves_last : (why : ServeFault) (n most : ℕ) (old mid new : DeskState S) (was between is : Watch O) → n < most
      → ServesMany v causes hook takes n old was mid between → ServesNext v causes hook takes mid between new is (Err why)
      → ServesConnections v causes hook takes most old was new is (Err why)
  serves_last (servefault.Desk why) n most old mid new was between is le many one = record {
    count = n;
    fewer = le;
    mid = mid;
    between = between;
    many = many;
    kept = one.0;
    last = one.1;
    unkept = λ none. absurd (cc none);
  }
  serves_last servefault.Output n most old mid new was between is le many one = record {
    count = n;
    fewer = le;
    mid = mid;
    between = between;
    many = many;
    kept = false;
    last = one;
    unkept = λ none. refl;
  }
  serves_last servefault.Bind n most old mid new was between is le many same = fewer_served n most old mid new was between is le many same
  serves_last servefault.Accept n most old mid new was between is le many same = fewer_served n most old mid new was between is le many same
  serves_last servefault.Clock n most old mid new was between is le many same = fewer_served n most old mid new was between is le many same
  serves_last servefault.Random n most old mid new was between is le many same = fewer_served n most old mid new was between is le many same
  serves_last servefault.Replaced n most old mid new was between is le many same = fewer_served n most old mid new was between is le many same

  -- one connection was served, by how that ended
  pub serves_next : (why : Option DeskFault) (kept : Bool) (old new : DeskState S) (was is : Watch O) → ServesOne v causes hook takes why kept old was new is
      → ServesNext v causes hook takes old was new is (ended_by why kept)
  serves_next why kept old new was is one = grind (arith, Some, None, true, false)
