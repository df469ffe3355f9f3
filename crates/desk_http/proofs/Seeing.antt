-- What serving connections one after the other does may be seen.
use Rattle.std.proofs.Common.{◌≡◌, ℕ, zero, suc, Bool, true, false, Err, subst, sym, Option, Some, None, Result, rules, inl}
use Rattle.store_api.specs.{Sight.Sight, Storing.Causes}
use Rattle.desk.specs.{SeenDesks.IsSeenOn, State.DeskState, Meets.ActsOnce, declared.fault.DeskFault.DeskFault}
use Rattle.desk.proofs.SeeingDesks.{seen_once_more, seen_untouched}
use Rattle.desk_http.proofs.{Acting.once_acts, ShownTo.shows_acts}
use Rattle.desk_http.specs.InTurn.{ServesClient, ServesMany, ServesNext, ServesOne, looked, parsed, unread}
use Rattle.desk_http.specs.{Logged.LogEntry, declared.serving.IoFault.IoFault, declared.serving.Served.Served, declared.serve_fault.ServeFault.ServeFault}
use Rattle.desk_http.specs.{declared.moment_bound.MomentBound.MomentBound, declared.overseeing.Watch.Watch, Showing.Shower}
use Rattle.desk_http.specs.declared.serve_fault.ServeFault.TheVariants as servefault

module _ {S C : Type 0} (v : Sight S C) (causes : Causes S) (hook : Shower S) where
  -- a connection does nothing to a desk, or what an answer to one call does
  pub client_acts : (bound : MomentBound) (came : ℕ) (asked : Option ℕ) (served : Result Served IoFault) (next : MomentBound) (old new : DeskState S)
      → ServesClient v causes hook bound came None None None old new asked served next → ActsOnce v old new
  client_acts bound came asked served next old new (unread same kept none failed stays) = inl same
  client_acts bound came asked served next old new (parsed s other at about follows) =
      once_acts v causes s.at s.random new.policy.base old new served s.does
  client_acts bound came asked served next old new (looked s about stays) = shows_acts v hook s.looked None None old new served s.shows

  module _ {O : Type 0} (takes : O → LogEntry → O → Type 0) where
    -- so does one of those that are served in turn
    pub one_acts : (why : Option DeskFault) (kept : Bool) (old new : DeskState S) (was is : Watch O) → ServesOne v causes hook takes why kept old was new is
        → ActsOnce v old new
    one_acts why kept old new was is one = client_acts was.bound one.came one.asked one.served is.bound old new one.serves

    -- after what was seen of an open desk, one connection more
    seen_next_one : (why : Option DeskFault) (kept : Bool) (old mid new : DeskState S) (between is : Watch O) → IsSeenOn v old mid
        → ServesOne v causes hook takes why kept mid between new is → IsSeenOn v old new
    seen_next_one why kept old mid new between is before one = seen_once_more v old mid new before (one_acts why kept mid new between is one)

    -- and so many
    pub seen_many : (n : ℕ) (old new : DeskState S) (was is : Watch O) → ServesMany v causes hook takes n old was new is → IsSeenOn v old new
    seen_many zero old new was is same = seen_untouched v old new same.0
    seen_many (suc n) old new was is many = search (rules, seen_next_one, None, true, (seen_many n old many.0 was many.1 many.2))

    -- and what came where the machine failed
    seen_same : (n : ℕ) (old mid new : DeskState S) (was between : Watch O) → ServesMany v causes hook takes n old was mid between → new ≡ mid
        → IsSeenOn v old new
    seen_same n old mid new was between many same = subst (IsSeenOn v old) (sym same) (seen_many n old mid was between many)

    -- and the one at which the serving ended
    pub seen_last : (why : ServeFault) (n : ℕ) (old mid new : DeskState S) (was between is : Watch O) → ServesMany v causes hook takes n old was mid between
        → ServesNext v causes hook takes mid between new is (Err why) → IsSeenOn v old new
    seen_last (servefault.Desk why) n old mid new was between is many one =
        seen_next_one (Some why) one.0 old mid new between is (seen_many n old mid was between many) one.1
    seen_last servefault.Output n old mid new was between is many one =
        seen_next_one None false old mid new between is (seen_many n old mid was between many) one
    seen_last servefault.Bind n old mid new was between is many same = seen_same n old mid new was between many same.0
    seen_last servefault.Accept n old mid new was between is many same = seen_same n old mid new was between many same.0
    seen_last servefault.Clock n old mid new was between is many same = seen_same n old mid new was between many same.0
    seen_last servefault.Random n old mid new was between is many same = seen_same n old mid new was between many same.0
    seen_last servefault.Replaced n old mid new was between is many same = seen_same n old mid new was between many same.0
