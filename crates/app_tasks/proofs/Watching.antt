-- Connections that are served under one overseer, seen as under another that takes its notes.
use Rattle.std.proofs.Common.{ℕ, zero, suc, Bool, true, Option, None, Some, Result, Ok, Err, ap, refl, subst, sym}
use Rattle.store_api.specs.{Sight.Sight, Storing.Causes}
use Rattle.desk.specs.{State.DeskState, declared.fault.DeskFault.DeskFault}
use Rattle.desk_http.specs.InTurn.{ServesConnections, ServesFewer, ServesMany, ServesOne, ServesUntil}
use Rattle.desk_http.specs.{Logged.LogEntry, Showing.Shower, declared.overseeing.Watch.Watch, declared.serve_fault.ServeFault.ServeFault}
use Rattle.desk_http.specs.declared.serve_fault.ServeFault.TheVariants as servefault

-- another overseer, in the same watch
abbrev pub over : {O P : Type 0} → (O → P) → Watch O → Watch P
over f w = record { overseer = f w.overseer; bound = w.bound }

module _ {S C : Type 0} (v : Sight S C) (causes : Causes S) (hook : Shower S) {O P : Type 0} (takes : O → LogEntry → O → Type 0)
    (taken : P → LogEntry → P → Type 0) (Stays : O → Type 0) (f : O → P)
    (each : (old : O) (log_entry : LogEntry) (new : O) → Stays old → takes old log_entry new → Stays new × taken (f old) log_entry (f new)) where
  one_over : (why : Option DeskFault) (kept : Bool) (old new : DeskState S) (was is : Watch O) → Stays was.overseer
      → ServesOne v causes hook takes why kept old was new is → ServesOne v causes hook taken why kept old (over f was) new (over f is)
  one_over why kept old new was is stays one = record {
    came = one.came;
    asked = one.asked;
    served = one.served;
    serves = one.serves;
    closed = one.closed;
    logged = λ is_kept. let n = one.logged is_kept in (n.0, n.1, (each was.overseer n.0 is.overseer stays n.2).1);
  }

  one_stays : (why : Option DeskFault) (old new : DeskState S) (was is : Watch O) → Stays was.overseer
      → ServesOne v causes hook takes why true old was new is → Stays is.overseer
  one_stays why old new was is stays one = let n = one.logged refl in (each was.overseer n.0 is.overseer stays n.2).0

  many_stay : (n : ℕ) (old new : DeskState S) (was is : Watch O) → Stays was.overseer → ServesMany v causes hook takes n old was new is → Stays is.overseer
  many_stay zero old new was is stays many = subst (λ w. Stays w.overseer) (sym many.1) stays
  many_stay (suc n) old new was is stays many =
      one_stays None many.0 new many.1 is (many_stay n old many.0 was many.1 stays many.2) many.3

  many_over : (n : ℕ) (old new : DeskState S) (was is : Watch O) → Stays was.overseer → ServesMany v causes hook takes n old was new is
      → ServesMany v causes hook taken n old (over f was) new (over f is)
  many_over zero old new was is stays many = (many.0, ap (over f) many.1)
  many_over (suc n) old new was is stays many = (
    many.0,
    over f many.1,
    many_over n old many.0 was many.1 stays many.2,
    one_over None true many.0 new many.1 is (many_stay n old many.0 was many.1 stays many.2) many.3,
  )

  until_over : (most : ℕ) (why : Option DeskFault) (old new : DeskState S) (was is : Watch O) → Stays was.overseer
      → ServesUntil v causes hook takes most why old was new is → ServesUntil v causes hook taken most why old (over f was) new (over f is)
  until_over most why old new was is stays it = record {
    count = it.count;
    fewer = it.fewer;
    mid = it.mid;
    between = over f it.between;
    many = many_over it.count old it.mid was it.between stays it.many;
    kept = it.kept;
    last = one_over why it.kept it.mid new it.between is (many_stay it.count old it.mid was it.between stays it.many) it.last;
    unkept = it.unkept;
  }

  fewer_over : (most : ℕ) (old new : DeskState S) (was is : Watch O) → Stays was.overseer → ServesFewer v causes hook takes most old was new is
      → ServesFewer v causes hook taken most old (over f was) new (over f is)
  fewer_over most old new was is stays it = record {
    count = it.count;
    fewer = it.fewer;
    between = over f it.between;
    many = many_over it.count old new was it.between stays it.many;
    overseer = ap f it.overseer;
  }

  pub all_over : (most : ℕ) (old new : DeskState S) (was is : Watch O) (ended : Result Unit ServeFault) → Stays was.overseer
      → ServesConnections v causes hook takes most old was new is ended → ServesConnections v causes hook taken most old (over f was) new (over f is) ended
  all_over most old new was is (Ok done) stays it = many_over most old new was is stays it
  all_over most old new was is (Err (servefault.Desk why)) stays it = until_over most (Some why) old new was is stays it
  all_over most old new was is (Err servefault.Output) stays it = until_over most None old new was is stays it
  all_over most old new was is (Err servefault.Bind) stays it = fewer_over most old new was is stays it
  all_over most old new was is (Err servefault.Accept) stays it = fewer_over most old new was is stays it
  all_over most old new was is (Err servefault.Clock) stays it = fewer_over most old new was is stays it
  all_over most old new was is (Err servefault.Random) stays it = fewer_over most old new was is stays it
  all_over most old new was is (Err servefault.Replaced) stays it = fewer_over most old new was is stays it

-- what was served under one overseer was so under the other, where that takes its notes
pub over_all : {S C : Type 0} (v : Sight S C) (causes : Causes S) (hook : Shower S) {O P : Type 0} (is : Watch O) (taken : P → LogEntry → P → Type 0)
    (Stays : O → Type 0) (f : O → P) (takes : O → LogEntry → O → Type 0) (most : ℕ) (old new : DeskState S) (was : Watch O) (ended : Result Unit ServeFault)
    → ServesConnections v causes hook takes most old was new is ended → Stays was.overseer
    → ((before : O) (log_entry : LogEntry) (after : O) → Stays before → takes before log_entry after → Stays after × taken (f before) log_entry (f after))
    → ServesConnections v causes hook taken most old (over f was) new (over f is) ended
over_all v causes hook is taken Stays f takes most old new was ended all stays each =
    all_over v causes hook takes taken Stays f each most old new was is ended stays all
