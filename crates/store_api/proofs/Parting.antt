-- The rows that are enough for a call are a part for it.
use Rattle.std.proofs.{Common.◌≡◌, Common.ℕ, Common.max, Common.sym, Common.subst, Math.Nat.le-max_right}
use Rattle.std.specs.Prelude.{Result, Ok, Err, IfOk}
use Rattle.desk_model.specs.{History.clock, Tables.Tables, Tables.picture, declared.call.Call.Call}
use Rattle.model_laws.specs.Ordered.{IsOrdered}
use Rattle.model_laws.proofs.Recorded.{tables_ordered}
use Rattle.model_parts.specs.IsEnough.{IsEnoughFor, enough}
use Rattle.model_parts.proofs.{Answering.pictures_stated, Answering.stated_for, Work.minimal_enough}
use Rattle.store_api.specs.{Sight.ForTables, Sight.Reads, Sight.Sight, Storing.Loads, declared.fault.StorageFault.StorageFault}

module _ {S C : Type 0} (v : Sight S C) where
  -- what loads the rows that are enough loads a part
  pub loads_enough : (call : Call) (old new : S) (result : Result Tables StorageFault) → Reads v old new result →
      ForTables v old new (λ T. IsOrdered T → IfOk result (λ book. book ≡ enough T call)) →
      Loads v call old new result
  loads_enough call old new (Ok book) reads found = record {
    reads = reads;
    part = λ honest F legal held.
        let ordered = tables_ordered F (clock F) in
        let m : ℕ = max call.at (clock F) in
        subst (IsEnoughFor call (picture F)) (sym (found honest (picture F) held ordered))
        (minimal_enough (picture F) call ordered (stated_for call.ask m (picture F) (pictures_stated F m legal.each (le-max_right call.at (clock F)))));
  }
  loads_enough call old new (Err why) reads found = record { reads = reads; part = λ honest. tt }
