-- What a step of a pass read, behind what it read before.
use Rattle.std.proofs.Common.{◌≡◌, Result, Err, IsErrAnd, rules}
use Rattle.store_api.specs.{Sight.Reads, Sight.Sight, Sight.Unchanged, declared.fault.StorageFault.StorageFault}
use Rattle.store_api.proofs.Readings.{reads_failing, reads_then}

module _ {S C : Type 0} {v : Sight S C} where
  -- the fault of a look-up behind others is passed on
  pub fails_then : {A B : Type 0} {old mid new : S} {why : StorageFault} (r : Result A StorageFault) →
      Unchanged v old mid → Reads v {R = B} mid new (Err why) → IsErrAnd r (λ e. e ≡ why) →
      Reads v old new r
  fails_then r unchanged read failed = reads_then r unchanged (reads_failing r read failed)
