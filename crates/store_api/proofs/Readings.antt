-- Look-ups one after the other.
use Rattle.std.proofs.Common.{◌≡◌, ◌⊎◌, Result, Ok, Err, IfErr, IfOk, IsErrAnd, inl, inr, subst, sym}
use Rattle.store_api.specs.Sight.{FailsBy, ForTables, Reads, Sight, Unchanged}
use Rattle.store_api.specs.{declared.fault.StorageFault.StorageFault, Finding.LacksMemory}
use Rattle.store_api.specs.declared.fault.StorageFault.TheVariants as fault

module _ {S C : Type 0} {v : Sight S C} where
  -- what was not read stands
  pub unchanged_here : {s : S} → Unchanged v s s
  unchanged_here = record { honest = λ honest. honest; left = λ honest c may. may; tables = λ honest T held. held }

  -- what was read stands
  pub unchanged_read : {A : Type 0} {old new : S} {a : A} → Reads v old new (Ok a) → Unchanged v old new
  unchanged_read read = record { honest = read.honest; left = read.left; tables = read.tables }

  -- what stands by one call and the next
  pub unchanged_both : {old mid new : S} → Unchanged v old mid → Unchanged v mid new → Unchanged v old new
  unchanged_both first next = record {
    honest = λ honest. first.honest (next.honest honest);
    left = λ honest c may. first.left (next.honest honest) c (next.left honest c may);
    tables = λ honest T held. next.tables honest T (first.tables (next.honest honest) T held);
  }

  -- and stands behind a further look-up
  pub unchanged_then : {A : Type 0} {old mid new : S} {a : A} → Unchanged v old mid → Reads v mid new (Ok a) → Unchanged v old new
  unchanged_then unchanged read = unchanged_both unchanged (unchanged_read read)

  -- what stands was read, if it was not for want of memory
  pub reads_unchanged : {A : Type 0} {old new : S} (r : Result A StorageFault) → IfErr r LacksMemory → Unchanged v old new → Reads v old new r
  reads_unchanged (Ok a) lacks unchanged =
      record { honest = unchanged.honest; left = unchanged.left; tables = unchanged.tables; without_memory = tt; failed = λ honest T held. tt }
  reads_unchanged (Err why) lacks unchanged = record {
    honest = unchanged.honest;
    left = unchanged.left;
    tables = tt;
    without_memory = λ memory. unchanged.tables;
    failed = λ honest T held. inl lacks;
  }

  -- a look-up that failed, behind others
  pub fails_later : {old mid new : S} (why : StorageFault) → Unchanged v old mid → (why ≡ fault.Memory) ⊎ FailsBy v mid new why
      → (why ≡ fault.Memory) ⊎ FailsBy v old new why
  fails_later why unchanged (inl memory) = inl memory
  fails_later why unchanged (inr by) = inr (record { from = by.from; unchanged = unchanged_both unchanged by.unchanged; fails = by.fails })

  -- a look-up behind others
  pub reads_then : {A : Type 0} {old mid new : S} (r : Result A StorageFault) → Unchanged v old mid → Reads v mid new r → Reads v old new r
  reads_then (Ok a) unchanged read = reads_unchanged (Ok a) tt (unchanged_then unchanged read)
  reads_then (Err e) unchanged read = record {
    honest = λ honest. unchanged.honest (read.honest honest);
    left = λ honest c may. unchanged.left (read.honest honest) c (read.left honest c may);
    tables = tt;
    without_memory = λ memory honest T held. read.without_memory memory honest T (unchanged.tables (read.honest honest) T held);
    failed = λ honest T held. fails_later e unchanged (read.failed honest T (unchanged.tables (read.honest honest) T held));
  }

  -- the fault of a look-up, whatever it was to give
  pub reads_failed_as : {A B : Type 0} {old new : S} {why : StorageFault} → Reads v {R = B} old new (Err why) → Reads v {R = A} old new (Err why)
  reads_failed_as read = record {
    honest = read.honest;
    left = read.left;
    tables = tt;
    without_memory = read.without_memory;
    failed = read.failed;
  }

  -- the fault of a look-up is passed on
  pub reads_failing : {A B : Type 0} {old new : S} {why : StorageFault} (r : Result A StorageFault) →
      Reads v {R = B} old new (Err why) → IsErrAnd r (λ e. e ≡ why) →
      Reads v old new r
  reads_failing (Ok a) read failed = absurd failed
  reads_failing {A} {B} {old} {new} (Err e) read failed = subst (λ f. Reads v {R = A} old new (Err f)) (sym failed) (reads_failed_as read)

  -- what was found was read, where of tables no more than memory lacks; and its fault is passed on
  pub reads_of_tables : {A B : Type 0} {old new : S} (found : Result A StorageFault) (r : Result B StorageFault) →
      Reads v old new found → ForTables v old new (λ T. IfOk found (λ _. IfErr r LacksMemory)) → IfErr found (λ why. r ≡ Err why) →
      Reads v old new r
  reads_of_tables (Ok a) (Ok b) read lacks passed = reads_unchanged (Ok b) tt (unchanged_read read)
  reads_of_tables (Ok a) (Err why) read lacks passed = record {
    honest = read.honest;
    left = read.left;
    tables = tt;
    without_memory = λ memory. read.tables;
    failed = λ honest T held. inl (lacks honest T held);
  }
  reads_of_tables {A} {B} {old} {new} (Err why) r read lacks passed = subst (Reads v old new) (sym passed) (reads_failed_as read)
