-- Why the opening of a desk fails.
use Rattle.std.proofs.Common.{◌≡◌, ◌≤◌, Result, Ok, Err, inl, inr, true, false, Bool, arith, refl, subst, ap, sym, ◌∙◌}
use Rattle.std.specs.Prelude.{IfErr, IsTrue, ◌⊎◌}
use Rattle.sqlite_disk.specs.Disk.{MoreFaults}
use Rattle.sqlite.specs.{State.State, Schema.Schema, declared.error.Error.Error, declared.error.ErrorCode.ErrorCode}
use Rattle.sqlite.specs.declared.error.Error.TheVariants as error
use Rattle.sqlite.specs.declared.error.ErrorCode.TheVariants as code
use Rattle.sql_read.specs.{Failures.IsMet, Failures.IsOutOfMemory, Failures.is_of_device, LookUpFaults.IsOfMemoryOrDisk, declared.fault.ReadFault.ReadFault}
use Rattle.sql_read.specs.{declared.fault.ReadFault.TheVariants.Engine, declared.fault.ReadFault.TheVariants.NotARow}
use Rattle.sql_read.proofs.MetFaults.{met_on}
use Rattle.sql_schema.specs.{Stays.Asks, Failing.IsFailure}
use Rattle.store_api.specs.declared.fault.StorageFault.{StorageFault}
use Rattle.store_api.specs.declared.fault.StorageFault.TheVariants as fault
use Rattle.desk_store.specs.Causes.{IsMetFault, IsOfOpening, IsOfReading, IsOfStatement, cause_of}
use Rattle.desk_store.specs.{Making.IsOfStorage, Making.has_objects, Opening.RefusesReading, declared.faults.EngineCause.EngineCause}
use Rattle.desk_store.specs.declared.open_fault.OpenFault.{OpenFault, TheVariants.NewerFormat, TheVariants.NotADesk, TheVariants.Storage}
use Rattle.desk_store.specs.declared.faults.EngineCause.TheVariants as cause

-- a failure of memory or of the disk is the store's
pub failure_is_storage : (error : Error) (why : OpenFault) → IsFailure error → IsOfOpening (cause_of error) why → IsOfStorage why
failure_is_storage error why (inl memory) is = of_memory (subst (λ e. IsOfOpening (cause_of e) why) memory is) where
  of_memory : IsOfOpening cause.Memory why → IsOfStorage why
  of_memory (inl goes_on) = (fault.Memory, goes_on)
  of_memory (inr shut) = (fault.Reopen, shut)
failure_is_storage error why (inr (inl io)) is = (fault.Device, subst (λ e. IsOfOpening (cause_of e) why) io is)
failure_is_storage error why (inr (inr (inl corrupt))) is = (fault.Device, subst (λ e. IsOfOpening (cause_of e) why) corrupt is)
failure_is_storage error why (inr (inr (inr full))) is = (fault.Device, subst (λ e. IsOfOpening (cause_of e) why) full is)

-- a reading that failed tells of no later format
pub reading_is_known : (cause : EngineCause) (why : OpenFault) → IsOfOpening cause why → why ≡ NewerFormat → ⊥
reading_is_known cause.Memory why (inl goes_on) newer = absurd (let e = sym goes_on ∙ newer in cc)
reading_is_known cause.Memory why (inr shut) newer = absurd (let e = sym shut ∙ newer in cc)
reading_is_known cause why is newer = absurd (let e = sym is ∙ newer in cc)

-- one that tells of no desk failed for neither memory nor the disk
pub no_desk_is_other : (from : EngineCause) (why : OpenFault) → IsOfOpening from why → why ≡ NotADesk → from ≡ cause.Other
no_desk_is_other cause.Memory why (inl goes_on) none = absurd (let e = sym goes_on ∙ none in cc)
no_desk_is_other cause.Memory why (inr shut) none = absurd (let e = sym shut ∙ none in cc)
no_desk_is_other cause.Device why is none = absurd (let e = sym is ∙ none in cc)
no_desk_is_other cause.Other why is none = refl

-- a reading that failed so is one that was refused
pub refused_reading : (error : Error) (Fails : Error → Type 0) → IsOutOfMemory error ⊎ Fails error → cause_of error ≡ cause.Other → RefusesReading Fails
refused_reading error Fails (inl memory) other = absurd (let e = sym (ap cause_of memory) ∙ other in cc)
refused_reading error Fails (inr fails) other = record { error = error; fails = fails; other = other }

-- rows of which no book was made, since none has them, are what is said of such rows
pub none_has : {R : Type 0} (Other : Type 0) (made : Result R OpenFault)
    → IfErr made (λ why. (why ≡ Storage fault.Memory) ⊎ ((why ≡ NotADesk) × Other)) → made ≡ Err NotADesk → Other
none_has Other (Ok book) why none = absurd cc
none_has Other (Err fault) (inl memory) none = absurd (let e = memory in cc)
none_has Other (Err fault) (inr no_book) none = no_book.1

-- rows that no book has tell of no later format
pub book_is_known : {R : Type 0} (Other : Type 0) (result : Result R OpenFault)
    → IfErr result (λ why. (why ≡ Storage fault.Memory) ⊎ ((why ≡ NotADesk) × Other))
    → result ≡ Err NewerFormat → ⊥
book_is_known Other (Ok book) is newer = absurd cc
book_is_known Other (Err why) (inl memory) newer = absurd (let e = memory in cc)
book_is_known Other (Err why) (inr none) newer = absurd (let e = none.0 in cc)

-- the store failed by this
pub same_storage : (a b : StorageFault) → Storage a ≡ Storage b → a ≡ b
same_storage a b same = cc

-- a schema with an object is not one without
pub not_bare : (schema shown : Schema) (some : Bool) → some ≡ has_objects shown → shown ≡ schema → some ≡ true → has_objects schema ≡ false → ⊥
not_bare schema shown some is same there none =
    let never : true ≡ false = sym there ∙ is ∙ ap has_objects same ∙ none in
    absurd (cc never)

-- ---- the fault of the disk

-- a code that is told as the disk's is one of it
code_of_device : (c : ErrorCode) → cause_of (error.SqliteFailure c) ≡ cause.Device → IsTrue (is_of_device (error.SqliteFailure c))
code_of_device code.DatabaseCorrupt is = refl
code_of_device code.TooBig is = refl
code_of_device code.SystemIoFailure is = refl
code_of_device code.DiskFull is = refl
code_of_device c is = absurd (let e = is in cc)

-- and so is an error
of_device : (e : Error) → cause_of e ≡ cause.Device → IsTrue (is_of_device e)
of_device (error.SqliteFailure c) is = code_of_device c is
of_device e is = absurd (let e = is in cc)

-- a reading that failed is told as the disk's by such an error
told_of_device : (c : EngineCause) (f : OpenFault) → IsOfOpening c f → f ≡ Storage fault.Device → c ≡ cause.Device
told_of_device cause.Memory f (inl goes_on) is = absurd (let e = sym goes_on ∙ is in cc)
told_of_device cause.Memory f (inr shut) is = absurd (let e = sym shut ∙ is in cc)
told_of_device cause.Device f told is = refl
told_of_device cause.Other f told is = absurd (let e = sym told ∙ is in cc)

-- so the disk met a fault
pub opening_met : (old mid new : State) (e : Error) (f : OpenFault) → IsOfOpening (cause_of e) f → IsMet old mid e → Asks mid new → IsMetFault old new f
opening_met old mid new e f told met asks is = met_on old mid new e asks met (of_device e (told_of_device (cause_of e) f told is))

-- behind a call that did not fail
pub met_later : (old mid new : State) (f : OpenFault) → Asks old mid → IsMetFault mid new f → IsMetFault old new f
met_later old mid new f asks met is =
    let more : MoreFaults mid.faults new.faults = met is in
    let le : old.faults ≤ mid.faults = asks.survives.counts in
    omega (arith, more, le)

-- rows that no book has are none of it
pub book_met : {R : Type 0} (Other : Type 0) (old new : State) (result : Result R OpenFault)
    → IfErr result (λ why. (why ≡ Storage fault.Memory) ⊎ ((why ≡ NotADesk) × Other)) → IfErr result (IsMetFault old new)
book_met Other old new (Ok book) is = tt
book_met Other old new (Err f) (inl memory) = λ is. absurd (let e = sym memory ∙ is in cc)
book_met Other old new (Err f) (inr none) = λ is. absurd (let e = sym none.0 ∙ is in cc)

-- ---- look-ups

-- a failure of the disk is an error of it
disk_error : (e : Error)
    → (e ≡ error.SqliteFailure code.SystemIoFailure) ⊎ ((e ≡ error.SqliteFailure code.DatabaseCorrupt) ⊎ (e ≡ error.SqliteFailure code.DiskFull))
    → IsTrue (is_of_device e)
disk_error e (inl io) = ap is_of_device io
disk_error e (inr (inl corrupt)) = ap is_of_device corrupt
disk_error e (inr (inr full)) = ap is_of_device full

-- a look-up that failed for memory or the disk tells of the disk only where it met one more fault
pub device_met : (old mid new : State) (read : ReadFault) (why : StorageFault) → IsOfMemoryOrDisk old mid read → IsOfReading read why → Asks mid new
    → why ≡ fault.Device → MoreFaults old.faults new.faults
device_met old mid new NotARow why cause told asks device = absurd cause
device_met old mid new (Engine e) why (inl memory, met) told asks device =
    let of_memory : IsOfStatement cause.Memory why = subst (λ x. IsOfStatement (cause_of x) why) memory told in
    elim of_memory [
      | inl goes_on ↦ absurd (let x = sym goes_on ∙ device in cc)
      | inr shut ↦ absurd (let x = sym shut ∙ device in cc)
    ]
device_met old mid new (Engine e) why (inr disk, met) told asks device = met_on old mid new e asks met (disk_error e disk)
