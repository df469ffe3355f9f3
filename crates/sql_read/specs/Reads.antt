-- What a reading leaves, and what readings one after the other do.
use Rattle.std.specs.Prelude.{ℕ, List, Result, IfErr, IfOk, OnOk}
use Rattle.sqlite.specs.State.{FailsToQuery, HasCleanDisk, IsUnchanged, Shown}
use Rattle.sqlite.specs.{Held.Held, Held.state, Order.Row, Store.Ghosts, declared.error.Error.Error}
use Rattle.sql_schema.specs.{Failing.IsFailure, Stays.Asks}
use Rattle.sql_read.specs.Failures.{IsMet, MayRead}

module _ {S : Type 0} (g : Ghosts S) where
  -- this is what was read, or the reading failed so; it changed nothing
  pub record Queried {A : Type 0} (old new : Held S) (P : A → Type 0) (Fails : Error → Type 0) (read : Result A Error) : Type 0 where
    pub shown : HasCleanDisk (state g new) → IfOk read P
    pub fails : HasCleanDisk (state g new) → IfErr read Fails
    pub met : HasCleanDisk (state g new) → IfErr read (IsMet (state g old) (state g new))
    pub unchanged : HasCleanDisk (state g new) → OnOk read (IsUnchanged (state g old) (state g new))
    pub asks : Asks (state g old) (state g new)

  -- so rows of a query were read
  abbrev pub ReadsRows : {A : Type 0} (items : A → List Row) (ask : List ℕ × Row) (old new : Held S) → Result A Error → Type 0
  ReadsRows items ask old new read =
      Queried old new (λ rows. Shown ask.0 ask.1 (state g old) (state g new) (items rows)) (FailsToQuery ask.0 ask.1 (state g old) (state g new)) read

  -- what was read so far is this, or the readings failed, one of them so; they fail for memory or the disk alone, where that is known of each
  pub record Reads {A : Type 0} (first now : Held S) (P : A → Type 0) (Readable : Type 0) (Fails : Error → Type 0) (read : Result A Error)
      : Type 0 where
    pub shown : HasCleanDisk (state g now) → IfOk read P
    pub fails : HasCleanDisk (state g now) → MayRead (state g first) → Readable → IfErr read IsFailure
    pub refused : HasCleanDisk (state g now) → IfErr read Fails
    pub met : HasCleanDisk (state g now) → IfErr read (IsMet (state g first) (state g now))
    pub unchanged : HasCleanDisk (state g now) → OnOk read (IsUnchanged (state g first) (state g now))
    pub asks : Asks (state g first) (state g now)
