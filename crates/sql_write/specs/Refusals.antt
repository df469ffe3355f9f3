-- What a transaction ran, and what it was refused.
use Rattle.std.specs.Prelude.{◌≡◌, ℕ, true, List, [], ◌∷◌, ◌++◌, Result, Ok, Err, MatchResult, OnOk}
use Rattle.sqlite.specs.{Effect.Database, Steps.FailsToCommit, Store.Ghosts, Held.Held, Held.state, State.HasCleanDisk, State.Survives}
use Rattle.sqlite.specs.{declared.error.Error.Error}
use Rattle.sql_write.specs.declared.fault.SaveFault.TheVariants.{Row, Statement, Commit}
use Rattle.sql_write.specs.{Statements.Sql, declared.fault.SaveFault.SaveFault, declared.fault.WriteFault.TheVariants.TooLarge}
use Rattle.sql_schema.specs.Advances.{Advances, KeepsLast, Performs}

-- the connection inside a transaction that was just begun
abbrev pub begun : {S : Type 0} → Held S → Held S
begun h = record h { in_transaction = true }

module _ {S : Type 0} (g : Ghosts S) where
  -- the engine was given this statement inside a transaction, and answered so
  pub record Runs (sql : Sql) (old new : Held S) (answer : Result ℕ Error) : Type 0 where
    pub performs : Performs sql.text sql.params (state g old) (state g new) answer
    pub survives : Survives (state g old) (state g new) (λ _. ⊥)

  -- the same of a call that keeps its count, and tells its error as a fault
  abbrev pub IsRun : Sql → Held S → Held S → Result (Unit {0}) SaveFault → Type 0
  IsRun sql old new result =
      MatchResult result
      (λ _. (count : ℕ) × Runs sql old new (Ok count))
      (λ why. (error : Error) × (why ≡ Statement error) × Runs sql old new (Err error))

  -- these were run, one after the other
  abbrev pub HaveRun : List Sql → Held S → Held S → Type 0
  HaveRun [] old new = new ≡ old
  HaveRun (sql ∷ more) old new = (mid : Held S) × (count : ℕ) × Runs sql old mid (Ok count) × HaveRun more mid new

  -- those before one of them were run, and this one was refused for that
  pub record Refuses (all : List Sql) (old new : Held S) (error : Error) : Type 0 where
    pub ran : List Sql
    pub sql : Sql
    pub rest : List Sql
    pub are : all ≡ ran ++ (sql ∷ rest)
    pub before : Held S
    pub have_run : HaveRun ran old before
    pub refused : Runs sql before new (Err error)

  -- some of them were run, and no other
  pub record HaveBegun (all : List Sql) (old new : Held S) : Type 0 where
    pub ran : List Sql
    pub rest : List Sql
    pub are : all ≡ ran ++ rest
    pub have_run : HaveRun ran old new

  -- why not all of them were run: the columns of a row were not written, or the engine refused one
  abbrev pub Stops : List Sql → Held S → Held S → SaveFault → Type 0
  Stops all old new (Row why) = HaveBegun all old new
  Stops all old new (Statement error) = Refuses all old new error
  Stops all old new (Commit error) = ⊥

  -- all of them were run, or this is why not
  abbrev pub Ran : {X : Type 0} → List Sql → Held S → Held S → Result X SaveFault → Type 0
  Ran all old new result = MatchResult result (λ _. HaveRun all old new) (Stops all old new)

  -- a call inside a transaction ran these statements, and where all of them were run they made this of the database
  pub record HasWritten {X : Type 0} (all : List Sql) (Does : Database → Database → Type 0) (old new : Held S) (result : Result X SaveFault) : Type 0 where
    pub does : OnOk result (Advances (state g old) (state g new) Does)
    pub kept : KeepsLast (state g old) (state g new)
    pub survives : Survives (state g old) (state g new) (λ _. ⊥)
    pub told : Ran all old new result

  -- a commit failed so
  pub record FailedCommit (old new : Held S) (why : SaveFault) : Type 0 where
    pub error : Error
    pub is : why ≡ Commit error
    pub fails : HasCleanDisk (state g new) → FailsToCommit (state g old) (state g new) error

  -- What a save is refused for, of which these are the statements: behind some of them a row was not written, as too large only where
  -- not all numbers fit; or an error is what the engine answered to one of them, behind those before it, or to the commit behind all.
  abbrev pub IsCause : Type 0 → List Sql → Held S → Held S → SaveFault → Type 0
  IsCause Fits all old new (Row why) =
      (last : Held S) × HaveBegun all (begun old) last × Survives (state g last) (state g new) (λ _. ⊥) × (why ≡ TooLarge → ¬ Fits)
  IsCause Fits all old new (Statement error) = (last : Held S) × Refuses all (begun old) last error × Survives (state g last) (state g new) (λ _. ⊥)
  IsCause Fits all old new (Commit error) =
      (last : Held S) × (ended : Held S) × HaveRun all (begun old) last
      × (HasCleanDisk (state g ended) → FailsToCommit (state g last) (state g ended) error)
      × Survives (state g ended) (state g new) (λ _. ⊥)
