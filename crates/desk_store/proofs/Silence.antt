-- What a connection says of a text that begins no statement.
use Rattle.std.proofs.Common.{◌≡◌, ◌∙◌, inl, inr, [], true, false, Result, Ok, Err, IfOk, IfErr, codes, refl, sym, ap}
use Rattle.std.specs.Prelude.{is_ok}
use Rattle.sqlite_schema.specs.declared.schema.Schema.{Schema}
use Rattle.sqlite_tied.specs.Compute.{everything}
use Rattle.sqlite_trees.specs.declared.error.StoreError.{StoreError}
use Rattle.sqlite_trees.specs.declared.error.StoreError.TheVariants as store
use Rattle.sqlite.specs.{Listing.understood, Order.Row, State.State, State.IsNotRun, State.IsUnchanged, State.store_error, declared.error.Error.Error}
use Rattle.desk_store.specs.{Asked.tells_open, Causes.IsSilent}

-- the word is none, whatever the schema is
none_understood : (schema : Schema) → is_ok (understood schema (codes "ANSWER")) ≡ false
unfolding understood everything
none_understood schema = refl

-- it came so
abbrev came : (A : Type 0) → Error → Result A Error
came A e = Err e

-- no failure of the store is told so
never_of_store : (A : Type 0) (cause : StoreError) → tells_open (came A (store_error cause)) ≡ false
never_of_store A store.OutOfMemory = refl
never_of_store A cause = refl

-- an error that says so leaves the connection open, and as it was
error_open : (A : Type 0) (old new : State) (e : Error) → IsNotRun old new (codes "ANSWER") [] e → tells_open (came A e) ≡ true → IsUnchanged old new
unfolding IsNotRun
error_open A old new e (inl none) told = none.1
error_open A old new e (inr fails) told =
    absurd (let x = sym told ∙ ap (λ f. tells_open (came A f)) fails.1 ∙ never_of_store A fails.0 in cc)

-- any other is a failure
error_silent : (A : Type 0) (old new : State) (e : Error) → IsNotRun old new (codes "ANSWER") [] e → tells_open (came A e) ≡ false → IsSilent old new
unfolding IsNotRun
error_silent A old new e (inl (inl (fault, h, is), same)) told = absurd (let x = sym told ∙ ap (λ f. tells_open (came A f)) is in cc)
error_silent A old new e (inl (inr (c, h, refused), same)) told = absurd (let x = sym (none_understood old.now.schema) ∙ ap is_ok h in cc)
error_silent A old new e (inr fails) told = (e, fails)

-- what was prepared so, and what was not
pub open_told : {A : Type 0} (r : Result A Error) (old new : State) (Is : A → Type 0) → IfOk r (λ a. Is a × IsUnchanged old new)
    → IfErr r (λ e. (params : Row) → IsNotRun old new (codes "ANSWER") params e) → tells_open r ≡ true → IsUnchanged old new
open_told (Ok a) old new Is ok err told = ok.1
open_told {A} (Err e) old new Is ok err told = error_open A old new e (err []) told

-- where a result does not tell that the connection is open, it is silent
pub silent_told : {A : Type 0} (r : Result A Error) (old new : State)
    → IfErr r (λ e. (params : Row) → IsNotRun old new (codes "ANSWER") params e) → tells_open r ≡ false → IsSilent old new
silent_told (Ok a) old new err told = absurd (cc told)
silent_told {A} (Err e) old new err told = error_silent A old new e (err []) told
