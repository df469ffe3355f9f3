-- A query of a desk's tables fails for memory or the disk alone.
use Rattle.std.proofs.Common.{◌≡◌, inl, inr, ℕ, true, List, [], ◌∷◌, length, IsTrue, IsSome, None, Option, Ok, Err, All, refl, sym, ap, subst, ◌∙◌, arith}
use Rattle.std.proofs.Common.{append-nil, rules}
use Rattle.sqlite_value.specs.{Order.Row, declared.keys.Key.Key}
use Rattle.sqlite_trees.specs.declared.error.StoreError.{StoreError}
use Rattle.sqlite_schema.specs.declared.command.{Command.Command, Command.TheVariants.Select}
use Rattle.sqlite_resolve.specs.declared.{compiled.Compiled.Compiled, error.CompileError.CompileError}
use Rattle.sqlite_typing.specs.Types.{accepts_program}
use Rattle.sqlite_sql.specs.{Term.Term, Program.overlay, Query.Join, Query.has_no_fold}
use Rattle.sqlite_sql.proofs.QueryLemmas.{no_fold_overflows}
use Rattle.sqlite.specs.Listing.{understood, reads_listing, IsSourceOf}
use Rattle.sqlite.specs.State.{State, store_error, IsNoStatement, HasCause, FailsToQuery, FailsToShow, IsNotRun, IsUnchanged, Shown}
use Rattle.sqlite.specs.{Clock.timed, Schema.Schema, Effect.Database, Effect.RefusesToRead, declared.error.Error.Error}
use Rattle.sqlite.proofs.Callers.{IsPlain, command_of}
use Rattle.sql_schema.specs.{Failing.IsFailure, Stays.Asks}
use Rattle.sql_read.specs.Failures.{FailsToRead, MayRead}
use Rattle.sql_read.proofs.Answered.{IsCommand, IsReading, IsReadingFrom, all_rows, compiled_alone, names_of, picked_from, tail_of}

-- ---- the engine

-- a failure of an open store
pub failed : (old new : State) (e : Error) (cause : StoreError) → IsTrue old.is_open → e ≡ store_error cause → HasCause old new ⊥ cause → IsFailure e
failed old new e cause h k l = search rules

module _ {schema : Schema} {limit : Term} {text : List ℕ} {from : Join} (unfolded : has_no_fold from ≡ true) {tests project : List Term}
    {order : List (Term × Key)} {params : Row}
    (is : IsReadingFrom schema limit text from tests project order params) (old new : State) (has : old.now.schema ≡ schema) (e : Error) where
  -- what the text means
  meant : IsCommand schema text (Select (record { lets = []; body = picked_from limit from tests project order }) is.names)
  meant = compiled_alone text _ is.means

  -- what is understood is understood over the schema
  known : (c : Compiled) → understood old.now.schema text ≡ Ok c → understood schema text ≡ Ok c
  known c h = ap (λ s. understood s text) (sym has) ∙ h

  -- the text is understood
  no_error : (fault : CompileError) → understood old.now.schema text ≡ Err fault → ⊥
  no_error fault h =
      let there : understood schema text ≡ Err fault = ap (λ s. understood s text) (sym has) ∙ h in
      let nothing = sym meant.is ∙ ap command_of there in
      absurd (cc)

  -- and is one statement with these parameters
  never_none : IsNoStatement old text params e → ⊥
  never_none (inl (fault, h, why)) = no_error fault h
  never_none (inr (c, h, inl cut)) =
      let tail : c.tail ≡ length text = sym (ap tail_of (known c h)) ∙ ap (λ (s : ℕ × ℕ). s.0) is.sizes in
      cut.0 (omega (arith, tail))
  never_none (inr (c, h, inr (inl given))) =
      let counted : length c.names ≡ length params =
      sym (ap (λ r. length (names_of r)) (known c h)) ∙ ap (λ (s : ℕ × ℕ). s.1) is.sizes in
      given.0 (sym counted)
  never_none (inr (c, h, inr (inr clock))) = clock.0 (subst IsPlain (known c h) meant.plain).1

  -- the query is not refused
  refused : (steps : Option ℕ) → steps ≡ None → (command : Command) (values : Row) (db : Database)
      → command ≡ Select (record { lets = []; body = picked_from limit from tests project order }) is.names → values ≡ params → db ≡ old.now
      → RefusesToRead steps command db values e → ⊥
  refused steps unlimited command values db same given source h =
      let query = Select (record { lets = []; body = picked_from limit from tests project order }) is.names in
      let asked : RefusesToRead steps query old.now params e =
      subst (λ d. RefusesToRead steps query d params e) source (subst (λ p. RefusesToRead steps query db p e) given
      (subst (λ k. RefusesToRead steps k db values e) same h)) in
      go asked
    where
      go : RefusesToRead steps (Select (record { lets = []; body = picked_from limit from tests project order }) is.names) old.now params e → ⊥
      go (inl mismatch) =
          absurd (let x = sym (ap (λ s. accepts_program s [] (picked_from limit from tests project order) params) has ∙ is.typed) ∙ mismatch.1 in cc)
      go (inr (inl (why, inl none))) = none
      go (inr (inl (why, inr folds))) = no_fold_overflows (overlay old.now.trees []) from (params ∷ []) unfolded folds
      go (inr (inr stopped)) = absurd (let x = subst (λ (l : Option ℕ). IsSome l) unlimited stopped.1 in cc)

  -- so it fails for memory or the disk alone
  pub join_fails : MayRead old → FailsToQuery text params old new e → IsFailure e
  unfolding FailsToQuery IsNotRun
  join_fails may (inl (inl none)) = absurd (never_none none.0)
  join_fails may (inl (inr fails)) = failed old new e fails.0 may.is_open fails.1 fails.2
  join_fails may (inr (c, it, h)) =
      let k = known c it.is in
      let plain = subst IsPlain k meant.plain in
      let values = timed params c.formats it.now in
      let shown : FailsToShow old new text c values e None = subst (FailsToShow old new text c values e) plain.0 h in
      let db : shown.0 ≡ old.now = subst (λ b. IsSourceOf b old.now shown.0) (ap (λ s. reads_listing s text) has ∙ meant.unlisted) shown.1 in
      let bare : values ≡ params = ap (λ f. timed params f it.now) plain.1 ∙ append-nil params in
      absurd (refused old.step_limit may.unlimited c.command values shown.0 (sym (ap command_of k) ∙ meant.is) bare db shown.2)

-- so does a reading of a whole table, where the rows that it shows fit
pub reading_fails : {schema : Schema} {text : List ℕ} {tree : ℕ} {project : List Term} {order : List (Term × Key)}
    → IsReading schema all_rows text tree [] project order [] → (old new : State) → old.now.schema ≡ schema → (e : Error) (Fits : Row → Type 0)
    → MayRead old → ((rows : List Row) → Shown text [] old new rows → All Fits rows)
    → FailsToRead text [] old new Fits e → IsFailure e
reading_fails is old new has e Fits may fit (inl query) = join_fails refl is old new has e may query
reading_fails is old new has e Fits may fit (inr (rows, shown, memory)) = inl (memory (fit rows shown))

-- ---- one reading after another

-- a reading that was answered leaves the connection open, and sets no limit
pub may_read_still : (a b : State) → IsUnchanged a b → Asks a b → MayRead a → MayRead b
may_read_still a b same asks may = record { is_open = same.0.is_open; unlimited = asks.survives.limit ∙ may.unlimited }
