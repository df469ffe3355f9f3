-- Tables that are checked one after the other.
use Rattle.std.proofs.Common.{◌≡◌, inl, inr, ℕ, List, Bool, true, false, Result, Ok, Err, IfOk, IsErrAnd, sym, subst, ◌∙◌, arith}
use Rattle.std.proofs.lemmas.Result.{IfOk-from_err}
use Rattle.std.specs.Prelude.{◌⊎◌, IsErr, IsTrue}
use Rattle.sqlite.specs.{Effect.Database, Order.Row, Store.Ghosts, Held.Held, Held.state, State.HasCleanDisk, State.IsUnchanged, declared.error.Error.Error}
use Rattle.store_columns.specs.declared.columns.FlatRows.{FlatRows}
use Rattle.desk_model.specs.{Tables.Tables, declared.rows.Meta.Meta}
use Rattle.sql_read.specs.{BookShown.Checks, BookShown.FailsIn, BookShown.HoldsIn, Failures.FailsHere, Failures.HasTexts, Failures.MayRead, Checking.ShowsTable}
use Rattle.sql_read.specs.{Failures.IsMet, Failures.IsOutOfMemory, Failures.IsReadable, AllTables.FailsAtFirst, AllTables.FailsAtTable, Only.ShowsBookRowsOnly}
use Rattle.sql_read.specs.{declared.formats.Format.Format, declared.formats.Format.TheVariants.First, declared.formats.Format.TheVariants.Second}
use Rattle.sql_read.proofs.{Failing.may_read_still, MetFaults.met_behind, Results.failed_as, Results.fails_then, Results.unchanged_after}
use Rattle.sql_schema.specs.{Failing.IsFailure, Stays.Asks}
use Rattle.sql_schema.proofs.StaysLemmas.{asks_then}

module _ {S : Type 0} (g : Ghosts S) where
  -- a reading that failed over a database failed wherever it stood as that
  here_still : (old mid : Held S) (text : List ℕ) (Fits : Row → Type 0) (e : Error) → (state g mid).now ≡ (state g old).now → FailsHere g mid text Fits e
      → FailsHere g old text Fits e
  here_still old mid text Fits e is h = record { before = h.before; after = h.after; same = h.same ∙ is; fails = h.fails }

  -- whichever table it was of
  pub first_still : (old mid : Held S) (e : Error) → (state g mid).now ≡ (state g old).now → FailsAtFirst g mid e → FailsAtFirst g old e
  first_still old mid e is (inr challenges) = inr (here_still old mid _ _ e is challenges)
  first_still old mid e is (inl (inr authorizations)) = inl (inr (here_still old mid _ _ e is authorizations))
  first_still old mid e is (inl (inl (inr listed))) = inl (inl (inr (here_still old mid _ _ e is listed)))
  first_still old mid e is (inl (inl (inl (inr orders)))) = inl (inl (inl (inr (here_still old mid _ _ e is orders))))
  first_still old mid e is (inl (inl (inl (inl (inr accounts))))) = inl (inl (inl (inl (inr (here_still old mid _ _ e is accounts)))))
  first_still old mid e is (inl (inl (inl (inl (inl (inr nonces)))))) = inl (inl (inl (inl (inl (inr (here_still old mid _ _ e is nonces))))))
  first_still old mid e is (inl (inl (inl (inl (inl (inl metas)))))) = inl (inl (inl (inl (inl (inl (here_still old mid _ _ e is metas))))))

  -- of those of both formats, or of the keys
  pub table_still : (old mid : Held S) (e : Error) → (state g mid).now ≡ (state g old).now → FailsAtTable g mid e → FailsAtTable g old e
  table_still old mid e is (inl first) = inl (first_still old mid e is first)
  table_still old mid e is (inr keys) = inr (here_still old mid _ _ e is keys)

  -- of those of a format
  format_still : (format : Format) (old mid : Held S) (e : Error) → (state g mid).now ≡ (state g old).now → FailsIn format g mid e → FailsIn format g old e
  format_still First old mid e is fails = first_still old mid e is fails
  format_still Second old mid e is fails = table_still old mid e is fails

  -- each format has the tables of format 1
  pub in_format : (format : Format) (here : Held S) (e : Error) → FailsAtFirst g here e → FailsIn format g here e
  in_format First here e fails = fails
  in_format Second here e fails = inl fails

  module _ {format : Format} {P : Database → Type 0} {N : Database → Meta → FlatRows → Type 0} {old new : Held S} where
    -- the reading of a table failed
    pub checks_failed : {e : Error} {r : Result Bool Error} {text : List ℕ} {Fits : Row → Type 0}
        → ((T : Tables) → HoldsIn format (state g old).now T → HasTexts T → IsReadable g old text Fits)
        → (FailsHere g old text Fits e → FailsIn format g old e) → IsErr r → IsErrAnd r (λ x. x ≡ e)
        → (HasCleanDisk (state g new) → MayRead (state g old) → IsReadable g old text Fits → IsFailure e)
        → (HasCleanDisk (state g new) → IsOutOfMemory e ⊎ FailsHere g old text Fits e)
        → (HasCleanDisk (state g new) → IsMet (state g old) (state g new) e) → Asks (state g old) (state g new) → Checks g format old new P N r
    checks_failed {e} {r} readable at is_err same fails refused met asks = record {
      answer = λ clean. IfOk-from_err r _ is_err;
      none = λ clean. IfOk-from_err r _ is_err;
      fails = λ clean T has may texts. failed_as r e IsFailure (fails clean may (readable T has texts)) same;
      refused = λ clean. failed_as r e (λ e. IsOutOfMemory e ⊎ FailsIn format g old e) (elim (refused clean) [
        | inl memory ↦ inl memory
        | inr here ↦ inr (at here)
      ]) same;
      met = λ clean. failed_as r e (IsMet (state g old) (state g new)) (met clean) same;
      unchanged = λ clean. IfOk-from_err r _ is_err;
      asks = asks;
    }

    -- a row did not pass
    pub checks_stopped : (HasCleanDisk (state g new) → (meta : Meta) (rows : FlatRows) → ShowsBookRowsOnly g (state g old).now format meta rows
        → N (state g old).now meta rows → ⊥)
        → (HasCleanDisk (state g new) → IsUnchanged (state g old) (state g new)) → Asks (state g old) (state g new)
        → Checks g format old new P N (Ok false)
    checks_stopped none same asks = record {
      answer = λ clean is. absurd (cc is);
      none = λ clean _. none clean;
      fails = λ clean T has may texts. tt;
      refused = λ clean. tt;
      met = λ clean. tt;
      unchanged = same;
      asks = asks;
    }

  -- all rows of the last table passed
  pub checks_last : {format : Format} {P : Database → Type 0} {N : Database → Meta → FlatRows → Type 0} {old new : Held S}
      → (HasCleanDisk (state g new) → P (state g old).now)
      → (HasCleanDisk (state g new) → IsUnchanged (state g old) (state g new)) → Asks (state g old) (state g new)
      → Checks g format old new P N (Ok true)
  checks_last answer same asks = record {
    answer = λ clean _. answer clean;
    none = λ clean is. absurd (cc is);
    fails = λ clean T has may texts. tt;
    refused = λ clean. tt;
    met = λ clean. tt;
    unchanged = same;
    asks = asks;
  }

  -- all rows of this table passed, and then those below it are checked
  pub checks_then : {format : Format} {P Q : Database → Type 0} {N M : Database → Meta → FlatRows → Type 0} {old mid new : Held S} {r : Result Bool Error}
      → Checks g format mid new Q M r → (HasCleanDisk (state g mid) → Q (state g old).now → P (state g old).now)
      → (HasCleanDisk (state g mid) → (meta : Meta) (rows : FlatRows) → ShowsBookRowsOnly g (state g old).now format meta rows
      → N (state g old).now meta rows → M (state g old).now meta rows)
      → (HasCleanDisk (state g mid) → IsUnchanged (state g old) (state g mid)) → Asks (state g old) (state g mid) → Checks g format old new P N r
  checks_then {format} {P} {Q} {N} {M} {old} {mid} {new} {r} rest so kept same asks = record {
    answer = λ clean. told r (honest clean) (rest.answer clean);
    none = λ clean. stopped r (honest clean) (rest.none clean);
    fails = λ clean T has may texts.
        let still = same (honest clean) in
        rest.fails clean T (subst (λ db. HoldsIn format db T) (sym still.0.now_is) has) (may_read_still (state g old) (state g mid) still asks may) texts;
    refused = λ clean. fails_then r (rest.refused clean) (λ e fails. elim fails [
      | inl memory ↦ inl memory
      | inr at ↦ inr (format_still format old mid e (same (honest clean)).0.now_is at)
    ]);
    met = λ clean. fails_then r (rest.met clean) (λ e is. met_behind (state g old) (state g mid) (state g new) e asks is);
    unchanged = λ clean. unchanged_after r (state g old) (state g mid) (state g new) (same (honest clean)) (λ _. rest.unchanged clean);
    asks = asks_then (state g old) (state g mid) (state g new) asks rest.asks;
  }
    where
      honest : HasCleanDisk (state g new) → HasCleanDisk (state g mid)
      honest clean = omega (arith, clean, rest.asks.survives.clean)

      told : (r : Result Bool Error) → HasCleanDisk (state g mid) → IfOk r (λ answer. IsTrue answer → Q (state g mid).now)
          → IfOk r (λ answer. IsTrue answer → P (state g old).now)
      told (Ok answer) clean q = λ is. so clean (subst Q (same clean).0.now_is (q is))
      told (Err e) clean q = tt

      NoneOf : (Database → Meta → FlatRows → Type 0) → Database → Bool → Type 0
      NoneOf K db answer = answer ≡ false → (meta : Meta) (rows : FlatRows) → ShowsBookRowsOnly g db format meta rows → K db meta rows → ⊥

      stopped : (r : Result Bool Error) → HasCleanDisk (state g mid) → IfOk r (NoneOf M (state g mid).now) → IfOk r (NoneOf N (state g old).now)
      stopped (Ok answer) clean none = λ is meta rows shows are.
          (subst (λ db. NoneOf M db answer) (same clean).0.now_is none) is meta rows shows (kept clean meta rows shows are)
      stopped (Err e) clean none = tt

-- a table of which more is known
abbrev pub table_as : {S C R : Type 0} {g : Ghosts S} {text : List ℕ} {spelled : Row → C} {write : R → C} {IsStored : R → Type 0} {db : Database}
    {P Q : List R → Type 0}
    → (table : ShowsTable g text spelled write IsStored db P) → ((rows : List R) → P rows → Q rows) → ShowsTable g text spelled write IsStored db Q
table_as table so = record { rows = table.rows; shown = table.shown; stored = table.stored; is = so table.rows table.is }
