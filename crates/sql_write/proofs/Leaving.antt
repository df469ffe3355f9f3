-- What a transaction leaves behind.
use Rattle.std.proofs.Common.{◌≡◌, ◌⊎◌, inl, inr, List, Result, Ok, Err, IfErr, IsOk, IsTrue, OnErr, OnOk, refl, sym, ap, subst, ◌∙◌, arith}
use Rattle.sqlite.specs.{Effect.Database, Store.Ghosts, Held.Held, Held.state, State.HasCleanDisk, State.IsRolledBack, State.Survives}
use Rattle.sqlite.proofs.{Callers.survives_begin, StateLemmas.survives_then}
use Rattle.sql_schema.specs.Advances.{Advances}
use Rattle.sql_schema.proofs.StaysLemmas.{asks_nothing}
use Rattle.sql_write.specs.Committing.{GoesBack, HasCommitted, IsBeforeCommit, IsLeft}
use Rattle.sql_write.specs.Refusals.{FailedCommit, HasWritten, IsCause, Ran, Stops, begun}
use Rattle.sql_write.specs.{Numbers.IsNotTooLarge, Statements.Sql, declared.fault.SaveFault.SaveFault}
use Rattle.sql_write.specs.declared.fault.SaveFault.TheVariants as save

-- a connection before a transaction, at its last call and behind its end; what its statements do, in other words too
module _ {S : Type 0} (g : Ghosts S) (old last after : Held S) (all : List Sql) (Does Says : Database → Database → Type 0) (Fits : Type 0) where
  -- the transaction was ended behind calls that were answered so
  pub record Ends (answered result : Result (Unit {0}) SaveFault) : Type 0 where
    pub done : OnOk result (IsOk answered)
    pub ok : HasCleanDisk (state g after) → OnOk result (HasCommitted (state g last) (state g after) (λ now db. db ≡ now))
    pub err : HasCleanDisk (state g after)
        → OnErr result (OnOk answered (IsTrue (state g last).in_transaction) → IsRolledBack (state g last) (state g after))
    pub before : IfErr result (λ why. IsBeforeCommit why → Survives (state g last) (state g after) (λ _. ⊥))
    pub left : Survives (state g last) (state g after) (λ db. IsOk answered × (db ≡ (state g last).now.trees))
    pub cause : IfErr result (λ why. (answered ≡ Err why) ⊎ (IsOk answered × FailedCommit g last after why))
    pub fits : Fits → IfErr result IsNotTooLarge

  -- what was done is committed, what failed is undone; before the commit a stop leaves nothing new, and then what was done, or what was there
  pub record Leaves (result : Result (Unit {0}) SaveFault) : Type 0 where
    pub ok : HasCleanDisk (state g after) → OnOk result (HasCommitted (state g old) (state g after) Says)
    pub err : HasCleanDisk (state g after) → OnErr result (GoesBack (state g old) (state g after))
    pub before : IfErr result (λ why. IsBeforeCommit why → Survives (state g old) (state g after) (λ _. ⊥))
    pub left : Survives (state g old) (state g after) (IsLeft (Says (state g old).now))
    pub cause : IfErr result (IsCause g Fits all old after)

  -- the calls did this, where they were answered
  did : (done : Result (Unit {0}) SaveFault) → OnOk done (Advances (state g (begun old)) (state g last) Does) → IsOk done → HasCleanDisk (state g last)
      → Does (state g old).now (state g last).now
  did (Err why) advances is clean = absurd (cc is)
  did (Ok v) advances is clean = (advances clean refl).does

  -- and the transaction was still open
  inside : (done : Result (Unit {0}) SaveFault) → OnOk done (Advances (state g (begun old)) (state g last) Does) → HasCleanDisk (state g last)
      → OnOk done (IsTrue (state g last).in_transaction)
  inside (Err why) advances clean = tt
  inside (Ok v) advances clean = (advances clean refl).inside

  -- what stopped the statements is the cause
  stopped : (why : SaveFault) → Stops g all (begun old) last why → (IsBeforeCommit why → Survives (state g last) (state g after) (λ _. ⊥))
      → (Fits → IsNotTooLarge why) → IsCause g Fits all old after why
  stopped (save.Row why) stops early fits = (last, stops, early tt, λ large all_fit. fits all_fit (ap save.Row large))
  stopped (save.Statement error) stops early fits = (last, stops, early tt)
  stopped (save.Commit error) stops early fits = absurd stops

  -- or the commit behind them is
  caused : (done : Result (Unit {0}) SaveFault) (why : SaveFault) → Ran g all (begun old) last done
      → (done ≡ Err why) ⊎ (IsOk done × FailedCommit g last after why) → (IsBeforeCommit why → Survives (state g last) (state g after) (λ _. ⊥))
      → (Fits → IsNotTooLarge why) → IsCause g Fits all old after why
  caused (Ok v) why ran (inl is) early fits = absurd (cc is)
  caused (Ok v) why ran (inr it) early fits =
      subst (IsCause g Fits all old after) (sym it.1.is) (last, after, ran, it.1.fails, (asks_nothing (state g after)).survives)
  caused (Err fault) why ran (inl is) early fits = let same : fault ≡ why = cc in stopped why (subst (Stops g all (begun old) last) same ran) early fits
  caused (Err fault) why ran (inr it) early fits = absurd (let never = it.0 in cc)

  -- so the transaction leaves this
  leaves_begun : (done result : Result (Unit {0}) SaveFault) → (Does (state g old).now (state g last).now → Says (state g old).now (state g last).now)
      → HasWritten g all Does (begun old) last done → Ends done result → Leaves result
  leaves_begun done result means it ends = by result ends
    where
      found : (e : Ends done result) → Survives (state g old) (state g after) (IsLeft (Says (state g old).now))
      found e =
          survives_then (state g old) (state g last) (state g after) _ _ (IsLeft (Says (state g old).now)) (λ _ db none. absurd none)
          (λ clean db is. ((state g last).now, is.1, means (did done it.does is.0 (omega (arith, e.left.clean, clean)))))
          (survives_begin g old (state g last) _ it.survives) e.left

      by : (r : Result (Unit {0}) SaveFault) → Ends done r → Leaves r
      by (Ok u) e = record {
        ok = λ clean. let at = e.ok clean in record {
          is_open = at.is_open;
          does = subst (Says (state g old).now) (sym at.does) (means (did done it.does e.done (omega (arith, clean, e.left.clean))));
          settled = at.settled;
          left = at.left;
        };
        err = λ clean. tt;
        before = tt;
        left = found ends;
        cause = tt;
      }
      by (Err why) e = record {
        ok = λ clean. tt;
        err = λ clean.
            let clean_last : HasCleanDisk (state g last) = omega (arith, clean, e.left.clean) in
            let back = e.err clean (inside done it.does clean_last) in record {
              now = λ h. (back.undone h).0 ∙ it.kept clean_last refl (back.was_open h);
              committed = λ h. (back.undone h).1 ∙ it.kept clean_last refl (back.was_open h);
            };
        before = λ is. survives_then (state g old) (state g last) (state g after) _ _ (λ _. ⊥) (λ _ db none. none) (λ _ db none. none)
            (survives_begin g old (state g last) _ it.survives) (e.before is);
        left = found ends;
        cause = caused done why it.told e.cause e.before e.fits;
      }

  -- so it leaves this, from its beginning on
  pub leaves : (first : Held S) → first ≡ begun old → (done result : Result (Unit {0}) SaveFault)
      → (Does (state g old).now (state g last).now → Says (state g old).now (state g last).now)
      → HasWritten g all Does first last done → Ends done result → Leaves result
  leaves first begins done result means it ends = leaves_begun done result means (subst (λ h. HasWritten g all Does h last done) begins it) ends
