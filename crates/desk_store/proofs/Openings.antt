-- What an opening leaves behind a call that changed nothing.
use Rattle.std.proofs.lemmas.Result.{on_ok_weaker, on_err_weaker, IfErr-weaker}
use Rattle.std.proofs.Common.{◌≡◌, Result, false, arith, ◌∙◌}
use Rattle.sqlite.proofs.StateLemmas.{survives_then}
use Rattle.sqlite.specs.{Held.Held, Held.state, State.HasCleanDisk, State.IsUnchanged, Store.Ghosts}
use Rattle.sql_read.proofs.Results.{unchanged_after}
use Rattle.sql_schema.specs.Stays.{Asks}
use Rattle.desk_store.specs.{Opening.OpensKnown, declared.open_fault.OpenFault.OpenFault}
use Rattle.desk_store.proofs.{Books.whole_still, Failing.opened_behind, NothingWritten.desk_unchanged, Upgrading.first_unchanged}
use Rattle.desk_store.proofs.EitherFormat.{asks_behind, back_behind, first_still, keys_behind, settled_behind, upgraded_behind}

-- what an opening does and leaves behind such a call, it does and leaves from before it
pub opens_behind : {S R : Type 0} (g : Ghosts S) (old mid new : Held S) (result : Result R OpenFault) → Asks (state g old) (state g mid)
    → (HasCleanDisk (state g mid) → IsUnchanged (state g old) (state g mid)) → (state g new).in_transaction ≡ false → OpensKnown g mid new result
    → OpensKnown g old new result
opens_behind g old mid new result asked unchanged idle it =
    let a = state g old in
    let b = state g mid in
    let c = state g new in
    let same : HasCleanDisk c → IsUnchanged a b = λ clean. unchanged (let le = it.left.clean in omega (arith, clean, le)) in
    let limit = asked.survives.limit in
    record {
      asks = asks_behind a b c asked unchanged idle it.left it.asks;
      unchanged = λ uses clean. unchanged_after result a b c (same clean) (λ _. it.unchanged (keys_behind a b (same clean) ∙ uses) clean);
      upgraded = λ clean. on_ok_weaker result (λ brings T has. brings T (first_unchanged a b T limit (same clean) has)) (it.upgraded clean);
      back = λ settled clean. on_err_weaker result (back_behind a b (same clean) c) (it.back (settled_behind a b (same clean) settled) clean);
      left = survives_then a b c _ _ _ (λ _ _ none. absurd none) (λ clean trees up. upgraded_behind a b (same clean) trees limit up)
          asked.survives it.left;
      spared = λ memory. survives_then a b c _ _ _ (λ _ _ none. none) (λ _ _ none. none) asked.survives (it.spared memory);
      whole = λ clean. on_ok_weaker result
          (λ whole uses. whole_still g old mid (same clean).0.now_is (whole (keys_behind a b (same clean) ∙ uses))) (it.whole clean);
      whole_first = λ clean. on_ok_weaker result
          (λ whole lacks. first_still g old mid (same clean).0.now_is (whole (keys_behind a b (same clean) ∙ lacks))) (it.whole_first clean);
      desk = λ clean. IfErr-weaker result _ _ (λ why fails T has. fails T (desk_unchanged a b T limit (same clean) has)) (it.desk clean);
      first = λ clean. IfErr-weaker result _ _ (λ why fails T has. fails T (first_unchanged a b T limit (same clean) has)) (it.first clean);
      failed = opened_behind g old mid new asked (λ clean T has. first_unchanged a b T limit (unchanged clean) has) result it.failed;
      answering = it.answering;
    }
