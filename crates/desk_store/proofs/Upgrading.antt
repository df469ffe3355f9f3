-- What an upgrade leaves of a desk.
use Rattle.std.proofs.Common.{◌≡◌, arith, sym, subst, ◌∙◌}
use Rattle.sqlite.proofs.StateLemmas.{survives_then}
use Rattle.sqlite.specs.State.{State, HasCleanDisk, IsUnchanged, Survives}
use Rattle.desk_model.specs.Tables.{Tables}
use Rattle.sql_schema.specs.Stays.{Asks}
use Rattle.sql_write.specs.Committing.{IsLeft}
use Rattle.desk_store.specs.Desks.{AreOfDesk}
use Rattle.sql_upgrade.specs.{FirstDesks.HasFirst, FirstDesks.IsAdded, FirstDesks.IsFirstDesk, FirstDesks.UpgradesDesk, declared.additions.Additions.Additions}

-- a call that changed nothing leaves the desk in format 1
pub first_unchanged : (old new : State) (T : Tables) → new.step_limit ≡ old.step_limit → IsUnchanged old new → HasFirst old T → HasFirst new T
first_unchanged old new T limit same has = record {
  is_open = same.0.is_open;
  idle = same.0.mode ∙ has.idle;
  unlimited = limit ∙ has.unlimited;
  settled = same.0.now_is ∙ has.settled ∙ sym same.0.committed_is;
  desk = subst (λ db. IsFirstDesk db T) (sym same.0.now_is) has.desk;
}

-- what a stop in an upgrade leaves, behind a call that changed nothing, is the same desk
pub upgrade_left : (old mid new : State) (additions : Additions) → Asks old mid → (HasCleanDisk mid → IsUnchanged old mid)
    → (HasCleanDisk mid → (T : Tables) → HasFirst old T → IsAdded additions T) → Survives mid new (IsLeft (UpgradesDesk additions mid.now))
    → Survives old new (λ trees. (T : Tables) → HasFirst old T → AreOfDesk trees T)
upgrade_left old mid new additions asked same added left =
    survives_then old mid new _ _ _ (λ _ _ none. absurd none)
    (λ clean trees it T has.
    let there : HasCleanDisk mid = omega (arith, clean, left.clean) in
    let first = first_unchanged old mid T asked.survives.limit (same there) has in
    (it.0, it.1, record { holds = it.2 T first.desk (added there T has); book = first.desk.book }))
    asked.survives left
