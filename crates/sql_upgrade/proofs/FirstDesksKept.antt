-- A desk in format 1, made format 2, is the same desk.
use Rattle.std.proofs.Common.{◌≡◌, false, Result, Ok, Err, OnOk, sym, subst, ◌∙◌, rules}
use Rattle.sqlite.specs.{State.State, Tree.Trees, Effect.Database}
use Rattle.sql_write.specs.{Committing.HasCommitted, Committing.IsLeft, Upgrading.Upgrades}
use Rattle.model_laws.proofs.FirstKeys.{rows_under}
use Rattle.sql_upgrade.specs.{FirstDesks.BringsDesk, FirstDesks.PicturesAreFirstDesks, FirstDesks.UpgradesDesk, declared.additions.Additions.Additions}
use Rattle.sql_tables.specs.Holds.{Holds}
use Rattle.store_laws.proofs.FlatTexts.{picture_is_stored_book}

-- the tables of a legal history in which no account got another key are such a desk
pub pictures_are_first : PicturesAreFirstDesks
pictures_are_first db F legal keeps holds = search (rules, picture_is_stored_book, rows_under)

-- so what was written makes format 2 of each desk to which it is added
pub desks_upgrade : (additions : Additions) (old new : Database) → Upgrades additions.meta additions.keys.items old new → UpgradesDesk additions old new
desks_upgrade additions old new upgrades T desk added = upgrades T desk.holds (sym added.meta) added.keys

-- what was committed, in other words
pub committed_as : {A E : Type 0} (r : Result A E) (old new : State) (Does Says : Database → Database → Type 0)
    → (Does old.now new.committed → Says old.now new.committed)
    → OnOk r (HasCommitted old new Does) → OnOk r (HasCommitted old new Says)
committed_as r old new Does Says h k = search rules

-- what a stop left, in other words
pub left_as : (old : Database) (trees : Trees) (Does Says : Database → Database → Type 0) → ((new : Database) → Does old new → Says old new)
    → IsLeft (Does old) trees → IsLeft (Says old) trees
left_as old trees Does Says means left = (left.0, left.1, means left.0 left.2)

-- what was committed is the desk, and a stop leaves it alone
pub desk_brought : {A E : Type 0} (r : Result A E) (additions : Additions) (old new : State) → new.in_transaction ≡ false
    → new.step_limit ≡ old.step_limit → OnOk r (HasCommitted old new (UpgradesDesk additions)) → OnOk r (BringsDesk additions old new)
desk_brought (Err e) additions old new idle limit it = tt
desk_brought (Ok x) additions old new idle limit it = λ T has added.
    let holds = it.does T has.desk added in
    record {
      is_open = it.is_open;
      idle = idle;
      unlimited = limit ∙ has.unlimited;
      settled = it.settled;
      holds = subst (λ db. Holds db T) (sym it.settled) holds;
      left = λ trees may. (new.committed, it.left trees may, holds);
    }
