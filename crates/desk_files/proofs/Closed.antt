-- What closing leaves of a desk.
use Rattle.std.proofs.{Common.◌≡◌, Common.[], Common.refl, Common.subst, Common.IsTrue, Math.Logic.∥∥₁_map}
use Rattle.sqlite_disk.specs.declared.Disk as disk
use Rattle.sqlite_disk.specs.declared.Files.{Files}
use Rattle.sqlite_store.specs.{Laws.stays_at, declared.store.FileStore.FileStore}
use Rattle.sqlite.specs.{Closing.HoldsAlone, Closing.IsCopied, Effect.Database, Files.file_state, Recovery.Image, Tree.Trees, WalFiles.outcomes}
use Rattle.sqlite.specs.{FileStore.recovers, FileStore.state, FileStore.view, Held.AreDatabases, Held.Held}
use Rattle.sqlite.proofs.Theorems.{opens_again}
use Rattle.desk_model.specs.Tables.{Tables}
use Rattle.desk_store.specs.{Desks.AreOfDesk, Desks.HasDesk, Desks.IsDesk, declared.store.Store.Store}
use Rattle.desk_files.specs.{LeftFiles.LeavesFound, Closing.HasClosed, Closing.IsInFile}

-- bytes that hold the trees of a desk
in_file : (image : Image) (trees : Trees) (T : Tables) → HoldsAlone image trees → AreOfDesk trees T → IsInFile image T
in_file image trees T holds desk = record {
  both = ∥∥₁_map holds.both (λ held. (record { image = image; trees = trees; holds = held }, refl, desk));
  alone = ∥∥₁_map holds.alone (λ held. (record { image = record image { log = [] }; trees = trees; holds = held }, refl, desk));
}

-- what a stop leaves of the same connection
pub left_of : {D : Type 0} {g : disk.Ghosts D} (trees : Trees) (conn same : Held (FileStore D g)) → conn ≡ same → recovers conn.store trees
    → recovers same.store trees
left_of {D} {g} trees conn same is = subst (λ (h : Held (FileStore D g)). recovers h.store trees) is

module _ {D : Type 0} {g : disk.Ghosts D} (store : Store (FileStore D g)) (files : Files D) (copied : IsCopied store.conn files) where
  -- the desk is in the file
  pub has_closed : (T : Tables) → HasDesk (file_state store.conn) T → HasClosed g files T
  has_closed T has =
      let committed = (file_state store.conn).committed in
      let desk : AreOfDesk committed.trees T = (committed, refl, subst (λ (db : Database). IsDesk db T) has.settled has.desk) in
      record {
        now = in_file _ committed.trees T copied.seen desk;
        left = λ image may. in_file image committed.trees T (copied.left image may) desk;
      }

  -- what is left is what a stop could leave
  pub ends_as_stop : ((file : D) → g.may_leave file (g.seen file)) → (image : Image) → outcomes g files.log files.db image → LeavesFound store image
  ends_as_stop stays image may =
      ∥∥₁_map (copied.left image may).both (λ held.
      (record { image = image; trees = (file_state store.conn).committed.trees; holds = held }, refl, stays_at store.conn.store stays copied.was_open))

-- what a stop leaves of files that were given up as they are
pub leaves_as_stop : {D : Type 0} {g : disk.Ghosts D} (store : Store (FileStore D g)) (last : FileStore D g) → IsTrue (view last).is_numbered
    → AreDatabases (recovers last) → ((trees : Trees) → recovers last trees → recovers store.conn.store trees) → (image : Image)
    → (state last).may_leave image → LeavesFound store image
leaves_as_stop store last numbered databases before image may =
    ∥∥₁_map (opens_again last numbered databases image may) (λ found.
    (record { image = image; trees = found.0; holds = found.2 }, refl, before found.0 found.1))
