-- What the words of the program leave of a desk's files.
use Rattle.std.specs.Prelude.{◌≡◌, ◌⊎◌, ℕ, List, [], Option, Result, Ok}
use Rattle.sqlite.specs.{Files.image_of, Files.over_files, Recovery.Image, WalReads.AreClean}
use Rattle.sqlite_disk.specs.declared.Disk as disk
use Rattle.sqlite_disk.specs.declared.Files.{Files}
use Rattle.sqlite_store.specs.declared.store.FileStore.{FileStore}
use Rattle.app_words.specs.declared.command.{Revocation.Revocation, Serving.Serving}
use Rattle.app_tasks.specs.Deeds.{Adopts, AnswersReader, ChecksStatuses, FailsToAdopt, ListsRows, RevokesTarget, ServesClients, TellsAbout, TellsPage}
use Rattle.app_tasks.specs.{declared.fault.Fault.Fault, Doing.Doing}
use Rattle.app_commands.specs.Statuses.{EndsBackUp, EndsRestore}
use Rattle.desk.specs.{Seen.Told, State.DeskState}
use Rattle.desk_model.specs.{Entry.History, Legal.Legal, Tables.picture}
use Rattle.desk_files.specs.{LeftFiles.HoldDesk, LeftFiles.LeftFiles, LeftFiles.file_sight, Opening.OpensFiles}
use Rattle.desk_store.specs.{Desks.store_sight, declared.store.Store.Store}
use Rattle.app_files.specs.{Endings.IsDoneOver, declared.left.Left.Left}
use Rattle.app_reports.specs.Listed.{accounts_roster, authorizations_roster, orders_roster}
use Rattle.app_reports.specs.declared.{asked.AuthorizationFilter.AuthorizationFilter, beside.Beside.Beside, form.Form.Form, asked.OrderFilter.OrderFilter}
use Rattle.app_files.specs.declared.left.Left.TheVariants as rest
use Rattle.app_lives.specs.{Kept.Answered, Kept.HasLife, Told.TellsAny, Told.TellsBatch, Told.TellsRevocation}

module _ {D : Type 0} (g : disk.Ghosts D) where
  -- the desk of a history was in the files when a word opened them, in either format, and the disk was honest to the end
  pub record IsOver {bytes : Image} {does : Doing Fault} {how : Result ℕ Fault} (F : History) (done : IsDoneOver g bytes does how) : Type 0 where
    pub legal : Legal F
    pub files : LeftFiles
    pub opened : files.image ≡ bytes
    pub desk : (file_sight g).has files (picture F)
    pub honest : (file_sight g).is_honest done.ended

  -- whatever files a stop then leaves, they have the desk as it was, in today's format
  abbrev pub LeavesDesk : History → Store (FileStore D g) → Type 0
  LeavesDesk F ended = (left : LeftFiles) → (file_sight g).leaves ended left → (store_sight (over_files {g = g})).has left.trees (picture F)

  -- a desk was adopted over the opened store; or none was, and nothing replied
  abbrev pub IsOfOpened : (opened ended : Store (FileStore D g)) → DeskState (Store (FileStore D g)) → List Told → Type 0
  IsOfOpened opened ended desk told =
      Adopts (store_sight (over_files {g = g})) opened desk
      ⊎ ((why : Fault) × FailsToAdopt (store_sight (over_files {g = g})) opened ended why × (told ≡ []))

  -- calls to the desk that was adopted were replied to, of which this is so, and whatever files a stop then leaves, they have the desk of a
  -- life in which just these were, and one call at most was cut off
  pub record LeavesLife (Says : List Told → Type 0) (F : History) (opened ended : Store (FileStore D g)) : Type 0 where
    pub told : List Told
    pub says : Says told
    pub desk : DeskState (Store (FileStore D g))
    pub end : DeskState (Store (FileStore D g))
    pub adopts : IsOfOpened opened ended desk told
    pub answered : Answered (store_sight (over_files {g = g})) desk told end
    pub is : end.store ≡ ended
    pub left : (left : LeftFiles) → (file_sight g).leaves ended left → HasLife (store_sight (over_files {g = g})) F told left.trees

  -- whatever history the desk of the files has, a word leaves it as it was
  abbrev pub LeavesAsIs : Doing Fault → Type 0
  LeavesAsIs does =
      (bytes : Image) (how : Result ℕ Fault) (done : IsDoneOver g bytes does how) (F : History) → IsOver F done → LeavesDesk F done.ended

  -- or lets it live on, with such replies
  abbrev pub LivesOn : Doing Fault → (Result ℕ Fault → List Told → Type 0) → Type 0
  LivesOn does Says =
      (bytes : Image) (how : Result ℕ Fault) (done : IsDoneOver g bytes does how) (F : History) → IsOver F done
      → LeavesLife (Says how) F done.opened done.ended

  -- where a copy is told as made, by a word that ends so, the files that held the desk of a history, in either format, are closed, and the
  -- bytes of the database file alone, which are copied, hold it as it was, in today's format, on a disk that is honest to the end
  abbrev pub CopiesHoldDesk : (Image → (was is : Option (List ℕ)) → Result ℕ Fault → Left D g → Type 0) → Type 0
  CopiesHoldDesk EndsCopy =
      (image : Image) (was is : Option (List ℕ)) (left : Left D g) → EndsCopy image was is (Ok 0) left
      → (F : History) (files : LeftFiles) → files.image ≡ image → (file_sight g).has files (picture F)
      → (closed : Files D) × (left ≡ rest.Closed closed)
      × (AreClean g closed.log closed.db → HoldDesk (record (image_of g closed) { log = [] }) (picture F))

  -- a store that was opened, so that a copy takes the place of its files, has the desk of a history as it was, in today's format, in whatever
  -- files are closed or a stop then leaves, on a disk that is honest to the end
  abbrev pub StoresHoldDesk : Type 0
  StoresHoldDesk =
      (bytes : Image) (store : Store (FileStore D g)) → OpensFiles bytes store → (file_sight g).is_honest store
      → (F : History) (files : LeftFiles) → files.image ≡ bytes → (file_sight g).has files (picture F) → LeavesDesk F store

  -- so it is of each word, whose writer was given these bytes and has these in the end, where that is known
  pub record WordsLeave : Type 0 where
    pub about : (b : Beside) (was is : Option (List ℕ)) → LeavesAsIs (TellsAbout b was is)
    pub page : (was is : Option (List ℕ)) → LeavesAsIs (TellsPage was is)
    pub status : (filter : OrderFilter) (f : Form) (was is : Option (List ℕ)) → LeavesAsIs (ListsRows (orders_roster filter f) was is)
    pub accounts : (f : Form) (was is : Option (List ℕ)) → LeavesAsIs (ListsRows (accounts_roster f) was is)
    pub authorizations : (filter : AuthorizationFilter) (f : Form) (was is : Option (List ℕ)) → LeavesAsIs (ListsRows (authorizations_roster filter f) was is)
    pub check : (f : Form) (was is : Option (List ℕ)) → LeavesAsIs (ChecksStatuses f was is)
    pub revoke : (what : Revocation) (at : ℕ) (was is : Option (List ℕ)) → LivesOn (RevokesTarget what at was is) (TellsRevocation what at)
    pub batch : (bytes was is : Option (List ℕ)) → LivesOn (AnswersReader bytes was is) (TellsBatch bytes was is)
    pub backup : CopiesHoldDesk (EndsBackUp g)
    pub restore : CopiesHoldDesk (EndsRestore g)
    pub replaced : StoresHoldDesk
    pub serve : (s : Serving) (now : Option ℕ) (was is : Option (List ℕ)) → LivesOn (ServesClients s now was is) TellsAny
