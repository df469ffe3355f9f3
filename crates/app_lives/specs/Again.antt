-- Words of the program, one after the other, over the files that the one before left.
use Rattle.std.specs.Prelude.{◌≡◌, ◌⊎◌, ℕ, List, [], ◌∷◌, ◌++◌, Option, Result, Ok, IfSome, true}
use Rattle.sqlite.specs.{Files.IsEmpty, Files.file_state, Files.image_of, Recovery.Image, State.HasCleanDisk, WalReads.AreClean}
use Rattle.sqlite_disk.specs.declared.Disk as disk
use Rattle.sqlite_disk.specs.declared.Files.{Files}
use Rattle.sqlite_store.specs.declared.store.FileStore.{FileStore}
use Rattle.app_words.specs.declared.command.{Revocation.Revocation, Serving.Serving}
use Rattle.app_tasks.specs.Deeds.{AnswersReader, ChecksStatuses, ListsRows, RevokesTarget, ServesClients, TellsAbout, TellsPage}
use Rattle.app_tasks.specs.{declared.fault.Fault.Fault, Doing.Doing}
use Rattle.app_commands.specs.Statuses.{EndsBackUp, EndsRestore}
use Rattle.desk.specs.Seen.{Told, replied}
use Rattle.desk_model.specs.Life.{Event, IsLife, history, kept_calls}
use Rattle.desk_model.specs.{Entry.History, History.first_history, Tables.picture, declared.call.Call.Call, Terms.Terms, Terms.are_terms}
use Rattle.desk_files.specs.{LeftFiles.LeftFiles, LeftFiles.file_sight, Opening.MakesFiles, Opening.OpensFiles, declared.opening.NotOpened.NotOpened}
use Rattle.desk_store.specs.{Desks.AreOfDesk, declared.open_fault.OpenFault.OpenFault, declared.store.Store.Store}
use Rattle.app_files.specs.{Endings.FailsToBeMade, Endings.FailsToOpen, Endings.IsDoneOver, declared.left.Left.Left}
use Rattle.app_files.specs.declared.left.Left.TheVariants as rest
use Rattle.app_reports.specs.Listed.{accounts_roster, authorizations_roster, orders_roster}
use Rattle.app_reports.specs.declared.{asked.AuthorizationFilter.AuthorizationFilter, beside.Beside.Beside, form.Form.Form, asked.OrderFilter.OrderFilter}
use Rattle.app_lives.specs.{Kept.AreKept, Kept.calls_of, Told.TellsAny, Told.TellsBatch, Told.TellsRevocation}

-- the replies of words, the latest first
abbrev pub all_told : List (List Told) → List Told
all_told [] = []
all_told (told ∷ earlier) = told ++ all_told earlier

-- of each word the calls that it replied to were kept, and one more at most
abbrev pub AreKeptEach : List (List Told) → List Call → Type 0
AreKeptEach [] kept = kept ≡ []
AreKeptEach (told ∷ earlier) kept =
    (later : List Call) × (before : List Call) × (kept ≡ later ++ before) × AreKept (calls_of told) later × AreKeptEach earlier before

-- the files have, in today's format, the desk of one life from this history on, through all of these words
pub record HasLives (F : History) (words : List (List Told)) (files : LeftFiles) : Type 0 where
  pub life : List Event
  pub lives : IsLife F life
  pub replies : replied life ≡ all_told words
  pub kept : AreKeptEach words (kept_calls life)
  pub tables : AreOfDesk files.trees (picture (history F life))

module _ {D : Type 0} (g : disk.Ghosts D) where
  -- a word over files with such a life, on a disk that is honest to the end: whatever files it closes or a stop then leaves, they have the
  -- same life, and so the same tables
  abbrev pub StaysOn : Doing Fault → Type 0
  StaysOn does =
      (F : History) (words : List (List Told)) (files : LeftFiles) (h : HasLives F words files) (how : Result ℕ Fault)
      (done : IsDoneOver g files.image does how) → (file_sight g).is_honest done.ended
      → (left : LeftFiles) → (file_sight g).leaves done.ended left → (still : HasLives F words left) × (still.life ≡ h.life)

  -- or the life goes on in them, with such replies
  abbrev pub GoesOn : Doing Fault → (Result ℕ Fault → List Told → Type 0) → Type 0
  GoesOn does Says =
      (F : History) (words : List (List Told)) (files : LeftFiles) → HasLives F words files
      → (how : Result ℕ Fault) (done : IsDoneOver g files.image does how) → (file_sight g).is_honest done.ended
      → (told : List Told) × Says how told × ((left : LeftFiles) → (file_sight g).leaves done.ended left → HasLives F (told ∷ words) left)

  -- a desk that was made, by terms within their limits, has in whatever files it closes or a stop then leaves the life that begins with its
  -- making, in which nothing was replied
  abbrev pub BeginsLife : Type 0
  BeginsLife =
      (policy : Terms) → are_terms policy ≡ true → (made : Store (FileStore D g)) → MakesFiles policy 0 made → (file_sight g).is_honest made
      → (left : LeftFiles) → (file_sight g).leaves made left → HasLives (first_history policy 0) [] left

  -- a making that failed in files without bytes leaves an empty database, or that life
  abbrev pub MayBeginLife : Type 0
  MayBeginLife =
      (policy : Terms) → are_terms policy ≡ true → (bytes : Image) → bytes.db ≡ [] → (cause : OpenFault) (un : NotOpened (FileStore D g) D g)
      → FailsToBeMade bytes policy cause un
      → IfSome un.conn (λ conn. HasCleanDisk (file_state conn) → (left : LeftFiles) → (file_state conn).may_leave left.trees
      → IsEmpty left.trees ⊎ HasLives (first_history policy 0) [] left)

  -- files with such a life in which no desk was opened have the same life, whatever a stop then leaves
  abbrev pub StaysUnopened : Type 0
  StaysUnopened =
      (F : History) (words : List (List Told)) (files : LeftFiles) (h : HasLives F words files)
      (cause : OpenFault) (un : NotOpened (FileStore D g) D g) → FailsToOpen files.image cause un
      → IfSome un.conn (λ conn. HasCleanDisk (file_state conn) → (left : LeftFiles) → (file_state conn).may_leave left.trees
      → (still : HasLives F words left) × (still.life ≡ h.life))

  -- where a copy of files with such a life is told as made, by a word that ends so, they are closed, and the bytes of the database file alone,
  -- which are copied, have the same life, on a disk that is honest to the end
  abbrev pub CopiesGoOn : (Image → (was is : Option (List ℕ)) → Result ℕ Fault → Left D g → Type 0) → Type 0
  CopiesGoOn EndsCopy =
      (F : History) (words : List (List Told)) (files : LeftFiles) (h : HasLives F words files) (was is : Option (List ℕ)) (left : Left D g)
      → EndsCopy files.image was is (Ok 0) left
      → (closed : Files D) × (left ≡ rest.Closed closed)
      × (AreClean g closed.log closed.db → ∥ ((copy : LeftFiles) × (copy.image ≡ record (image_of g closed) { log = [] })
      × (still : HasLives F words copy) × (still.life ≡ h.life)) ∥₁)

  -- files with such a life that were opened, so that a copy takes their place, have the same life until it does, whatever files are closed or
  -- a stop then leaves, on a disk that is honest to the end
  abbrev pub StaysUntilReplaced : Type 0
  StaysUntilReplaced =
      (F : History) (words : List (List Told)) (files : LeftFiles) (h : HasLives F words files)
      (store : Store (FileStore D g)) → OpensFiles files.image store → (file_sight g).is_honest store
      → (left : LeftFiles) → (file_sight g).leaves store left → (still : HasLives F words left) × (still.life ≡ h.life)

  -- so it is of each word, and of files that are made, copied, replaced, or not opened
  pub record WordsGoOn : Type 0 where
    pub make : BeginsLife
    pub unmade : MayBeginLife
    pub unopened : StaysUnopened
    pub backup : CopiesGoOn (EndsBackUp g)
    pub restore : CopiesGoOn (EndsRestore g)
    pub replaced : StaysUntilReplaced
    pub about : (b : Beside) (was is : Option (List ℕ)) → StaysOn (TellsAbout b was is)
    pub page : (was is : Option (List ℕ)) → StaysOn (TellsPage was is)
    pub status : (filter : OrderFilter) (f : Form) (was is : Option (List ℕ)) → StaysOn (ListsRows (orders_roster filter f) was is)
    pub accounts : (f : Form) (was is : Option (List ℕ)) → StaysOn (ListsRows (accounts_roster f) was is)
    pub authorizations : (filter : AuthorizationFilter) (f : Form) (was is : Option (List ℕ)) → StaysOn (ListsRows (authorizations_roster filter f) was is)
    pub check : (f : Form) (was is : Option (List ℕ)) → StaysOn (ChecksStatuses f was is)
    pub revoke : (what : Revocation) (at : ℕ) (was is : Option (List ℕ)) → GoesOn (RevokesTarget what at was is) (TellsRevocation what at)
    pub batch : (bytes was is : Option (List ℕ)) → GoesOn (AnswersReader bytes was is) (TellsBatch bytes was is)
    pub serve : (s : Serving) (now : Option ℕ) (was is : Option (List ℕ)) → GoesOn (ServesClients s now was is) TellsAny
