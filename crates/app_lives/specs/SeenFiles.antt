-- What may be seen over time of a desk over two files, where stops leave bytes. They may hold the desk in format 1 until it is opened.
use Rattle.std.specs.Prelude.{◌≡◌, ◌⊎◌, List, [], ◌∷◌, map, Ok, Err}
use Rattle.sqlite_disk.specs.declared.Disk as disk
use Rattle.sqlite_store.specs.declared.store.FileStore.{FileStore}
use Rattle.sqlite.specs.{Files.file_state, Files.over_files, Held.Held, Recovery.Image, Tree.Trees}
use Rattle.desk_model.specs.{Entry.History, Legal.Legal, Tables.Tables, Tables.picture}
use Rattle.desk.specs.Seen.{Place, runs, rests, Seen, seen_reply, seen_fault, seen_stop, seen_end, seen_open, seen_failure}
use Rattle.desk.specs.Seen.{place_after, IsAt, IsExit, IsExitInPlace, IsSeen}
use Rattle.desk_files.specs.LeftFiles.{AreOfOpening, LeftFiles, IsNumbered, LeavesFound, MayLeave, file_sight}
use Rattle.store_api.specs.Sight.{Sight, FailsToOpen, Keeps, Opens}
use Rattle.desk_store.specs.{Desks.store_sight, declared.store.Store.Store}

-- what was seen, by the bytes of what was left
abbrev pub with_bytes : {S : Type 0} → Seen S LeftFiles → Seen S Image
with_bytes (seen_reply call reply new) = seen_reply call reply new
with_bytes (seen_fault call why new) = seen_fault call why new
with_bytes (seen_stop call exit new files) = seen_stop call exit new files.image
with_bytes (seen_end files) = seen_end files.image
with_bytes (seen_open new) = seen_open new
with_bytes (seen_failure files) = seen_failure files.image

-- where a desk is, by the bytes
abbrev pub place_bytes : {S : Type 0} → Place S LeftFiles → Place S Image
place_bytes (runs store) = runs store
place_bytes (rests files) = rests files.image

module _ {D : Type 0} (g : disk.Ghosts D) where
  -- what a call promises of a store over files, it promises by the trees that a stop leaves
  abbrev pub by_trees : Sight (Store (FileStore D g)) Trees
  by_trees = store_sight (over_files {g = g})

  -- a stop left these bytes
  pub record IsStop (store : Store (FileStore D g)) (image : Image) : Type 0 where
    pub numbered : IsNumbered store.conn
    pub leaves : MayLeave store.conn image

  -- the desk ended so: by a stop, or by closing its files
  abbrev pub EndsBy : Store (FileStore D g) → Image → Type 0
  EndsBy store image = IsStop store image ⊎ LeavesFound store image

  -- an opening of these bytes: the store has whatever desk they hold, in either format
  pub record IsOpening (image : Image) (new : Store (FileStore D g)) : Type 0 where
    pub opens : (files : LeftFiles) → files.image ≡ image → Opens (file_sight g) files new

  -- an opening that failed, or that a stop cut off, left whatever desk the bytes held, in one of the formats
  pub record IsFailure (image left : Image) : Type 0 where
    pub leaves :
        (files : LeftFiles) → files.image ≡ image → (T : Tables) → (file_sight g).has files T
        → ∥ ((after : LeftFiles) × (after.image ≡ left) × FailsToOpen (file_sight g) files after) ∥₁

  -- so it is of a connection that an opening which failed left, as its contract says, whatever bytes a stop then leaves
  abbrev pub FailuresAreSeen : Type 0
  FailuresAreSeen =
      (conn : Held (FileStore D g)) (image left : Image) → IsNumbered conn
      → ((files : LeftFiles) → files.image ≡ image → (trees : Trees) → (file_state conn).may_leave trees → AreOfOpening files trees)
      → MayLeave conn left → IsFailure image left

  -- what may be seen of a desk that runs
  abbrev pub MaySeeOn : Seen (Store (FileStore D g)) Image → Store (FileStore D g) → Type 0
  MaySeeOn (seen_reply call reply new) old = IsExitInPlace by_trees call old new (Ok reply)
  MaySeeOn (seen_fault call why new) old = IsExitInPlace by_trees call old new (Err why)
  MaySeeOn (seen_stop call exit new image) old = IsExit by_trees call old new exit × EndsBy new image
  MaySeeOn (seen_end image) old = EndsBy old image
  MaySeeOn (seen_open new) old = ⊥
  MaySeeOn (seen_failure image) old = ⊥

  -- and of the bytes that were left
  abbrev pub MaySeeOff : Seen (Store (FileStore D g)) Image → Image → Type 0
  MaySeeOff (seen_open new) image = IsOpening image new
  MaySeeOff (seen_failure left) image = IsFailure image left
  MaySeeOff (seen_reply call reply new) image = ⊥
  MaySeeOff (seen_fault call why new) image = ⊥
  MaySeeOff (seen_stop call exit new left) image = ⊥
  MaySeeOff (seen_end left) image = ⊥

  -- what may be seen next
  abbrev pub MaySeeNext : Seen (Store (FileStore D g)) Image → Place (Store (FileStore D g)) Image → Type 0
  MaySeeNext x (runs old) = MaySeeOn x old
  MaySeeNext x (rests image) = MaySeeOff x image

  -- each thing that was seen might be seen where the desk then was
  abbrev pub IsSeenOver : Place (Store (FileStore D g)) Image → List (Seen (Store (FileStore D g)) Image) → Type 0
  IsSeenOver first [] = Unit {0}
  IsSeenOver first (x ∷ earlier) = MaySeeNext x (place_after first earlier) × IsSeenOver first earlier

  -- a life begins with a desk that runs, and that a stop leaves alone, or in bytes that hold one in either format
  abbrev pub IsBegun : History → Place (Store (FileStore D g)) Image → Type 0
  IsBegun start (runs store) = Keeps by_trees store (picture start)
  IsBegun start (rests image) = ∥ ((files : LeftFiles) × (files.image ≡ image) × (file_sight g).has files (picture start)) ∥₁

  -- what is seen, with the files that are left and the databases in them, is seen of a store whose stops leave these
  pub record IsFound (start : History) (first : Place (Store (FileStore D g)) Image) (seen : List (Seen (Store (FileStore D g)) Image)) : Type 0 where
    pub begun : Place (Store (FileStore D g)) LeftFiles
    pub begins : place_bytes begun ≡ first
    pub at : IsAt (file_sight g) start begun
    pub found : List (Seen (Store (FileStore D g)) LeftFiles)
    pub shows : map with_bytes found ≡ seen
    pub is_seen : IsSeen (file_sight g) begun found

  -- so it is of whatever is seen over files
  abbrev pub FilesAreSeen : Type 0
  FilesAreSeen =
      (start : History) (first : Place (Store (FileStore D g)) Image) (seen : List (Seen (Store (FileStore D g)) Image))
      → Legal start → IsBegun start first → IsSeenOver first seen → ∥ IsFound start first seen ∥₁
