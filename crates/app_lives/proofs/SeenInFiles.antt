-- What is seen over files is seen of a store whose stops leave files with databases.
use Rattle.std.proofs.Common.{◌≡◌, ◌⊎◌, List, [], ◌∷◌, map, Result, Ok, Err, inl, inr, refl, sym, ap, ap₂, subst}
use Rattle.std.proofs.Math.Logic.{∥∥₁_elim, ∥∥₁_map}
use Rattle.sqlite_disk.specs.declared.Disk as disk
use Rattle.sqlite_store.specs.declared.store.FileStore.{FileStore}
use Rattle.sqlite.specs.{Recovery.Image, Tree.Trees}
use Rattle.desk_model.specs.{Decide.after, Entry.History, Legal.Legal, declared.call.Call.Call, declared.reply.Reply.Reply, Tables.Tables, Tables.picture}
use Rattle.store_api.specs.Sight.{Keeps}
use Rattle.desk_store.specs.{Desks.AreOfDesk, declared.store.Store.Store}
use Rattle.desk.specs.Seen.{Place, runs, rests, Seen, seen_reply, seen_fault, seen_stop, seen_end, seen_open, seen_failure, place_after, IsAt, IsSeen, MaySee}
use Rattle.desk.specs.{Answers.Exits, Answers.ExitsBy, declared.fault.DeskFault.DeskFault}
use Rattle.desk.specs.declared.fault.DeskFault.TheVariants as deskfault
use Rattle.desk.proofs.Living.{seen_is_of_calls}
use Rattle.desk_files.specs.LeftFiles.{LeftFiles, LeavesDesks, LeavesFound, file_sight, files_have}
use Rattle.desk_files.proofs.Finding.{in_todays, keeps_within, left_files_are_found, upgraded_files_are_found}
use Rattle.app_lives.specs.SeenFiles.{EndsBy, FailuresAreSeen, FilesAreSeen, IsFound, IsSeenOver, MaySeeNext, by_trees, place_bytes, with_bytes}
use Rattle.app_lives.proofs.Carried.{exit_within, in_place_within}

-- ---- what each exit leaves are tables of desks

-- trees of one of two desks are those of a desk
abbrev either_desk : (trees : Trees) (F : History) (call : Call) (P : Type 0) → AreOfDesk trees (picture F) ⊎ (P × AreOfDesk trees (picture (after F call)))
    → (T : Tables) × AreOfDesk trees T
either_desk trees F call P (inl was) = (picture F, was)
either_desk trees F call P (inr now) = (picture (after F call), now.1)

module _ {D : Type 0} (g : disk.Ghosts D) where
  -- what a store keeps alone
  kept_desks : (store : Store (FileStore D g)) (T : Tables) → Keeps (by_trees g) store T → LeavesDesks store
  kept_desks store T keeps trees leaves = (T, keeps.left trees leaves)

  -- after a fault
  fault_desks : (F : History) (call : Call) (why : DeskFault) (new : Store (FileStore D g)) → ExitsBy (by_trees g) F call why new → LeavesDesks new
  fault_desks F call deskfault.Device new is = λ trees leaves. either_desk trees F call _ (is trees leaves)
  fault_desks F call deskfault.Reopen new is = λ trees leaves. either_desk trees F call _ (is trees leaves)
  fault_desks F call deskfault.Memory new is = kept_desks new _ is.keeps
  fault_desks F call deskfault.NotADesk new is = kept_desks new _ is.keeps
  fault_desks F call deskfault.Moment new is = kept_desks new _ is.keeps
  fault_desks F call deskfault.ShortRandom new is = kept_desks new _ is.keeps
  fault_desks F call deskfault.Full new is = kept_desks new _ is.keeps
  fault_desks F call deskfault.NewerFormat new is = kept_desks new _ is.keeps

  -- after a call
  exit_desks : (F : History) (call : Call) (exit : Result Reply DeskFault) (new : Store (FileStore D g)) → Exits (by_trees g) F call exit new → LeavesDesks new
  exit_desks F call (Ok reply) new is = kept_desks new _ is.keeps
  exit_desks F call (Err why) new is = fault_desks F call why new is

  -- an end, by a stop or by closing
  end_found : (store : Store (FileStore D g)) (image : Image) → LeavesDesks store → EndsBy g store image → LeavesFound store image
  end_found store image desks (inl stop) = left_files_are_found store stop.numbered desks image stop.leaves
  end_found store image desks (inr found) = found

  -- ---- step by step

  -- what is seen next, with the database in the bytes that are left
  abbrev Found : Seen (Store (FileStore D g)) Image → Place (Store (FileStore D g)) LeftFiles → Type 0
  Found x place = ∥ ((y : Seen (Store (FileStore D g)) LeftFiles) × (with_bytes y ≡ x) × MaySee (file_sight g) y place) ∥₁

  -- of a desk that runs
  seen_on : (x : Seen (Store (FileStore D g)) Image) (old : Store (FileStore D g)) (F : History) → Legal F → Keeps (file_sight g) old (picture F)
      → MaySeeNext g x (runs old) → Found x (runs old)
  seen_on (seen_reply call reply new) old F legal keeps may =
      ∣ (seen_reply call reply new, refl, in_place_within _ files_have _ in_todays call old new (Ok reply) may) ∣₁
  seen_on (seen_fault call why new) old F legal keeps may =
      ∣ (seen_fault call why new, refl, in_place_within _ files_have _ in_todays call old new (Err why) may) ∣₁
  seen_on (seen_stop call exit new image) old F legal keeps may =
      let desks = exit_desks F call exit new (may.0.answers.exit may.0.honest F legal keeps.tables) in
      ∥∥₁_map (end_found new image desks may.1) (λ left. (
        seen_stop call exit new left.0,
        ap (λ i. seen_stop call exit new i) left.1,
        record { exits = exit_within _ files_have _ in_todays call old new exit may.0; left = left.2 },
      ))
  seen_on (seen_end image) old F legal keeps may =
      ∥∥₁_map (end_found old image (kept_desks old _ keeps.tables) may) (λ left. (seen_end left.0, ap (λ i. seen_end i) left.1, left.2))
  seen_on (seen_open new) old F legal keeps may = absurd may
  seen_on (seen_failure image) old F legal keeps may = absurd may

  -- of files that were left
  seen_off : (x : Seen (Store (FileStore D g)) Image) (files : LeftFiles) (F : History) → files_have files (picture F) → MaySeeNext g x (rests files.image)
      → Found x (rests files)
  seen_off (seen_open new) files F has may = ∣ (seen_open new, refl, may.opens files refl) ∣₁
  seen_off (seen_failure left) files F has may =
      ∥∥₁_map (may.leaves files refl (picture F) has) (λ found. (seen_failure found.0, ap (λ i. seen_failure i) found.1, found.2))
  seen_off (seen_reply call reply new) files F has may = absurd may
  seen_off (seen_fault call why new) files F has may = absurd may
  seen_off (seen_stop call exit new left) files F has may = absurd may
  seen_off (seen_end left) files F has may = absurd may

  -- of either
  seen_next : (x : Seen (Store (FileStore D g)) Image) (place : Place (Store (FileStore D g)) LeftFiles) (F : History) → Legal F → IsAt (file_sight g) F place
      → MaySeeNext g x (place_bytes place) → Found x place
  seen_next x (runs old) F legal at may = seen_on x old F legal at may
  seen_next x (rests files) F legal at may = seen_off x files F at may

  pub failures_are_seen : FailuresAreSeen g
  failures_are_seen conn image left numbered leaves may =
      record { leaves = λ files same T has. upgraded_files_are_found conn files T numbered has (leaves files same) left may }

  -- ---- all that is seen

  -- the place by the bytes is that of what is seen by the bytes
  same_place : (begun : Place (Store (FileStore D g)) LeftFiles) (found : List (Seen (Store (FileStore D g)) LeftFiles))
      → place_after (place_bytes begun) (map with_bytes found) ≡ place_bytes (place_after begun found)
  same_place begun [] = refl
  same_place begun (seen_reply call reply new ∷ earlier) = refl
  same_place begun (seen_fault call why new ∷ earlier) = refl
  same_place begun (seen_stop call exit new files ∷ earlier) = refl
  same_place begun (seen_end files ∷ earlier) = refl
  same_place begun (seen_open new ∷ earlier) = refl
  same_place begun (seen_failure files ∷ earlier) = refl

  -- what is seen from a place on
  abbrev SeenFrom : Place (Store (FileStore D g)) LeftFiles → List (Seen (Store (FileStore D g)) Image) → Type 0
  SeenFrom begun seen = ∥ ((found : List (Seen (Store (FileStore D g)) LeftFiles)) × (map with_bytes found ≡ seen) × IsSeen (file_sight g) begun found) ∥₁

  -- one after the other
  seen_from : (start : History) (begun : Place (Store (FileStore D g)) LeftFiles) (seen : List (Seen (Store (FileStore D g)) Image))
      → Legal start → IsAt (file_sight g) start begun → IsSeenOver g (place_bytes begun) seen → SeenFrom begun seen
  seen_from start begun [] legal at seen = ∣ ([], refl, tt) ∣₁
  seen_from start begun (x ∷ earlier) legal at seen =
      ∥∥₁_elim (seen_from start begun earlier legal at seen.1) squash₁ (λ found.
      let calls = seen_is_of_calls (file_sight g) start begun found.0 legal at found.2 in
      let place =
      subst (λ (seen : List (Seen (Store (FileStore D g)) Image)). MaySeeNext g x (place_after (place_bytes begun) seen)) (sym found.1) seen.0 in
      let may = subst (MaySeeNext g x) (same_place begun found.0) place in
      ∥∥₁_map (seen_next x _ _ calls.legal calls.at may) (λ next. (next.0 ∷ found.0, ap₂ (λ y ys. y ∷ ys) next.1 found.1, (next.2, found.2))))

  -- from the place where a life begins
  found_from : (start : History) (begun : Place (Store (FileStore D g)) LeftFiles) (seen : List (Seen (Store (FileStore D g)) Image))
      → Legal start → IsAt (file_sight g) start begun → IsSeenOver g (place_bytes begun) seen → ∥ IsFound g start (place_bytes begun) seen ∥₁
  found_from start begun seen legal at is =
      ∥∥₁_map (seen_from start begun seen legal at is)
      (λ it. record { begun = begun; begins = refl; at = at; found = it.0; shows = it.1; is_seen = it.2 })

  pub files_are_seen : FilesAreSeen g
  files_are_seen start (runs store) seen legal begins is =
      found_from start (runs store) seen legal (keeps_within _ files_have _ in_todays store (picture start) begins) is
  files_are_seen start (rests image) seen legal begins is =
      ∥∥₁_elim begins squash₁ (λ there.
      let over = subst (λ i. IsSeenOver g (rests i) seen) (sym there.1) is in
      subst (λ i. ∥ IsFound g start (rests i) seen ∥₁) there.1 (found_from start (rests there.0) seen legal there.2 over))
