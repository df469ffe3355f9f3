-- Words over the files that the one before left.
use Rattle.std.proofs.Common.{◌≡◌, ◌∙◌, ℕ, List, [], ◌∷◌, ◌++◌, Option, Result, true, ap₂, arith, inl, inr, refl, subst, sym}
use Rattle.std.proofs.Math.Logic.{∥∥₁_map}
use Rattle.sqlite.specs.{Files.over_files, Recovery.Image}
use Rattle.sqlite_disk.specs.declared.Disk as disk
use Rattle.app_tasks.specs.Deeds.{AnswersReader, ChecksStatuses, ListsRows, RevokesTarget, ServesClients, TellsAbout, TellsPage}
use Rattle.app_tasks.specs.{declared.fault.Fault.Fault, Doing.Doing}
use Rattle.desk.specs.Seen.{Told}
use Rattle.model_lives.proofs.Extends.{histories_are_legal}
use Rattle.desk_model.specs.Life.{Reopened, history, kept_calls}
use Rattle.desk_model.specs.{Entry.History, History.first_history, Legal.Legal, Tables.picture, Terms.Terms, Terms.are_terms}
use Rattle.desk_files.proofs.{Finding.in_todays, Finding.opening_keeps, Refused.if_there}
use Rattle.desk_files.specs.LeftFiles.{LeftFiles, file_sight}
use Rattle.desk_store.specs.Desks.{AreOfDesk, store_sight}
use Rattle.app_commands.specs.Statuses.{EndsBackUp, EndsRestore}
use Rattle.app_files.specs.{Endings.IsDoneOver, declared.left.Left.Left}
use Rattle.app_reports.specs.Listed.{accounts_roster, authorizations_roster, orders_roster}
use Rattle.app_lives.proofs.{Joined.history_on, Joined.kept_on, Joined.lives_on, Joined.replied_on, Leaving.words_leave}
use Rattle.app_lives.specs.Again.{BeginsLife, CopiesGoOn, GoesOn, HasLives, MayBeginLife, StaysOn, StaysUnopened, StaysUntilReplaced, WordsGoOn}
use Rattle.app_lives.specs.Left.{CopiesHoldDesk, IsOver, LeavesAsIs, LeavesLife, LivesOn, StoresHoldDesk, WordsLeave}
use Rattle.app_lives.specs.{Kept.HasLife, Told.TellsAny, Told.TellsBatch, Told.TellsRevocation}

-- the life of all words before has one more word
with_word : {D : Type 0} (g : disk.Ghosts D) (F : History) (words : List (List Told)) (files left : LeftFiles) (told : List Told)
    → (h : HasLives F words files) → HasLife (store_sight (over_files {g = g})) (history F h.life) told left.trees
    → HasLives F (told ∷ words) left
with_word g F words files left told h l = record {
  life = l.life ++ (Reopened ∷ h.life);
  lives = lives_on F h.life l.life h.lives l.lives;
  replies = replied_on h.life l.life ∙ ap₂ (λ later before. later ++ before) l.replies h.replies;
  kept = (kept_calls l.life, kept_calls h.life, kept_on h.life l.life, l.kept, h.kept);
  tables = subst (λ H. AreOfDesk left.trees (picture H)) (sym (history_on F h.life l.life)) l.tables;
}

-- a desk that was just made, by terms within their limits, has a legal history
made_is_legal : (policy : Terms) → are_terms policy ≡ true → Legal (first_history policy 0)
made_is_legal policy within = record {
  begins = tt;
  each = (record { allowed = within; formed = tt; in_order = omega arith; in_time = omega arith }, tt);
  numbered = refl;
}

-- and a life in which nothing was replied
life_begins : (policy : Terms) (left : LeftFiles) → are_terms policy ≡ true → AreOfDesk left.trees (picture (first_history policy 0))
    → HasLives (first_history policy 0) [] left
life_begins policy left within tables =
    record { life = []; lives = made_is_legal policy within; replies = refl; kept = refl; tables = tables }

-- files that have the tables of a life have it
has_same : (F : History) (words : List (List Told)) (files left : LeftFiles) (h : HasLives F words files)
    → AreOfDesk left.trees (picture (history F h.life)) → (still : HasLives F words left) × (still.life ≡ h.life)
has_same F words files left h tables =
    (record { life = h.life; lives = h.lives; replies = h.replies; kept = h.kept; tables = tables }, refl)

module _ {D : Type 0} (g : disk.Ghosts D) where
  begins_life : BeginsLife g
  begins_life policy within made makes honest left may = life_begins policy left within ((makes honest).tables.left left.trees may)

  may_begin_life : MayBeginLife g
  may_begin_life policy within bytes none cause un fails =
      if_there un.conn fails.unmade (λ conn leaves clean left may. elim ((leaves.empty clean none).left left.trees may) [
        | inl empty ↦ inl empty
        | inr desk ↦ inr (life_begins policy left within desk)
      ])

  stays_unopened : StaysUnopened g
  stays_unopened F words files h cause un fails =
      if_there un.conn fails.left (λ conn leaves clean left may.
      has_same F words files left h
      (subst (λ t. AreOfDesk t (picture (history F h.life)))
      (sym (opening_keeps files left.trees (picture (history F h.life)) h.tables (leaves clean files refl left.trees may))) h.tables))

  copies_go_on : (EndsCopy : Image → (was is : Option (List ℕ)) → Result ℕ Fault → Left D g → Type 0) → CopiesHoldDesk g EndsCopy → CopiesGoOn g EndsCopy
  copies_go_on EndsCopy holds F words files h was is left ends =
      let it =
      holds files.image was is left ends (history F h.life) files refl (in_todays files (picture (history F h.life)) h.tables) in (
        it.0,
        it.1,
        λ clean. ∥∥₁_map (it.2 clean) (λ found.
            let same = has_same F words files found.0 h found.2 in
            (found.0, found.1, same.0, same.1)),
      )

  stays_until_replaced : StoresHoldDesk g → StaysUntilReplaced g
  stays_until_replaced holds F words files h store opens honest left may =
      has_same F words files left h
      (holds files.image store opens honest (history F h.life) files refl (in_todays files (picture (history F h.life)) h.tables) left may)

  -- the word is over the desk that the life ends with
  is_over : {does : Doing Fault} {how : Result ℕ Fault} (F : History) (words : List (List Told)) (files : LeftFiles) (h : HasLives F words files)
      → (done : IsDoneOver g files.image does how) → (file_sight g).is_honest done.ended → IsOver g (history F h.life) done
  is_over F words files h done honest = record {
    legal = histories_are_legal F h.life h.lives;
    files = files;
    opened = refl;
    desk = in_todays files (picture (history F h.life)) h.tables;
    honest = honest;
  }

  -- a word that leaves the desk as it was
  desk_stays_on : (does : Doing Fault) → LeavesAsIs g does → StaysOn g does
  desk_stays_on does leaves F words files h how done honest left may =
      has_same F words files left h (leaves files.image how done (history F h.life) (is_over F words files h done honest) left may)

  -- a word that goes on with its life
  life_goes_on : (does : Doing Fault) (Says : Result ℕ Fault → List Told → Type 0) → LivesOn g does Says → GoesOn g does Says
  life_goes_on does Says leaves F words files h how done honest =
      let it : LeavesLife g (Says how) (history F h.life) done.opened done.ended =
      leaves files.image how done (history F h.life) (is_over F words files h done honest) in
      (it.told, it.says, λ left may. with_word g F words files left it.told h (it.left left may))

  pub words_go_on : WordsGoOn g
  words_go_on =
      let all : WordsLeave g = words_leave g in
      record {
        make = begins_life;
        unmade = may_begin_life;
        unopened = stays_unopened;
        backup = copies_go_on (EndsBackUp g) all.backup;
        restore = copies_go_on (EndsRestore g) all.restore;
        replaced = stays_until_replaced all.replaced;
        about = λ b was is. desk_stays_on (TellsAbout b was is) (all.about b was is);
        page = λ was is. desk_stays_on (TellsPage was is) (all.page was is);
        status = λ filter f was is. desk_stays_on (ListsRows (orders_roster filter f) was is) (all.status filter f was is);
        accounts = λ f was is. desk_stays_on (ListsRows (accounts_roster f) was is) (all.accounts f was is);
        authorizations = λ filter f was is.
            desk_stays_on (ListsRows (authorizations_roster filter f) was is) (all.authorizations filter f was is);
        check = λ f was is. desk_stays_on (ChecksStatuses f was is) (all.check f was is);
        revoke = λ what at was is. life_goes_on (RevokesTarget what at was is) (TellsRevocation what at) (all.revoke what at was is);
        batch = λ bytes was is. life_goes_on (AnswersReader bytes was is) (TellsBatch bytes was is) (all.batch bytes was is);
        serve = λ s now was is. life_goes_on (ServesClients s now was is) TellsAny (all.serve s now was is);
      }
