-- What a call promises by a part of what a stop leaves, it promises by the whole.
use Rattle.std.proofs.Common.{◌≡◌, Result, Ok, Err, inl, inr}
use Rattle.std.specs.Prelude.{IfErr, false}
use Rattle.desk_model.specs.{Entry.History, declared.call.Call.Call, declared.reply.Reply.Reply, Tables.Tables, Tables.picture}
use Rattle.store_api.specs.Sight.{Sight, Unchanged}
use Rattle.desk.specs.Answers.{Answers, Exits, ExitsBy, IsBroken, IsDeclined, IsEither}
use Rattle.desk.specs.{Faults.closes, declared.fault.DeskFault.DeskFault, Seen.IsExit, Seen.IsExitInPlace}
use Rattle.desk.specs.declared.fault.DeskFault.TheVariants as deskfault
use Rattle.desk_files.specs.LeftFiles.{sight_within}
use Rattle.desk_files.proofs.Finding.{keeps_within}

module _ {S C B : Type 0} (part : B → C) (has_in : B → Tables → Type 0) (v : Sight S C)
    (widens : (b : B) (T : Tables) → v.has (part b) T → has_in b T) where
  -- nothing changed
  store_unchanged_within : (old new : S) → Unchanged v old new → Unchanged (sight_within part has_in v) old new
  store_unchanged_within old new unchanged = record {
    honest = unchanged.honest;
    left = λ honest b. unchanged.left honest (part b);
    tables = λ honest T keeps. record { tables = unchanged.tables honest T keeps.tables; left = λ c leaves. keeps.left c (unchanged.left honest c leaves) };
  }

  -- a call that is not made
  declined_within : (F : History) (call : Call) (why : DeskFault) (new : S) → IsDeclined v F call why new
      → IsDeclined (sight_within part has_in v) F call why new
  declined_within F call why new is = record { cause = is.cause; keeps = keeps_within part has_in v widens new (picture F) is.keeps }

  -- the tables before, or those with the entries
  either_within : (F : History) (call : Call) (b : B) → IsEither v F call (part b) → IsEither (sight_within part has_in v) F call b
  either_within F call b (inl was) = inl (widens b (picture F) was)
  either_within F call b (inr now) = inr (now.0, widens b _ now.1)

  -- a stop leaves one of the two
  broken_within : (F : History) (call : Call) (new : S) → IsBroken v F call new → IsBroken (sight_within part has_in v) F call new
  broken_within F call new is = λ b leaves. either_within F call b (is (part b) leaves)

  -- the exit by a fault
  exits_by : (F : History) (call : Call) (why : DeskFault) (new : S) → ExitsBy v F call why new → ExitsBy (sight_within part has_in v) F call why new
  exits_by F call deskfault.Device new is = broken_within F call new is
  exits_by F call deskfault.Reopen new is = broken_within F call new is
  exits_by F call deskfault.Memory new is = declined_within F call deskfault.Memory new is
  exits_by F call deskfault.NotADesk new is = declined_within F call deskfault.NotADesk new is
  exits_by F call deskfault.Moment new is = declined_within F call deskfault.Moment new is
  exits_by F call deskfault.ShortRandom new is = declined_within F call deskfault.ShortRandom new is
  exits_by F call deskfault.Full new is = declined_within F call deskfault.Full new is
  exits_by F call deskfault.NewerFormat new is = declined_within F call deskfault.NewerFormat new is

  -- the exit of a call
  exits_within : (F : History) (call : Call) (result : Result Reply DeskFault) (new : S) → Exits v F call result new
      → Exits (sight_within part has_in v) F call result new
  exits_within F call (Ok reply) new is =
      record { faultless = is.faultless; decided = is.decided; stays_legal = is.stays_legal; keeps = keeps_within part has_in v widens new _ is.keeps }
  exits_within F call (Err why) new is = exits_by F call why new is

  -- a fault after which the desk goes on
  unchanged_within : (old new : S) (result : Result Reply DeskFault) → IfErr result (λ why. closes why ≡ false → Unchanged v old new)
      → IfErr result (λ why. closes why ≡ false → Unchanged (sight_within part has_in v) old new)
  unchanged_within old new (Ok reply) same = tt
  unchanged_within old new (Err why) same = λ goes_on. store_unchanged_within old new (same goes_on)

  -- an answer
  answers_within : (call : Call) (old new : S) (result : Result Reply DeskFault) → Answers v call old new result
      → Answers (sight_within part has_in v) call old new result
  answers_within call old new result answers = record {
    formed = answers.formed;
    honest = answers.honest;
    unchanged = unchanged_within old new result answers.unchanged;
    exit = λ honest F legal keeps. exits_within F call result new (answers.exit honest F legal keeps.tables);
  }

  -- an exit
  pub exit_within : (call : Call) (old new : S) (exit : Result Reply DeskFault) → IsExit v call old new exit
      → IsExit (sight_within part has_in v) call old new exit
  exit_within call old new exit is = record { honest = is.honest; answers = answers_within call old new exit is.answers }

  -- an exit after which the desk goes on
  pub in_place_within : (call : Call) (old new : S) (exit : Result Reply DeskFault) → IsExitInPlace v call old new exit
      → IsExitInPlace (sight_within part has_in v) call old new exit
  in_place_within call old new exit is = record { exits = exit_within call old new exit is.exits; opened = is.opened }
