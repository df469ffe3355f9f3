-- A look does to a desk no more than a call that is declined may do: nothing changes.
use Rattle.std.proofs.Common.{◌≡◌, Bool, true, false, Option, List, ℕ, Result, Ok, Err, refl, inl, inr}
use Rattle.desk_model.specs.{declared.call.Call.Call, Tables.picture}
use Rattle.desk_model.specs.declared.call.OfficeAsk.TheVariants as asks
use Rattle.store_api.specs.Sight.{Sight, Unchanged}
use Rattle.store_api.specs.declared.fault.StorageFault.TheVariants as storagefault
use Rattle.desk.specs.{Answers.Answers, Office.office_call, State.DeskState, declared.fault.DeskFault.DeskFault, Looking.Looks, Looking.LooksAt}
use Rattle.desk.specs.{Looking.LooksOpen, Looking.Shown, Meets.ActsOnce, Meets.AnswersOpen, declared.looking.LookFault.LookFault}
use Rattle.desk.specs.declared.fault.DeskFault.TheVariants as deskfault
use Rattle.desk.specs.declared.looking.LookFault.TheVariants as lookfault

-- a call that records nothing
abbrev some_call : Call
some_call = office_call 0 asks.Directory

-- the fault by which a call would have left the desk so
abbrev like : Result Unit LookFault → DeskFault
like (Err (lookfault.Storage storagefault.Device)) = deskfault.Device
like (Err (lookfault.Storage storagefault.Reopen)) = deskfault.Reopen
like x = deskfault.Memory

module _ {S C : Type 0} (v : Sight S C) where
  -- what stands is as a call left it for which there was no memory
  declined : (old new : S) → Unchanged v old new → Answers v some_call old new (Err deskfault.Memory)
  declined old new unchanged = record {
    formed = tt;
    honest = unchanged.honest;
    unchanged = λ opened. unchanged;
    exit = λ h F legal keeps. record {
      cause = tt;
      keeps = record { tables = unchanged.tables h (picture F) keeps.tables; left = λ c may. keeps.left c (unchanged.left h c may) };
    };
  }

  -- behind a look that did not close the desk the store stands
  stands_after : (old new : S) (result : Result Unit LookFault) → like result ≡ deskfault.Memory → Looks v old new result → Unchanged v old new
  stands_after old new (Ok done) opens looks = record { honest = looks.honest; left = looks.left; tables = looks.tables }
  stands_after old new (Err (lookfault.Storage storagefault.Device)) opens looks = absurd (cc opens)
  stands_after old new (Err (lookfault.Storage storagefault.Reopen)) opens looks = absurd (cc opens)
  stands_after old new result opens looks = record { honest = looks.honest; left = looks.left; tables = looks.after_fault refl }

  -- one that closed it is as a call that did
  answers_like : (old new : DeskState S) (result : Result Unit LookFault) (Shows : Shown S) (was is : Option (List ℕ))
      → LooksOpen v Shows was is old new result → AnswersOpen v some_call old new (Err (like result))
  answers_like old new (Ok done) Shows was is o =
      record { answers = declined old.store new.store (stands_after old.store new.store (Ok done) refl o.looks); flag = o.flag }
  answers_like old new (Err lookfault.Output) Shows was is o =
      record { answers = declined old.store new.store (stands_after old.store new.store (Err lookfault.Output) refl o.looks); flag = o.flag }
  answers_like old new (Err (lookfault.Storage storagefault.Memory)) Shows was is o =
      record {
        answers = declined old.store new.store (stands_after old.store new.store (Err (lookfault.Storage storagefault.Memory)) refl o.looks);
        flag = o.flag;
      }
  answers_like old new result Shows was is o =
      record {
        answers = record {
          formed = tt;
          honest = o.looks.honest;
          unchanged = λ opened. absurd (cc opened);
          exit = λ h F legal keeps c may. inl (keeps.left c (o.looks.left h c may));
        };
        flag = o.flag;
      }

  -- by whether the desk was open
  acts_by : (b : Bool) (old new : DeskState S) (result : Result Unit LookFault) (Shows : Shown S) (was is : Option (List ℕ)) → old.is_closed ≡ b
      → LooksAt v Shows was is old new result → ActsOnce v old new
  acts_by true old new result Shows was is closed l = inl ((l.when_closed closed).1.0)
  acts_by false old new result Shows was is opened l =
      inr (record {
        call = some_call;
        result = Err (like result);
        meets = record {
          when_open = λ opens. answers_like old new result Shows was is (l.when_open opens);
          when_closed = λ closed. absurd (cc (opened, closed));
          policy = l.policy;
        };
      })

  -- a look does to a desk nothing, or what a call does that is declined
  pub look_acts : (old new : DeskState S) (result : Result Unit LookFault) (Shows : Shown S) (was is : Option (List ℕ))
      → LooksAt v Shows was is old new result → ActsOnce v old new
  look_acts old new result Shows was is l = acts_by old.is_closed old new result Shows was is refl l
