-- The words of the program as calls to a desk, and what they leave of its files.
use Rattle.std.proofs.{KnownBytes.Appends-nil, Common.unwrap_or}
use Rattle.std.proofs.Common.{◌≡◌, ◌∙◌, ◌⊎◌, ℕ, zero, suc, List, [], ◌∷◌, ◌++◌, false, true, Option, None, Some, Result, Ok, Err, inl, inr, refl, subst, sym}
use Rattle.std.specs.Prelude.{IfSome}
use Rattle.sqlite.specs.{Files.over_files, Recovery.Image, Tree.Trees}
use Rattle.sqlite_disk.specs.declared.Disk as disk
use Rattle.sqlite_store.specs.declared.store.FileStore.{FileStore}
use Rattle.app_batch.specs.InTurn as batch
use Rattle.app_batch.specs.Said.{DeclinesTo, LacksMemory, RepliesTo, SaysNothing}
use Rattle.app_batch.specs.InTurn.{AnswersEach, AnswersFirst, AreLines, IsNextLine, Stops, StopsAt, StopsBehind, not_one, one_more, silent, unread, untold}
use Rattle.app_batch.specs.InTurn.{unwritten}
use Rattle.app_batch.specs.{LineRequests.IsRequestOf, LineRequests.call_of, declared.fault.AnswerFault.AnswerFault}
use Rattle.app_batch.specs.declared.fault.AnswerFault.TheVariants as answerfault
use Rattle.app_words.specs.declared.command.{Revocation.Revocation, Serving.Serving}
use Rattle.app_tasks.specs.Deeds.{Adopts, AnswersLines, AnswersReader, BehindClock, ByDesk, FailsToAdopt, IsTold, Revokes, RevokesTarget, Serves}
use Rattle.app_tasks.specs.Deeds.{ServesByMoment, ServesClients, ServesUnlessAhead, TakesAny, adopted, ask_of, clocked, clockless, served, unadopted, unserved}
use Rattle.app_tasks.specs.{Showing.desk_shower, declared.fault.Fault.Fault, Doing.Doing}
use Rattle.desk_http.specs.InTurn.{ServesConnections, ServesFewer, ServesMany, ServesUntil}
use Rattle.desk_http.specs.{Logged.LogEntry, Showing.Shower, declared.overseeing.Watch.Watch, declared.serve_fault.ServeFault.ServeFault}
use Rattle.desk_http.specs.declared.serve_fault.ServeFault.TheVariants as servefault
use Rattle.desk.specs.{Answers.is_closed_after, Meets.ActsOnce, Seen.Told, State.DeskState, declared.fault.DeskFault.DeskFault}
use Rattle.desk.specs.Office.{AnswersOffice, office_call}
use Rattle.desk_http.proofs.Seeing.{one_acts}
use Rattle.desk_model.specs.{Entry.History, History.terms, Legal.Legal, Tables.picture, declared.refusal.Refusal.Refusal, declared.reply.Reply.Reply}
use Rattle.store_api.proofs.Readings.{reads_then, unchanged_both}
use Rattle.store_api.specs.{Sight.Keeps, Sight.Sight, Sight.Unchanged, Storing.Causes}
use Rattle.desk_store.specs.{Desks.store_sight, declared.store.Store.Store}
use Rattle.app_files.specs.Endings.{IsDoneOver}
use Rattle.app_lives.specs.Told.{IsOfNext, TellsAny, TellsBatch, TellsLines, TellsRevocation, asked, no_line, not_shown, refused}
use Rattle.app_lives.specs.{Kept.Answered, Kept.HasLife, Left.IsOver, Left.LeavesDesk, Left.LeavesLife, Left.LivesOn, Left.WordsLeave}
use Rattle.app_lives.specs.Kept as kept
use Rattle.app_reports.specs.{Reported.Reports, declared.fault.ReportFault.ReportFault}
use Rattle.http_routes.specs.{Lines.Spells, Lines.line_text, declared.lines.Line.Line, declared.request.Request.Request}
use Rattle.http_routes.specs.declared.request.Request.TheVariants as request
use Rattle.app_lives.proofs.Copies.{copies_hold_desk, restored_hold_desk, stores_hold_desk}
use Rattle.app_lives.proofs.Chains.{Any, AreCalls, OrOneMore, honest_at_first, left_behind, no_call, none_more, of_calls, once_more, one_replied}
use Rattle.app_lives.proofs.Chains.{one_unanswered}

-- no line was read
none_read : (bytes : Option (List ℕ)) → IfSome bytes (λ xs. AreLines xs [] (unwrap_or bytes []))
none_read None = tt
none_read (Some xs) = batch.no_line

module _ {S C : Type 0} (v : Sight S C) where
  -- ---- lines

  -- a line that was answered
  one_line : (old mid new : DeskState S) (lines : List (List ℕ)) (said line : List ℕ) (reply : Reply) (l : Line) (q : Request)
      → Spells line l → IsRequestOf l q → RepliesTo v mid l q reply new → AreCalls v (TellsLines lines said) old mid
      → AreCalls v (TellsLines (lines ++ line ∷ []) (said ++ (line_text reply ++ 10 ∷ []))) old new
  one_line old mid new lines said line reply l (request.Asks what) spells asks replies before =
      record {
        told = record { call = call_of l what; reply = reply } ∷ before.told;
        answered = kept.one_more (call_of l what) reply before.answered replies;
        says = asked before.says line l what reply spells asks;
      }
  one_line old mid new lines said line reply l (request.Refused why) spells asks replies before =
      record {
        told = before.told;
        answered = subst (Answered v old before.told) (sym replies.1) before.answered;
        says = subst (λ r. TellsLines (lines ++ line ∷ []) (said ++ (line_text r ++ 10 ∷ [])) before.told) (sym replies.0)
            (refused before.says line l why spells asks);
      }
  one_line old mid new lines said line reply l (request.Looks looked) spells asks replies before =
      record {
        told = before.told;
        answered = subst (Answered v old before.told) (sym replies.1) before.answered;
        says = subst (λ r. TellsLines (lines ++ line ∷ []) (said ++ (line_text r ++ 10 ∷ [])) before.told) (sym replies.0)
            (not_shown before.says line l looked spells asks);
      }

  -- lines that were answered
  lines_calls : (old new : DeskState S) (lines : List (List ℕ)) (said : List ℕ) → AnswersEach v old lines said new
      → AreCalls v (TellsLines lines said) old new
  lines_calls old new lines said not_one = no_call v (TellsLines [] []) no_line old old refl
  lines_calls old new lines said (one_more {lines = first} {said = told} {line = line} {text = text} {mid = mid} before says) =
      subst (λ t. AreCalls v (TellsLines (first ++ line ∷ []) (told ++ (t ++ 10 ∷ []))) old new) (sym says.2)
      (one_line old mid new first told line says.0 says.1.line says.1.request says.1.spells says.1.asks says.1.replies
      (lines_calls old mid first told before))

  -- and one that was not
  module _ (P : List Told → Type 0) (bytes : Option (List ℕ)) (left line : List ℕ) (next : IsNextLine bytes left line) (old mid new : DeskState S)
      (before : AreCalls v P old mid) where
    replied_next : (reply : Reply) (l : Line) (q : Request) → Spells line l → IsRequestOf l q → RepliesTo v mid l q reply new
        → AreCalls v (OrOneMore v P (IsOfNext bytes left)) old new
    replied_next reply l (request.Asks what) spells asks replies =
        one_replied v P (IsOfNext bytes left) old mid new (call_of l what) reply replies
        (line, next, record { line = l; what = what; spells = spells; asks = asks; call = refl }) before
    replied_next reply l (request.Refused why) spells asks replies = none_more v P (IsOfNext bytes left) old mid new replies.1 before
    replied_next reply l (request.Looks looked) spells asks replies = none_more v P (IsOfNext bytes left) old mid new replies.1 before

    declined_next : (why : DeskFault) (l : Line) (q : Request) → DeclinesTo v mid l q why new → AreCalls v (OrOneMore v P (IsOfNext bytes left)) old new
    declined_next why l (request.Asks what) declines = one_unanswered v P (IsOfNext bytes left) old mid new (call_of l what) why declines before
    declined_next why l (request.Refused refusal) declines = absurd declines
    declined_next why l (request.Looks looked) declines = absurd declines

    lacking_next : LacksMemory v mid line new → AreCalls v (OrOneMore v P (IsOfNext bytes left)) old new
    lacking_next (inl same) = none_more v P (IsOfNext bytes left) old mid new same before
    lacking_next (inr is) = replied_next is.0 is.1.line is.1.request is.1.spells is.1.asks is.1.replies

    silent_next : (why : AnswerFault) → SaysNothing v mid line why new → AreCalls v (OrOneMore v P (IsOfNext bytes left)) old new
    silent_next answerfault.NotACall is = none_more v P (IsOfNext bytes left) old mid new is.1 before
    silent_next (answerfault.Desk why) is = declined_next why is.line is.request is.declines
    silent_next answerfault.Memory is = lacking_next is

    untold_next : (was is : Option (List ℕ)) → StopsAt v line was is mid new → AreCalls v (OrOneMore v P (IsOfNext bytes left)) old new
    untold_next was is (silent why says kept) = silent_next why says
    untold_next was is (unwritten text says) = replied_next says.0 says.1.line says.1.request says.1.spells says.1.asks says.1.replies

  stop_calls : (P : List Told → Type 0) (bytes : Option (List ℕ)) (left : List ℕ) (was is : Option (List ℕ)) (old mid new : DeskState S)
      → AreCalls v P old mid → Stops v bytes left was is mid new → AreCalls v (OrOneMore v P (IsOfNext bytes left)) old new
  stop_calls P bytes left was is old mid new before (unread same kept) = none_more v P (IsOfNext bytes left) old mid new same before
  stop_calls P bytes left was is old mid new before (untold line next stops) = untold_next P bytes left line next old mid new before was is stops

  -- the first lines of a reader, and one call more at most
  of_first : (bytes was written is : Option (List ℕ)) (left : List ℕ) (desk mid ended : DeskState S) (how : Result ℕ Fault)
      → (first : AnswersFirst v bytes was left written desk mid)
      → (are : AreCalls v (OrOneMore v (TellsLines first.lines first.said) (IsOfNext bytes left)) desk ended)
      → (how ≡ Ok 0 → (left ≡ []) × (are.told ≡ are.says.0)) → (is ≡ written) ⊎ (how ≡ Ok 1) → AreCalls v (TellsBatch bytes was is how) desk ended
  of_first bytes was written is left desk mid ended how first are whole ends =
      of_calls v (TellsBatch bytes was is how) are (record {
        lines = first.lines;
        unread = left;
        read = first.read;
        said = first.said;
        written = written;
        appended = first.written;
        telling = are.says.0;
        tells = are.says.1;
        all = are.says.2;
        whole = whole;
        ends = ends;
      })

  -- all lines of a reader, or the first ones
  all_lines : (bytes was is : Option (List ℕ)) (desk ended : DeskState S) (how : Result ℕ Fault) → AnswersFirst v bytes was [] is desk ended
      → AreCalls v (TellsBatch bytes was is how) desk ended
  all_lines bytes was is desk ended how first =
      let are : AreCalls v (TellsLines first.lines first.said) desk ended = lines_calls desk ended first.lines first.said first.answered in
      of_first bytes was is is [] desk ended ended how first
      (of_calls v (OrOneMore v (TellsLines first.lines first.said) (IsOfNext bytes [])) are (are.told, are.says, inl refl))
      (λ _. (refl, refl)) (inl refl)

  first_lines : (bytes was is : Option (List ℕ)) (desk ended : DeskState S) (how : Result ℕ Fault) → how ≡ Ok 1 → StopsBehind v bytes was is desk ended
      → AreCalls v (TellsBatch bytes was is how) desk ended
  first_lines bytes was is desk ended how one stops =
      let first : AnswersFirst v bytes was stops.left stops.written desk stops.mid = stops.first in
      of_first bytes was stops.written is stops.left desk stops.mid ended how first
      (stop_calls (TellsLines first.lines first.said) bytes stops.left stops.written is desk stops.mid ended
      (lines_calls desk stops.mid first.lines first.said first.answered) stops.stops) (λ none. absurd (cc (one, none))) (inr one)

  batch_calls : (bytes was is : Option (List ℕ)) (desk ended : DeskState S) (how : Result ℕ Fault) → AnswersLines v bytes was is desk ended how
      → AreCalls v (TellsBatch bytes was is how) desk ended
  batch_calls bytes was is desk ended how it =
      elim it.answers [
        | inl all ↦ all_lines bytes was is desk ended how all.1
        | inr first ↦ first_lines bytes was is desk ended how first.0 first.1
      ]

  -- nothing was read
  no_lines : (bytes was is : Option (List ℕ)) (why : Fault) → is ≡ was → TellsBatch bytes was is (Err why) []
  no_lines bytes was is why same = record {
    lines = [];
    unread = unwrap_or bytes [];
    read = none_read bytes;
    said = [];
    written = was;
    appended = Appends-nil was;
    telling = [];
    tells = no_line;
    all = inl refl;
    whole = λ none. absurd (cc none);
    ends = inl same;
  }

  -- ---- revocations

  -- the desk's answer, where it was not told as done but without a refusal
  not_refused : (answer : Result (Option Refusal) DeskFault) (refusal : Option Refusal) (how : Result ℕ Fault) → answer ≡ Ok refusal
      → IsTold answer how → how ≡ Ok 0 → refusal ≡ None
  not_refused (Ok None) refusal how is told well = cc is
  not_refused (Ok (Some r)) refusal how is told well = absurd (cc (told, well))
  not_refused (Err why) refusal how is told well = absurd (cc is)

  -- what an office asked of an open desk
  office_calls : (at : ℕ) (what : Revocation) (desk ended : DeskState S) (answer : Result (Option Refusal) DeskFault) (how : Result ℕ Fault)
      → desk.is_closed ≡ false → AnswersOffice v at (ask_of what) desk.store ended.store answer → ended.is_closed ≡ is_closed_after answer
      → ended.policy ≡ desk.policy → IsTold answer how → AreCalls v (TellsRevocation what at how) desk ended
  office_calls at what desk ended (Ok refusal) how running answers flag policy told =
      record {
        told = record { call = office_call at (ask_of what); reply = answers.0 } ∷ [];
        answered = kept.one_more (office_call at (ask_of what)) answers.0 kept.not_one (record {
          when_open = λ _. record { answers = answers.1; flag = flag };
          when_closed = λ closed. absurd (cc (running, closed));
          policy = policy;
        });
        says = inr (answers.0, refl, λ well. sym answers.2 ∙ not_refused (Ok refusal) refusal how refl told well);
      }
  office_calls at what desk ended (Err why) how running answers flag policy told =
      record {
        told = [];
        answered = kept.one_declined (office_call at (ask_of what)) why kept.not_one (record {
          when_open = λ _. record { answers = answers; flag = flag };
          when_closed = λ closed. absurd (cc (running, closed));
          policy = policy;
        });
        says = inl (refl, λ well. absurd (cc (told, well)));
      }

  revoke_calls : (what : Revocation) (at : ℕ) (desk ended : DeskState S) (how : Result ℕ Fault) → desk.is_closed ≡ false
      → Revokes v what at desk ended how → AreCalls v (TellsRevocation what at how) desk ended
  revoke_calls what at desk ended how running it = office_calls at what desk ended it.answer how running it.answers it.flag it.policy it.told

  -- ---- connections

  -- calls, and one more or none
  calls_on : (old mid new : DeskState S) → AreCalls v (Any v) old mid → ActsOnce v mid new → AreCalls v (Any v) old new
  calls_on old mid new before acts = of_calls v (Any v) (once_more v (Any v) old mid new before acts) tt

  module _ (causes : Causes S) (hook : Shower S) {O : Type 0} (takes : O → LogEntry → O → Type 0) where
    -- so many of them
    many_calls : (n : ℕ) (old new : DeskState S) (was is : Watch O) → ServesMany v causes hook takes n old was new is → AreCalls v (Any v) old new
    many_calls zero old new was is same = no_call v (Any v) tt old new same.0
    many_calls (suc n) old new was is many =
        calls_on old many.0 new (many_calls n old many.0 was many.1 many.2) (one_acts v causes hook takes None true many.0 new many.1 is many.3)

    -- up to one that ended the serving
    until_calls : (most : ℕ) (why : Option DeskFault) (old new : DeskState S) (was is : Watch O) → ServesUntil v causes hook takes most why old was new is
        → AreCalls v (Any v) old new
    until_calls most why old new was is it =
        calls_on old it.mid new (many_calls it.count old it.mid was it.between it.many)
        (one_acts v causes hook takes why it.kept it.mid new it.between is it.last)

    fewer_calls : (most : ℕ) (old new : DeskState S) (was is : Watch O) → ServesFewer v causes hook takes most old was new is → AreCalls v (Any v) old new
    fewer_calls most old new was is it = many_calls it.count old new was it.between it.many

    -- all, or up to one that ended the serving
    all_calls : (most : ℕ) (old new : DeskState S) (was is : Watch O) (ended : Result Unit ServeFault)
        → ServesConnections v causes hook takes most old was new is ended → AreCalls v (Any v) old new
    all_calls most old new was is (Ok all) it = many_calls most old new was is it
    all_calls most old new was is (Err (servefault.Desk why)) it = until_calls most (Some why) old new was is it
    all_calls most old new was is (Err servefault.Output) it = until_calls most None old new was is it
    all_calls most old new was is (Err servefault.Bind) it = fewer_calls most old new was is it
    all_calls most old new was is (Err servefault.Accept) it = fewer_calls most old new was is it
    all_calls most old new was is (Err servefault.Clock) it = fewer_calls most old new was is it
    all_calls most old new was is (Err servefault.Random) it = fewer_calls most old new was is it
    all_calls most old new was is (Err servefault.Replaced) it = fewer_calls most old new was is it

  serve_calls : (causes : Causes S) (s : Serving) (clock : ℕ) (desk ended : DeskState S) (how : Result ℕ Fault)
      → Serves v causes s clock desk ended how → AreCalls v (Any v) desk ended
  serve_calls causes s clock desk ended how (unserved same it) = no_call v (Any v) tt desk ended same
  serve_calls causes s clock desk ended how (served by bound seen all it) = all_calls causes (desk_shower v) TakesAny _ desk ended _ _ by all

  unless_ahead_calls : (causes : Causes S) (s : Serving) (now : Option ℕ) (clock : ℕ) (desk ended : DeskState S) (how : Result ℕ Fault)
      → ServesUnlessAhead v causes s now clock desk ended how → AreCalls v (Any v) desk ended
  unless_ahead_calls causes s now clock desk ended how (inl it) = no_call v (Any v) tt desk ended it.1
  unless_ahead_calls causes s now clock desk ended how (inr it) = serve_calls causes s clock desk ended how it.1

  start_calls : (causes : Causes S) (s : Serving) (now : Option ℕ) (clock : ℕ) (desk ended : DeskState S) (how : Result ℕ Fault)
      → ServesByMoment v causes s now clock desk ended how → AreCalls v (Any v) desk ended
  start_calls causes s now clock desk ended how (inl it) = no_call v (Any v) tt desk ended it.1
  start_calls causes s now clock desk ended how (inr it) = unless_ahead_calls causes s now clock desk ended how it.1

  -- ---- what is left behind a desk

  -- calls to a desk were replied to, of which this is so, and what is left has a life of them, and of one more at most
  record IsLeft (P : List Told → Type 0) (F : History) (old new : S) : Type 0 where
    pub told : List Told
    pub desk : DeskState S
    pub end : DeskState S
    pub adopts : Adopts v old desk ⊎ ((why : Fault) × FailsToAdopt v old new why × (told ≡ []))
    pub answered : Answered v desk told end
    pub is : end.store ≡ new
    pub left : (c : C) → v.leaves new c → HasLife v F told c
    pub says : P told

  -- so it is of what was done by a desk, if that was calls
  record IsByDesk (P : List Told → Type 0) (F : History) (old new : S) : Type 0 where
    pub honest : v.is_honest old
    pub left : Keeps v old (picture F) → IsLeft P F old new

  -- no desk was adopted
  by_none : (P : List Told → Type 0) → P [] → (F : History) → Legal F → (old new : S) (why : Fault) → FailsToAdopt v old new why
      → v.is_honest new → IsByDesk P F old new
  by_none P none F legal old new why fails honest =
      let d : DeskState S = record { store = new; policy = terms F; is_closed = false } in
      record {
        honest = fails.reads.honest honest;
        left = λ keeps. record {
          told = [];
          desk = d;
          end = d;
          adopts = inr (why, fails, refl);
          answered = kept.not_one;
          is = refl;
          left = λ c may.
              record { life = []; lives = legal; replies = refl; kept = inl refl; tables = keeps.left c (fails.reads.left honest c may) };
          says = none;
        };
      }

  -- the desk that was adopted has what the store had
  keeps_adopted : (F : History) (old : S) (desk : DeskState S) → Adopts v old desk → v.is_honest desk.store → Keeps v old (picture F)
      → Keeps v desk.store (picture F)
  keeps_adopted F old desk adopts honest keeps = record {
    tables = adopts.unchanged.tables honest (picture F) keeps.tables;
    left = λ c may. keeps.left c (adopts.unchanged.left honest c may);
  }

  -- a desk that is adopted once its clock is read is adopted over what there was
  adopts_behind : (old mid : S) (desk : DeskState S) → Unchanged v old mid → Adopts v mid desk → Adopts v old desk
  adopts_behind old mid desk unchanged adopts = record {
    unchanged = unchanged_both unchanged adopts.unchanged;
    policy = λ honest T held. adopts.policy honest T (unchanged.tables (adopts.unchanged.honest honest) T held);
    opened = adopts.opened;
  }

  -- and what is done by it is done by a desk, whether the clock was to be read or not
  behind_clock : (was is : Option (List ℕ)) (Does : ℕ → DeskState S → DeskState S → Result ℕ Fault → Type 0) (old new : S) (how : Result ℕ Fault)
      → BehindClock v was is (λ clock. ByDesk v was is (Does clock)) old new how
      → ByDesk v was is (λ desk ended outcome. (clock : ℕ) × Does clock desk ended outcome) old new how
  behind_clock was is Does old new how (clockless why fails same) = unadopted why fails same
  behind_clock was is Does old new how (clocked end clock mid unchanged found (unadopted why fails same)) =
      unadopted why (record { why = fails.why; reads = reads_then (Err fails.why) unchanged fails.reads; fault = fails.fault }) same
  behind_clock was is Does old new how (clocked end clock mid unchanged found (adopted outcome desk ended adopts does back)) =
      adopted outcome desk ended (adopts_behind old mid desk unchanged adopts) (clock, does) back

  by_desk : (P : Result ℕ Fault → List Told → Type 0) (was is : Option (List ℕ)) → ((why : Fault) → is ≡ was → P (Err why) [])
      → (Does : DeskState S → DeskState S → Result ℕ Fault → Type 0)
      → ((desk ended : DeskState S) (how : Result ℕ Fault) → desk.is_closed ≡ false → Does desk ended how → AreCalls v (P how) desk ended)
      → (F : History) → Legal F → (old new : S) (how : Result ℕ Fault) → ByDesk v was is Does old new how → v.is_honest new → IsByDesk (P how) F old new
  by_desk P was is none Does calls F legal old new how (unadopted why fails same) honest =
      by_none (P (Err why)) (none why same) F legal old new why fails honest
  by_desk P was is none Does calls F legal old new how (adopted outcome desk ended adopts does back) honest =
      let ends : v.is_honest ended.store = subst v.is_honest back honest in
      let are : AreCalls v (P outcome) desk ended = calls desk ended outcome adopts.opened does in
      let starts : v.is_honest desk.store = honest_at_first v desk ended are.told are.answered ends in
      record {
        honest = adopts.unchanged.honest starts;
        left = λ keeps. record {
          told = are.told;
          desk = desk;
          end = ended;
          adopts = inl adopts;
          answered = are.answered;
          is = sym back;
          left = λ c may.
              left_behind v F desk ended are.told are.answered ends adopts.opened legal (keeps_adopted F old desk adopts starts keeps) c
              (subst (λ s. v.leaves s c) back may);
          says = are.says;
        };
      }

module _ {D : Type 0} (g : disk.Ghosts D) where
  -- what may be said of a store over files
  abbrev stored : Sight (Store (FileStore D g)) Trees
  stored = store_sight (over_files {g = g})

  -- the opened store has the desk of the files
  keeps_opened : {bytes : Image} {does : Doing Fault} {how : Result ℕ Fault} (F : History) (done : IsDoneOver g bytes does how) → IsOver g F done
      → stored.is_honest done.opened → Keeps stored done.opened (picture F)
  keeps_opened F done over honest = (done.opens honest over.files over.opened (picture F) over.desk).tables

  -- what is left of a store over files by a word that is done by a desk
  left_over : {bytes : Image} {does : Doing Fault} {how : Result ℕ Fault} (P : List Told → Type 0) (F : History) (done : IsDoneOver g bytes does how)
      → IsOver g F done → IsByDesk stored P F done.opened done.ended → LeavesLife g P F done.opened done.ended
  left_over P F done over by =
      let it : IsLeft stored P F done.opened done.ended = by.left (keeps_opened F done over by.honest) in
      record {
        told = it.told;
        says = it.says;
        desk = it.desk;
        end = it.end;
        adopts = it.adopts;
        answered = it.answered;
        is = it.is;
        left = λ left may. it.left left.trees may;
      }

  -- a word that only read leaves what there was
  as_read : {R : Type 0} {bytes : Image} {does : Doing Fault} {how : Result ℕ Fault} {outcome : Result R ReportFault} (F : History)
      (done : IsDoneOver g bytes does how) → IsOver g F done → Reports stored done.opened done.ended outcome → LeavesDesk g F done.ended
  as_read F done over reads left may = (keeps_opened F done over (reads.honest over.honest)).left left.trees (reads.left over.honest left.trees may)

  -- each other word
  revoke_leaves : (what : Revocation) (at : ℕ) (was is : Option (List ℕ)) → LivesOn g (RevokesTarget what at was is) (TellsRevocation what at)
  revoke_leaves what at was is bytes how done F over =
      left_over (TellsRevocation what at how) F done over
      (by_desk stored (TellsRevocation what at) was is (λ why same. inl (refl, λ well. absurd (cc well))) (Revokes stored what at)
      (revoke_calls stored what at) F over.legal done.opened done.ended how done.did over.honest)

  batch_leaves : (bytes was is : Option (List ℕ)) → LivesOn g (AnswersReader bytes was is) (TellsBatch bytes was is)
  batch_leaves given was is bytes how done F over =
      left_over (TellsBatch given was is how) F done over
      (by_desk stored (TellsBatch given was is) was is (no_lines stored given was is) (AnswersLines stored given was is)
      (λ desk ended outcome running it. batch_calls stored given was is desk ended outcome it) F over.legal done.opened done.ended how done.did
      over.honest)

  serve_leaves : (s : Serving) (now : Option ℕ) (was is : Option (List ℕ)) → LivesOn g (ServesClients s now was is) TellsAny
  serve_leaves s now was is bytes how done F over =
      left_over (TellsAny how) F done over
      (by_desk stored TellsAny was is (λ why same. tt) (λ desk ended outcome. (clock : ℕ) × ServesByMoment stored _ s now clock desk ended outcome)
      (λ desk ended outcome running it. start_calls stored _ s now it.0 desk ended outcome it.1) F over.legal done.opened done.ended how
      (behind_clock stored was is (λ clock. ServesByMoment stored _ s now clock) done.opened done.ended how done.did) over.honest)

  pub words_leave : WordsLeave g
  words_leave = record {
    about = λ b was is bytes how done F over. as_read F done over done.did.reads;
    page = λ was is bytes how done F over. as_read F done over done.did.reads;
    status = λ filter f was is bytes how done F over. as_read F done over done.did.reads;
    accounts = λ f was is bytes how done F over. as_read F done over done.did.reads;
    authorizations = λ filter f was is bytes how done F over. as_read F done over done.did.reads;
    check = λ f was is bytes how done F over. as_read F done over done.did.reads;
    revoke = revoke_leaves;
    batch = batch_leaves;
    backup = copies_hold_desk g;
    restore = restored_hold_desk g;
    replaced = stores_hold_desk g;
    serve = serve_leaves;
  }
