-- What is said to the lines of a batch, and the replies that it tells.
use Rattle.std.specs.Prelude.{◌≡◌, ◌≢◌, ◌⊎◌, ℕ, List, [], ◌∷◌, ◌++◌, Option, None, IfSome, Result, Ok}
use Rattle.std.specs.Io.KnownBytes.{Appends}
use Rattle.app_batch.specs.{InTurn.AreLines, InTurn.IsNextLine, LineRequests.IsRequestOf, LineRequests.call_of}
use Rattle.app_words.specs.declared.command.Revocation.{Revocation}
use Rattle.app_tasks.specs.{Deeds.ask_of, declared.fault.Fault.Fault}
use Rattle.desk.specs.{Office.office_call, Office.refusal_in, Seen.Told}
use Rattle.desk_model.specs.declared.{call.Ask.Ask, reply.Reply.Reply}
use Rattle.http_routes.specs.{Lines.Spells, Lines.line_text, Request.refused_reply, Request.unshown, declared.lines.Line.Line, declared.looked.Looked.Looked}
use Rattle.http_routes.specs.{declared.request.RequestRefusal.RequestRefusal}
use Rattle.http_routes.specs.declared.request.Request.TheVariants as request

-- these texts were said to these lines, each with its end, and tell these replies, the latest first: to a line that asks something the
-- text of its reply, to another one, also one that asks to be shown something, the refusal of its request, which is no reply of the desk's
pub data TellsLines : (lines : List (List ℕ)) (said : List ℕ) (told : List Told) → Type 0 where
  no_line : TellsLines [] [] []
  asked :
      {lines : List (List ℕ)} {said : List ℕ} {told : List Told} → TellsLines lines said told
      → (bytes : List ℕ) (l : Line) (what : Ask) (reply : Reply) → Spells bytes l → IsRequestOf l (request.Asks what)
      → TellsLines (lines ++ bytes ∷ []) (said ++ (line_text reply ++ 10 ∷ [])) (record { call = call_of l what; reply = reply } ∷ told)
  refused :
      {lines : List (List ℕ)} {said : List ℕ} {told : List Told} → TellsLines lines said told
      → (bytes : List ℕ) (l : Line) (why : RequestRefusal) → Spells bytes l → IsRequestOf l (request.Refused why)
      → TellsLines (lines ++ bytes ∷ []) (said ++ (line_text (refused_reply why) ++ 10 ∷ [])) told
  not_shown :
      {lines : List (List ℕ)} {said : List ℕ} {told : List Told} → TellsLines lines said told
      → (bytes : List ℕ) (l : Line) (asked : Looked) → Spells bytes l → IsRequestOf l (request.Looks asked)
      → TellsLines (lines ++ bytes ∷ []) (said ++ (line_text (refused_reply unshown) ++ 10 ∷ [])) told

-- a reply of the desk's to what this line asks
pub record IsOfLine (bytes : List ℕ) (told : Told) : Type 0 where
  pub line : Line
  pub what : Ask
  pub spells : Spells bytes line
  pub asks : IsRequestOf line (request.Asks what)
  pub call : told.call ≡ call_of line what

-- to the first of these last lines of a reader, where its bytes are known
abbrev pub IsOfNext : (bytes : Option (List ℕ)) → (unread : List ℕ) → Told → Type 0
IsOfNext bytes unread told = (line : List ℕ) × IsNextLine bytes unread line × IsOfLine line told

-- the lines were read of a reader with these bytes, where they are known, and what was said to them was written behind these; the replies
-- of the desk are those, and one more at most, to the next line, which was not said. With 0 every line was read, and each reply said, and nothing else was
-- written; with 1 a text may be written in part
pub record TellsBatch (bytes was is : Option (List ℕ)) (how : Result ℕ Fault) (told : List Told) : Type 0 where
  pub lines : List (List ℕ)
  pub unread : List ℕ
  pub read : IfSome bytes (λ xs. AreLines xs lines unread)
  pub said : List ℕ
  pub written : Option (List ℕ)
  pub appended : Appends was written said
  pub telling : List Told
  pub tells : TellsLines lines said telling
  pub all : (told ≡ telling) ⊎ ((last : Told) × (told ≡ last ∷ telling) × IsOfNext bytes unread last)
  pub whole : how ≡ Ok 0 → (unread ≡ []) × (told ≡ telling)
  pub ends : (is ≡ written) ⊎ (how ≡ Ok 1)

-- the desk replied to the revocation of this target at this moment, and refused nothing where that is told as done; or it did not reply,
-- which is not told so
abbrev pub TellsRevocation : Revocation → (at : ℕ) → Result ℕ Fault → List Told → Type 0
TellsRevocation what at how told =
    ((told ≡ []) × (how ≢ Ok 0))
    ⊎ ((reply : Reply) × (told ≡ record { call = office_call at (ask_of what); reply = reply } ∷ []) × (how ≡ Ok 0 → refusal_in reply.body ≡ None))

-- whatever it replied to
abbrev pub TellsAny : Result ℕ Fault → List Told → Type 0
TellsAny how told = Unit {0}
