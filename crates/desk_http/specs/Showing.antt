-- What a program shows of a desk that is served, in the place of a reply.
use Rattle.std.specs.Prelude.{◌≡◌, ℕ, ◌++◌, true, List, Option, Some, None, Result, Ok, Err, codes}
use Rattle.std.specs.{Io.KnownBytes.Appends, Io.KnownBytes.Keeps, declared.alloc.AllocError.AllocError}
use Rattle.store_api.specs.{Sight.Sight, declared.fault.StorageFault.StorageFault}
use Rattle.desk.specs.{Faults.storage_fault, Looking.LooksAt, Looking.Shown, State.DeskState, declared.looking.LookFault.LookFault}
use Rattle.desk.specs.declared.looking.LookFault.TheVariants as lookfault
use Rattle.http_routes.specs.declared.{looked.Looked.Looked, request.Request.Request}
use Rattle.http_routes.specs.declared.request.Request.TheVariants as request
use Rattle.desk_http.specs.declared.{serving.IoFault.IoFault, serving.Served.Served, overseeing.ReplySummary.ReplySummary}
use Rattle.desk_http.specs.declared.serving.Unanswered.TheVariants as cause
use Rattle.desk_http.specs.declared.serving.IoFault.TheVariants as iofault

-- of what is asked for: the type of what is shown, the last line of the whole of it, and what is so of the rest and of the store
pub record Shower (S : Type 0) : Type 1 where
  pub kind : Looked → List ℕ
  pub last : Looked → List ℕ
  pub Shows : Looked → Shown S

abbrev pub shower : {S : Type 0} → (kind last : Looked → List ℕ) (Shows : Looked → Shown S) → Shower S
shower kind last Shows = record { kind = kind; last = last; Shows = Shows }

-- what was read asks to be shown, where it asks for that
abbrev pub looked_in : Result Request AllocError → Option Looked
looked_in (Ok (request.Looks looked)) = Some looked
looked_in _ = None

-- what stands before it: no length, since the end of the connection ends it (RFC 9112, 6.3)
abbrev pub shown_head : (kind : List ℕ) → List ℕ
shown_head kind = codes "HTTP/1.1 200 OK\r\nConnection: close\r\nContent-Type: " ++ (kind ++ codes "\r\n\r\n")

-- the summary of its head
abbrev pub shown_summary : ReplySummary
shown_summary = record { status = 200; refusal = None; located = None }

-- all of it was written
abbrev pub whole : Served
whole = record { cause = None; written = true; summary = Some shown_summary }

-- the store failed before the end of it
abbrev pub cut_short : StorageFault → Served
cut_short why = record { cause = Some (cause.Desk (storage_fault why)); written = true; summary = Some shown_summary }

module _ {S C : Type 0} (v : Sight S C) (hook : Shower S) (asked : Looked) where
  -- how it ends: behind a whole look with the last line, unless the writer failed; else without it
  abbrev pub EndsLook : Result Unit LookFault → (mid after : Option (List ℕ)) → Result Served IoFault → Type 0
  EndsLook (Ok done) mid after (Ok served) = (served ≡ whole) × Appends mid after (hook.last asked)
  EndsLook (Ok done) mid after (Err why) = why ≡ iofault.Write
  EndsLook (Err lookfault.Output) mid after served = served ≡ Err iofault.Write
  EndsLook (Err (lookfault.Storage why)) mid after served = (served ≡ Ok (cut_short why)) × Keeps mid after

  -- behind its head the desk was looked at
  pub record ShowsBehind (begun after : Option (List ℕ)) (old new : DeskState S) (served : Result Served IoFault) : Type 0 where
    pub mid : Option (List ℕ)
    pub looked : Result Unit LookFault
    pub looks : LooksAt v (hook.Shows asked) begun mid old new looked
    pub ends : EndsLook looked mid after served

  -- the head was not written, and the desk is as it was; or it was, and behind it the desk was looked at
  pub data ShowsTo (before after : Option (List ℕ)) (old new : DeskState S) (served : Result Served IoFault) : Type 0 where
    headless : new ≡ old → served ≡ Err iofault.Write → ShowsTo before after old new served
    begun : (mid : Option (List ℕ)) → Appends before mid (shown_head (hook.kind asked)) → ShowsBehind mid after old new served
        → ShowsTo before after old new served
