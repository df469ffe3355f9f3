-- What the operator asks of a desk that is served, and how that ends.
use Rattle.std.specs.Prelude.{◌≡◌, ◌⊎◌, ℕ, List, ◌++◌, Option, None, Some, Result, Ok, Err, codes, decimal}
use Rattle.std.specs.Io.KnownBytes.{Appends}
use Rattle.app_words.specs.declared.command.Revocation.{Revocation}
use Rattle.app_words.specs.declared.command.Revocation.TheVariants as revocation
use Rattle.app_tasks.specs.{Outcomes.outcome_of, declared.fault.Fault.Fault}
use Rattle.app_tasks.specs.declared.fault.Fault.TheVariants as fault
use Rattle.desk.specs.declared.fault.DeskFault.TheVariants as deskfault
use Rattle.desk_http.specs.declared.asking.Unheard.{Unheard}
use Rattle.desk_http.specs.declared.asking.Unheard.TheVariants as cause
use Rattle.desk_model.specs.declared.refusal.Refusal.{Refusal}

-- the request for it, which has no body (RFC 9112, 3)
abbrev pub request_of : Revocation → List ℕ
request_of (revocation.Authorization number) =
    codes "POST /office/revoke-authz/" ++ (decimal number ++ codes " HTTP/1.1\r\nHost: 127.0.0.1\r\nContent-Length: 0\r\n\r\n")
request_of (revocation.Account number) =
    codes "POST /office/revoke-account/" ++ (decimal number ++ codes " HTTP/1.1\r\nHost: 127.0.0.1\r\nContent-Length: 0\r\n\r\n")

-- the line that says that it is revoked
abbrev pub revoked_line : Revocation → List ℕ
revoked_line (revocation.Authorization number) = codes "authz " ++ (decimal number ++ codes " revoked\n")
revoked_line (revocation.Account number) = codes "account " ++ (decimal number ++ codes " revoked\n")

-- the line is written, or standard output failed
abbrev pub IsSaid : Revocation → Option (List ℕ) → Option (List ℕ) → Result ℕ Fault → Type 0
IsSaid what was is how = ((how ≡ Ok 0) × Appends was is (revoked_line what)) ⊎ (how ≡ Err fault.Output)

-- what is told of a reply: where the desk has done it, that it is revoked; else nothing is written, and the end is the desk's refusal, or why there
-- is no reply
abbrev pub TellsReply : Revocation → Result (Option Refusal) Fault → Option (List ℕ) → Option (List ℕ) → Result ℕ Fault → Type 0
TellsReply what (Ok None) was is how = IsSaid what was is how
TellsReply what (Ok (Some refusal)) was is how = (how ≡ Err (fault.Refused refusal)) × (is ≡ was)
TellsReply what (Err why) was is how = (how ≡ Err why) × (is ≡ was)

-- what is heard of a reply by its bytes: what they say; or that they are no reply of a desk to that, or that there was no memory for them
abbrev pub IsHeard : Revocation → (reply : List ℕ) → Result (Option Refusal) Fault → Type 0
IsHeard what reply (Ok outcome) = outcome_of what reply ≡ Some outcome
IsHeard what reply (Err why) =
    ((outcome_of what reply ≡ None) × (why ≡ fault.Connection cause.Unanswered)) ⊎ (why ≡ fault.Desk deskfault.Memory)

-- what is heard of a desk that is asked: why there is no reply, or what one says
abbrev pub Hears : Revocation → Result (Option Refusal) Fault → Type 0
Hears what heard = ((why : Unheard) × (heard ≡ Err (fault.Connection why))) ⊎ ((reply : List ℕ) × IsHeard what reply heard)

-- how a revocation ends that a desk which is served was asked for: no reply of a desk came, and nothing was written; or one that refuses, and
-- nothing was; or the document of what is revoked, and that is said
pub data RevokesServed (what : Revocation) (was is : Option (List ℕ)) (how : Result ℕ Fault) : Type 0 where
  unheard :
      ((why : Unheard) × (how ≡ Err (fault.Connection why))) ⊎ (how ≡ Err (fault.Desk deskfault.Memory)) → is ≡ was → RevokesServed what was is how
  refused :
      (reply : List ℕ) (refusal : Refusal) → outcome_of what reply ≡ Some (Some refusal) → how ≡ Err (fault.Refused refusal) → is ≡ was
      → RevokesServed what was is how
  revoked : (reply : List ℕ) → outcome_of what reply ≡ Some None → IsSaid what was is how → RevokesServed what was is how
