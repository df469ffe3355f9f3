-- What is counted of a desk that is served.
use Rattle.std.specs.Prelude.{ℕ, ◌+◌, ◌-◌, ◌^◌, min, max, Bool, ◌&&◌, nat_le, nat_lt, if◌then◌else◌, Option, Some, None}
use Rattle.std.specs.Prelude.{slice_index, slice_index_or, slice_set, replicate}
use Rattle.http_routes.specs.declared.routes.Route.{Route}
use Rattle.http_routes.specs.declared.routes.Route.TheVariants as route
use Rattle.app_tasks.specs.declared.totals.{CallCounts.CallCounts, Sent.Sent, Totals.Totals}
use Rattle.app_tasks.specs.declared.totals.Sent.TheVariants as sent

-- the sum, which stops at the greatest number of 64 bits
abbrev pub added : ℕ → ℕ → ℕ
added n m = min (n + m) (2 ^ 64 - 1)

-- ---- the calls of a route

-- the place of a route; whatever leads nowhere has the last one
abbrev pub place : Option Route → ℕ
place (Some route.Directory) = 0
place (Some route.NewNonce) = 1
place (Some route.NewAccount) = 2
place (Some route.KeyChange) = 3
place (Some route.NewOrder) = 4
place (Some route.Account) = 5
place (Some route.Orders) = 6
place (Some route.Order) = 7
place (Some route.Finalize) = 8
place (Some route.Cert) = 9
place (Some route.Authz) = 10
place (Some route.Chall) = 11
place (Some route.Key) = 12
place (Some route.ChallengeWork) = 13
place (Some route.OrderWork) = 14
place (Some route.Report) = 15
place (Some route.Certify) = 16
place (Some route.FailOrder) = 17
place (Some route.RevokeAuthz) = 18
place (Some route.RevokeAccount) = 19
place (Some route.Page) = 20
place (Some route.Look) = 21
place (Some route.Metrics) = 22
place (Some route.Backup) = 23
place None = 24

-- what was sent with a status (RFC 9110, 15)
abbrev pub class_of : Option ℕ → Sent
class_of (Some status) = if nat_lt status 400 then sent.Reply else (if nat_lt status 500 then sent.Refusal else sent.Inability)
class_of None = sent.Nothing

-- one more call, by what was sent
abbrev pub counted_by : Sent → CallCounts → CallCounts
counted_by sent.Reply c = record c { replies = added c.replies 1 }
counted_by sent.Refusal c = record c { refusals = added c.refusals 1 }
counted_by sent.Inability c = record c { inabilities = added c.inabilities 1 }
counted_by sent.Nothing c = record c { unsent = added c.unsent 1 }

-- and by how long it took
abbrev pub counted : Sent → (micros : ℕ) → CallCounts → CallCounts
counted s micros c = record (counted_by s c) { micros = added c.micros micros }

abbrev pub no_calls : CallCounts
no_calls = record { replies = 0; refusals = 0; inabilities = 0; unsent = 0; micros = 0 }

-- ---- all that is counted

abbrev pub no_totals : Totals
no_totals = record { connections = 0; slowest = 0; calls = replicate 25 no_calls; faults = replicate 8 0 }

-- the calls of a route
abbrev pub calls_of : Totals → Option Route → CallCounts
calls_of t r = slice_index_or t.calls (place r) no_calls

abbrev pub with_connection : Totals → Totals
with_connection t = record t { connections = added t.connections 1 }

abbrev pub with_call : Option Route → Sent → (micros : ℕ) → Totals → Totals
with_call r s micros t = record t { calls = slice_set t.calls (place r) (counted s micros (calls_of t r)); slowest = max t.slowest micros }

-- a fault has one of the numbers 20 to 27
abbrev pub is_fault : ℕ → Bool
is_fault number = nat_le 20 number && nat_lt number 28

-- how many faults there were of a number
abbrev pub faults_of : Totals → (number : ℕ) → ℕ
faults_of t number = if is_fault number then slice_index t.faults (number - 20) else 0

abbrev pub with_fault : (number : ℕ) → Totals → Totals
with_fault number t =
    if is_fault number then record t { faults = slice_set t.faults (number - 20) (added (slice_index t.faults (number - 20)) 1) } else t
