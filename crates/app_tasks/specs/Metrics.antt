-- The text by which a desk that is served is watched (OpenMetrics 1.0).
use Rattle.std.specs.Prelude.{◌≡◌, ℕ, ◌++◌, List, [], ◌∷◌, Option, Some, None, codes, decimal, length, unwrap_or}
use Rattle.std.specs.{Io.KnownBytes.Appends, List.filter, List.flat_map}
use Rattle.app_reports.specs.About.{ahead}
use Rattle.desk_model.specs.{Authorization.is_pending, Tables.Tables, declared.rows.ChallengeRow.ChallengeRow, declared.rows.Counters.Counters}
use Rattle.http_routes.specs.declared.routes.Route.{Route}
use Rattle.http_routes.specs.declared.routes.Route.TheVariants as route
use Rattle.model_laws.specs.Ordered.{IsOrdered}
use Rattle.model_parts.specs.LookUps.{orders_processing, waiting_of}
use Rattle.app_tasks.specs.{Totals.calls_of, Totals.faults_of, declared.snapshot.Reading.Reading, declared.snapshot.Snapshot.Snapshot}
use Rattle.app_tasks.specs.{declared.totals.CallCounts.CallCounts, declared.totals.Totals.Totals}
use Rattle.app_tasks.specs.declared.metrics.TheConstants as head

-- ---- what is told

-- of these counters, and of so many rows that wait
abbrev pub snapshot_of : Reading → Counters → (challenges orders : ℕ) → Snapshot
snapshot_of r c challenges orders = record {
  served = r.served;
  counters = c;
  ahead = unwrap_or (ahead c.clock r.beside.now) 0;
  file = r.file;
  log = r.beside.log;
  challenges = challenges;
  orders = orders;
}

-- the challenges that are stored as waiting for the validator, under an authorization that is stored as pending
abbrev pub challenges_waiting : Tables → List ChallengeRow
challenges_waiting T = flat_map waiting_of (filter (λ a. is_pending a.status) T.authorizations)

-- of these tables, beside what is known otherwise
pub record IsSnapshotOf (r : Reading) (T : Tables) (s : Snapshot) : Type 0 where
  pub told : s ≡ snapshot_of r T.meta.counters s.challenges s.orders
  pub challenges : IsOrdered T → s.challenges ≡ length (challenges_waiting T)
  pub orders : s.orders ≡ length (orders_processing T)

-- ---- the text of it

-- what stands before a number, and the number
abbrev pub number_text : (before : List ℕ) → ℕ → List ℕ
number_text before n = before ++ (decimal n ++ codes "\n")

-- ---- calls

-- the routes of which calls are counted; None: whatever leads nowhere
unfoldable pub counted_routes : List (Option Route)
counted_routes =
    Some route.Directory ∷ Some route.NewNonce ∷ Some route.NewAccount ∷ Some route.KeyChange ∷ Some route.NewOrder ∷ Some route.Account
    ∷ Some route.Orders ∷ Some route.Order ∷ Some route.Finalize ∷ Some route.Cert ∷ Some route.Authz ∷ Some route.Chall ∷ Some route.Key
    ∷ Some route.ChallengeWork ∷ Some route.OrderWork ∷ Some route.Report ∷ Some route.Certify ∷ Some route.FailOrder ∷ Some route.RevokeAuthz
    ∷ Some route.RevokeAccount ∷ Some route.Page ∷ Some route.Look ∷ Some route.Metrics ∷ Some route.Backup ∷ None ∷ []

-- what a route is called: its paths, with `N` for their number
abbrev pub label_of : Option Route → List ℕ
label_of (Some route.Directory) = codes "/directory"
label_of (Some route.NewNonce) = codes "/new-nonce"
label_of (Some route.NewAccount) = codes "/new-account"
label_of (Some route.KeyChange) = codes "/key-change"
label_of (Some route.NewOrder) = codes "/new-order"
label_of (Some route.Account) = codes "/account/N"
label_of (Some route.Orders) = codes "/account/N/orders"
label_of (Some route.Order) = codes "/order/N"
label_of (Some route.Finalize) = codes "/order/N/finalize"
label_of (Some route.Cert) = codes "/cert/N"
label_of (Some route.Authz) = codes "/authz/N"
label_of (Some route.Chall) = codes "/chall/N"
label_of (Some route.Key) = codes "/office/key/N"
label_of (Some route.ChallengeWork) = codes "/office/challenges"
label_of (Some route.OrderWork) = codes "/office/orders"
label_of (Some route.Report) = codes "/office/report/N"
label_of (Some route.Certify) = codes "/office/certify/N"
label_of (Some route.FailOrder) = codes "/office/fail/N"
label_of (Some route.RevokeAuthz) = codes "/office/revoke-authz/N"
label_of (Some route.RevokeAccount) = codes "/office/revoke-account/N"
label_of (Some route.Page) = codes "/office/page"
label_of (Some route.Look) = codes "/office/look"
label_of (Some route.Metrics) = codes "/office/metrics"
label_of (Some route.Backup) = codes "/office/backup"
label_of None = codes "other"

-- how many calls of a route had a status of one class
abbrev pub class_text : (label class : List ℕ) → ℕ → List ℕ
class_text label class n =
    codes "desk_calls_total{route=\"" ++ (label ++ (codes "\",status=\"" ++ (class ++ (codes "\"} " ++ (decimal n ++ codes "\n")))))

-- the calls of one route, by what was sent
abbrev pub classes_text : (label : List ℕ) → CallCounts → List ℕ
classes_text label c =
    class_text label (codes "2xx") c.replies ++ (class_text label (codes "4xx") c.refusals
    ++ (class_text label (codes "5xx") c.inabilities ++ class_text label (codes "none") c.unsent))

unfoldable pub calls_text : Totals → Option Route → List ℕ
calls_text t r = classes_text (label_of r) (calls_of t r)

-- how long they took: microseconds, as so many times a millionth of a second
unfoldable pub seconds_text : Totals → Option Route → List ℕ
seconds_text t r = codes "desk_call_seconds_total{route=\"" ++ (label_of r ++ (codes "\"} " ++ (decimal (calls_of t r).micros ++ codes "e-6\n")))

abbrev pub slowest_text : (micros : ℕ) → List ℕ
slowest_text micros = head.SLOWEST.now ++ (decimal micros ++ codes "e-6\n")

-- ---- faults

unfoldable pub fault_numbers : List ℕ
fault_numbers = 20 ∷ 21 ∷ 22 ∷ 23 ∷ 24 ∷ 25 ∷ 26 ∷ 27 ∷ []

-- how many faults there were of one number
abbrev pub fault_count : (number count : ℕ) → List ℕ
fault_count number count = codes "desk_faults_total{number=\"" ++ (decimal number ++ (codes "\"} " ++ (decimal count ++ codes "\n")))

unfoldable pub fault_text : Totals → (number : ℕ) → List ℕ
fault_text t number = fault_count number (faults_of t number)

-- ---- all of it

-- what was counted
abbrev pub served_text : Totals → List ℕ
served_text t =
    number_text head.CONNECTIONS.now t.connections ++ (head.CALLS.now ++ (flat_map (calls_text t) counted_routes
    ++ (head.SECONDS.now ++ (flat_map (seconds_text t) counted_routes ++ (slowest_text t.slowest
    ++ (head.FAULTS.now ++ flat_map (fault_text t) fault_numbers))))))

-- the last numbers that the desk gave
abbrev pub made_text : Counters → List ℕ
made_text c =
    number_text head.ACCOUNTS.now c.accounts ++ (number_text head.ORDERS.now c.orders
    ++ (number_text head.AUTHORIZATIONS.now c.authorizations ++ number_text head.CHALLENGES.now c.challenges))

-- its clock, and how far that is ahead of the machine's
abbrev pub clock_text : (clock ahead : ℕ) → List ℕ
clock_text clock ahead = number_text head.CLOCK.now clock ++ number_text head.AHEAD.now ahead

-- its file and its log
abbrev pub files_text : (file log : ℕ) → List ℕ
files_text file log = number_text head.FILE.now file ++ number_text head.LOG.now log

-- what waits for the offices
abbrev pub waiting_text : (challenges orders : ℕ) → List ℕ
waiting_text challenges orders = number_text head.WAITING_CHALLENGES.now challenges ++ number_text head.WAITING_ORDERS.now orders

-- the whole text but its last line
abbrev pub metrics_text : Snapshot → List ℕ
metrics_text s =
    served_text s.served ++ (made_text s.counters ++ (clock_text s.counters.clock s.ahead
    ++ (files_text s.file s.log ++ waiting_text s.challenges s.orders)))

-- the snapshot of these tables was written
abbrev pub TellsMetrics : Reading → Tables → (was is : Option (List ℕ)) → Type 0
TellsMetrics r T was is = (s : Snapshot) × IsSnapshotOf r T s × Appends was is (metrics_text s)
