-- What a body asks to be shown: the report that a JSON object names, and the rows that its other members ask for.
use Rattle.std.specs.Prelude.{ℕ, List, [], ◌∷◌, Bool, ◌&&◌, ◌||◌, nat_le, codes, bytes_eq, Option, Some, None, option_map, option_and_then, find, if◌then◌else◌}
use Rattle.std.specs.List.{list_all}
use Rattle.serde_json.specs.Find.{as_number, as_object, as_str, as_u64, get}
use Rattle.serde_json.specs.{Data.Data, Data.Members, Data.no_members, Data.member, Read.read}
use Rattle.desk_model.specs.{Document.order_status_text, Keys.text_member, Limits.last_number, Lookup.holds, Name.Name, Names.name_of}
use Rattle.desk_model.specs.declared.status.OrderStatus.{OrderStatus}
use Rattle.desk_model.specs.declared.status.OrderStatus.TheVariants as order
use Rattle.http_routes.specs.declared.looked.{Kind.Kind, Looked.Looked, ReportForm.ReportForm}
use Rattle.http_routes.specs.declared.looked.Kind.TheVariants as kind
use Rattle.http_routes.specs.declared.looked.Looked.TheVariants as looked
use Rattle.http_routes.specs.declared.looked.ReportForm.TheVariants as form

-- ---- which report

-- the kind of a report by its name
abbrev pub kind_named : List ℕ → Option Kind
kind_named name =
    if bytes_eq name (codes "orders") then Some kind.Orders
    else (if bytes_eq name (codes "accounts") then Some kind.Accounts
    else (if bytes_eq name (codes "authorizations") then Some kind.Authorizations
    else (if bytes_eq name (codes "check") then Some kind.Check
    else (if bytes_eq name (codes "about") then Some kind.About
    else None))))

-- the member `report` has that name
abbrev pub kind_in : Data → Option Kind
kind_in d = option_and_then kind_named (text_member (codes "report") d)

-- the names of the members that a report takes
abbrev pub takes : Kind → List ℕ → Bool
takes kind.Orders name =
    bytes_eq name (codes "report") || bytes_eq name (codes "form") || bytes_eq name (codes "account") || bytes_eq name (codes "status")
    || bytes_eq name (codes "name")
takes kind.Accounts name = bytes_eq name (codes "report") || bytes_eq name (codes "form")
takes kind.Authorizations name =
    bytes_eq name (codes "report") || bytes_eq name (codes "form") || bytes_eq name (codes "account") || bytes_eq name (codes "name")
takes kind.Check name = bytes_eq name (codes "report") || bytes_eq name (codes "form")
takes kind.About name = bytes_eq name (codes "report")

-- the names of members
abbrev pub names : Members → List (List ℕ)
names no_members = []
names (member name d ms) = name ∷ names ms

-- the value is an object, and each of its members has a name that passes
abbrev pub has_only : (List ℕ → Bool) → Data → Bool
has_only test d = holds (λ ms. list_all test (names ms)) (as_object d)

-- ---- members that may be missing

-- what a member says, if it is there; None: it says nothing of the kind
abbrev pub if_there : {X : Type 0} → (Data → Option X) → Option Data → Option (Option X)
if_there says None = Some None
if_there says (Some d) = option_map Some (says d)

-- the form of a name
abbrev pub form_named : List ℕ → Option ReportForm
form_named name =
    if bytes_eq name (codes "text") then Some form.Text
    else (if bytes_eq name (codes "json") then Some form.Json
    else None)

abbrev pub form_in : Data → Option ReportForm
form_in d = option_and_then form_named (as_str d)

-- how a report is written: as lines for people where the member is missing
abbrev pub form_of : Option Data → Option ReportForm
form_of None = Some form.Text
form_of (Some d) = form_in d

-- a number that an object may have
abbrev pub object_number : ℕ → Option ℕ
object_number n = if nat_le 1 n && nat_le n last_number then Some n else None

-- an account by its number
abbrev pub account_in : Data → Option ℕ
account_in d = option_and_then object_number (option_and_then as_u64 (as_number d))

-- the statuses of orders (RFC 8555, 7.1.6)
abbrev pub statuses : List OrderStatus
statuses = order.Pending ∷ order.Ready ∷ order.Processing ∷ order.Valid ∷ order.Invalid ∷ []

-- the one of this text
abbrev pub status_named : List ℕ → Option OrderStatus
status_named text = find (λ s. bytes_eq text (order_status_text s)) statuses

abbrev pub status_in : Data → Option OrderStatus
status_in d = option_and_then status_named (as_str d)

-- a name by a text that stands for it (RFC 8555, 7.1.3)
abbrev pub name_in : Data → Option Name
name_in d = option_and_then name_of (as_str d)

-- ---- what is asked for

-- the orders of an account, of a status and for a name
abbrev pub orders_by : Option (Option ℕ) → Option (Option OrderStatus) → Option (Option Name) → ReportForm → Option Looked
orders_by (Some account) (Some status) (Some name) form = Some (looked.Orders account status name form)
orders_by _ _ _ form = None

abbrev pub orders_in : ReportForm → Data → Option Looked
orders_in form d =
    orders_by (if_there account_in (get (codes "account") d)) (if_there status_in (get (codes "status") d)) (if_there name_in (get (codes "name") d)) form

-- the authorizations of an account and for a name
abbrev pub authorizations_by : Option (Option ℕ) → Option (Option Name) → ReportForm → Option Looked
authorizations_by (Some account) (Some name) form = Some (looked.Authorizations account name form)
authorizations_by _ _ form = None

abbrev pub authorizations_in : ReportForm → Data → Option Looked
authorizations_in form d = authorizations_by (if_there account_in (get (codes "account") d)) (if_there name_in (get (codes "name") d)) form

-- a report of this kind and form
abbrev pub report_of : Kind → ReportForm → Data → Option Looked
report_of kind.Orders form d = orders_in form d
report_of kind.Accounts form d = Some (looked.Accounts form)
report_of kind.Authorizations form d = authorizations_in form d
report_of kind.Check form d = Some (looked.Check form)
report_of kind.About form d = Some looked.About

-- a report of this kind, of an object that has no other members than it takes
abbrev pub report_by : Kind → Data → Option Looked
report_by kind d = if has_only (takes kind) d then option_and_then (λ form. report_of kind form d) (form_of (get (codes "form") d)) else None

abbrev pub report_in : Data → Option Looked
report_in d = option_and_then (λ kind. report_by kind d) (kind_in d)

-- the report that the text of a JSON object asks for
abbrev pub report : List ℕ → Option Looked
report text = option_and_then report_in (read text)
