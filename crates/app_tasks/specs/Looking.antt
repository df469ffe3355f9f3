-- What a desk that is served is asked to report, and how that ends.
use Rattle.std.specs.Prelude.{◌≡◌, ◌⊎◌, ◌↔◌, ℕ, ◌++◌, List, [], Bool, true, false, IsTrue, Option, None, Some, Result, Ok, Err, codes, decimal, length}
use Rattle.std.specs.Prelude.{MatchOption, if◌then◌else◌, option_map}
use Rattle.std.specs.Io.KnownBytes.{Appends}
use Rattle.serde_json.specs.{Data.Data, Data.Members, Data.no_members, Data.number, Data.object, Data.put, Data.string, Data.unsigned, Read.read}
use Rattle.app_words.specs.declared.command.Report.{Report}
use Rattle.app_words.specs.declared.command.Report.TheVariants as report
use Rattle.app_reports.specs.declared.{asked.AuthorizationFilter.AuthorizationFilter, asked.OrderFilter.OrderFilter}
use Rattle.http_routes.specs.{Looked.object_number, Looked.report_in, declared.looked.Looked.Looked, declared.looked.ReportForm.ReportForm}
use Rattle.http_routes.specs.declared.looked.Looked.TheVariants as looked
use Rattle.http_routes.specs.declared.looked.ReportForm.TheVariants as asks
use Rattle.app_tasks.specs.Filters.{AreRight, AsksForAuthorizations, AsksForOrders, Given, StandsForName}
use Rattle.app_tasks.specs.declared.fault.Fault.{Fault}
use Rattle.app_tasks.specs.declared.fault.Fault.TheVariants as fault
use Rattle.desk.specs.declared.fault.DeskFault.TheVariants as deskfault
use Rattle.desk_http.specs.declared.asking.Unheard.{Unheard}

-- ---- what is asked for

-- the form of a report
abbrev pub asked_form : Bool → ReportForm
asked_form true = asks.Json
asked_form false = asks.Text

-- the words of a report ask for this
abbrev pub Wants : Report → Looked → Type 0
Wants report.About it = it ≡ looked.About
Wants report.Page it = it ≡ looked.Page
Wants (report.Orders listing) it =
    (filter : OrderFilter) × AsksForOrders listing filter × (it ≡ looked.Orders filter.account filter.status filter.name (asked_form listing.json))
Wants (report.Accounts json) it = it ≡ looked.Accounts (asked_form json)
Wants (report.Authorizations listing) it =
    (filter : AuthorizationFilter) × AsksForAuthorizations listing filter × (it ≡ looked.Authorizations filter.account filter.name (asked_form listing.json))
Wants (report.Check json) it = it ≡ looked.Check (asked_form json)

-- they are right
abbrev pub IsRight : Report → Type 0
IsRight (report.Orders listing) = AreRight listing
IsRight (report.Authorizations listing) = StandsForName listing.name
IsRight _ = Unit {0}

-- ---- the request

-- the word of a form
abbrev pub form_word : Bool → List ℕ
form_word true = codes "json"
form_word false = codes "text"

-- the text that words give, if they give one
abbrev pub given : Given → Option (List ℕ)
given text = option_map (λ t. t.now) text

-- a text, or a number, among members, if there is one
abbrev pub with_text : (name : List ℕ) → Option (List ℕ) → Members → Members
with_text name None others = others
with_text name (Some text) others = put name (string text) others

abbrev pub with_number : (name : List ℕ) → Option ℕ → Members → Members
with_number name None others = others
with_number name (Some n) others = put name (number (unsigned n)) others

-- the document that asks for a report of this name, in a form, of an account's rows, of those of a status and of those for a name
abbrev pub rows_document : (report : List ℕ) (form : Option (List ℕ)) (account : Option ℕ) (status name : Option (List ℕ)) → Data
rows_document report form account status name =
    object
    (with_text (codes "name") name
    (with_text (codes "status") status
    (with_number (codes "account") account (with_text (codes "form") form (put (codes "report") (string report) no_members)))))

-- that of a report, but for the page
abbrev pub document_of : Report → Option Data
document_of report.Page = None
document_of report.About = Some (rows_document (codes "about") None None None None)
document_of (report.Orders listing) =
    Some (rows_document (codes "orders") (Some (form_word listing.json)) listing.account (given listing.status) (given listing.name))
document_of (report.Accounts json) = Some (rows_document (codes "accounts") (Some (form_word json)) None None None)
document_of (report.Authorizations listing) =
    Some (rows_document (codes "authorizations") (Some (form_word listing.json)) listing.account None (given listing.name))
document_of (report.Check json) = Some (rows_document (codes "check") (Some (form_word json)) None None None)

-- the request whose body this is (RFC 9112, 3)
abbrev pub look_request : (body : List ℕ) → List ℕ
look_request body =
    codes "POST /office/look HTTP/1.1\r\nHost: 127.0.0.1\r\nContent-Length: " ++ (decimal (length body) ++ (codes "\r\n\r\n" ++ body))

-- that for the page, which has none
abbrev pub page_request : List ℕ
page_request = codes "GET /office/page HTTP/1.1\r\nHost: 127.0.0.1\r\n\r\n"

-- the request for a report
abbrev pub Requests : Report → List ℕ → Type 0
Requests r request =
    MatchOption (document_of r) (request ≡ page_request)
    (λ d. (body : List ℕ) × (request ≡ look_request body) × (read body ≡ Some d))

-- the account whose rows are asked for, if there is one, has a number that an account may have
abbrev pub IsNumbered : Option ℕ → Type 0
IsNumbered account = (n : ℕ) → account ≡ Some n → object_number n ≡ Some n

abbrev pub IsOfAccount : Report → Type 0
IsOfAccount (report.Orders listing) = IsNumbered listing.account
IsOfAccount (report.Authorizations listing) = IsNumbered listing.account
IsOfAccount _ = Unit {0}

-- what a report is asked for by says what its words ask for
abbrev pub LooksAreRead : Type 0
LooksAreRead = (r : Report) (it : Looked) → IsOfAccount r → Wants r it → MatchOption (document_of r) (it ≡ looked.Page) (λ d. report_in d ≡ Some it)

-- ---- how it ends

-- the list of wrong statuses that has none
abbrev pub nothing_of : Report → List ℕ
nothing_of (report.Check false) = codes "no fault\n"
nothing_of _ = []

-- how a report that was shown ends, by whether it is that list
abbrev pub shown_status : Report → Bool → ℕ
shown_status (report.Check json) is_nothing = if is_nothing then 0 else 3
shown_status _ is_nothing = 0

-- how a report ends that was asked for rightly: nothing was written where there was no memory; where the desk did not show all of it, what it
-- showed was; standard output failed; or all was written, and where that lists a wrong status, it ends by 3
pub data LooksShown (r : Report) (was is : Option (List ℕ)) (how : Result ℕ Fault) : Type 0 where
  unasked : how ≡ Err (fault.Desk deskfault.Memory) → is ≡ was → LooksShown r was is how
  unheard : (why : Unheard) (part : List ℕ) → how ≡ Err (fault.Connection why) → Appends was is part → LooksShown r was is how
  unwritten : how ≡ Err fault.Output → LooksShown r was is how
  shown : (whole : List ℕ) (is_nothing : Bool) → Appends was is whole → (IsTrue is_nothing ↔ (whole ≡ nothing_of r))
      → how ≡ Ok (shown_status r is_nothing) → LooksShown r was is how

-- how one ends that a desk which is served was asked for: by 2 where its words are wrong, and there alone
abbrev pub LooksServed : Report → (was is : Option (List ℕ)) → Result ℕ Fault → Type 0
LooksServed r was is how = ((IsRight r → ⊥) × (how ≡ Ok 2) × (is ≡ was)) ⊎ LooksShown r was is how
