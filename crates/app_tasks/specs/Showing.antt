-- What a desk that is served shows of itself: the text that a word writes over its file, by what is asked for.
use Rattle.std.specs.Prelude.{◌≡◌, ℕ, List, Option, Result, Ok, Err, OnOk, codes}
use Rattle.std.specs.Io.KnownBytes.{Appends}
use Rattle.app_page.specs.Page.{page_html}
use Rattle.app_reports.specs.{About.about_text, Printed.faults_text, Listed.PrintsAll, Listed.Roster, Listed.accounts_roster, Listed.authorizations_roster}
use Rattle.app_reports.specs.{Listed.orders_roster, declared.asked.AuthorizationFilter.AuthorizationFilter, declared.asked.OrderFilter.OrderFilter}
use Rattle.app_reports.specs.{declared.beside.Beside.Beside, declared.fault.ReportFault.ReportFault, declared.form.Form.Form}
use Rattle.app_reports.specs.declared.fault.ReportFault.TheVariants as reportfault
use Rattle.app_reports.specs.declared.form.Form.TheVariants as form
use Rattle.app_tasks.specs.{Metrics.TellsMetrics, Sending.SendsBackup, declared.snapshot.Reading.Reading}
use Rattle.desk.specs.{Looking.Shown, declared.looking.LookFault.LookFault}
use Rattle.desk.specs.declared.looking.LookFault.TheVariants as lookfault
use Rattle.desk_http.specs.Showing.{Shower, shower}
use Rattle.desk_model.specs.{Derived.status_faults, Name.Name, Tables.Tables, declared.status.OrderStatus.OrderStatus}
use Rattle.http_routes.specs.declared.{looked.Looked.Looked, looked.ReportForm.ReportForm}
use Rattle.http_routes.specs.declared.looked.Looked.TheVariants as looked
use Rattle.http_routes.specs.declared.looked.ReportForm.TheVariants as asks
use Rattle.store_api.specs.Sight.{ForTables, Sight}

-- ---- what is asked for, as a report has it

abbrev pub report_form : ReportForm → Form
report_form asks.Text = form.Text
report_form asks.Json = form.Json

abbrev pub orders_by : Option ℕ → Option OrderStatus → Option Name → OrderFilter
orders_by account status name = record { account = account; status = status; name = name }

abbrev pub authorizations_by : Option ℕ → Option Name → AuthorizationFilter
authorizations_by account name = record { account = account; name = name }

-- ---- before and behind what is shown

-- the type of a report (RFC 9110, 8.3)
abbrev pub kind_of_form : ReportForm → List ℕ
kind_of_form asks.Text = codes "text/plain; charset=utf-8"
kind_of_form asks.Json = codes "application/jsonl"

-- the type of what is shown
abbrev pub kind_of : Looked → List ℕ
kind_of looked.Page = codes "text/html; charset=utf-8"
kind_of (looked.Orders account status name f) = kind_of_form f
kind_of (looked.Accounts f) = kind_of_form f
kind_of (looked.Authorizations account name f) = kind_of_form f
kind_of (looked.Check f) = kind_of_form f
kind_of looked.About = codes "text/plain; charset=utf-8"
kind_of looked.Metrics = codes "application/openmetrics-text; version=1.0.0; charset=utf-8"
kind_of looked.Backup = codes "application/octet-stream"

-- the last line behind the whole of it
abbrev pub last_of : Looked → List ℕ
last_of looked.Page = codes "<!-- end -->\n"
last_of looked.Metrics = codes "# EOF\n"
last_of _ = codes "end\n"

-- ---- what is shown

-- how a look ends whose report ends so
abbrev pub look_fault : ReportFault → LookFault
look_fault (reportfault.Storage why) = lookfault.Storage why
look_fault reportfault.Output = lookfault.Output

abbrev pub look_ended : {R : Type 0} → Result R ReportFault → Result Unit LookFault
look_ended (Ok done) = Ok tt
look_ended (Err why) = Err (look_fault why)

module _ {S C : Type 0} (v : Sight S C) where
  -- a whole look wrote the text that the tables give
  abbrev pub ShowsText : (Tables → List ℕ) → Shown S
  ShowsText text was is old new result = ForTables v old new (λ T. OnOk result (Appends was is (text T)))

  -- or the rows of a list
  abbrev pub ShowsRows : {X : Type 0} → Roster X → Shown S
  ShowsRows r was is old new result = ForTables v old new (λ T. OnOk result (PrintsAll r was is T))

  -- or what is told about a desk, beside some moment of the machine and length of its log
  abbrev pub ShowsAbout : Shown S
  ShowsAbout was is old new result = (b : Beside) × ShowsText (about_text b) was is old new result

  -- or the numbers by which the desk is watched, beside what was counted and measured
  abbrev pub ShowsMetrics : Shown S
  ShowsMetrics was is old new result = (r : Reading) × ForTables v old new (λ T. OnOk result (TellsMetrics r T was is))

  -- or a backup of some file and log; the store was left alone
  abbrev pub ShowsBackup : Shown S
  ShowsBackup was is old new result = (new ≡ old) × OnOk result (SendsBackup was is)

  -- what is shown to whoever asks for this
  abbrev pub ShowsOf : Looked → Shown S
  ShowsOf looked.Page = ShowsText page_html
  ShowsOf (looked.Orders account status name f) = ShowsRows (orders_roster (orders_by account status name) (report_form f))
  ShowsOf (looked.Accounts f) = ShowsRows (accounts_roster (report_form f))
  ShowsOf (looked.Authorizations account name f) = ShowsRows (authorizations_roster (authorizations_by account name) (report_form f))
  ShowsOf (looked.Check f) = ShowsText (λ T. faults_text (report_form f) (status_faults T))
  ShowsOf looked.About = ShowsAbout
  ShowsOf looked.Metrics = ShowsMetrics
  ShowsOf looked.Backup = ShowsBackup

  -- that, with what stands before and behind it
  abbrev pub desk_shower : Shower S
  desk_shower = shower kind_of last_of ShowsOf
