-- What the page shows of a desk.
use Rattle.std.specs.Prelude.{◌≡◌, ◌&&◌, ◌+◌, ◌-◌, ◌^◌, ◌++◌, ℕ, Bool, List, [], Option, codes, cond, decimal, length, map, min, nat_lt, take}
use Rattle.std.specs.{Io.KnownBytes.Appends, List.filter, List.flat_map, List.list_any}
use Rattle.desk_model.specs.{Authorization.is_pending, Effect.is_overdue, Legal.is_processing_challenge, Moment.moment_text, Name.Name, Names.shown_name}
use Rattle.desk_model.specs.{Tables.Tables, Touched.is_past_order, declared.rows.AccountRow.AccountRow, declared.rows.AuthorizationRow.AuthorizationRow}
use Rattle.desk_model.specs.declared.rows.{ChallengeRow.ChallengeRow, Counters.Counters, Meta.Meta, OrderRow.OrderRow}
use Rattle.desk_model.specs.Document.{authorization_status_text, challenge_status_text, kind_text, listed_rows, order_status_text}
use Rattle.model_parts.specs.{Above.authorizations_above, Above.orders_above, LookUps.accounts_numbered, LookUps.wants_order}
use Rattle.model_parts.specs.declared.queries.OrdersWhere.TheVariants as orders
use Rattle.moments.specs.Capped.{capped}
use Rattle.app_reports.specs.About.{statuses_said}
use Rattle.app_page.specs.Html.{escaped}
use Rattle.app_page.specs.declared.texts.TheConstants as page

-- ---- cells

-- a text that a client gave; names are such texts, too, and so are contacts
abbrev pub code_html : List ℕ → List ℕ
code_html text = codes "<code>" ++ (escaped text ++ codes "</code> ")

abbrev pub name_html : Name → List ℕ
name_html name = code_html (shown_name name)

abbrev pub contacts_html : AccountRow → List ℕ
contacts_html account = flat_map code_html account.contacts

-- a challenge: its number, its type and its status
abbrev pub challenge_html : ChallengeRow → List ℕ
challenge_html row =
    codes "<span>" ++ (decimal row.number ++ (codes " " ++ (kind_text row.kind ++ (codes " " ++ (challenge_status_text row.status ++ codes "</span> ")))))

-- the first cells of a row: its number and its account's, its status, the moment at which it expires; the next cell begins behind them
abbrev pub begin_html : (number account : ℕ) (status : List ℕ) → List ℕ
begin_html number account status =
    codes "\n<tr><td>" ++ (decimal number ++ (codes "</td><td>" ++ (decimal account ++ (codes "</td><td class=\"" ++ (status ++ codes "\">")))))

abbrev pub cells_html : (number account : ℕ) (status : List ℕ) (expires : ℕ) → List ℕ
cells_html number account status expires =
    begin_html number account status ++ (status ++ (codes "</td><td>" ++ (moment_text (capped expires) ++ codes "</td><td>")))

-- ---- rows

-- an order with these names, whose account is this one
abbrev pub order_row_html : OrderRow → List Name → List AccountRow → List ℕ
order_row_html row names accounts =
    cells_html row.number row.account (order_status_text row.status) row.expires
    ++ (flat_map name_html names ++ (codes "</td><td>" ++ (flat_map contacts_html accounts ++ codes "</td></tr>")))

-- an order of these tables, with the names of the authorizations that it lists, and the contacts of its account
abbrev pub order_html : Tables → OrderRow → List ℕ
order_html T row = order_row_html row (map (λ a. a.name) (listed_rows T row)) (accounts_numbered T row.account)

-- an authorization with its name and its challenges
abbrev pub authorization_html : AuthorizationRow → List ℕ
authorization_html row =
    cells_html row.number row.account (authorization_status_text row.status) row.expires
    ++ (name_html row.name ++ (codes "</td><td>" ++ (flat_map challenge_html row.challenges ++ codes "</td></tr>")))

-- ---- tables

-- how many rows there are in all
abbrev pub count_html : ℕ → List ℕ
count_html count = codes "</tbody></table>\n<p>In all: " ++ (decimal count ++ codes "</p>\n")

-- what stands before a table, its first fifty rows, and how many there are in all
abbrev pub table_html : {X : Type 0} → (head : List ℕ) (html : X → List ℕ) → List X → List ℕ
table_html head html rows = head ++ (flat_map html (take 50 rows) ++ count_html (min (length rows) (2 ^ 64 - 1)))

-- a row behind so many others, where there is room
abbrev pub if_room : (count : ℕ) → List ℕ → List ℕ
if_room count text = cond (nat_lt count 50) text []

-- a row that is shown was written, where there was room, and the count is one more; or it is not, and nothing was
abbrev pub IsShown : (shown : Bool) (text : List ℕ) (was is : Option (List ℕ)) (count next : ℕ) → Type 0
IsShown shown text was is count next =
    Appends was is (cond shown (if_room count text) []) × (next ≡ cond shown (min (count + 1) (2 ^ 64 - 1)) count)

-- the first fifty rows were written, and so many there are in all
abbrev pub ShowsFirst : {X : Type 0} → (html : X → List ℕ) (was is : Option (List ℕ)) → List X → (count : ℕ) → Type 0
ShowsFirst html was is rows count = Appends was is (flat_map html (take 50 rows)) × (count ≡ min (length rows) (2 ^ 64 - 1))

-- ---- the page

-- an authorization that waits for the validator
abbrev pub waits_for_report : AuthorizationRow → Bool
waits_for_report row = is_pending row.status && list_any (λ c. is_processing_challenge c.status) row.challenges

-- the beginning, with the base and the clock
abbrev pub head_html : Meta → List ℕ
head_html m =
    page.HEAD.now ++ (escaped m.policy.base ++ (page.CLOCK.now ++ (moment_text (capped m.counters.clock) ++ page.COUNTS.now)))

-- what waits for the validator, and for the signing office; numbers begin with 1
abbrev pub waiting_html : Tables → List ℕ
waiting_html T =
    table_html page.UNREPORTED.now authorization_html (filter waits_for_report (authorizations_above T 0))
    ++ table_html page.PROCESSING.now (order_html T) (filter (wants_order orders.Processing) (orders_above T 0))

-- a moment a day later
abbrev pub soon_after : ℕ → ℕ
soon_after clock = min (clock + 86400) (2 ^ 64 - 1)

-- what is not final, and past its end at a moment
abbrev pub ending_html : ℕ → Tables → List ℕ
ending_html m T =
    table_html page.ENDING_ORDERS.now (order_html T) (filter (is_past_order m) (orders_above T 0))
    ++ table_html page.ENDING_AUTHORIZATIONS.now authorization_html (filter (is_overdue m) (authorizations_above T 0))

-- the last twenty orders, by the last number that was given
abbrev pub last_html : ℕ → Tables → List ℕ
last_html last T = table_html page.LAST_ORDERS.now (order_html T) (filter (wants_order orders.Any) (orders_above T (last - 20)))

-- the five tables, and the end
abbrev pub tables_html : Counters → Tables → List ℕ
tables_html c T = waiting_html T ++ (ending_html (soon_after c.clock) T ++ (last_html c.orders T ++ page.END.now))

-- the whole
abbrev pub page_html : Tables → List ℕ
page_html T = head_html T.meta ++ (statuses_said T ++ (page.COUNTED.now ++ tables_html T.meta.counters T))
