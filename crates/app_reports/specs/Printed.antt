-- What the reports print.
use Rattle.std.specs.Prelude.{ℕ, ◌^◌, ◌-◌, false, List, [], ◌++◌, codes, decimal, map}
use Rattle.std.specs.{Fmt.format_spec, Fmt.padded, Fmt.padded_integral, List.flat_map}
use Rattle.desk_model.specs.Document.{account_status_text, authorization_status_text, challenge_status_text, order_status_text}
use Rattle.desk_model.specs.{Json.list, Keys.thumbprint, Moment.moment_text, Names.shown_name, Tokens.base64url}
use Rattle.desk_model.specs.declared.rows.{AccountRow.AccountRow, AuthorizationRow.AuthorizationRow, OrderRow.OrderRow, StatusFault.StatusFault}
use Rattle.desk_model.specs.declared.rows.StatusFault.TheVariants as fault
use Rattle.moments.specs.Capped.{capped}
use Rattle.serde_json.specs.{Data.string, Written.compact_text}
use Rattle.app_reports.specs.{Visible.visible, declared.form.Form.Form}
use Rattle.app_reports.specs.declared.form.Form.TheVariants as form

-- a line: the kind of the row, its number, the stored status and the one that its columns give
abbrev pub fault_line : Form → (kind : List ℕ) (number : ℕ) (stored derived : List ℕ) → List ℕ
fault_line form.Text kind number stored derived =
    kind ++ (codes " " ++ (decimal number ++ (codes ": stored " ++ (stored ++ (codes ", derived " ++ (derived ++ codes "\n"))))))
fault_line form.Json kind number stored derived =
    codes "{\"kind\":\"" ++
    (kind ++ (codes "\",\"number\":" ++
    (decimal number ++ (codes ",\"stored\":\"" ++ (stored ++ (codes "\",\"derived\":\"" ++ (derived ++ codes "\"}\n")))))))

-- that of a fault, with the statuses as RFC 8555 spells them
abbrev pub line_of : Form → StatusFault → List ℕ
line_of f (fault.Account number stored derived) = fault_line f (codes "account") number (account_status_text stored) (account_status_text derived)
line_of f (fault.Order number stored derived) = fault_line f (codes "order") number (order_status_text stored) (order_status_text derived)
line_of f (fault.Authz number stored derived) =
    fault_line f (codes "authz") number (authorization_status_text stored) (authorization_status_text derived)
line_of f (fault.Chall number stored derived) = fault_line f (codes "chall") number (challenge_status_text stored) (challenge_status_text derived)

-- those of faults
abbrev pub lines_of : Form → List StatusFault → List ℕ
lines_of f faults = flat_map (line_of f) faults

-- the whole list; as text, where there is none, a line says so
abbrev pub faults_text : Form → List StatusFault → List ℕ
faults_text form.Text [] = codes "no fault\n"
faults_text f faults = lines_of f faults

-- ---- rows of a table

-- a number, right in ten places
abbrev pub right_in_ten : ℕ → List ℕ
right_in_ten n = padded_integral (format_spec 32 3 0 10 (2 ^ 64 - 1)) false [] (decimal n)

-- a text, left in so many places
abbrev pub left_in : ℕ → List ℕ → List ℕ
left_in places text = padded (format_spec 32 1 0 places (2 ^ 64 - 1)) text

-- a line: the number of the order and its account's, its status, and the moment at which it expires
abbrev pub order_line : Form → OrderRow → List ℕ
order_line form.Text row =
    right_in_ten row.number ++ (codes " " ++ (right_in_ten row.account ++ (codes " " ++ (left_in 10 (order_status_text row.status)
    ++ (codes " " ++ (moment_text (capped row.expires) ++ codes "\n"))))))
order_line form.Json row =
    codes "{\"number\":" ++ (decimal row.number ++ (codes ",\"account\":" ++ (decimal row.account ++ (codes ",\"status\":\""
    ++ (order_status_text row.status ++ (codes "\",\"expires\":\"" ++ (moment_text (capped row.expires) ++ codes "\"}\n")))))))

-- a line: the number of an account, its status, the thumbprint of its key, and its contacts
abbrev pub account_text : (number : ℕ) (status thumb contacts : List ℕ) → List ℕ
account_text number status thumb contacts =
    (right_in_ten number ++ (codes " " ++ (left_in 11 status ++ (codes " " ++ (thumb ++ codes " "))))) ++ (contacts ++ codes "\n")

abbrev pub account_document : (number : ℕ) (status thumb contacts : List ℕ) → List ℕ
account_document number status thumb contacts =
    (codes "{\"number\":" ++ (decimal number ++ (codes ",\"status\":\"" ++ (status ++ codes "\",\"contact\":"))))
    ++ (contacts ++ (codes ",\"thumbprint\":\"" ++ (thumb ++ codes "\"}\n")))

-- the contacts are a list of JSON in visible ASCII
abbrev pub account_line : Form → AccountRow → List ℕ
account_line form.Text row =
    account_text row.number (account_status_text row.status) (base64url (thumbprint row.key)) (visible (compact_text (list (map string row.contacts))))
account_line form.Json row =
    account_document row.number (account_status_text row.status) (base64url (thumbprint row.key)) (visible (compact_text (list (map string row.contacts))))

-- a line: the number of the authorization and its account's, its status, the moment at which it expires, and its name
abbrev pub authorization_line : Form → AuthorizationRow → List ℕ
authorization_line form.Text row =
    right_in_ten row.number ++ (codes " " ++ (right_in_ten row.account ++ (codes " " ++ (left_in 11 (authorization_status_text row.status)
    ++ (codes " " ++ (moment_text (capped row.expires) ++ (codes " " ++ (shown_name row.name ++ codes "\n"))))))))
authorization_line form.Json row =
    codes "{\"number\":" ++ (decimal row.number ++ (codes ",\"account\":" ++ (decimal row.account ++ (codes ",\"name\":\"" ++ (shown_name row.name
    ++ (codes "\",\"status\":\"" ++ (authorization_status_text row.status ++ (codes "\",\"expires\":\"" ++ (moment_text (capped row.expires)
    ++ codes "\"}\n")))))))))

-- the last line, as text: what they are, and how many
abbrev pub count_line : Form → (noun : List ℕ) → ℕ → List ℕ
count_line form.Text noun count = noun ++ (codes " " ++ (decimal count ++ codes "\n"))
count_line form.Json noun count = []
