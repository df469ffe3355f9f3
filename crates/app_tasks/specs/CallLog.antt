-- The lines of the log of calls.
use Rattle.std.specs.Prelude.{◌≡◌, ℕ, List, ◌++◌, Option, Some, None, codes, decimal}
use Rattle.std.specs.Io.KnownBytes.{Appends}
use Rattle.app_words.specs.declared.command.LogForm.{LogForm}
use Rattle.app_words.specs.declared.command.LogForm.TheVariants as form
use Rattle.desk_http.specs.Logged.{LogEntry}
use Rattle.desk_model.specs.Moment.{moment_text}
use Rattle.moments.specs.Capped.{capped}

-- the text of a number, or of none
abbrev pub number_text : LogForm → Option ℕ → List ℕ
number_text f (Some n) = decimal n
number_text form.Text None = codes "-"
number_text form.Json None = codes "null"

-- what tells of the request: when its call acted, its method and its path; no member of the document needs an escape
abbrev pub request_text : LogForm → LogEntry → List ℕ
request_text form.Text e = moment_text (capped e.at) ++ (codes " " ++ (e.method ++ (codes " " ++ e.path)))
request_text form.Json e =
    codes "\"moment\":\"" ++ (moment_text (capped e.at) ++ (codes "\",\"method\":\"" ++ (e.method ++ (codes "\",\"path\":\"" ++ (e.path
    ++ codes "\"")))))

-- the line of a connection that was served
abbrev pub entry_line : LogForm → LogEntry → List ℕ
entry_line form.Text e =
    request_text form.Text e ++ (codes " " ++ (number_text form.Text e.status ++ (codes " " ++ (number_text form.Text e.number
    ++ (codes " " ++ (number_text form.Text e.object ++ (codes " " ++ (number_text form.Text e.micros ++ codes "\n"))))))))
entry_line form.Json e =
    codes "{" ++ (request_text form.Json e ++ (codes ",\"status\":" ++ (number_text form.Json e.status ++ (codes ",\"number\":"
    ++ (number_text form.Json e.number ++ (codes ",\"object\":" ++ (number_text form.Json e.object ++ (codes ",\"microseconds\":"
    ++ (number_text form.Json e.micros ++ codes "}\n")))))))))

-- its line was written behind what was there, in the form that is asked for, or nothing
abbrev pub TakesLine : Option LogForm → (before : Option (List ℕ)) → LogEntry → (after : Option (List ℕ)) → Type 0
TakesLine (Some f) before e after = Appends before after (entry_line f e)
TakesLine None before e after = after ≡ before
