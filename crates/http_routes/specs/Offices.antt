-- What office requests hand in, by their bodies; the problem of an order stands in json_texts.
use Rattle.std.specs.Prelude.{ℕ, List, codes, bytes_eq, Option, Some, None, option_map, option_and_then, if◌then◌else◌}
use Rattle.serde_json.specs.{Data.Data, Read.read, Find.get, Find.as_str}
use Rattle.desk_model.specs.{Payload.texts_in, Tokens.from_base64url, declared.call.FetchError.FetchError, declared.call.Finding.Finding}
use Rattle.desk_model.specs.declared.call.FetchError.TheVariants as error
use Rattle.desk_model.specs.declared.call.Finding.TheVariants as found

-- the body of the HTTP resource, in base64url (RFC 8555, 8.3)
abbrev pub body_in : Data → Option Finding
body_in d = option_map found.Body (option_and_then from_base64url (as_str d))

-- the TXT records, a list of strings (RFC 8555, 8.4)
abbrev pub records_in : Data → Option Finding
records_in d = option_map found.Records (texts_in d)

-- why the validator saw nothing (RFC 8555, 6.7)
abbrev pub fetch_error : List ℕ → Option FetchError
fetch_error name =
    if bytes_eq name (codes "connection") then Some error.Connection
    else (if bytes_eq name (codes "dns") then Some error.Dns
    else None)

abbrev pub error_in : Data → Option Finding
error_in d = option_map found.Error (option_and_then fetch_error (as_str d))

-- what the members `body`, `records` and `error` say, of which exactly one is there
abbrev pub finding_by : Option Data → Option Data → Option Data → Option Finding
finding_by (Some d) None None = body_in d
finding_by None (Some d) None = records_in d
finding_by None None (Some d) = error_in d
finding_by _ _ _ = None

abbrev pub finding_in : Data → Option Finding
finding_in d = finding_by (get (codes "body") d) (get (codes "records") d) (get (codes "error") d)

-- what the validator found, by the body of its report
abbrev pub finding : List ℕ → Option Finding
finding text = option_and_then finding_in (read text)
