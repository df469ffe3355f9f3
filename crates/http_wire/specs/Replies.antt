-- The text of a reply, as one function of the base, the reply and whether only its head is sent.
use Rattle.std.specs.Prelude.{ℕ, List, [], ◌∷◌, ◌++◌, length, Bool, true, false, if◌then◌else◌, ◌&&◌, nat_le, nat_lt, not, Option, Some, None, codes, decimal}
use Rattle.std.specs.Prelude.{is_some, unwrap_or}
use Rattle.http.specs.StatusCode.{reason_phrase}
use Rattle.serde_json.specs.Written.{compact_text}
use Rattle.desk_model.specs.{Refusals.problem_document, declared.reply.Reply.Reply, declared.reply.Body.Body, declared.reply.Allow.Allow}
use Rattle.desk_model.specs.declared.reply.Body.TheVariants as body
use Rattle.desk_model.specs.declared.reply.Allow.TheVariants as allow

-- the end of a line (RFC 9112, 2.2)
abbrev pub crlf : List ℕ
crlf = 13 ∷ 10 ∷ []

-- the phrase of a status (RFC 9110, 15), as the crate `http` has it
unfoldable pub phrase : ℕ → List ℕ
phrase n = if nat_le 100 n && nat_lt n 1000 then unwrap_or (reason_phrase n) [] else []

-- the first line (RFC 9112, 4)
abbrev pub status_line : ℕ → List ℕ
status_line n = codes "HTTP/1.1 " ++ decimal n ++ codes " " ++ phrase n ++ crlf

-- ---- fields

-- a field (RFC 9112, 5)
abbrev pub field : List ℕ → List ℕ → List ℕ
field name value = name ++ codes ": " ++ value ++ crlf

-- a field, where there is a value
abbrev pub field_if : List ℕ → Option (List ℕ) → List ℕ
field_if name None = []
field_if name (Some value) = field name value

-- the methods that a path serves (RFC 9110, 10.2.1)
abbrev pub allow_field : Allow → List ℕ
allow_field allow.No = []
allow_field allow.Get = field (codes "Allow") (codes "GET")
allow_field allow.GetHead = field (codes "Allow") (codes "GET, HEAD")
allow_field allow.Post = field (codes "Allow") (codes "POST")

-- of a refusal that names them
abbrev pub body_allow : Body → List ℕ
body_allow (body.Problem p) = allow_field p.allow
body_allow _ = []

-- what keeps a reply from caches (RFC 8555, 7.2)
abbrev pub cache_line : Bool → List ℕ
cache_line is_given = if is_given then field (codes "Cache-Control") (codes "no-store") else []

-- a link (RFC 8288, 3)
abbrev pub link : List ℕ → List ℕ → List ℕ
link target kind = codes "Link: <" ++ target ++ codes ">;rel=\"" ++ kind ++ codes "\"" ++ crlf

-- the link to the directory (RFC 8555, 7.1)
abbrev pub index_line : Bool → List ℕ → List ℕ
index_line is_given base = if is_given then link (base ++ codes "/directory") (codes "index") else []

-- the link to a challenge's authorization (RFC 8555, 7.5.1)
abbrev pub up_link : Option (List ℕ) → List ℕ
up_link None = []
up_link (Some target) = link target (codes "up")

-- ---- the body, and what is said of it

-- the bytes of a body
abbrev pub body_bytes : Body → List ℕ
body_bytes body.Empty = []
body_bytes (body.Json d) = compact_text d
body_bytes (body.Problem p) = compact_text (problem_document p)
body_bytes (body.Certificate bytes) = bytes

-- a reply may have none
abbrev pub has_body : Body → Bool
has_body body.Empty = false
has_body _ = true

-- the length and the kind of a body of n bytes
abbrev pub content_fields : ℕ → List ℕ → List ℕ
content_fields n kind = field (codes "Content-Length") (decimal n) ++ field (codes "Content-Type") kind

-- what is said of a body of n bytes, where there is one
abbrev pub body_fields : Body → ℕ → List ℕ
body_fields body.Empty n = []
body_fields (body.Json d) n = content_fields n (codes "application/json")
body_fields (body.Problem p) n = content_fields n (codes "application/problem+json")
body_fields (body.Certificate bytes) n = content_fields n (codes "application/pem-certificate-chain")

-- the reply to newNonce alone has a nonce and no body (RFC 8555, 7.2)
abbrev pub is_new_nonce : Reply → Bool
is_new_nonce r = not (has_body r.body) && is_some r.nonce

-- the link to the directory stands with a refusal that says so, and else with a nonce
abbrev pub has_index : Body → Bool → Bool
has_index (body.Problem p) nonce = p.index
has_index _ nonce = nonce

-- ---- the reply

-- the status line and the fields up to those of the body
abbrev pub first_lines : Reply → ℕ → List ℕ
first_lines r n =
    status_line r.status
    ++ field (codes "Connection") (codes "close")
    ++ body_allow r.body
    ++ cache_line (is_new_nonce r)
    ++ body_fields r.body n

-- the links, the place and the nonce, and the empty line
abbrev pub last_lines : List ℕ → Reply → List ℕ
last_lines base r =
    index_line (has_index r.body (is_some r.nonce)) base
    ++ up_link r.up
    ++ field_if (codes "Location") r.location
    ++ field_if (codes "Replay-Nonce") r.nonce
    ++ crlf

-- the lines, and the body unless only the head is sent (RFC 9110, 9.3.2)
abbrev pub reply_bytes : List ℕ → Reply → Bool → List ℕ
reply_bytes base r head_only =
    first_lines r (length (body_bytes r.body)) ++ last_lines base r ++ (if head_only then [] else body_bytes r.body)
