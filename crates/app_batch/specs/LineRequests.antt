-- What the line of a batch asks: the bytes of its request, read as those of a connection are.
use Rattle.std.specs.Prelude.{◌≡◌, ◌++◌, ℕ, Bool, true, false, ◌&&◌, List, length, codes, decimal}
use Rattle.desk_model.specs.declared.call.{Ask.Ask, Call.Call}
use Rattle.desk_model.specs.declared.refusal.Refusal.TheVariants as refusal
use Rattle.desk_model.specs.declared.reply.Allow.TheVariants as allow
use Rattle.http_routes.specs.{Request.refused_request, Routes.is_visible, declared.lines.Line.Line, declared.request.Request.Request}
use Rattle.http_routes.specs.declared.request.Request.TheVariants as request
use Rattle.http_wire.specs.Spelled.{Spells}

-- the head of a request with so long a body: the request line, and the length
abbrev pub head_bytes : (method path : List ℕ) → ℕ → List ℕ
head_bytes method path len =
    method ++ (codes " " ++ (path ++ (codes " HTTP/1.1\r\nContent-Length: " ++ (decimal len ++ codes "\r\n\r\n"))))

-- the bytes of a line's request
abbrev pub request_bytes : Line → List ℕ
request_bytes l = head_bytes l.method l.path (length l.body) ++ l.body

-- a method and a path of visible characters
abbrev pub are_visible : Line → Bool
are_visible l = is_visible l.method && is_visible l.path

-- what the line asks, or how it is refused: its characters are looked at first, and then its bytes are read, whatever they are
pub data IsRequestOf (l : Line) : Request → Type 0 where
  ill_formed : are_visible l ≡ false → IsRequestOf l (request.Refused (refused_request refusal.Malformed allow.No true))
  spelled : (r : Request) → are_visible l ≡ true → Spells (request_bytes l) r → IsRequestOf l r

-- the call of a line that asks this
abbrev pub call_of : Line → Ask → Call
call_of l what = record { at = l.at; random = l.random; ask = what }
