-- What a line asks, where memory was found.
use Rattle.std.proofs.Common.{◌≡◌, true, Result, Ok, Err}
use Rattle.std.specs.Prelude.{IfOk}
use Rattle.http_routes.specs.declared.{lines.Line.Line, request.Request.Request}
use Rattle.http_wire.specs.Spelled.{Spells}
use Rattle.app_batch.specs.LineRequests.{IsRequestOf, are_visible, request_bytes, spelled}

-- a line of visible characters asks what its bytes spell
pub asks_by_bytes : {E : Type 0} (l : Line) (res : Result Request E) → are_visible l ≡ true
    → IfOk res (λ r. Spells (request_bytes l) r) → IfOk res (λ r. IsRequestOf l r)
asks_by_bytes {E} l (Err e) visible h = tt
asks_by_bytes {E} l (Ok r) visible h = spelled r visible h
