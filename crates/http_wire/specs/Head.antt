-- The head at the beginning of what is sent (RFC 9112, 2).
use Rattle.std.specs.Prelude.{◌≡◌, ◌<◌, ◌≤◌, ◌⊎◌, ◌++◌, ℕ, List, Option, take, length}
use Rattle.std.specs.Io.KnownBytes.{Consumes, IsAtEnd}
use Rattle.httparse.specs.Grammar.{RequestHead, ReadsRequest, HasNoRequest, MayBecomeRequest, print_request}
use Rattle.httparse.specs.{Spans.IsRequestOf, Spans.IsRequestWithin, Spans.RequestOverflows, declared.spans.HeaderSpan.HeaderSpan}
use Rattle.http_wire.specs.declared.call.HeadRead.{HeadRead}
use Rattle.http_wire.specs.declared.call.HeadRead.TheVariants as read
use Rattle.desk_model.specs.Limits.{longest_head}

-- the most fields of a head
abbrev pub most_fields : ℕ
most_fields = 64

-- ---- what the input begins with

-- a head of 16384 bytes and 64 fields at most, and then the rest
pub record BeginsWith (input : List ℕ) (h : RequestHead) (rest : List ℕ) : Type 0 where
  pub reads : ReadsRequest input h rest
  pub size : length (print_request h) ≤ longest_head
  pub fields : length h.fields ≤ most_fields

-- there is no such head
abbrev pub HasNoHead : List ℕ → Type 0
HasNoHead input = (h : RequestHead) (rest : List ℕ) → BeginsWith input h rest → ⊥

-- the first 16384 bytes, or all where there are fewer
abbrev pub front : List ℕ → List ℕ
front input = take longest_head input

-- whatever follows, there are too many fields or no head; or the input ends before one does
abbrev pub IsMalformed : List ℕ → Type 0
IsMalformed input = RequestOverflows most_fields (front input) ⊎ ((length input < longest_head) × HasNoRequest input)

-- 16384 bytes end before a head does, though more may make one
pub record IsTooLarge (input : List ℕ) : Type 0 where
  pub full : length (front input) ≡ longest_head
  pub none : HasNoRequest (front input)
  pub unfinished : MayBecomeRequest (front input)

-- ---- what was read of it

-- these bytes behind the earlier ones, and no others, were read
abbrev pub Adds : Option (List ℕ) → Option (List ℕ) → List ℕ → List ℕ → Type 0
Adds remaining left before after = (bytes : List ℕ) × (after ≡ before ++ bytes) × Consumes remaining left bytes

-- no more bytes than this were read
abbrev pub TakesAtMost : Option (List ℕ) → Option (List ℕ) → ℕ → Type 0
TakesAtMost remaining left most = (bytes : List ℕ) × Consumes remaining left bytes × (length bytes ≤ most)

-- what the bytes that were read say of the head, and how the reader stands then
abbrev pub HeadSays : List ℕ → List HeaderSpan → Option (List ℕ) → HeadRead → Type 0
HeadSays bytes headers left (read.Complete spans) = IsRequestWithin bytes headers spans × IsRequestOf bytes headers spans
HeadSays bytes headers left read.Malformed = RequestOverflows most_fields bytes ⊎ ((length bytes < longest_head) × HasNoRequest bytes × IsAtEnd left)
HeadSays bytes headers left read.TooLarge = (length bytes ≡ longest_head) × HasNoRequest bytes × MayBecomeRequest bytes
