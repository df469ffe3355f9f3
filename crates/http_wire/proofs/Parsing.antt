-- From what was read of the head to what the whole input spells.
use Rattle.std.proofs.Common.{◌≡◌, ◌+◌, ◌-◌, ◌<◌, ◌≤◌, ◌⊎◌, inl, inr, ℕ, true, false, List, [], ◌++◌, take, drop, length, map}
use Rattle.std.proofs.Common.{arith, sym, ◌∙◌, ap, Option, Some, None, Result, Ok, Err, append_assoc, append-nil, subst}
use Rattle.std.proofs.lemmas.List.{take-append-drop, take-append-le, take_all, length-map, length-take}
use Rattle.std.proofs.Math.Seq.{take-append_seam, take-append-add}
use Rattle.std.specs.{Prelude.IfOk, Prelude.IfSome, Io.KnownBytes.Consumes}
use Rattle.httparse.specs.Grammar.{RequestHead, print_request, HasNoRequest, Field}
use Rattle.httparse.specs.Spans.{RequestOverflows, IsRequestAt, IsRequestWithin, header_bytes, name_and_value, span_bytes}
use Rattle.httparse.specs.declared.spans.{HeaderSpan.HeaderSpan, RequestSpans.RequestSpans}
use Rattle.desk_model.specs.{Limits.longest_head, declared.refusal.Refusal.Refusal}
use Rattle.desk_model.specs.declared.refusal.Refusal.TheVariants as refusal
use Rattle.desk_model.specs.declared.reply.Allow.TheVariants as allow
use Rattle.http_routes.specs.{Request.refused_request, declared.request.Request.Request}
use Rattle.http_routes.specs.declared.request.Request.TheVariants as request
use Rattle.http_wire.specs.Head.{BeginsWith, HasNoHead, HeadSays, IsTooLarge, front, most_fields}
use Rattle.http_wire.specs.{ParsedRequest.Parses, declared.call.ParsedRequest.ParsedRequest, declared.call.ReplyForm.ReplyForm}
use Rattle.http_wire.specs.Spelled.{IsReplyForm, IsRequestWith, Spells, form_by}
use Rattle.http_wire.specs.ParsedRequest as parsed
use Rattle.http_wire.specs.Spelled as spelled
use Rattle.http_wire.specs.declared.call.HeadRead.TheVariants as read

-- ---- the front of the input

-- the front of a longer input
front_of : (bytes ys : List ℕ) → length bytes ≤ longest_head → front (bytes ++ ys) ≡ bytes ++ take (longest_head - length bytes) ys
front_of bytes ys le =
    let e : longest_head ≡ length bytes + (longest_head - length bytes) = omega arith in
    ap (λ n. take n (bytes ++ ys)) e ∙ take-append-add bytes ys (longest_head - length bytes)

-- bytes that fill the front are the front
full_front : (bytes ys : List ℕ) → length bytes ≡ longest_head → front (bytes ++ ys) ≡ bytes
full_front bytes ys e = take-append-le longest_head bytes ys (omega arith) ∙ take_all longest_head bytes (omega arith)

-- too many fields stay too many, whatever follows
overflows_more : (bytes zs : List ℕ) → RequestOverflows most_fields bytes → RequestOverflows most_fields (bytes ++ zs)
overflows_more bytes zs over = λ more h rest reads. over (zs ++ more) h rest (reads.0, sym (append_assoc bytes zs more) ∙ reads.1)

-- a text that begins with p, cut no shorter than p, begins with p
begins_still : (bytes ys p rest : List ℕ) → bytes ++ ys ≡ p ++ rest → length p ≤ length bytes → bytes ≡ p ++ drop (length p) bytes
begins_still bytes ys p rest e le =
    let start : take (length p) bytes ≡ p = sym (take-append-le (length p) bytes ys le) ∙ ap (take (length p)) e ∙ take-append_seam p rest in
    sym (take-append-drop (length p) bytes) ∙ ap (λ t. t ++ drop (length p) bytes) start

-- ---- no head

-- what is parsed of an input without a head
parsed_none : (input : List ℕ) (h : ParsedRequest) (why : Refusal) → HasNoHead input
    → h.form ≡ record { head_only = false; index = true }
    → h.request ≡ Ok (request.Refused (refused_request why allow.No true))
    → Spells input (request.Refused (refused_request why allow.No true)) → Parses input h
parsed_none input h why none m q s =
    let M : ReplyForm → Type 0 = λ x. IsReplyForm input x in
    record { form = subst M (sym m) (spelled.unread none); request = rw q s }

-- too many fields make no head
overflow_has_no_head : (bytes ys : List ℕ) → RequestOverflows most_fields bytes → HasNoHead (bytes ++ ys)
overflow_has_no_head bytes ys over = λ h rest b. absurd (let many : most_fields < length h.fields = over ys h rest b.reads in
    let few : length h.fields ≤ most_fields = b.fields in omega arith)

-- the request is refused so, as one without a head
abbrev IsRefusedBy : Refusal → ParsedRequest → Type 0
IsRefusedBy why h =
    (h.form ≡ record { head_only = false; index = true }) × (h.request ≡ Ok (request.Refused (refused_request why allow.No true)))

-- of an input that begins with these bytes
malformed_input : (bytes ys : List ℕ) (h : ParsedRequest) → length bytes ≤ longest_head
    → (RequestOverflows most_fields bytes ⊎ ((length bytes < longest_head) × HasNoRequest bytes × (ys ≡ [])))
    → IsRefusedBy refusal.Malformed h → Parses (bytes ++ ys) h
malformed_input bytes ys h le (inl over) r =
    let f : front (bytes ++ ys) ≡ bytes ++ take (longest_head - length bytes) ys = front_of bytes ys le in
    let O : List ℕ → Type 0 = λ l. RequestOverflows most_fields l in
    let more : RequestOverflows most_fields (front (bytes ++ ys)) = subst O (sym f) (overflows_more bytes (take (longest_head - length bytes) ys) over) in
    parsed_none (bytes ++ ys) h refusal.Malformed (overflow_has_no_head bytes ys over) r.0 r.1 (spelled.malformed (inl more))
malformed_input bytes ys h le (inr short) r =
    let H : List ℕ → Type 0 = λ l. Parses l h in
    let whole : bytes ++ ys ≡ bytes = rw (short.2) (append-nil bytes) in
    subst H (sym whole) (parsed_none bytes h refusal.Malformed (λ head rest b. short.1 head rest b.reads) r.0 r.1 (spelled.malformed (inr (short.0, short.1))))

-- what is malformed by the bytes read so far is parsed as malformed
pub malformed_parsed : (remaining left : Option (List ℕ)) (bytes : List ℕ) (headers : List HeaderSpan) (h : ParsedRequest) → length bytes ≤ longest_head
    → HeadSays bytes headers left read.Malformed → Consumes remaining left bytes → IsRefusedBy refusal.Malformed h → IfSome remaining (λ input. Parses input h)
malformed_parsed None left bytes headers h le says k r = tt
malformed_parsed (Some xs) None bytes headers h le says k r = absurd k
malformed_parsed (Some xs) (Some ys) bytes headers h le says k r =
    let H : List ℕ → Type 0 = λ l. Parses l h in
    subst H (sym k) (malformed_input bytes ys h le says r)

-- of an input that begins with these bytes
too_large_input : (bytes ys : List ℕ) (h : ParsedRequest) → HeadSays bytes [] None read.TooLarge → IsRefusedBy refusal.TooLarge h → Parses (bytes ++ ys) h
too_large_input bytes ys h says r =
    let f : front (bytes ++ ys) ≡ bytes = full_front bytes ys says.0 in
    let none : HasNoHead (bytes ++ ys) = λ head rest b.
    let size : length (print_request head) ≤ longest_head = b.size in
    says.1 head (drop (length (print_request head)) bytes) (b.reads.0, begins_still bytes ys (print_request head) rest b.reads.1 (omega (arith, says.0))) in
    let large : IsTooLarge (bytes ++ ys) = record { full = ap length f ∙ says.0; none = rw f says.1; unfinished = rw f says.2 } in
    parsed_none (bytes ++ ys) h refusal.TooLarge none r.0 r.1 (spelled.long_head large)

-- what is too large by the bytes read so far is parsed as too large
pub too_large_parsed : (remaining left : Option (List ℕ)) (bytes : List ℕ) (headers : List HeaderSpan) (h : ParsedRequest)
    → HeadSays bytes headers left read.TooLarge → Consumes remaining left bytes → IsRefusedBy refusal.TooLarge h → IfSome remaining (λ input. Parses input h)
too_large_parsed None left bytes headers h says k r = tt
too_large_parsed (Some xs) None bytes headers h says k r = absurd k
too_large_parsed (Some xs) (Some ys) bytes headers h says k r =
    let H : List ℕ → Type 0 = λ l. Parses l h in
    subst H (sym k) (too_large_input bytes ys h says r)

-- ---- a head

-- there are as many fields as spans that cover them
fields_few : (buffer : List ℕ) (headers : List HeaderSpan) (count : ℕ) (fields : List Field) → length headers ≡ most_fields
    → map (header_bytes buffer) (take count headers) ≡ map name_and_value fields → length fields ≤ most_fields
fields_few buffer headers count fields n e =
    let many : length (map (header_bytes buffer) (take count headers)) ≡ length (map name_and_value fields) = ap length e in
    let spans : length (map (header_bytes buffer) (take count headers)) ≡ length (take count headers) = length-map (take count headers) (header_bytes buffer) in
    let names : length (map name_and_value fields) ≡ length fields = length-map fields name_and_value in
    omega (arith, length-take count headers)

-- a head that lies in the bytes begins the input
begins : (bytes ys : List ℕ) (headers : List HeaderSpan) (spans : RequestSpans) (h : RequestHead) → length bytes ≤ longest_head → length headers ≡ most_fields
    → IsRequestWithin bytes headers spans → IsRequestAt bytes headers spans h → BeginsWith (bytes ++ ys) h (drop spans.len bytes ++ ys)
begins bytes ys headers spans h le n within at =
    let fits : spans.len ≤ length bytes = within.section.len_fits in
    let len : spans.len ≡ length (print_request h) = at.len in
    record {
      reads = (at.reads.0, ap (λ t. t ++ ys) at.reads.1 ∙ append_assoc (print_request h) (drop spans.len bytes) ys);
      size = omega arith;
      fields = fields_few bytes headers spans.headers h.fields n at.fields;
    }

-- the request of the spans is the head's
request_of_head : (bytes ys : List ℕ) (headers : List HeaderSpan) (spans : RequestSpans) (h : RequestHead) (q : Request)
    → IsRequestAt bytes headers spans h → parsed.IsRequestAt bytes headers spans ys q
    → IsRequestWith h.method h.target (map name_and_value h.fields) (drop spans.len bytes ++ ys) q
request_of_head bytes ys headers spans h q at r = rw (at.method, at.path, at.fields) at r

-- the same, where memory was found
spells_ok : {E : Type 0} (bytes ys : List ℕ) (headers : List HeaderSpan) (spans : RequestSpans) (h : RequestHead) (res : Result Request E)
    → BeginsWith (bytes ++ ys) h (drop spans.len bytes ++ ys) → IsRequestAt bytes headers spans h
    → IfOk res (λ q. parsed.IsRequestAt bytes headers spans ys q) → IfOk res (λ q. Spells (bytes ++ ys) q)
spells_ok {E} bytes ys headers spans h (Err e) b at r = tt
spells_ok {E} bytes ys headers spans h (Ok q) b at r =
    spelled.headed h (drop spans.len bytes ++ ys) q b (request_of_head bytes ys headers spans h q at r)

-- how the reply is written is told by the head's spans
form_of_head : (bytes : List ℕ) (headers : List HeaderSpan) (spans : RequestSpans) (h : RequestHead) → IsRequestAt bytes headers spans h
    → form_by (span_bytes bytes spans.method) (span_bytes bytes spans.path) ≡ form_by h.method h.target
form_of_head bytes headers spans h at = λ i. form_by (at.method i) (at.path i)

-- what is known of each input is known of the one that there is
inner : {E : Type 0} (res : Result Request E) (ys : List ℕ) (P : List ℕ → Request → Type 0)
    → IfOk res (λ q. IfSome (Some ys) (λ left. P left q)) → IfOk res (λ q. P ys q)
inner {E} (Err e) ys P h = tt
inner {E} (Ok q) ys P h = h

-- what lies behind a whole head is parsed as it is
pub complete_parsed : (remaining left : Option (List ℕ)) (bytes : List ℕ) (headers : List HeaderSpan) (spans : RequestSpans) (h : ParsedRequest)
    → length bytes ≤ longest_head → length headers ≡ most_fields
    → HeadSays bytes headers left (read.Complete spans) → Consumes remaining left bytes
    → h.form ≡ form_by (span_bytes bytes spans.method) (span_bytes bytes spans.path)
    → IfOk h.request (λ q. IfSome left (λ ys. parsed.IsRequestAt bytes headers spans ys q))
    → IfSome remaining (λ input. Parses input h)
complete_parsed None left bytes headers spans h le n says k m r = tt
complete_parsed (Some xs) None bytes headers spans h le n says k m r = absurd k
complete_parsed (Some xs) (Some ys) bytes headers spans h le n says k m r =
    let H : List ℕ → Type 0 = λ l. Parses l h in
    let b : BeginsWith (bytes ++ ys) says.1.0 (drop spans.len bytes ++ ys) = begins bytes ys headers spans says.1.0 le n says.0 says.1.1 in
    let M : ReplyForm → Type 0 = λ x. IsReplyForm (bytes ++ ys) x in
    subst H (sym k) (record {
      form = subst M (sym (m ∙ form_of_head bytes headers spans says.1.0 says.1.1)) (spelled.read says.1.0 (drop spans.len bytes ++ ys) b);
      request = spells_ok bytes ys headers spans says.1.0 h.request b says.1.1 (inner h.request ys (parsed.IsRequestAt bytes headers spans) r);
    })

-- the same, unless the reader failed
pub complete_read : {E : Type 0} (remaining left : Option (List ℕ)) (bytes : List ℕ) (headers : List HeaderSpan) (spans : RequestSpans)
    (res : Result ParsedRequest E)
    → length bytes ≤ longest_head → length headers ≡ most_fields
    → HeadSays bytes headers left (read.Complete spans) → Consumes remaining left bytes
    → IfOk res (λ h. h.form ≡ form_by (span_bytes bytes spans.method) (span_bytes bytes spans.path))
    → IfOk res (λ h. IfOk h.request (λ q. IfSome left (λ ys. parsed.IsRequestAt bytes headers spans ys q)))
    → IfOk res (λ h. IfSome remaining (λ input. Parses input h))
complete_read {E} remaining left bytes headers spans (Err e) le n says k m r = tt
complete_read {E} remaining left bytes headers spans (Ok h) le n says k m r = complete_parsed remaining left bytes headers spans h le n says k m r
