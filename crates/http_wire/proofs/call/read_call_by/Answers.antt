use Rattle.std.proofs.{Common.◌≤◌, Common.arith, Common.length, Common.take, lemmas.List.length-take}
use Rattle.http_wire.proofs.{Parsing.malformed_parsed, Parsing.too_large_parsed, Parsing.complete_read, Bytes.takes_then}
use Rattle.http_wire.proofs.call.read_call_by.Goals as goal
use Rattle.desk_model.specs.Limits.{longest_body, longest_head}

pub returns-in-Malformed-clause-parsed : goal.returns-in-Malformed-clause-parsed
returns-in-Malformed-clause-parsed g c =
    let le : length (take c.in_ok-head.filled c.read_head.new.buffer) ≤ longest_head = omega (arith, length-take c.in_ok-head.filled c.read_head.new.buffer) in
    malformed_parsed (g.R.Read.remaining c.args.reader.now) (g.R.Read.remaining c.read_head.new.reader)
    (take c.in_ok-head.filled c.read_head.new.buffer) c.read_head.new.headers c.unread.result
    le (rw c.in-Malformed.is at c.in_ok-head.ensures.says) c.in_ok-head.ensures.bytes (c.unread.ensures.form, c.unread.ensures.request)

pub returns-in-TooLarge-clause-parsed : goal.returns-in-TooLarge-clause-parsed
returns-in-TooLarge-clause-parsed g c =
    too_large_parsed (g.R.Read.remaining c.args.reader.now) (g.R.Read.remaining c.read_head.new.reader)
    (take c.in_ok-head.filled c.read_head.new.buffer) c.read_head.new.headers c.unread-in-TooLarge.result
    (rw c.in-TooLarge.is at c.in_ok-head.ensures.says) c.in_ok-head.ensures.bytes (c.unread-in-TooLarge.ensures.form, c.unread-in-TooLarge.ensures.request)

pub returns-in-Complete-clause-parsed : goal.returns-in-Complete-clause-parsed
returns-in-Complete-clause-parsed g c =
    let le : length (take c.in_ok-head.filled c.read_head.new.buffer) ≤ longest_head = omega (arith, length-take c.in_ok-head.filled c.read_head.new.buffer) in
    complete_read (g.R.Read.remaining c.args.reader.now) (g.R.Read.remaining c.read_head.new.reader)
    (take c.in_ok-head.filled c.read_head.new.buffer) c.read_head.new.headers c.in-Complete.spans
    c.read_headed.result le (omega arith) (rw c.in-Complete.is at c.in_ok-head.ensures.says) c.in_ok-head.ensures.bytes
    c.read_headed.ensures.form c.read_headed.ensures.request

pub returns-in-Complete-clause-taken : goal.returns-in-Complete-clause-taken
returns-in-Complete-clause-taken g c =
    let remaining = g.R.Read.remaining c.args.reader.now in
    let behind_head = g.R.Read.remaining c.read_head.new.reader in
    let bytes = take c.in_ok-head.filled c.read_head.new.buffer in
    let le : length bytes ≤ longest_head = omega (arith, length-take c.in_ok-head.filled c.read_head.new.buffer) in
    takes_then remaining behind_head (g.R.Read.remaining c.read_headed.new.reader) longest_head longest_body (bytes, c.in_ok-head.ensures.bytes, le)
    c.read_headed.ensures.taken
