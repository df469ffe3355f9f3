use Rattle.std.proofs.{Common.◌≡◌, Common.◌≢◌, Common.Ok, Common.true, Common.codes, Common.sym, Common.◌∙◌, lemmas.Slice.Eq.bytes_eq-Decides}
use Rattle.app_words.proofs.Decimals.{decimal_begins, decimal_parses, parsed_is_decimal, zero_is_decimal}
use Rattle.app_words.proofs.numbers.number_in.Goals as goal

pub returns-then-eq : goal.returns-then-eq
returns-then-eq c = zero_is_decimal c.args.text.now ((bytes_eq-Decides c.args.text.now (codes "0")).0 (sym c.eq.ensures ∙ c.if-eq.true))

pub returns-then-not-begins_a_number : goal.returns-then-not-begins_a_number
returns-then-not-begins_a_number c = λ n h.
    let other : c.args.text.now ≢ codes "0" = λ is.
    let same : c.eq.result ≡ true = c.eq.ensures ∙ (bytes_eq-Decides c.args.text.now (codes "0")).1 is in
    let no = c.if-eq.false in cc in
    let begins : c.begins_a_number.result ≡ true = c.begins_a_number.ensures.1 (rw c.as_bytes.ensures.value (decimal_begins c.args.text.now n h other)) in
    cc

pub returns-in-Ok : goal.returns-in-Ok
returns-in-Ok c =
    let begins = c.begins_a_number.ensures.0 c.if-not-begins_a_number.false in
    parsed_is_decimal c.args.text.now c.in-Ok.number c.parse.result (c.parse.ensures.value.0) (rw c.as_bytes.ensures.value at begins) c.in-Ok.is

pub returns-in-Err : goal.returns-in-Err
returns-in-Err c = λ n h.
    let parsed : c.parse.result ≡ Ok n = decimal_parses c.args.text.now n c.parse.result c.parse.ensures.value.0 h in
    cc
