use Rattle.std.proofs.Common.{◌∙◌, ap, map}
use Rattle.httparse.specs.Spans.{header_bytes}
use Rattle.http_wire.proofs.Asked.{read_same}
use Rattle.http_wire.proofs.call.read_headed.Goals as goal

pub returns-in-Ok-clause-request : goal.returns-in-Ok-clause-request
returns-in-Ok-clause-request g c =
    read_same c.read_as.result (g.R.Read.remaining c.args.reader.now) _ _ _ _ _ _ _ _ (c.text_of-method.ensures ∙ c.of.ensures)
    (c.text_of-path.ensures ∙ c.of-2.ensures) (ap (map (header_bytes c.args.bytes.now)) c.first-fields.ensures) c.behind-begun.ensures
    (c.read_as.ensures.request c.text_of-path.result.now (ap (λ f. f.index) c.form_by-form.ensures)
    (map (header_bytes c.args.bytes.now) c.first-fields.result.now) c.in-Ok.ensures)

pub returns-in-Ok-clause-taken : goal.returns-in-Ok-clause-taken
returns-in-Ok-clause-taken g c =
    c.read_as.ensures.taken c.text_of-path.result.now (map (header_bytes c.args.bytes.now) c.first-fields.result.now) c.in-Ok.ensures
