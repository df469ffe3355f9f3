use Rattle.std.proofs.Common.{◌∙◌, OnOk, ap, subst}
use Rattle.std.specs.Io.KnownBytes.{Appends}
use Rattle.desk_http.specs.Logged.{as_log_entry}
use Rattle.app_tasks.specs.CallLog.{number_text}
use Rattle.app_tasks.proofs.Entries.{document_is_line}
use Rattle.app_tasks.proofs.call_log.write_entry.Goals as goal

pub returns : goal.returns
returns g c =
    subst (λ t. OnOk c.writeln-in-Json.result (Appends (g.W.Write.contents c.args.out.now) (g.W.Write.contents c.writeln-in-Json.new.self) t))
    (document_is_line c.args.form (as_log_entry c.args.entry) _ _ _ _ _ c.in-Json.is (c.as_str-request.ensures.value ∙ c.in_ok-request.ensures)
    (c.as_str-status.ensures.value ∙ c.in_ok-status.ensures ∙ ap (number_text c.args.form) c.widened.ensures)
    (c.as_str-number.ensures.value ∙ c.in_ok-number.ensures ∙ ap (number_text c.args.form) c.widened_byte.ensures)
    (c.as_str-object.ensures.value ∙ c.in_ok-object.ensures) (c.as_str-micros.ensures.value ∙ c.in_ok-micros.ensures)) c.writeln-in-Json.ensures.bytes
