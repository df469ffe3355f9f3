use Rattle.core_replies.proofs.{Results.on_ok, Writing.object_value}
use Rattle.core_replies.proofs.json_text.write_object.Goals as goal

pub returns : goal.returns
returns g c =
    on_ok c.end_object.result (λ ended. object_value _ c.in_ok-begin_object.ensures c.in_ok-write_members.ensures.written
    c.in_ok-write_members.ensures.in_order ended) c.end_object.ensures
