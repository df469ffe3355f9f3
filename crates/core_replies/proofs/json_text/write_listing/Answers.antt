use Rattle.std.proofs.Common.{refl}
use Rattle.core_replies.proofs.{Results.on_ok, Writing.list_member, Writing.object_value}
use Rattle.core_replies.proofs.json_text.write_listing.Goals as goal

pub returns : goal.returns
returns g c =
    on_ok c.end_object.result (λ ended. object_value _ c.in_ok-begin_object.ensures
    (list_member c.args.name.now _ c.in_ok-name.ensures c.in_ok-begin_list.ensures c.in_ok-write_rows.ensures c.in_ok-end_list.ensures) refl ended)
    c.end_object.ensures
