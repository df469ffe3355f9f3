use Rattle.core_replies.proofs.{Results.on_ok, Writing.list_member}
use Rattle.core_replies.proofs.json_text.write_list.Goals as goal

pub returns : goal.returns
returns g c =
    on_ok c.end_list.result (λ ended. list_member c.args.name.now _ c.in_ok-name.ensures c.in_ok-begin_list.ensures c.in_ok-write_each.ensures ended)
    c.end_list.ensures
