use Rattle.core_replies.proofs.{Results.on_ok, KeyMembers.key_members-put}
use Rattle.core_replies.proofs.documents.JwkShowsObjectUnit.write_members.Goals as goal

pub returns-clause-in_order : goal.returns-clause-in_order
returns-clause-in_order c = on_ok c.write_parts.result (λ _. key_members-put c.args.self.now c.canonical.ensures.of_a_key) c.write_parts.ensures
