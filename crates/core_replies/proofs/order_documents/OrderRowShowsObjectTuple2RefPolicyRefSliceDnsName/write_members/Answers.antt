use Rattle.std.proofs.Common.{ap, map, ◌∙◌, arith}
use Rattle.serde_json.specs.Data.{string}
use Rattle.desk_model.specs.{Derived.numbers_of, Names.shown_name, Document.authorization_url, Document.identifier}
use Rattle.core_replies.proofs.{Results.on_ok, Gathered.each-shows-one, ShownOrders.urls-shown, Writing.list_is, Writing.member_is, Writing.members_then}
use Rattle.core_replies.proofs.order_documents.OrderRowShowsObjectTuple2RefPolicyRefSliceDnsName.write_members.Goals as goal

pub returns-clause-written : goal.returns-clause-written
returns-clause-written c =
    on_ok c.member-3.result (λ status.
    members_then (list_is (urls-shown c.args.by.now.0.now c.as_slice.result.now
    ∙ ap (λ listed. map (λ n. string (authorization_url c.args.by.now.0.now n)) (numbers_of listed)) c.as_slice.ensures) c.in_ok-write_list.ensures)
    (members_then c.in_ok-write_certificate.ensures
    (members_then c.in_ok-write_problem.ensures
    (members_then (member_is (c.deref.ensures ∙ c.in_ok-capped_moment_text.ensures) c.in_ok-member.ensures)
    (members_then (member_is (c.deref-2.ensures ∙ c.in_ok-finalize.ensures) c.in_ok-member-2.ensures)
    (members_then (list_is (each-shows-one (λ n. identifier (shown_name n)) c.args.by.now.1.now) c.in_ok-write_list-2.ensures)
    (member_is c.as_str.ensures status))))))) c.member-3.ensures

pub returns-clause-in_order : goal.returns-clause-in_order
returns-clause-in_order c = grind arith
