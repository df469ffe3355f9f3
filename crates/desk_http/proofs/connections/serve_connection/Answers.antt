use Rattle.desk_http.proofs.{Ending.client_ends, Ending.ends_next, Turns.serves_next}
use Rattle.desk_http.proofs.connections.serve_connection.Goals as goal
use Rattle.std.proofs.Common.{refl, subst}
use Rattle.desk_http.specs.InTurn.{fault_after}
use Rattle.desk_http.specs.Showing.{shower}
use Rattle.desk_http.specs.Logged.{IsLogEntryOf, as_log_entry}

pub returns-clause-served : goal.returns-clause-served
returns-clause-served g c =
    let v = g.K.Kept.sight in
    let hook = shower g.H.Hook.kind g.H.Hook.last (g.H.Look.shows c.args.hook.now) in
    let served = c.in_ok-served.served in
    let after = fault_after served c.serve_client.new.desk.is_closed in
    let log_entry = as_log_entry c.entry_of.result in
    rw (c.ended_by.ensures, c.closing_fault-closed_by.ensures)
    (serves_next v g.K.Storage.causes hook g.O.Overseer.takes after c.log_entry-is_kept.result c.args.desk.now c.serve_client.new.desk c.args.watch.now _
    (record {
      came = c.in_ok-at.at;
      asked = c.in_ok-served.call.object;
      served = served;
      serves = c.in_ok-served.ensures.served;
      closed = refl;
      logged = λ kept. (
        log_entry,
        subst (λ at. IsLogEntryOf at c.in_ok-served.call.object served log_entry) c.in_ok-served.ensures.at c.entry_of.ensures,
        subst (λ o. g.O.Overseer.takes o log_entry c.log_entry-is_kept.new.self) c.in_ok-served.ensures.overseer (c.log_entry-is_kept.ensures.kept kept),
      );
    }))

pub returns-clause-ends : goal.returns-clause-ends
returns-clause-ends g c opened =
    let v = g.K.Kept.sight in
    let hook = shower g.H.Hook.kind g.H.Hook.last (g.H.Look.shows c.args.hook.now) in
    let after = fault_after c.in_ok-served.served c.serve_client.new.desk.is_closed in
    rw (c.ended_by.ensures, c.closing_fault-closed_by.ensures)
    (ends_next after c.log_entry-is_kept.result c.serve_client.new.desk
    (client_ends v g.K.Storage.causes hook _ _ _ c.in_ok-served.served _ c.args.desk.now c.serve_client.new.desk opened c.in_ok-served.ensures.served))
