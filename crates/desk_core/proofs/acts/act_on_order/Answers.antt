use Rattle.std.proofs.Common.{◌≡◌, ◌≤◌, ◌++◌, ◌∙◌, ap, append_assoc, subst, sym, map, Some}
use Rattle.std.specs.Prelude.{option_copied, unwrap_or}
use Rattle.desk_model.specs.{Legal.wanted_name, Limits.last_end, Document.listed_rows, Tables.Tables, Terms.Terms, Effect.effect, Effect.swept, Shown.located_order, Shown.shown}
use Rattle.desk_model.specs.{declared.entry.Entry.TheVariants.Ordered as ordered, declared.rows.Meta.Meta, declared.rows.OrderRow.OrderRow}
use Rattle.desk_model.specs.{declared.rows.Change.TheVariants.PutAuthorization}
use Rattle.core_changes.specs.Made.{next_order, next_rows}
use Rattle.core_changes.proofs.{MadeRows.wanted_reusable, Recordings.clock_is, Recordings.last_order-pushed}
use Rattle.desk_core.proofs.Acting.{clock_at, where_answered}
use Rattle.desk_core.proofs.ActingRows.{may_be_wanted, ordered_found, ordered_names, ordered_text}
use Rattle.core_replies.proofs.Results.{ok_so}
use Rattle.desk_core.proofs.acts.act_on_order.Goals as goal

pub returns-clause-recorded : goal.returns-clause-recorded
returns-clause-recorded c =
    let recorded = rw c.as_slice.ensures at c.in_ok-order.ensures.recorded in
    where_answered c.made_order_reply.result
    (λ m es is untouched h. recorded m c.args.book.now es (ap (λ (x : Meta). x.policy) (sym c.meta.ensures)) is untouched
    (wanted_reusable (swept m c.args.book.now) c.args.account c.args.wanted
    (may_be_wanted m _ c.args.book.now c.args.account c.args.wanted
    (clock_is m c.args.book.now es c.args.recording.now.changes.items c.args.recording.now.counters h) is c.requires.there)) h)

pub returns-clause-reply : goal.returns-clause-reply
returns-clause-reply c =
    let changes = rw c.as_slice.ensures at c.in_ok-order.ensures.changes in
    ok_so c.made_order_reply.result (λ r said m at is texts.
    let policy : c.args.book.now.meta.policy ≡ c.meta.result.now.policy = ap (λ (x : Meta). x.policy) (sym c.meta.ensures) in
    let T : Tables = effect m (swept m c.args.book.now) (ordered c.args.account c.args.wanted) in
    let found : Some c.unwrap-row.result.now ≡ Some (next_order c.args.book.now.meta.policy c.args.recording.now.counters c.args.account c.args.wanted) =
    ap option_copied (sym c.unwrap-row.ensures) ∙ c.last_order.ensures
    ∙ last_order-pushed (c.args.recording.now.changes.items
    ++ map PutAuthorization (next_rows c.meta.result.now.policy c.args.recording.now.counters c.args.account c.args.wanted)) _ _
    (changes ∙ sym (append_assoc c.args.recording.now.changes.items _ _))
    ∙ ap (λ (p : Terms). Some (next_order p c.args.recording.now.counters c.args.account c.args.wanted)) (sym policy) in
    let row : c.unwrap-row.result.now ≡ next_order c.args.book.now.meta.policy c.args.recording.now.counters c.args.account c.args.wanted =
    ap (λ o. unwrap_or o c.unwrap-row.result.now) found in
    let may = may_be_wanted m _ c.args.book.now c.args.account c.args.wanted (clock_at m c.args.book.now c.args.recording.now.counters at) is
    c.requires.there in
    let reusable = wanted_reusable (swept m c.args.book.now) c.args.account c.args.wanted may in
    said T policy
    (ap (λ r. map (λ a. a.name) (listed_rows T r)) row
    ∙ ordered_names m c.args.book.now c.args.recording.now.counters c.args.account c.args.wanted at is may
    ∙ ap (map wanted_name) (sym c.into_vec.ensures))
    (subst (λ (r : OrderRow). r.expires ≤ last_end) (sym row)
    (ordered_text m c.args.book.now c.args.recording.now.counters c.args.account c.args.wanted at is reusable texts))
    ∙ ap (shown (located_order 201 T)) (found
    ∙ sym (ordered_found m c.args.book.now c.args.recording.now.counters c.args.account c.args.wanted at is reusable)))
    c.made_order_reply.ensures
