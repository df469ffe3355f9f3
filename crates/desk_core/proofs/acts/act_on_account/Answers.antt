use Rattle.std.proofs.Common.{◌∙◌, ap, sym}
use Rattle.std.specs.Prelude.{option_copied}
use Rattle.desk_model.specs.{Effect.effect, Effect.swept, Shown.located_account, Shown.shown, Tables.Tables, declared.entry.Entry.TheVariants.Opened as opened}
use Rattle.desk_model.specs.{declared.rows.Meta.Meta}
use Rattle.core_changes.proofs.Recordings.{last_account-pushed}
use Rattle.desk_core.proofs.ActingRows.{opened_found}
use Rattle.core_replies.proofs.Results.{ok_so}
use Rattle.desk_core.proofs.acts.act_on_account.Goals as goal

pub returns-clause-reply : goal.returns-clause-reply
returns-clause-reply c =
    ok_so c.located_account.result (λ r said m at ordered.
    let T : Tables = effect m (swept m c.args.book.now) (opened c.args.key c.args.contacts) in
    said T (sym (ap (λ (x : Meta). x.policy) c.meta.ensures))
    ∙ ap (shown (located_account 201 T)) (ap option_copied (sym c.unwrap-row.ensures) ∙ c.last_account.ensures
    ∙ last_account-pushed c.args.recording.now.changes.items _ _ c.in_ok-open.ensures.changes
    ∙ sym (opened_found m c.args.book.now c.args.recording.now.counters c.args.key c.args.contacts at ordered)))
    c.located_account.ensures
