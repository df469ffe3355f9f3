use Rattle.std.proofs.Common.{IfOk, subst, sym}
use Rattle.desk_model.specs.declared.verdict.Verdict.{Verdict}
use Rattle.core_replies.proofs.Results.{ok_so}
use Rattle.desk_core.proofs.Acting.{Replies}
use Rattle.desk_core.proofs.acts.act.Goals as goal

pub returns-in-Opens-clause-reply : goal.returns-in-Opens-clause-reply
returns-in-Opens-clause-reply c =
    subst (λ (v : Verdict). IfOk c.act_on_account.result (Replies c.args.book.now c.args.recording.now.counters v)) (sym c.in-Opens.is)
    (ok_so c.act_on_account.result (λ r said m at is texts. said m at is) c.act_on_account.ensures.reply)
