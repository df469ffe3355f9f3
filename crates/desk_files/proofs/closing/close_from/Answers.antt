use Rattle.std.proofs.Common.{subst}
use Rattle.sqlite.specs.{Closing.IsCopied, Files.FailsToClose}
use Rattle.desk_files.proofs.Closed.{ends_as_stop, has_closed, left_of}
use Rattle.desk_files.proofs.closing.close_from.Goals as goal

pub returns-in-Ok-clause-closed : goal.returns-in-Ok-clause-closed
returns-in-Ok-clause-closed g c clean T has =
    has_closed c.args.store c.in-Ok.files (subst (λ conn. IsCopied conn c.in-Ok.files) c.close.ensures (c.in-Ok.ensures.copied clean)) T has

pub returns-in-Ok-clause-ended : goal.returns-in-Ok-clause-ended
returns-in-Ok-clause-ended g c clean image may =
    ends_as_stop c.args.store c.in-Ok.files (subst (λ conn. IsCopied conn c.in-Ok.files) c.close.ensures (c.in-Ok.ensures.copied clean))
    g.met.D.Disk.seen_may_stay image may

pub returns-in-Err-clause-left : goal.returns-in-Err-clause-left
returns-in-Err-clause-left g c trees may =
    left_of trees _ _ c.close.ensures (c.in-Err.ensures.err.0.quiet.outcomes trees may)

pub returns-in-Err-clause-failed : goal.returns-in-Err-clause-failed
returns-in-Err-clause-failed g c =
    record {
      error = c.in-Err.error;
      fault = c.close_fault.ensures;
      cause = λ clean. subst (λ conn. FailsToClose conn c.in-Err.last c.in-Err.error) c.close.ensures (c.in-Err.ensures.err.1 clean);
    }
