use Rattle.std.proofs.Common.{Err, rules, subst}
use Rattle.std.specs.Io.KnownBytes.{Appends}
use Rattle.store_passes.specs.Left.{IsNext, faults_above, faults_of}
use Rattle.app_reports.proofs.{Printing.writes_one, Reporting.look_up_failed, Reporting.reads_caused}
use Rattle.app_reports.specs.Reported.{Reports}
use Rattle.app_reports.proofs.faults.write_kind.Goals as goal

-- the next fault is told
pub loop-fault-preserved : goal.loop-fault-preserved
loop-fault-preserved g c = record {
  name = search rules;
  unfailed = search rules;
  unchanged = search rules;
  found = search rules;
  printed = λ honest T holds now.
      let before = c.in_ok-fault.ensures.reads.honest honest in
      let next = c.in_ok-fault.ensures.next honest T (c.loop-fault.invariant.unchanged.tables before T holds) in
      let left = faults_above T c.loop-fault.faults.kind c.loop-fault.faults.moment c.loop-fault.faults.above in
      let rest = faults_above T c.next.new.self.kind c.next.new.self.moment c.next.new.self.above in
      writes_one c.args.form _ _ _ (faults_of T c.args.kind) left rest c.in-Some.fault (c.loop-fault.invariant.printed before T holds now)
      (subst (λ o. IsNext o left rest) c.in-Some.is next)
      (subst (Appends _ _) (c.parts_of.ensures c.args.form) c.in_ok-write_fault.ensures);
}

pub returns-in_err-fault-clause-reads : goal.returns-in_err-fault-clause-reads
returns-in_err-fault-clause-reads g c =
    let whole : Reports g.K.Kept.sight c.args.source.now c.next.new.self.source.now c.from_residual.result =
    look_up_failed c.from_residual.result c.loop-fault.invariant.unchanged
    (reads_caused (Err c.in_err-fault.field-0.0) c.in_err-fault.ensures.reads (c.in_err-fault.ensures.caused c.loop-fault.invariant.unfailed))
    c.from_residual.ensures.1 in
    search (rules, whole)
