use Rattle.std.proofs.Common.{Some, None, ap, subst, ◌≡◌, ◌∙◌}
use Rattle.std.specs.Prelude.{IfOk, MatchResult}
use Rattle.desk_model.specs.{Names.name_of, Rules.fault_of}
use Rattle.identifiers.specs.declared.names.Identified.{Identified}
use Rattle.identifiers.proofs.NamesRead.{faulty-next, named-next}
use Rattle.identifiers.proofs.names.read_each.Goals as goal
use Rattle.identifiers.proofs.names.read_each.Goals.{in-Ok+in_ok-keep_name-in-Ok, in-Err+in_ok-subproblem-in-Err+in_ok-push-in-Err}

pub loop-identifier-preserved : goal.loop-identifier-preserved
loop-identifier-preserved c =
    λ unnamed sound.
    elim c.match-branch-2.branch [
      | in-Ok+in_ok-keep_name-in-Ok w ↦
          named-next c.args.identifiers.now c.loop-identifier.identifier-index c.identifier-item.result w.in-Ok.name
          c.loop-identifier.read.faulty.items _ c.loop-identifier.read.names.items _
          c.loop-identifier-test.true c.identifier-item.is
          (subst (λ read. MatchResult read (λ name. fault_of c.identifier-item.result ≡ None)
          (λ why. fault_of c.identifier-item.result ≡ Some why)) w.in-Ok.is c.in_ok-name.ensures.faulty)
          (subst (λ read. IfOk read (λ name. name_of c.identifier-item.result.value ≡ Some name)) w.in-Ok.is c.in_ok-name.ensures.named)
          (ap (λ (r : Identified). r.faulty.items) w.read-is)
          (λ before known. ap (λ (r : Identified). r.names.items) w.read-is ∙ w.in_ok-keep_name-in-Ok.ensures before known)
          (c.loop-identifier.invariant unnamed sound)
      | in-Err+in_ok-subproblem-in-Err+in_ok-push-in-Err w ↦
          faulty-next c.args.identifiers.now c.loop-identifier.identifier-index c.identifier-item.result w.in-Err.refusal
          w.in_ok-subproblem-in-Err.field-0 c.loop-identifier.read.faulty.items _ c.loop-identifier.read.names.items _
          c.loop-identifier-test.true c.identifier-item.is
          (subst (λ read. MatchResult read (λ name. fault_of c.identifier-item.result ≡ None)
          (λ why. fault_of c.identifier-item.result ≡ Some why)) w.in-Err.is c.in_ok-name.ensures.faulty)
          w.in_ok-subproblem-in-Err.ensures (ap (λ (r : Identified). r.faulty.items) w.read-is ∙ w.in_ok-push-in-Err.ensures.items)
          (c.loop-identifier.invariant unnamed sound)
    ]
