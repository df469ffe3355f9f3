use Rattle.app_page.proofs.Writing.{writes_each, writes_next, writes_nothing}
use Rattle.app_tasks.specs.Metrics.{fault_numbers, fault_text}
use Rattle.app_tasks.proofs.metrics.write_faults.Goals as goal

pub loop-number-init : goal.loop-number-init
unfolding fault_numbers
loop-number-init g c = writes_nothing (fault_text c.args.served.now) (g.W.Write.contents c.args.out.now) fault_numbers

pub loop-number-preserved : goal.loop-number-preserved
unfolding fault_numbers
loop-number-preserved g c =
    writes_next (fault_text c.args.served.now) _ _ _ fault_numbers c.loop-number.number-index 0 c.loop-number-test.true c.loop-number.invariant
    c.in_ok-write_faults_of.ensures

pub returns : goal.returns
unfolding fault_numbers
returns g c = writes_each (fault_text c.args.served.now) _ _ fault_numbers c.loop-number.number-index c.loop-number-test.false c.loop-number.invariant
