use Rattle.wire_instances.proofs.Loops.{step_numbers}
use Rattle.wire_instances.proofs.numbers.pass_steps.Goals as goal

pub loop-number-preserved : goal.loop-number-preserved
loop-number-preserved c =
    step_numbers c.args.frame.now.cast c.args.caller c.args.steps.now c.loop-number.number c.index-steps-number.result c.loop-number.search
    c.pass_step.new.search _
    c.loop-number-test.true c.index-steps-number.is c.in_ok-pass_step.ensures c.loop-number.invariant
