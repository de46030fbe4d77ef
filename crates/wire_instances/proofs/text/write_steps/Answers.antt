use Rattle.wire_instances.proofs.Loops.{steps_step}
use Rattle.wire_instances.proofs.text.write_steps.Goals as goal

pub loop-number-preserved : goal.loop-number-preserved
loop-number-preserved c =
    let f = c.args.excerpt.now.frame in
    steps_step f.pattern f.cast c.args.caller c.args.steps.now c.loop-number.number c.index-steps-number.result c.args.excerpt.now.wanted
    c.loop-number.out.items c.write_step.new.out.items _
    c.loop-number-test.true c.index-steps-number.is c.in_ok-write_step.ensures c.loop-number.invariant
