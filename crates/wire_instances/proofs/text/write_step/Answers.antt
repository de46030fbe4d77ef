use Rattle.std.proofs.Common.{ap}
use Rattle.wire_pattern.specs.Instances.{call_said, step_said}
use Rattle.wire_pattern.specs.Views.{view_call, step_by}
use Rattle.wire_instances.proofs.Wholes.{once_written}
use Rattle.wire_instances.proofs.text.write_step.Goals as goal

pub returns-in-Once : goal.returns-in-Once
returns-in-Once c =
    let f = c.args.excerpt.now.frame in
    once_written c.write_call.result c.args.excerpt.now.wanted c.args.out.now.items c.write_call.new.out.items
    (call_said f.pattern f.cast c.args.caller c.args.caller (view_call c.in-Once.line.call)) _
    (ap (λ s. step_said f.pattern f.cast c.args.caller c.args.number (step_by s)) c.in-Once.is) c.write_call.ensures
