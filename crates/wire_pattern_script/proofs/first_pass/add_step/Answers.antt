use Rattle.std.proofs.Common.{refl, vec_len}
use Rattle.wire_pattern_script.proofs.Lists.{step_added}
use Rattle.wire_pattern_script.proofs.first_pass.add_step.Goals as goal

pub returns-in_ok-push-in-Some-clause-added : goal.returns-in_ok-push-in-Some-clause-added
returns-in_ok-push-in-Some-clause-added c =
    step_added c.args.roles.now.items (vec_len c.args.roles.now) c.in-Some.role.now c.push.new.self c.args.step c.args.roles.now.ok.0 (c.in-Some.ensures.variant.0 refl) c.in-Some.ensures.value c.in_ok-push-in-Some.ensures.items
