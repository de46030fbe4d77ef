use Rattle.std.proofs.Common.{◌∙◌, ◌≤◌, ap, subst, ℕ, sum_by}
use Rattle.wire_reader.specs.declared.Limits.{Limits}
use Rattle.wire_pattern_commands.proofs.Expansions.{cast_made, few_enough}
use Rattle.wire_pattern_commands.proofs.expand.cast_asked.Goals as goal

pub returns-clause-ok : goal.returns-clause-ok
returns-clause-ok c =
    cast_made c.args.pattern.now c.args.asked (record { sizes = c.in_ok-sizes.sizes; chosen = c.new.result; nodes = c.in_ok-nodes.nodes }) c.in_ok-processes.processes
    c.in_ok-sizes.ensures.fit c.in_ok-sizes.ensures.ok c.new.ensures.items
    (c.in_ok-processes.ensures.ok ∙ ap (sum_by (λ (size : ℕ). size)) c.as_slice.ensures.value)
    (few_enough c.args.asked.size c.of-most.result c.in_ok-processes.processes c.of-most.ensures.those c.in_ok-processes.ensures.within)
    (subst (λ (l : Limits). c.in_ok-processes.processes ≤ l.processes) c.of-most.ensures.those c.in_ok-processes.ensures.within)
    c.in_ok-nodes.ensures.nodes c.in_ok-nodes.ensures.asked
