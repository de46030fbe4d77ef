use Rattle.wire_runs.proofs.Basics.{process_within}
use Rattle.wire_core.specs.Course.{state_of, plan_in}
use Rattle.wire_core.proofs.running.Core.find_gain.Goals as goal

pub see_key-requires : goal.see_key-requires
see_key-requires c = process_within (plan_in c.args.self.now) c.args.proc.number ((state_of c.args.self.now).done c.args.proc.number) _ c.requires.is

pub node_of-requires : goal.node_of-requires
node_of-requires c =
    let within = process_within (plan_in c.args.self.now) c.args.proc.number ((state_of c.args.self.now).done c.args.proc.number) _ c.requires.is in
    rw (← c.self.view_is) at within
