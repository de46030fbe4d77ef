use Rattle.wire_scripts.specs.Planned.{plan_of}
use Rattle.wire_runs.proofs.Basics.{process_within}
use Rattle.wire_races.proofs.KeyRaces.{owner_within}
use Rattle.wire_races.proofs.key_races.add_get_now.Goals as goal

pub node_of-home-requires : goal.node_of-home-requires
node_of-home-requires c = rw c.plan-plan.ensures (owner_within (plan_of c.args.marked.now) c.args.asked.owner.number c.args.asked.key (c.is_open.ensures.0 c.if-not-is_open.false).once)

pub node_of-away-requires : goal.node_of-away-requires
node_of-away-requires c = rw c.plan-plan.ensures (process_within (plan_of c.args.marked.now) c.args.asked.get_now.proc.number c.args.asked.get_now.at _ c.requires.get)
