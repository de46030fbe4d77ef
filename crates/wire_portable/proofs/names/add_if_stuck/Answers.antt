use Rattle.wire_scripts.specs.Planned.{plan_of}
use Rattle.wire_portable.proofs.NamesFound.{pushed_never}
use Rattle.wire_portable.proofs.names.add_if_stuck.Goals as goal

pub returns : goal.returns
returns c = λ are. pushed_never (plan_of c.args.marked.now) c.args.stuck.now.items c.push.new.self.items c.args.event c.in_ok-push.ensures.items (c.is_stuck.ensures c.if-not-is_stuck.false) are
