use Rattle.wire_scripts.specs.Planned.{plan_of}
use Rattle.wire_portable.proofs.Keys.{none_for, some_for}
use Rattle.wire_portable.proofs.judge.Judge.is_outside.Goals as goal

pub returns-then-is_for : goal.returns-then-is_for
returns-then-is_for c = λ e once.
    some_for (plan_of c.args.self.now) c.args.asked.owner.number c.args.asked.key c.args.near c.is_for.result c.if-is_for.true (c.is_for.ensures once)

pub returns-in-None : goal.returns-in-None
returns-in-None c = λ e once. none_for (plan_of c.args.self.now) c.args.asked.owner.number c.args.asked.key c.args.near c.in-None.ensures
