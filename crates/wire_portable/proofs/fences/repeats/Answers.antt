use Rattle.wire_portable.proofs.PlainFences.{unrepeating}
use Rattle.wire_portable.proofs.fences.repeats.Goals as goal

pub returns-in-Some : goal.returns-in-Some
returns-in-Some c = λ once. unrepeating c.args.spelt c.in-Some.spelt c.in-Some.is once
