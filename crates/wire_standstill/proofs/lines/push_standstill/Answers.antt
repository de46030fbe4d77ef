use Rattle.std.proofs.Common.{codes}
use Rattle.wire_core.specs.Course.{state_of}
use Rattle.wire_standstill.specs.Lines.{part}
use Rattle.wire_explain.proofs.Texts.{two_joined}
use Rattle.wire_standstill.proofs.lines.push_standstill.Goals as goal

pub returns : goal.returns
returns c =
    let scripts = c.args.core.now.scripts in
    let s = state_of c.args.core.now in
    two_joined c.push_part-2.result c.args.out.now.items c.push_part.new.out.items c.push_part-2.new.out.items
    (part (codes "  deadlock, each for the next and the last for the first:\n") scripts s c.args.circle.now) (part (codes "  for what never comes:\n") scripts s c.args.never.now)
    c.in_ok-push_part.ensures c.push_part-2.ensures
