use Rattle.wire_scripts.proofs.Written.{one_word}
use Rattle.wire_scripts.proofs.canonical.write_line.Goals as goal

pub loop-word-preserved : goal.loop-word-preserved
loop-word-preserved c =
    rw (c.in_ok-extend_from_slice-2.ensures.items, c.in_ok-push.ensures.items)
    (one_word c.args.out.now.items c.loop-word.out.items c.args.first.now c.args.others.now c.loop-word.word-index _ c.loop-word-test.true c.loop-word.invariant)
