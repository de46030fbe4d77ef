use Rattle.std.proofs.Common.{get_or}
use Rattle.wire_instances.proofs.Loops.{each_number}
use Rattle.wire_instances.proofs.Texts.{get_or_same}
use Rattle.wire_instances.proofs.numbers.pass_numbers.Goals as goal

pub loop-number-preserved : goal.loop-number-preserved
loop-number-preserved c =
    let numbers = c.args.numbers.now in
    let i = c.loop-number.number-index in
    each_number numbers i (get_or numbers i 0) c.loop-number.search c.pass.new.self _
    c.loop-number-test.true (get_or_same numbers i 0 c.loop-number-test.true) c.pass.ensures c.loop-number.invariant
