use Rattle.std.proofs.Common.{inr, ap, Ok}
use Rattle.wire_instances.specs.Asked.{asked_by}
use Rattle.std.proofs.Common.{map}
use Rattle.wire_pattern_commands.proofs.Misfits.{misfit_at, part_there, texts_taken}
use Rattle.wire_pattern_commands.proofs.ranks.read_parts.Goals as goal

pub returns-then-not-branch-clause-err : goal.returns-then-not-branch-clause-err
returns-then-not-branch-clause-err c =
    let n = c.loop-number.number in
    let parts = c.args.parts.now in
    inr (misfit_at c.args.pattern.now.roles _ (map asked_by c.loop-number.asked.items) n _ (texts_taken parts n _ c.loop-number-test.true c.loop-number.invariant.asks).0
    (texts_taken parts n _ c.loop-number-test.true c.loop-number.invariant.asks).1 c.loop-number.invariant.few (part_there parts n _ c.loop-number-test.true) c.loop-number.invariant.fit
    (c.in_ok-add_part.ensures.misfit (ap Ok c.if-not-branch.true)))
