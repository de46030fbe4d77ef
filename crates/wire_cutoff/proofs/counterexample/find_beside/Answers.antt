use Rattle.std.proofs.Common.{ap, arith, Ok}
use Rattle.wire_instances.specs.Views.{cast_by}
use Rattle.wire_cutoff.proofs.Pairs.{none_beside, one_beside, one_pair}
use Rattle.wire_cutoff.proofs.Used.{paired_used}
use Rattle.wire_cutoff.proofs.counterexample.find_beside.Goals as goal

pub loop-b-init : goal.loop-b-init
loop-b-init g c = none_beside c.args.pattern.now (cast_by c.args.cast.now) c.args.a

pub find_on-requires-clause-used : goal.find_on-requires-clause-used
find_on-requires-clause-used g c = λ lifetimes lives.
    paired_used c.count_of-total.result c.args.a c.loop-b.b c.in_ok-nodes.nodes c.in_ok-nodes.ensures.nodes c.in_ok-nodes.ensures.paired c.loop-b-test.true

pub loop-b-preserved : goal.loop-b-preserved
loop-b-preserved g c =
    one_beside c.args.pattern.now (cast_by c.args.cast.now) c.args.a c.loop-b.b c.loop-b.invariant
    (one_pair c.args.pattern.now (cast_by c.args.cast.now) c.count_of-total.result c.args.a c.loop-b.b c.in_ok-nodes.nodes c.count_of-total.ensures
    c.in_ok-nodes.ensures.paired (c.in_ok-found.ensures.settled (ap Ok c.in-None.is)))

pub returns-clause-settled : goal.returns-clause-settled
returns-clause-settled g c = λ e b low high. c.loop-b.invariant b low (omega (arith, high, c.count_of-total.ensures, c.loop-b-test.false))
