use Rattle.std.proofs.Common.{ap, sym, subst, arith, Ok}
use Rattle.std.specs.Prelude.{IfSome}
use Rattle.wire_instances.specs.Views.{cast_by}
use Rattle.wire_cutoff.specs.Views.{IsShownBeside}
use Rattle.wire_cutoff.proofs.FirstNodes.{pair_first}
use Rattle.wire_cutoff.proofs.Pairs.{AreBesideSettled, alone_settled, one_process, all_pairs}
use Rattle.wire_cutoff.proofs.Used.{alone_used}
use Rattle.wire_cutoff.proofs.counterexample.find_counterexample.Goals as goal

pub find_on-requires-clause-used : goal.find_on-requires-clause-used
find_on-requires-clause-used g c = λ lifetimes lives.
    alone_used c.count_of-total.result c.in_ok-nodes.nodes c.in_ok-nodes.ensures.nodes c.in_ok-nodes.ensures.alone

pub loop-a-init : goal.loop-a-init
loop-a-init g c = λ k less. absurd (omega (arith, less))

pub loop-a-preserved : goal.loop-a-preserved
loop-a-preserved g c =
    one_process c.args.pattern.now (cast_by c.args.cast.now) c.count_of-total.result c.loop-a.a c.loop-a.invariant
    (subst (AreBesideSettled c.args.pattern.now (cast_by c.args.cast.now) c.loop-a.a) (sym c.count_of-total.ensures)
    (c.in_ok-found-2.ensures.settled (ap Ok c.in-None-2.is)))

pub returns-clause-settled : goal.returns-clause-settled
returns-clause-settled g c = λ e.
    all_pairs c.args.pattern.now (cast_by c.args.cast.now) c.count_of-total.result c.loop-a.a c.in_ok-nodes.nodes c.count_of-total.ensures
    c.in_ok-nodes.ensures.alone (c.in_ok-found.ensures.settled (ap Ok c.in-None.is)) c.loop-a.invariant (omega (arith, c.loop-a-test.false))

pub returns-in-Some-2-clause-nodes : goal.returns-in-Some-2-clause-nodes
returns-in-Some-2-clause-nodes g c =
    pair_first c.args.pattern.now (cast_by c.args.cast.now) c.count_of-total.result c.loop-a.a c.in-Some-2.found c.count_of-total.ensures
    (alone_settled c.args.pattern.now (cast_by c.args.cast.now) c.count_of-total.result c.in_ok-nodes.nodes c.count_of-total.ensures
    c.in_ok-nodes.ensures.alone (c.in_ok-found.ensures.settled (ap Ok c.in-None.is)))
    c.loop-a.invariant
    (subst (λ o. IfSome o (λ x. IsShownBeside c.args.pattern.now (cast_by c.args.cast.now) c.loop-a.a x)) c.in-Some-2.is c.in_ok-found-2.ensures.beside)
