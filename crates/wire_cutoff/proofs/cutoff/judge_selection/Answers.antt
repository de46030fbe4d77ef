use Rattle.std.proofs.Common.{ap, Ok}
use Rattle.wire_instances.specs.Views.{cast_by}
use Rattle.wire_cutoff.specs.Views.{selection_by}
use Rattle.wire_cutoff.proofs.Judged.{found_by, settled_at}
use Rattle.wire_cutoff.proofs.cutoff.judge_selection.Goals as goal

pub returns-then-branch-clause-settled : goal.returns-then-branch-clause-settled
returns-then-branch-clause-settled g c = λ e.
    settled_at c.args.pattern.now (selection_by c.args.selection.now) (cast_by c.in_ok-cast.cast) c.in_ok-cast.ensures.of
    (c.in_ok-judge_instance.ensures.settled (ap Ok c.if-branch.true))

pub returns-clause-settled : goal.returns-clause-settled
returns-clause-settled g c = λ e.
    settled_at c.args.pattern.now (selection_by c.args.selection.now) (cast_by c.in_ok-cast.cast) c.in_ok-cast.ensures.of (c.find_counterexample.ensures.settled e)

pub returns-clause-found : goal.returns-clause-found
returns-clause-found g c =
    found_by c.args.pattern.now (selection_by c.args.selection.now) (cast_by c.in_ok-cast.cast) c.find_counterexample.result c.in_ok-cast.ensures.of
    c.find_counterexample.ensures.found c.find_counterexample.ensures.nodes
