use Rattle.std.proofs.Common.{subst, sym, ◌∙◌}
use Rattle.wire_parallel_run.specs.Passes.{AreFirstPasses}
use Rattle.wire_parallel_run.proofs.Passes.{passes_again}
use Rattle.wire_parallel_run.proofs.threads.put_back.Goals as goal

pub returns-clause-passes : goal.returns-clause-passes
returns-clause-passes g c =
    subst (AreFirstPasses (g.W.Works.dealt c.args.works.now)) (sym c.push_reserved.ensures.items)
    (passes_again (g.W.Works.dealt c.args.works.now) c.args.passes.items c.args.pass c.requires.passes (c.requires.pass.1 ∙ c.args.passes.ok.0) c.requires.pass.0)
