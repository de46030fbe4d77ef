use Rattle.wire_parallel_run.proofs.Passes.{popped, popped_rest}
use Rattle.wire_parallel_run.proofs.threads.take_last_pass.Goals as goal

pub returns-clause-pass : goal.returns-clause-pass
returns-clause-pass g c =
    popped (g.W.Works.dealt c.args.works.now) c.args.passes.now.items c.pop.new.self.items _ c.pop.result c.pop.ensures.items c.pop.new.self.ok.0 c.requires

pub returns-clause-rest : goal.returns-clause-rest
returns-clause-rest g c =
    popped_rest (g.W.Works.dealt c.args.works.now) c.args.passes.now.items c.pop.new.self.items c.pop.result c.pop.ensures.items c.requires
