use Rattle.std.proofs.lemmas.Result.{on_ok_weaker}
use Rattle.wire_findings.proofs.Adding.{pushed}
use Rattle.wire_findings.proofs.found.FindingsBuilder.add.Goals as goal

pub returns-clause-added : goal.returns-clause-added
returns-clause-added c = on_ok_weaker c.push.result (λ is plan. pushed plan c.args.self.now c.push.new.self c.args.finding is) c.push.ensures

pub returns-clause-behind : goal.returns-clause-behind
returns-clause-behind c = c.push.ensures
