use Rattle.std.proofs.Common.{sym, subst}
use Rattle.std.proofs.lemmas.Result.{IfOk-weaker}
use Rattle.wire_findings.specs.Findings.{AreFindings}
use Rattle.wire_races.proofs.finding_search.vec_of_findings.Goals as goal

pub returns : goal.returns
returns g c = IfOk-weaker c.to_vec.result _ _ (λ found is. subst (AreFindings c.args.marked.now) (sym is) c.in_ok-list.ensures) c.to_vec.ensures
