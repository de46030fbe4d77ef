use Rattle.std.proofs.Common.{◌<◌, sym, ap, subst, ◌∙◌}
use Rattle.std.proofs.lemmas.Result.{on_ok_weaker}
use Rattle.wire_runs.specs.Plan.{event_of, event_count}
use Rattle.wire_runs.proofs.Basics.{event_within}
use Rattle.wire_scripts.specs.Planned.{plan_of}
use Rattle.wire_portable.specs.Judging.{IsNoRewrite}
use Rattle.wire_portable.specs.Searched.{Searched}
use Rattle.wire_portable.proofs.search.Search.add_put.Goals as goal

pub blame-requires : goal.blame-requires
blame-requires c =
    let same = c.plan-plan.ensures ∙ ap (λ (v : Searched). v.scripts) c.self.view_is in
    subst (λ s. c.args.put.at < event_count (plan_of s) c.args.put.proc.number) (sym same)
    (event_within (plan_of c.args.self.now.scripts) c.args.put.proc.number c.args.put.at _ c.requires.1)

pub returns : goal.returns
returns c =
    let same = c.plan-plan.ensures ∙ ap (λ (v : Searched). v.scripts) c.self.view_is in
    on_ok_weaker c.blame.result
    (λ adds library u.
    let t = adds library u in
    (t.0, subst (λ s. IsNoRewrite (plan_of s) (event_of c.args.put)) same (c.is_put_again.ensures (sym (c.all_if-again.ensures library) ∙ t.1))))
    c.blame.ensures
