use Rattle.std.proofs.Common.{ap, sym, ◌∙◌}
use Rattle.std.proofs.lemmas.Result.{on_ok_weaker}
use Rattle.wire_runs.specs.Plan.{event_of}
use Rattle.wire_portable.specs.Fences.{KeepsFenceRules, number_of}
use Rattle.wire_portable.proofs.PlainFences.{three_added, keeps_rules}
use Rattle.wire_portable.proofs.fences.add_first.Goals as goal

pub returns : goal.returns
returns c =
    let s = c.args.plan.now in
    let rows = c.args.spelling.now in
    let table = c.args.sets.now in
    let first = event_of c.args.compared.first in
    let call = c.args.compared.call in
    on_ok_weaker c.blame-3.result (λ last.
    three_added c.args.found.now c.blame.new.self c.blame-2.new.self c.blame-3.new.self c.all_if-differing.result c.not_taking-others.result c.repeating-twice.result
    (λ library. KeepsFenceRules library s rows table first call)
    (λ library h i j.
    keeps_rules library s rows table first call c.spelt_at-spelt.result c.spelt_at-spelt.ensures (c.differs.ensures (sym (c.all_if-differing.ensures library) ∙ h))
    (c.not_taking-others.ensures s library c.requires.jobs i) (c.repeating-twice.ensures library j) (ap number_of c.spelt_at-spelt.ensures ∙ c.requires.alike))
    c.in_ok-blame.ensures c.in_ok-blame-2.ensures last) c.blame-3.ensures
