use Rattle.std.proofs.Common.{◌∙◌, sym}
use Rattle.std.proofs.lemmas.Bool.{true≢false}
use Rattle.wire_runs.specs.Plan.{event_of}
use Rattle.wire_scripts.specs.Planned.{plan_of}
use Rattle.wire_fates.proofs.Fates.{fate_of_live, fate_of_dead}
use Rattle.wire_fates.proofs.fate.fate_of.Goals as goal

pub returns-then-live : goal.returns-then-live
returns-then-live c =
    let plan = plan_of c.args.marked.now in
    fate_of_live plan c.marks.result.now (event_of c.args.event) c.live_fate.result c.requires c.marks.ensures (c.live.ensures.0 c.if-live.true) c.live_fate.ensures

pub returns-else-live : goal.returns-else-live
returns-else-live c =
    let plan = plan_of c.args.marked.now in
    fate_of_dead plan (event_of c.args.event) (λ l. true≢false (sym (c.live.ensures.1 l) ∙ c.if-live.false))
