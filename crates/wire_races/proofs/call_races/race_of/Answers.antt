use Rattle.std.proofs.Common.{◌∙◌, ap, sym}
use Rattle.wire_runs.specs.Plan.{event_of}
use Rattle.wire_scripts.specs.Planned.{plan_of}
use Rattle.wire_runs.specs.Ends.{first_event}
use Rattle.wire_runs.specs.Findings.{NameRace}
use Rattle.wire_findings.proofs.Calls.{starts_back, starts_within, starts_named}
use Rattle.wire_races.proofs.NameRaces.{between_lower, between_rest}
use Rattle.wire_races.proofs.call_races.race_of.Goals as goal

pub call_of-requires : goal.call_of-requires
call_of-requires c = starts_within (plan_of c.args.plan.now) (event_of c.args.x.event) (starts_named (plan_of c.args.plan.now) c.args.x.name (event_of c.args.x.event) c.requires.x)

pub call_of-requires-then-is_lower : goal.call_of-requires-then-is_lower
call_of-requires-then-is_lower c = starts_within (plan_of c.args.plan.now) (event_of c.args.y) (starts_named (plan_of c.args.plan.now) c.args.x.name (event_of c.args.y) c.requires.y)

pub call_of-requires-else-is_lower : goal.call_of-requires-else-is_lower
call_of-requires-else-is_lower c = starts_within (plan_of c.args.plan.now) (event_of c.args.y) (starts_named (plan_of c.args.plan.now) c.args.x.name (event_of c.args.y) c.requires.y)

pub call_of-requires-else-is_lower-2 : goal.call_of-requires-else-is_lower-2
call_of-requires-else-is_lower-2 c = starts_within (plan_of c.args.plan.now) (event_of c.args.x.event) (starts_named (plan_of c.args.plan.now) c.args.x.name (event_of c.args.x.event) c.requires.x)

pub returns-then-is_lower : goal.returns-then-is_lower
returns-then-is_lower c =
    let plan = plan_of c.args.plan.now in
    let x = event_of c.args.x.event in
    let y = event_of c.args.y in
    let n = c.args.x.name in
    let first = ap (first_event plan) c.call_of.ensures ∙ starts_back plan x (starts_named plan n x c.requires.x) in
    let second = ap (first_event plan) c.call_of-then-is_lower.ensures ∙ starts_back plan y (starts_named plan n y c.requires.y) in
    ap (λ v. NameRace v (first_event plan c.call_of-then-is_lower.result) n) first ∙ ap (λ v. NameRace x v n) second
    ∙ sym (between_lower x y n c.if-is_lower.true)

pub returns-else-is_lower : goal.returns-else-is_lower
returns-else-is_lower c =
    let plan = plan_of c.args.plan.now in
    let x = event_of c.args.x.event in
    let y = event_of c.args.y in
    let n = c.args.x.name in
    let first = ap (first_event plan) c.call_of-else-is_lower.ensures ∙ starts_back plan y (starts_named plan n y c.requires.y) in
    let second = ap (first_event plan) c.call_of-else-is_lower-2.ensures ∙ starts_back plan x (starts_named plan n x c.requires.x) in
    ap (λ v. NameRace v (first_event plan c.call_of-else-is_lower-2.result) n) first ∙ ap (λ v. NameRace y v n) second
    ∙ sym (between_rest x y n c.if-is_lower.false)
