use Rattle.std.proofs.Common.{◌∙◌, map, sym}
use Rattle.std.proofs.lemmas.Bool.{true≢false}
use Rattle.wire_runs.specs.Plan.{event_of}
use Rattle.wire_scripts.specs.Planned.{plan_of}
use Rattle.wire_findings.proofs.Calls.{starts_within, starts_named}
use Rattle.wire_races.proofs.Rivals.{all_calls, all_writers, changing, higher_calls, all_changing, reading, higher_writers, all_reading}
use Rattle.wire_races.proofs.NameRaces.{plain_calls}
use Rattle.wire_races.proofs.name_races.rivals_of.Goals as goal

pub is_write-requires : goal.is_write-requires
is_write-requires c = starts_within (plan_of c.args.plan.now) (event_of c.args.x.event) (starts_named (plan_of c.args.plan.now) c.args.x.name (event_of c.args.x.event)
    (plain_calls (plan_of c.args.plan.now) c.args.x.name (event_of c.args.x.event) _ c.requires.x))

pub returns-then-is_write-clause-rivals : goal.returns-then-is_write-clause-rivals
returns-then-is_write-clause-rivals c =
    let plan = plan_of c.args.plan.now in
    let name = c.args.x.name in
    let x = event_of c.args.x.event in
    let calls = map event_of c.args.calls.now in
    changing plan name x calls (map event_of c.calls_above.result.now) c.requires.calls (sym c.is_write.ensures ∙ c.if-is_write.true)
    (c.calls_above.ensures plan name (all_calls plan name x calls c.requires.calls))

pub returns-then-is_write-clause-all : goal.returns-then-is_write-clause-all
returns-then-is_write-clause-all c =
    let plan = plan_of c.args.plan.now in
    let name = c.args.x.name in
    let x = event_of c.args.x.event in
    let calls = map event_of c.args.calls.now in
    all_changing plan name x calls (map event_of c.calls_above.result.now) c.requires.calls (c.calls_above.ensures plan name (all_calls plan name x calls c.requires.calls))

pub returns-else-is_write-clause-rivals : goal.returns-else-is_write-clause-rivals
returns-else-is_write-clause-rivals c =
    let plan = plan_of c.args.plan.now in
    let name = c.args.x.name in
    let x = event_of c.args.x.event in
    let writers = map event_of c.args.writers.now in
    reading plan name x writers (map event_of c.calls_above-else-is_write.result.now) c.requires.writers
    (c.calls_above-else-is_write.ensures plan name (all_writers plan name x writers c.requires.writers))

pub returns-else-is_write-clause-all : goal.returns-else-is_write-clause-all
returns-else-is_write-clause-all c =
    let plan = plan_of c.args.plan.now in
    let name = c.args.x.name in
    let x = event_of c.args.x.event in
    let writers = map event_of c.args.writers.now in
    all_reading plan name x writers (map event_of c.calls_above-else-is_write.result.now) c.requires.writers (λ w. true≢false (sym w ∙ sym c.is_write.ensures ∙ c.if-is_write.false))
    (c.calls_above-else-is_write.ensures plan name (all_writers plan name x writers c.requires.writers))

pub returns-then-is_write-clause-higher : goal.returns-then-is_write-clause-higher
returns-then-is_write-clause-higher c =
    let plan = plan_of c.args.plan.now in
    let name = c.args.x.name in
    let x = event_of c.args.x.event in
    let calls = map event_of c.args.calls.now in
    higher_calls plan name x calls (map event_of c.calls_above.result.now) c.requires.calls (c.calls_above.ensures plan name (all_calls plan name x calls c.requires.calls))

pub returns-else-is_write-clause-higher : goal.returns-else-is_write-clause-higher
returns-else-is_write-clause-higher c =
    let plan = plan_of c.args.plan.now in
    let name = c.args.x.name in
    let x = event_of c.args.x.event in
    let writers = map event_of c.args.writers.now in
    higher_writers plan name x writers (map event_of c.calls_above-else-is_write.result.now) c.requires.writers
    (c.calls_above-else-is_write.ensures plan name (all_writers plan name x writers c.requires.writers))
