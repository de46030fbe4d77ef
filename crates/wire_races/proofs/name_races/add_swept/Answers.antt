use Rattle.std.proofs.Common.{◌≡◌, ◌∙◌, map, take, sym, subst, arith}
use Rattle.std.proofs.lemmas.Bool.{true≢false}
use Rattle.std.proofs.lemmas.List.{map_more, take_all}
use Rattle.wire_runs.specs.Plan.{event_of}
use Rattle.wire_types.specs.declared.Proc.{Proc}
use Rattle.wire_scripts.specs.Planned.{plan_of}
use Rattle.wire_scripts.specs.Scripts.{numbers_of}
use Rattle.wire_races.specs.Adding.{AddsFindings}
use Rattle.wire_races.specs.NameRaces.{IsSweptRace}
use Rattle.wire_races.proofs.Growing.{adds_none}
use Rattle.wire_races.proofs.Lists.{number_at}
use Rattle.wire_races.proofs.Swept.{none_swept, swept_live, swept_more, facing_rivals, facing_stretch}
use Rattle.wire_races.proofs.name_races.add_swept.Goals as goal

pub returns-then-not-live : goal.returns-then-not-live
returns-then-not-live c =
    let plan = plan_of c.args.marked.now in
    let x = event_of c.args.x.event in
    adds_none plan c.args.found.now _ c.requires.found (λ f r. true≢false (sym (c.live.ensures.1 (swept_live plan c.args.x.name x (numbers_of c.args.procs.now) f r)) ∙ c.if-not-live.true))

pub loop-proc-init : goal.loop-proc-init
loop-proc-init c = adds_none (plan_of c.args.marked.now) c.args.found.now _ c.requires.found (none_swept (plan_of c.args.marked.now) c.args.x.name (event_of c.args.x.event))

pub add_between-requires-clause-rivals : goal.add_between-requires-clause-rivals
add_between-requires-clause-rivals c =
    let plan = plan_of c.args.marked.now in
    let x = event_of c.args.x.event in
    let procs = c.args.procs.now in
    let n = c.loop-proc.proc-index in
    facing_rivals plan c.args.x.name x _ (map event_of c.find_facing.result.now) (rw c.plan-plan.ensures at c.find_facing.ensures)
    (c.requires.procs.each n _ (number_at procs n _ c.loop-proc-test.true))

pub add_between-requires-clause-run : goal.add_between-requires-clause-run
add_between-requires-clause-run c =
    facing_stretch (plan_of c.args.marked.now) c.args.x.name (event_of c.args.x.event) _ (map event_of c.find_facing.result.now) (rw c.plan-plan.ensures at c.find_facing.ensures)

pub add_between-requires-clause-live : goal.add_between-requires-clause-live
add_between-requires-clause-live c = c.live.ensures.0 c.if-not-live.false

pub loop-proc-preserved : goal.loop-proc-preserved
loop-proc-preserved c =
    let plan = plan_of c.args.marked.now in
    let name = c.args.x.name in
    let x = event_of c.args.x.event in
    let procs = c.args.procs.now in
    let n = c.loop-proc.proc-index in
    subst (λ l. AddsFindings plan c.args.found.now c.add_between.new.found (IsSweptRace plan name x l)) (sym (map_more (λ (p : Proc). p.number) procs n _ c.loop-proc-test.true))
    (swept_more plan name x _ (map event_of c.find_facing.result.now) (rw c.plan-plan.ensures at c.find_facing.ensures) (numbers_of (take n procs)) c.args.found.now c.loop-proc.found
    c.add_between.new.found
    c.loop-proc.invariant c.in_ok-add_between.ensures)

pub returns : goal.returns
returns c =
    let plan = plan_of c.args.marked.now in
    let procs = c.args.procs.now in
    let all : take c.loop-proc.proc-index procs ≡ procs = take_all c.loop-proc.proc-index procs (omega arith) in
    subst (λ l. AddsFindings plan c.args.found.now c.loop-proc.found (IsSweptRace plan c.args.x.name (event_of c.args.x.event) (numbers_of l))) all c.loop-proc.invariant
