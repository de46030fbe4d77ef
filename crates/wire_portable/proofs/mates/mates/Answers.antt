use Rattle.std.proofs.Common.{◌≡◌, ◌≤◌, false, map, length, subst, arith}
use Rattle.std.proofs.lemmas.List.{length-map}
use Rattle.wire_runs.specs.Plan.{event_of}
use Rattle.wire_scripts.specs.Planned.{plan_of}
use Rattle.wire_portable.specs.Libraries.{family_of, has}
use Rattle.wire_portable.proofs.Sets.{of_either, not_v4}
use Rattle.wire_portable.proofs.Sharing.{none_lacking, part_fine, turns_between, all_fine, later_fine}
use Rattle.wire_portable.proofs.mates.mates.Goals as goal

pub returns-in_default : goal.returns-in_default
returns-in_default c = λ library free.
    none_lacking (plan_of c.args.judge.now) c.args.asked.owner.number c.args.asked.key (event_of c.args.get) (family_of library) (map event_of c.args.gets.now) c.in_default.ensures

pub processes-init : goal.processes-init
processes-init c = λ library free k h lt is. absurd (omega (arith, lt))

pub with_process-requires-clause-turns : goal.with_process-requires-clause-turns
with_process-requires-clause-turns c =
    turns_between (plan_of c.args.judge.now) c.args.asked.owner.number c.args.gets.now c.processes.place c.process_end-end.result c.requires.gets c.process_end-end.ensures.last

pub processes-preserved : goal.processes-preserved
processes-preserved c = λ library free.
    let both = of_either library c.processes.found c.with_process.result (subst (λ s. has s library ≡ false) c.or-found.ensures free) in
    let after = c.process_end-end.ensures.after in
    part_fine (plan_of c.args.judge.now) c.args.asked.owner.number c.args.asked.key (event_of c.args.get) (family_of library) c.args.gets.now c.processes.place c.process_end-end.result
    (omega (arith, after)) (c.processes.invariant library both.0) (c.with_process.ensures library both.1)

pub returns-then-is_told : goal.returns-then-is_told
returns-then-is_told c = λ library free.
    let told = c.is_told.ensures c.if-is_told.true in
    later_fine (plan_of c.args.judge.now) c.args.asked.owner.number c.args.asked.key (event_of c.args.get) library (map event_of c.args.gets.now) c.in-Some.lacking c.args.first
    (not_v4 library c.or-found.result told.0 free) c.in-Some.ensures told.1 c.requires.first

pub returns : goal.returns
returns c = λ library free.
    let over = c.processes-test.false in
    let count = length-map c.args.gets.now event_of in
    let end : length (map event_of c.args.gets.now) ≤ c.processes.place = omega (arith, over, count) in
    all_fine (plan_of c.args.judge.now) c.args.asked.owner.number c.args.asked.key (event_of c.args.get) (family_of library) (map event_of c.args.gets.now) c.processes.place end
    (c.processes.invariant library free)
