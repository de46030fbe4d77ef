use Rattle.std.proofs.Common.{◌+◌, ◌≤◌, map, length, arith}
use Rattle.std.proofs.lemmas.Bool.{true≢false}
use Rattle.std.proofs.lemmas.List.{length-map}
use Rattle.wire_runs.specs.Plan.{event_of}
use Rattle.wire_scripts.specs.Planned.{plan_of}
use Rattle.wire_fates.proofs.Places.{place_at}
use Rattle.wire_portable.proofs.Carried.{later_too, never_more, all_later}
use Rattle.wire_portable.proofs.nows.gets_may_bring.Goals as goal

pub may_bring-requires-clause-is : goal.may_bring-requires-clause-is
may_bring-requires-clause-is c = c.requires.gets.only c.gets.place _ (place_at c.args.gets.now c.gets.place _ c.gets-test.true)

pub gets-init : goal.gets-init
gets-init c = λ k z lt. absurd (omega (arith, lt))

pub returns-then-not-after : goal.returns-then-not-after
returns-then-not-after c = λ e. absurd (true≢false e)

pub gets-preserved-then-may_bring : goal.gets-preserved-then-may_bring
gets-preserved-then-may_bring c =
    later_too (plan_of c.args.judge.now) c.args.asked.owner.number c.args.asked.key (event_of c.args.get) (map event_of c.args.gets.now) c.requires.gets c.gets.place c.process_end-place.result _
    (place_at c.args.gets.now c.gets.place _ c.gets-test.true) ((rw c.marked-marked.ensures at c.before-after.ensures).0 c.if-not-after.false) c.process_end-place.ensures.last c.gets.invariant

pub gets-preserved : goal.gets-preserved
gets-preserved c =
    never_more (plan_of c.args.judge.now) c.args.asked.owner.number c.args.asked.key (event_of c.args.get) (map event_of c.args.gets.now) c.gets.place (c.gets.place + 1) _ (omega arith)
    (place_at c.args.gets.now c.gets.place _ c.gets-test.true) (c.may_bring.ensures c.if-may_bring.false) c.gets.invariant

pub returns : goal.returns
returns c = λ e.
    let over = c.gets-test.false in
    let count = length-map c.args.gets.now event_of in
    let end : length (map event_of c.args.gets.now) ≤ c.gets.place = omega (arith, over, count) in
    all_later (plan_of c.args.judge.now) c.args.asked.owner.number c.args.asked.key (event_of c.args.get) (map event_of c.args.gets.now) c.gets.place end c.gets.invariant
