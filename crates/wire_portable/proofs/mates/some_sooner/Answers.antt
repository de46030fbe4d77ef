use Rattle.std.proofs.Common.{◌≤◌, ◌+◌, length, map, arith}
use Rattle.std.proofs.lemmas.List.{length-map}
use Rattle.wire_runs.specs.Plan.{event_of}
use Rattle.wire_runs.proofs.Basics.{event_within}
use Rattle.wire_scripts.specs.Planned.{plan_of}
use Rattle.wire_fates.proofs.Places.{place_at}
use Rattle.wire_portable.specs.Libraries.{family_of}
use Rattle.wire_portable.proofs.Waits.{mate_later}
use Rattle.wire_portable.proofs.Sharing.{rest_fine, one_more_fine, all_fine}
use Rattle.wire_portable.proofs.mates.some_sooner.Goals as goal

pub loop-at-init : goal.loop-at-init
loop-at-init c = λ library not k h lt is. absurd (omega (arith, lt))

pub is_sooner-requires : goal.is_sooner-requires
is_sooner-requires c =
    let n = c.loop-at.at in
    let get = c.requires.turns.each n _ (place_at c.args.gets.now n _ c.loop-at-test.true) in
    event_within (plan_of c.args.judge.now) _ _ _ get.is

pub returns-then-is_apart : goal.returns-then-is_apart
returns-then-is_apart c = λ e library not.
    let n = c.loop-at.at in
    rest_fine (plan_of c.args.judge.now) c.args.asked.owner.number c.args.asked.key (event_of c.args.get) (family_of library) (map event_of c.args.gets.now) n _
    c.requires.turns (place_at c.args.gets.now n _ c.loop-at-test.true) (c.is_apart.ensures c.if-is_apart.true) (c.loop-at.invariant library not)

pub loop-at-preserved : goal.loop-at-preserved
loop-at-preserved c = λ library not.
    let n = c.loop-at.at in
    one_more_fine (plan_of c.args.judge.now) c.args.asked.owner.number c.args.asked.key (event_of c.args.get) (family_of library) (map event_of c.args.gets.now) n (n + 1) _
    (omega arith) (place_at c.args.gets.now n _ c.loop-at-test.true)
    (mate_later (plan_of c.args.judge.now) c.args.asked.owner.number c.args.asked.key (event_of c.args.get) library _ c.args.lacking not c.requires.lacking (c.is_sooner.ensures c.if-is_sooner.false))
    (c.loop-at.invariant library not)

pub returns : goal.returns
returns c = λ e library not.
    let over = c.loop-at-test.false in
    let count = length-map c.args.gets.now event_of in
    let end : length (map event_of c.args.gets.now) ≤ c.loop-at.at = omega (arith, over, count) in
    all_fine (plan_of c.args.judge.now) c.args.asked.owner.number c.args.asked.key (event_of c.args.get) (family_of library) (map event_of c.args.gets.now) c.loop-at.at end (c.loop-at.invariant library not)
