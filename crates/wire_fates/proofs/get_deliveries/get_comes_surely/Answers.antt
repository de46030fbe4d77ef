use Rattle.std.proofs.Common.{◌≤◌, map, length, refl, sym, arith}
use Rattle.std.proofs.lemmas.Bool.{true≢false}
use Rattle.std.proofs.lemmas.List.{length-map}
use Rattle.wire_runs.specs.Plan.{event_of}
use Rattle.wire_scripts.specs.Planned.{plan_of}
use Rattle.wire_fates.proofs.Places.{place_at}
use Rattle.wire_fates.proofs.Gets.{none_further, sure_found, none_sure}
use Rattle.wire_fates.proofs.get_deliveries.get_comes_surely.Goals as goal

pub processes-init : goal.processes-init
processes-init c = λ k z lt. absurd (omega (arith, lt))

pub processes-preserved : goal.processes-preserved
processes-preserved c =
    let plan = plan_of c.args.marked.now in
    let get = event_of c.args.asked.get_now in
    let gets = c.gets_to-gets.result.now in
    let n = c.processes.place in
    let at = place_at gets n _ c.processes-test.true in
    none_further plan get c.args.asked.owner.number c.args.asked.key c.args.node (map event_of gets) ((rw c.plan.ensures at c.gets_to-gets.ensures) c.requires.once) n c.process_end-place.result _ at
    (λ b. true≢false (sym (c.if-before.ensures.1 b))) c.process_end-place.ensures.last c.processes.invariant

pub returns-then-before : goal.returns-then-before
returns-then-before c =
    let plan = plan_of c.args.marked.now in
    let get = event_of c.args.asked.get_now in
    let gets = c.gets_to-gets.result.now in
    let n = c.processes.place in
    let at = place_at gets n _ c.processes-test.true in (
      (λ t. sure_found plan get c.args.asked.owner.number c.args.asked.key c.args.node (map event_of gets) ((rw c.plan.ensures at c.gets_to-gets.ensures) c.requires.once) n _ at
          (c.if-before.ensures.0 refl)),
      (λ s. refl),
    )

pub returns : goal.returns
returns c =
    let plan = plan_of c.args.marked.now in
    let get = event_of c.args.asked.get_now in
    let gets = c.gets_to-gets.result.now in
    let over = c.processes-test.false in
    let count = length-map gets event_of in
    let end : length (map event_of gets) ≤ c.processes.place = omega (arith, over, count) in (
      (λ t. absurd (true≢false (sym t))),
      (λ s. absurd (none_sure plan get c.args.asked.owner.number c.args.asked.key c.args.node (map event_of gets) ((rw c.plan.ensures at c.gets_to-gets.ensures) c.requires.once) c.processes.place end
          c.processes.invariant s)),
    )

pub returns-then-own_is_before : goal.returns-then-own_is_before
returns-then-own_is_before c = (
  (λ t. c.own_is_before.ensures c.args.asked.owner.number c.args.asked.key c.args.node ((rw c.plan.ensures at c.gets_to-gets.ensures) c.requires.once) c.if-own_is_before.true),
  (λ s. refl),
)
