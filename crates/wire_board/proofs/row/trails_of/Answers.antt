use Rattle.std.proofs.Common.{◌≡◌, ◌∙◌, length, sym, ap, subst, arith, vec_len}
use Rattle.std.proofs.lemmas.Option.{none-some}
use Rattle.wire_types.specs.declared.Proc.{Proc}
use Rattle.wire_runs.specs.Plan.{process_count}
use Rattle.wire_scripts.specs.Scripts.{Scripts}
use Rattle.wire_scripts.specs.Planned.{plan_of}
use Rattle.wire_board.specs.Lanes.{IsLaneOf}
use Rattle.wire_board.proofs.Told.{Taking, taking_none, taking_more, taking_at, tells_all, tells_none}
use Rattle.wire_board.proofs.row.trails_of.Goals as goal

pub returns-in_default-into_trail-clause-trails : goal.returns-in_default-into_trail-clause-trails
returns-in_default-into_trail-clause-trails c =
    let plan = plan_of c.args.settled.now in
    let rest = c.pop.new.self.items in
    let lane = c.in-Some.lane in
    let number = ap (λ (p : Proc). p.number) c.new-rank.ensures in
    let len = c.len-in-Some.ensures in
    let ok = c.pop.new.self.ok.0 in
    let pos : length rest ≡ c.new-rank.result.number = omega (arith, number, len, ok) in
    tells_none plan c.args.lanes.items (λ are.
    c.into_trail.ensures.some.1 (subst (λ n. IsLaneOf plan n lane) pos
    (are.each (length rest) lane (taking_at plan c.args.lanes.items c.lanes.lanes.items rest lane c.lanes.trails.items c.lanes.invariant.0 c.in-Some.ensures.items)))
    c.in_default-into_trail.is)

pub lanes-preserved : goal.lanes-preserved
lanes-preserved c =
    let plan = plan_of c.args.settled.now in
    let rest = c.pop.new.self.items in
    let lane = c.in-Some.lane in
    let number = ap (λ (p : Proc). p.number) c.new-rank.ensures in
    let len = c.len-in-Some.ensures in
    let ok = c.pop.new.self.ok.0 in
    let pos : length rest ≡ c.new-rank.result.number = omega (arith, number, len, ok) in
    let told = c.in-Some-into_trail.ensures in
    let sum = c.lanes.invariant.1 in
    let room = c.lanes.invariant.2 in
    let pushed = c.push_reserved.ensures.len in
    let kept = c.push_reserved.ensures.capacity in
    let popped = c.in-Some.ensures.len in
    let of = subst (λ n. IsLaneOf plan n lane) (sym pos) (told.some.0 (λ none. none-some _ (sym none))) in (
      taking_more plan c.args.lanes.items c.lanes.lanes.items rest lane c.lanes.trails.items c.push_reserved.new.self.items c.in-Some-into_trail.trail c.lanes.invariant.0 c.in-Some.ensures.items
          c.push_reserved.ensures.items of told.trail,
      omega (arith, sum, pushed, popped),
      omega (arith, room, kept),
    )

pub returns-clause-trails : goal.returns-clause-trails
returns-clause-trails c =
    let none = c.in_default.ensures.cases.0 in
    let left = c.lanes.lanes.ok.0 in
    let count : length c.args.lanes.items ≡ process_count (plan_of c.args.settled.now) =
    sym c.args.lanes.ok.0 ∙ sym c.len.ensures ∙ c.if-len-count.false ∙ c.process_count-count.ensures ∙ ap (λ (s : Scripts). process_count (plan_of s)) c.plan.ensures.same in
    tells_all (plan_of c.args.settled.now) c.args.lanes.items c.lanes.lanes.items c.lanes.trails.items c.reverse.new.self c.lanes.invariant.0 (omega (arith, none, left)) c.reverse.ensures.items count

pub lanes-init : goal.lanes-init
lanes-init c =
    let all = c.args.lanes.items in
    let empty = c.in_ok-trails.ensures.len in
    let room = c.in_ok-trails.ensures.capacity in
    let asked = c.len-2.ensures in
    let count : vec_len c.args.lanes ≡ c.process_count-count.result = sym c.len.ensures ∙ c.if-len-count.false in (
      subst (Taking (plan_of c.args.settled.now) all all) (sym c.in_ok-trails.ensures.items) (taking_none (plan_of c.args.settled.now) all),
      omega (arith, empty, count),
      omega (arith, room, asked, count),
    )
