use Rattle.std.proofs.Common.{◌≡◌, ◌-◌, ap, subst, ◌∙◌, arith, IfOk}
use Rattle.std.specs.List.{AllZip, range_with_len}
use Rattle.rayon.specs.Numbers.{nat_range}
use Rattle.wire_runs.specs.Plan.{process_count}
use Rattle.wire_scripts.specs.Planned.{plan_of}
use Rattle.wire_anywhere.specs.Races.{IsShownOf}
use Rattle.wire_anywhere.specs.Adding.{IsPiece}
use Rattle.wire_anywhere.proofs.Pieces.{are_pieces}
use Rattle.wire_anywhere.proofs.key_races.make_pieces.Goals as goal

pub returns : goal.returns
returns g c =
    let plan = plan_of c.args.marked.now in
    let those = IsShownOf plan in
    let ends = c.into_par_iter.ensures in
    let given = c.in_ok-collect.ensures in
    let chain = given.1 in
    let same : c.map.result.f.1.now ≡ c.args.marked.now = λ i. (c.map.ensures.f i).1.now in
    let base : nat_range c.map.result.base.base.start c.map.result.base.base.end ≡ nat_range c.with_min_len.result.base.start c.with_min_len.result.base.end = λ i. nat_range
    (c.map.ensures.base i).base.start (c.map.ensures.base i).base.end in
    let numbers : nat_range c.with_min_len.result.base.start c.with_min_len.result.base.end ≡ nat_range c.into_par_iter.result.start c.into_par_iter.result.end = λ i. nat_range
    (c.with_min_len.ensures.base i).start (c.with_min_len.ensures.base i).end in
    let whole : c.process_count.result - 0 ≡ c.process_count.result = omega arith in
    let count = whole ∙ (rw c.plan-plan.ensures at c.process_count.ensures) in
    let rows : chain.0 ≡ range_with_len 0 (process_count plan) = chain.1 ∙ base ∙ numbers ∙ (λ i. nat_range (ends.0 i) (ends.1 i)) ∙ ap (range_with_len 0) count in
    let each = subst (λ s. AllZip (λ k x. IfOk x (IsPiece (plan_of s) (IsShownOf (plan_of s) k))) chain.0 given.0) same chain.2 in
    are_pieces plan (process_count plan) those c.in_ok-collect.field-0 given.0 (subst (λ l. AllZip (λ k x. IfOk x (IsPiece plan (those k))) l given.0) rows each) given.2
