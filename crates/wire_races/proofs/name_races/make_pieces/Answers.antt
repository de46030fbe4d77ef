use Rattle.std.proofs.Common.{length, ◌≡◌, ◌-◌, ap, subst, ◌∙◌, arith, IfOk}
use Rattle.std.specs.List.{AllZip, range_with_len}
use Rattle.rayon.specs.Numbers.{nat_range}
use Rattle.wire_scripts.specs.Planned.{plan_of}
use Rattle.wire_races.specs.NameRaces.{IsRaceOn}
use Rattle.wire_races.specs.Pieces.{IsPiece}
use Rattle.wire_races.proofs.Together.{are_pieces}
use Rattle.wire_races.proofs.name_races.make_pieces.Goals as goal

pub returns : goal.returns
returns g c =
    let plan = plan_of c.args.marked.now in
    let those = IsRaceOn plan in
    let ends = c.into_par_iter.ensures in
    let given = c.in_ok-collect.ensures in
    let chain = given.1 in
    let same : c.map.result.f.1.now ≡ c.args.marked.now = λ i. (c.map.ensures.f i).1.now in
    let base : nat_range c.map.result.base.base.start c.map.result.base.base.end ≡ nat_range c.with_min_len.result.base.start c.with_min_len.result.base.end = λ i. nat_range
    (c.map.ensures.base i).base.start (c.map.ensures.base i).base.end in
    let numbers : nat_range c.with_min_len.result.base.start c.with_min_len.result.base.end ≡ nat_range c.into_par_iter.result.start c.into_par_iter.result.end = λ i. nat_range
    (c.with_min_len.ensures.base i).start (c.with_min_len.ensures.base i).end in
    let whole : c.len.result - 0 ≡ c.len.result = omega arith in
    let held : c.scripts.result.now ≡ c.args.marked.now = rw c.plan-plan.ensures at c.scripts.ensures.scripts in
    let count = c.len.ensures ∙ ap length c.names.ensures ∙ ap (λ v. length v.names) held in
    let rows : chain.0 ≡ range_with_len 0 (length c.args.marked.now.names) = chain.1 ∙ base ∙ numbers ∙ (λ i. nat_range (ends.0 i) (ends.1 i)) ∙ ap (range_with_len 0) (whole ∙ count) in
    let each = subst (λ s. AllZip (λ k x. IfOk x (IsPiece (plan_of s) (IsRaceOn (plan_of s) k))) chain.0 given.0) same chain.2 in
    are_pieces plan (length c.args.marked.now.names) those c.in_ok-collect.field-0 given.0 (subst (λ l. AllZip (λ k x. IfOk x (IsPiece plan (those k))) l given.0) rows each) given.2
