use Rattle.std.proofs.Common.{◌≡◌, ◌-◌, ap, subst, ◌∙◌, arith, IfOk}
use Rattle.std.proofs.lemmas.Result.{IfOk-weaker}
use Rattle.std.specs.List.{AllZip, range_with_len}
use Rattle.rayon.specs.Numbers.{nat_range}
use Rattle.wire_scripts.specs.Planned.{plan_of}
use Rattle.wire_races.specs.KeyRaces.{HasPieces, IsKeyRaceIn, AreKeyPieces}
use Rattle.wire_races.specs.Pieces.{IsPiece, ArePieces}
use Rattle.wire_races.proofs.Together.{are_pieces}
use Rattle.wire_races.proofs.key_races.make_pieces.Goals as goal

pub returns : goal.returns
returns g c =
    let plan = plan_of c.args.marked.now in
    let size = c.args.size in
    let those = IsKeyRaceIn plan size in
    let count = c.piece_count.result in
    let enough : HasPieces plan size count = rw c.plan.ensures at c.piece_count.ensures.enough in
    let ends = c.into_par_iter.ensures in
    let given = c.in_ok-collect.ensures in
    let chain = given.1 in
    let same : c.map.result.f.1.now ≡ c.args.marked.now = λ i. (c.map.ensures.f i).1.now in
    let base : nat_range c.map.result.base.base.start c.map.result.base.base.end ≡ nat_range c.with_min_len.result.base.start c.with_min_len.result.base.end = λ i. nat_range
    (c.map.ensures.base i).base.start (c.map.ensures.base i).base.end in
    let numbers : nat_range c.with_min_len.result.base.start c.with_min_len.result.base.end ≡ nat_range c.into_par_iter.result.start c.into_par_iter.result.end = λ i. nat_range
    (c.with_min_len.ensures.base i).start (c.with_min_len.ensures.base i).end in
    let whole : count - 0 ≡ count = omega arith in
    let rows : chain.0 ≡ range_with_len 0 count = chain.1 ∙ base ∙ numbers ∙ (λ i. nat_range (ends.0 i) (ends.1 i)) ∙ ap (range_with_len 0) whole in
    let as_given : c.map.result.f.2.now ≡ size = λ i. (c.map.ensures.f i).2.now in
    let each = subst (λ n. AllZip (λ k x. IfOk x (IsPiece plan (IsKeyRaceIn plan n k))) chain.0 given.0) as_given
    (subst (λ s. AllZip (λ k x. IfOk x (IsPiece (plan_of s) (IsKeyRaceIn (plan_of s) c.map.result.f.2.now k))) chain.0 given.0) same chain.2) in
    IfOk-weaker c.in_ok-collect.field-0 (λ v. ArePieces plan count those v.items) (λ v. AreKeyPieces plan v.items)
    (λ v pieces. record { size = size; count = count; enough = enough; are = pieces })
    (are_pieces plan count those c.in_ok-collect.field-0 given.0 (subst (λ l. AllZip (λ k x. IfOk x (IsPiece plan (those k))) l given.0) rows each) given.2)
