use Rattle.std.proofs.Common.{◌∙◌, ap, subst, map, get_or, None, arith}
use Rattle.wire_fence.specs.Register.{EndsBare, number_kept}
use Rattle.wire_fence.proofs.Kept.{bare_more, take_bare}
use Rattle.wire_fence.proofs.register.up_to_last.Goals as goal

pub back-preserved : goal.back-preserved
back-preserved c =
    let ends = subst (λ xs. EndsBare xs c.back.count) c.deref.ensures.value (c.ends_bare.ensures.0 c.back-test.true) in
    let some = ends.0 in
    let within = c.back.invariant.within in
    record {
      within = omega (arith, within);
      bare = bare_more c.args.numbers.items c.back.count c.back.invariant.bare c.back.invariant.within ends;
    }

pub returns : goal.returns
returns c = λ k.
    ap (λ xs. get_or (map number_kept xs) k None) (c.in_ok-kept.ensures.items ∙ c.deref-2.ensures.value ∙ c.truncate.ensures.items)
    ∙ take_bare c.args.numbers.items c.back.count c.back.invariant.bare k
