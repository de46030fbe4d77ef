use Rattle.std.proofs.Common.{◌∙◌, ap, length, arith}
use Rattle.std.proofs.lemmas.List.{length_push}
use Rattle.wire_happens_before.specs.Clocks.{items_at}
use Rattle.wire_happens_before.proofs.Lists.{none_more}
use Rattle.wire_happens_before.proofs.grow.no_roots.Goals as goal

pub loop-number-preserved : goal.loop-number-preserved
loop-number-preserved c =
    let lists = c.loop-number.roots.items in
    let longer = ap length c.in_ok-push.ensures.items ∙ length_push lists c.in_ok-with_capacity.field-0 in
    record {
      count = omega (arith, longer, c.loop-number.invariant.count);
      none = λ p. ap (λ xs. items_at xs p) c.in_ok-push.ensures.items ∙ none_more lists _ c.in_ok-with_capacity.ensures.items c.loop-number.invariant.none p;
    }
