use Rattle.std.proofs.Common.{◌∙◌, ap, sym, [], ◌∷◌, ◌++◌, map}
use Rattle.std.proofs.lemmas.List.{map_more, take_all}
use Rattle.wire_explain.specs.Order.{in_line}
use Rattle.wire_explain.proofs.order_faults.flat_word.Goals as goal

pub loop-byte-preserved : goal.loop-byte-preserved
loop-byte-preserved c =
    c.in_ok-push.ensures.items
    ∙ (λ k. c.loop-byte.invariant k ++ c.in_line.ensures k ∷ [])
    ∙ sym (map_more in_line c.args.word.now c.loop-byte.byte-index 0 c.loop-byte-test.true)

pub returns : goal.returns
returns c = c.loop-byte.invariant ∙ ap (map in_line) (take_all c.loop-byte.byte-index c.args.word.now c.loop-byte-test.false)
