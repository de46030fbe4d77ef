use Rattle.std.proofs.Common.{◌%◌, ◌*◌, ◌-◌, ◌∙◌, ap, arith, bit_and}
use Rattle.std.proofs.lemmas.Nat.{one_shl, and_mask}
use Rattle.wire_clocks.proofs.Growing.{pow_four}
use Rattle.wire_clocks.proofs.rows.place_below.Goals as goal

pub returns : goal.returns
returns c =
    ap (λ n. bit_and c.args.process (n - 1)) (one_shl (4 * c.args.level) 32 (omega arith)) ∙ and_mask c.args.process (4 * c.args.level) ∙ ap (λ n. c.args.process % n) (pow_four c.args.level)
