use Rattle.std.proofs.Math.Nat.{min-le_right}
use Rattle.std.proofs.Common.{◌≤◌, subst, sym}
use Rattle.wire_command_line.proofs.Capped.{said_on}
use Rattle.wire_command_line.proofs.number.number_of.Goals as goal

pub loop-digit-preserved : goal.loop-digit-preserved
loop-digit-preserved c = record {
  said = said_on c.args.limit c.args.digits.now c.loop-digit.digit-index c.loop-digit.number c.saturating_sub.result c.min-number.result _ c.loop-digit-test.true c.saturating_sub.ensures
      c.min-number.ensures
      c.loop-digit.invariant.said;
  capped = subst (λ n. n ≤ c.args.limit) (sym c.min-number.ensures) (min-le_right _ c.args.limit);
}
