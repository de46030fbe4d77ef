use Rattle.std.proofs.Common.{◌≡◌, ◌/◌, ◌^◌, arith}
use Rattle.wire_clocks.proofs.Staying.{below_width}
use Rattle.wire_clocks.proofs.trees.levels_for.Goals as goal

pub returns-else-place-ne0-clause-enough : goal.returns-else-place-ne0-clause-enough
returns-else-place-ne0-clause-enough c =
    let none : c.saturating_sub-last.result / 16 ^ c.loop-levels.levels ≡ 0 = omega (arith, c.place.ensures) in
    omega (arith, c.saturating_sub-last.ensures, below_width c.saturating_sub-last.result c.loop-levels.levels none)
