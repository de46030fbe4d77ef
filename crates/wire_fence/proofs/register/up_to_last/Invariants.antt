use Rattle.std.proofs.Common.{◌≤◌, length}
use Rattle.wire_fence.proofs.Kept.{IsBareFrom}
use Rattle.wire_fence.proofs.register.up_to_last.Given as goal

abbrev pub invariant-back : goal.invariant-back
invariant-back l = record {
  within : l.count ≤ length l.numbers.items;
  bare : IsBareFrom l.numbers.items l.count;
}

abbrev pub decreases-back : goal.decreases-back
decreases-back l = l.count
