use Rattle.std.proofs.Common.{◌≡◌, ◌-◌, ◌++◌}
use Rattle.std.specs.Prelude.{replicate}
use Rattle.wire_types.specs.declared.CallEnd.TheVariants.{Unreached}
use Rattle.wire_core.proofs.ends.add_unreached.Given as goal

abbrev pub invariant-loop : goal.invariant-loop
invariant-loop l = l.ends.items ++ replicate (l.count - l.counter) Unreached ≡ l.fn.ends.items ++ replicate l.count Unreached
