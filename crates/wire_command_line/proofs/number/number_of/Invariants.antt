use Rattle.std.proofs.Common.{◌≡◌, ◌+◌, ◌*◌, ◌-◌, ◌≤◌, drop, fold, min}
use Rattle.wire_command_line.specs.Workers.{number_said}
use Rattle.wire_command_line.proofs.number.number_of.Given as goal

abbrev pub invariant-loop-digit : goal.invariant-loop-digit
invariant-loop-digit l = record {
  said : min (fold (λ n digit. n * 10 + (digit - 48)) l.number (drop l.digit-index l.digits)) l.limit ≡ min (number_said l.digits) l.limit;
  capped : l.number ≤ l.limit;
}
