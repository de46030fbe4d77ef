use Rattle.std.proofs.Common.{◌≡◌, take}
use Rattle.wire_reader.specs.FirstPass.{Started}
use Rattle.wire_reader.specs.Targets.{is_any_target}
use Rattle.wire_reader.proofs.members.gather_distinct.Given as goal

abbrev pub invariant-loop-target : goal.invariant-loop-target
invariant-loop-target l = record {
  named : (p : Started) → is_any_target l.kept.keys p ≡ is_any_target (take l.target-index l.targets) p;
}
