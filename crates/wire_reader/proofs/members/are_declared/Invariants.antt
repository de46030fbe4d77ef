use Rattle.std.proofs.Common.{◌≡◌, drop}
use Rattle.std.specs.List.{list_all}
use Rattle.wire_reader.specs.Targets.{is_declared_target}
use Rattle.wire_reader.specs.Drafted.{declared_of}
use Rattle.wire_reader.proofs.members.are_declared.Given as goal

abbrev pub invariant-loop-target : goal.invariant-loop-target
invariant-loop-target l = record {
  so_far : list_all (is_declared_target (declared_of l.draft)) l.targets ≡ list_all (is_declared_target (declared_of l.draft)) (drop l.target-index l.targets);
}
