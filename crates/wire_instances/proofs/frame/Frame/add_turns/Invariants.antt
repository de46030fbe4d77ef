use Rattle.std.proofs.Common.{◌≡◌, ◌++◌, ◌-◌, filter}
use Rattle.std.specs.List.{range_with_len}
use Rattle.wire_pattern.specs.Instances.{cast_of}
use Rattle.wire_pattern.specs.Views.{turns_by}
use Rattle.wire_instances.specs.Tables.{takes}
use Rattle.wire_instances.proofs.frame.Frame.add_turns.Given as goal

abbrev pub invariant-loop-each : goal.invariant-loop-each
invariant-loop-each l =
    l.out.items ++ filter (takes (cast_of l.self.cast) l.round.caller l.round.step (turns_by l.round.turns)) (range_with_len l.each (l.to - l.each))
    ≡ l.fn.out.items ++ filter (takes (cast_of l.self.cast) l.round.caller l.round.step (turns_by l.round.turns)) (range_with_len l.from (l.to - l.from))
