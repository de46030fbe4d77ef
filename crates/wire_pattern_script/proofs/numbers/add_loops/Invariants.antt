use Rattle.std.proofs.Common.{◌≡◌, ◌++◌, map, drop}
use Rattle.wire_types.specs.Texts.{texts_of}
use Rattle.wire_pattern.specs.Views.{step_by}
use Rattle.wire_pattern_script.specs.Numbers.{loop_of}
use Rattle.wire_pattern_script.specs.Drafted.{declared_of}
use Rattle.wire_pattern_script.specs.Drafted.{loop_of as draft_loop_of}
use Rattle.wire_pattern_script.proofs.numbers.add_loops.Given as goal

abbrev pub invariant-loop-role : goal.invariant-loop-role
invariant-loop-role l =
    map step_by l.numbered.items ++ map (loop_of (declared_of l.draft) l.job (draft_loop_of l.begun)) (texts_of (drop l.role-index l.roles))
    ≡ map step_by l.fn.numbered.items ++ map (loop_of (declared_of l.draft) l.job (draft_loop_of l.begun)) (texts_of l.roles)
