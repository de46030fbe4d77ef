use Rattle.std.proofs.Common.{◌∙◌, ◌==◌, sym, length, codes}
use Rattle.std.specs.List.{flat_map}
use Rattle.wire_pattern_commands.specs.LeftOut.{indented_turn}
use Rattle.wire_pattern_commands.proofs.FirstWaits.{headed}
use Rattle.wire_pattern_commands.proofs.left_out.push_left.Goals as goal

pub returns : goal.returns
returns c =
    headed c.push_all_indented.result c.args.out.now.items _ _ (codes "  turns not taken:\n") (flat_map (indented_turn c.args.scripts.now) c.args.turns.now)
    (length c.args.turns.now == 0) (sym c.is_empty.ensures ∙ c.if-is_empty.false) c.in_ok-extend_from_slice.ensures.items c.push_all_indented.ensures
