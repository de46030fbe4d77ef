-- What the casts of the code say.
use Rattle.std.specs.Prelude.{Bool, map}
use Rattle.wire_pattern.specs.Instances as spec
use Rattle.wire_instances.specs.declared.cast.Turn.{Turn}
use Rattle.wire_instances.specs.declared.cast.Choice.{Choice}
use Rattle.wire_instances.specs.declared.cast.Cast.{Cast}

abbrev pub turn_by : Turn → spec.Turn
turn_by turn = record { caller = turn.caller; step = turn.step; each = turn.each }

abbrev pub choice_by : Choice → spec.Turn × Bool
choice_by choice = (turn_by choice.turn, choice.taken)

abbrev pub cast_by : Cast → spec.Cast
cast_by cast = record {
  sizes = cast.sizes.items;
  chosen = map choice_by cast.chosen.items;
  node_count = cast.nodes.count;
  nodes = cast.nodes.of.items;
}
