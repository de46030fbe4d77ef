use Rattle.std.proofs.Common.{◌≡◌, true, map, take}
use Rattle.wire_types.specs.Texts.{texts_of}
use Rattle.wire_instances.specs.Asked.{are_fit, asked_by}
use Rattle.wire_pattern_commands.specs.Ranks.{are_few, asked_text}
use Rattle.wire_pattern_commands.proofs.ranks.read_parts.Given as goal

abbrev pub invariant-loop-number : goal.invariant-loop-number
invariant-loop-number l = record {
  asks : map asked_text (map asked_by l.asked.items) ≡ texts_of (take l.number l.parts);
  few : are_few (map asked_by l.asked.items) ≡ true;
  fit : are_fit l.pattern.roles (map asked_by l.asked.items) ≡ true;
}
