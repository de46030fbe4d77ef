use Rattle.std.proofs.Common.{◌≡◌, map, take}
use Rattle.wire_types.specs.Texts.{lists_of}
use Rattle.wire_reader.specs.Drafted.{started_of}
use Rattle.wire_reader.specs.Located.{lines_of_calls}
use Rattle.wire_reader.proofs.located.all_lines.Given as goal

abbrev pub invariant-loop-process : goal.invariant-loop-process
invariant-loop-process l = lists_of l.rows.items ≡ map lines_of_calls (map started_of (take l.process-index l.draft.processes.items))
