use Rattle.std.proofs.Common.{◌≡◌, ◌≤◌, ◌+◌, ◌*◌, map, take, drop}
use Rattle.wire_reader.specs.Limits.{largest}
use Rattle.wire_reader.specs.Reads.{Seen, process_of, first_fault}
use Rattle.wire_reader.specs.Within.{started_calls}
use Rattle.wire_reader.specs.Drafted.{declared_of, started_of}
use Rattle.wire_reader.specs.Tabled.{seen_of, all_seen, nothing_seen, entry_count, GoOn}
use Rattle.wire_reader.specs.Targets.{AreNotesOf}
use Rattle.wire_reader.proofs.second_pass.number_processes.Given as goal

abbrev pub invariant-loop-process : goal.invariant-loop-process
invariant-loop-process l = record {
  so_far : all_seen (declared_of l.draft) nothing_seen (map started_of l.draft.processes.items) ≡ all_seen (declared_of l.draft) (seen_of l.numbering.tables)
      (map started_of (drop l.process-index l.draft.processes.items));
  room : entry_count (seen_of l.numbering.tables) + 2 * started_calls (map started_of (drop l.process-index l.draft.processes.items)) ≤ 2 * largest.calls;
  noted : AreNotesOf (declared_of l.draft) l.numbering.tables.sets l.numbering.noted;
  numbers : (later : Seen) → GoOn (seen_of l.numbering.tables) later → l.processes.items ≡ map (process_of (declared_of l.draft) later) (map started_of (take l.process-index l.draft.processes.items));
  faults : first_fault (declared_of l.draft) (map started_of l.draft.processes.items) ≡ first_fault (declared_of l.draft) (map started_of (drop l.process-index l.draft.processes.items));
}
