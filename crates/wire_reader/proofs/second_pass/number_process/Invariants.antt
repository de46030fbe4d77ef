use Rattle.std.proofs.Common.{◌≡◌, ◌≤◌, ◌+◌, ◌*◌, map, take, drop}
use Rattle.wire_reader.specs.Reads.{Seen, numbered, fault_in}
use Rattle.wire_reader.specs.Drafted.{declared_of, started_of, placed_of}
use Rattle.wire_reader.specs.Tabled.{seen_of, seen_after, entry_count, GoOn}
use Rattle.wire_reader.specs.Targets.{AreNotesOf}
use Rattle.wire_reader.proofs.second_pass.number_process.Given as goal

abbrev pub invariant-loop-placed : goal.invariant-loop-placed
invariant-loop-placed l = record {
  so_far : seen_after (declared_of l.draft) (seen_of l.fn.numbering.tables) l.process.job (map placed_of l.process.calls.items) ≡ seen_after (declared_of l.draft) (seen_of l.numbering.tables)
      l.process.job (map placed_of (drop l.placed-index l.process.calls.items));
  grown : entry_count (seen_of l.numbering.tables) ≤ entry_count (seen_of l.fn.numbering.tables) + 2 * l.placed-index;
  noted : AreNotesOf (declared_of l.draft) l.numbering.tables.sets l.numbering.noted;
  numbers : (later : Seen) → GoOn (seen_of l.numbering.tables) later →
      l.calls.items ≡ map (λ c. numbered (declared_of l.draft) later l.process.job c.1) (map placed_of (take l.placed-index l.process.calls.items));
  faults : fault_in (declared_of l.draft) (started_of l.process) (map placed_of l.process.calls.items) ≡ fault_in (declared_of l.draft) (started_of l.process)
      (map placed_of (drop l.placed-index l.process.calls.items));
}
