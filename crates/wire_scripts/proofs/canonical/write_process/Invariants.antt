use Rattle.std.proofs.Common.{◌≡◌, ◌++◌, map, drop, flat_map}
use Rattle.wire_types.specs.Said as said
use Rattle.wire_scripts.specs.Canonical.{line_text, call_said, process_said}
use Rattle.wire_scripts.proofs.canonical.write_process.Given as goal

abbrev pub invariant-loop-call : goal.invariant-loop-call
invariant-loop-call l = l.out.items ++ flat_map line_text (map (λ c. said.Calls (call_said l.scripts l.process.job c)) (drop l.call-index l.call-items)) ≡ l.fn.out.items
    ++ flat_map line_text (process_said l.scripts l.process)
