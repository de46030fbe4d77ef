-- What a draft declares.
use Rattle.std.specs.Prelude.{ℕ, map}
use Rattle.wire_lines.specs.Said.{Call}
use Rattle.wire_lines.specs.Views.{view_call}
use Rattle.wire_reader.specs.FirstPass.{Declared, Started}
use Rattle.wire_reader.specs.declared.draft.Draft.{Draft}
use Rattle.wire_reader.specs.declared.draft.Started.{Started as Building}
use Rattle.wire_reader.specs.declared.draft.LocatedCall.{LocatedCall}

abbrev pub placed_of : LocatedCall → ℕ × Call
placed_of p = (p.line, view_call p.call)

abbrev pub started_of : Building → Started
started_of p = record { job = p.job; rank = p.rank; node = p.node; calls = map placed_of p.calls.items }

abbrev pub declared_of : Draft → Declared
declared_of d = record {
  version = d.version;
  keeps = d.keeps;
  limits = d.limits;
  nodes = d.nodes;
  jobs = d.jobs;
  processes = map started_of d.processes.items;
  ranks = d.ranks;
  calls = d.calls;
}
