use Rattle.std.proofs.Common.{◌≡◌, ◌-◌, ◌≤◌, vec_len}
use Rattle.std.specs.Io.KnownBytes.{Consumes}
use Rattle.wire_command.proofs.reading.read_up_to.Given as goal

abbrev pub invariant-asking : goal.invariant-asking
invariant-asking g l = record {
  taken : Consumes (g.R.Source.coming l.initial.reader) (g.R.Source.coming l.reader) l.bytes.items;
  within : vec_len l.bytes ≤ l.limit;
  quiet : g.R.Source.failures l.reader ≡ g.R.Source.failures l.initial.reader;
}

abbrev pub decreases-asking : goal.decreases-asking
decreases-asking g l = l.limit - vec_len l.bytes
