use Rattle.std.proofs.Common.{length, ◌-◌, ◌≡◌, ◌≤◌, take}
use Rattle.std.specs.Io.KnownBytes.{Appends}
use Rattle.wire_types.proofs.sink.write_out.Given as goal

abbrev pub invariant-loop-done : goal.invariant-loop-done
invariant-loop-done g l = record {
  within : l.done ≤ length l.text;
  out : Appends (g.S.Sink.written l.initial.sink) (g.S.Sink.written l.sink) (take l.done l.text);
  quiet : g.S.Sink.failures l.sink ≡ g.S.Sink.failures l.initial.sink;
}

-- proposed from the loop's first test
abbrev pub decreases-loop-done : goal.decreases-loop-done
decreases-loop-done g l = length l.text - l.done
