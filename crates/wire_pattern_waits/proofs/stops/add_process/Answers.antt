use Rattle.std.proofs.Common.{◌∙◌, sym}
use Rattle.wire_pattern_waits.proofs.Walks.{unstopped}
use Rattle.wire_pattern_waits.proofs.stops.add_process.Goals as goal

pub returns-then-not-is_stopped : goal.returns-then-not-is_stopped
returns-then-not-is_stopped c = unstopped c.args.caller.now.role c.args.row.now _ c.args.out.now.items (sym c.is_stopped.ensures ∙ c.if-not-is_stopped.true)
