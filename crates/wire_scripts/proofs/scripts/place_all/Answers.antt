use Rattle.std.proofs.Common.{◌∙◌}
use Rattle.wire_scripts.specs.Scripts.{numbers_of}
use Rattle.wire_scripts.proofs.Moved.{moved_beside}
use Rattle.wire_scripts.proofs.scripts.place_all.Goals as goal

pub returns : goal.returns
returns c =
    moved_beside c.args.processes.now.items c.place_each.new.processes.items (numbers_of c.args.ranks.now) c.in_ok-named.named.items c.as_slice.result.now _
    c.as_slice.ensures.value (c.len.ensures ∙ c.args.processes.now.ok.0) c.place_each.ensures c.in_ok-named.ensures.present
