use Rattle.std.proofs.Common.{◌∙◌, ap}
use Rattle.wire_instances.specs.Search.{past}
use Rattle.wire_instances.proofs.NodeLines.{all_lines}
use Rattle.wire_instances.proofs.numbers.pass_nodes.Goals as goal

pub returns : goal.returns
returns c =
    let f = c.args.frame.now in
    let lines = c.in_ok-lines.lines.items in
    c.pass_numbers.ensures
    ∙ ap (past c.args.search.now) (c.as_slice.ensures.value ∙ all_lines f.pattern f.cast lines f.cast.node_count c.in_ok-lines.ensures.count
    c.in_ok-lines.ensures.lines)
