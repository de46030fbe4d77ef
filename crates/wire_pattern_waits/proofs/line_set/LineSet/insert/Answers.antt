use Rattle.std.proofs.Common.{◌∙◌, ap}
use Rattle.wire_pattern_waits.specs.LineSets.{has_line}
use Rattle.wire_pattern_waits.proofs.Flags.{one_line}
use Rattle.wire_pattern_waits.proofs.line_set.LineSet.insert.Goals as goal

pub returns : goal.returns
returns c = λ r l.
    one_line c.args.self.now c.add_rows.new.rows.items c.args.role c.args.line c.index_mut.result.now c.set_flag.new.row c.in_ok-add_rows.ensures.there c.index_mut.ensures.value
    c.in_ok-set_flag.ensures (λ role line. c.in_ok-add_rows.ensures.same role line ∙ ap (λ rs. has_line rs role line) c.self.view_is) r l
