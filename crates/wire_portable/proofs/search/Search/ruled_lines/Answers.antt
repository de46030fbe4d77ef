use Rattle.wire_portable.proofs.search.Search.ruled_lines.Goals as goal

pub returns : goal.returns
returns c = λ library u. (c.in_ok-add_all.ensures library (c.in_order.ensures library u)).1
