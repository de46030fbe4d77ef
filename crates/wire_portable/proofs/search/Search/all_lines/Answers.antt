use Rattle.wire_portable.proofs.search.Search.all_lines.Goals as goal

pub returns : goal.returns
returns c = λ library u. c.in_ok-lines.ensures library (c.all_blamed.ensures library u)
