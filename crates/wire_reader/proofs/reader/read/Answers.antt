use Rattle.wire_reader.proofs.reader.read.Goals as goal

pub returns-clause-ok : goal.returns-clause-ok
returns-clause-ok c = c.read_sized.ensures.ok

pub returns-clause-err : goal.returns-clause-err
returns-clause-err c = c.read_sized.ensures.err
