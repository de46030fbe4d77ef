use Rattle.wire_portable.proofs.fences.differs.Goals as goal

pub returns-then-agrees : goal.returns-then-agrees
returns-then-agrees c = λ e. c.agrees.ensures c.if-agrees.true
