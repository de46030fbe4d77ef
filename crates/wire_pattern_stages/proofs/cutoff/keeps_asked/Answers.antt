use Rattle.wire_pattern_stages.proofs.cutoff.keeps_asked.Goals as goal

pub returns : goal.returns
returns c = λ kept. (c.if-not-question.false, c.in_ok-kept.ensures kept)
