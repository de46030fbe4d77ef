use Rattle.std.proofs.Common.{ap, Ok}
use Rattle.wire_pattern_commands.proofs.CheckedPattern.{judging_stops, settled_answer}
use Rattle.wire_pattern_commands.proofs.check.answer_pattern.Goals as goal

pub answer_explained-requires-clause-few : goal.answer_explained-requires-clause-few
answer_explained-requires-clause-few g c = c.in_ok-judge_pattern.ensures.within.processes

pub returns-in-None-clause-err : goal.returns-in-None-clause-err
returns-in-None-clause-err g c = judging_stops c.args.pattern.now c.answer_explained.result c.in_ok-judge_pattern.ensures.within c.answer_explained.ensures.err

pub returns-in-None-clause-ok : goal.returns-in-None-clause-ok
returns-in-None-clause-ok g c =
    settled_answer c.args.pattern.now c.args.asked c.answer_explained.result c.note_sound.ensures c.texts_settled.ensures
    (c.in_ok-judge_pattern.ensures.settled (ap Ok c.in-None.is))
    (c.in_ok-judge_pattern.ensures.one_end (ap Ok c.in-None.is)) c.answer_explained.ensures.ok
