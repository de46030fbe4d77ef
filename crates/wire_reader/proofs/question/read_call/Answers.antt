use Rattle.wire_reader.proofs.QuestionRead.{number_wrong}
use Rattle.wire_reader.proofs.question.read_call.Goals as goal

pub returns-in-None-clause-no_number : goal.returns-in-None-clause-no_number
returns-in-None-clause-no_number c = λ e.
    number_wrong c.args.scripts.now c.args.proc.now c.as_bytes.result.now c.args.number.now _ c.in-Some.caller.number _
    c.as_bytes.ensures.value c.in-Some.ensures (c.requires _) c.call_count.ensures c.in-None.ensures.none
