use Rattle.std.proofs.Common.{refl, inr}
use Rattle.wire_reader.specs.Question.{Asks, Third, Fourth}
use Rattle.wire_reader.proofs.question.read_question.Goals as goal

pub returns-in-Ok-read_call-clause-ok : goal.returns-in-Ok-read_call-clause-ok
returns-in-Ok-read_call-clause-ok c = Asks c.in-Ok.call c.in-Ok-read_call.second c.in-Ok.ensures.ok c.in-Ok-read_call.ensures.ok refl

pub returns-in-Err-Proc-read_call-clause-err : goal.returns-in-Err-Proc-read_call-clause-err
returns-in-Err-Proc-read_call-clause-err c =
    inr (Third c.in-Ok.call c.in-Ok.ensures.ok (c.in-Err-Proc-read_call.ensures.no_proc (cc c.in-Err-Proc-read_call.field-0-is)) refl)

pub returns-clause-err : goal.returns-clause-err
returns-clause-err c =
    inr (Fourth c.in-Ok.call c.in-Ok.ensures.ok (c.in-Err-Number-read_call.ensures.no_number (cc c.in-Err-Number-read_call.field-0-is)) refl)
