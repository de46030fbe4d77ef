use Rattle.wire_reader.proofs.QuestionRead.{one_question}
use Rattle.wire_reader.proofs.question.question_reads_once.Goals as goal

pub returns : goal.returns
returns c = one_question
