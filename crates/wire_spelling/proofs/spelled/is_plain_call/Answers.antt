use Rattle.wire_spelling.proofs.PlainCalls.{plain_from}
use Rattle.wire_spelling.proofs.spelled.is_plain_call.Goals as goal

pub returns-in-len1-up : goal.returns-in-len1-up
returns-in-len1-up c = λ t. plain_from c.args.line.now c.in-len1-up.len_at_least (c.begins_call.ensures t)
