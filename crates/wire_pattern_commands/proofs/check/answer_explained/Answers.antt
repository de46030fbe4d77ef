use Rattle.std.proofs.Common.{sym, subst}
use Rattle.wire_pattern_commands.specs.CheckPattern.{IsSettledSaid}
use Rattle.wire_pattern_commands.proofs.FirstWaits.{later_read}
use Rattle.wire_pattern_commands.proofs.check.answer_explained.Goals as goal

pub explain_answer-requires-clause-later : goal.explain_answer-requires-clause-later
explain_answer-requires-clause-later c =
    let said = c.in_ok-settled.ensures.ok in later_read c.args.pattern.now said.lines c.in_ok-settled.settled.beyond said.beyond_is

pub returns-clause-ok : goal.returns-clause-ok
returns-clause-ok c =
    let it = c.in_ok-settled.settled in
    record {
      verdict = it.answer.text.items;
      beyond = it.beyond;
      said = subst (IsSettledSaid c.args.pattern.now c.args.asked it.beyond it.answer.text.items) (sym c.in_ok-explained.ensures.ended) c.in_ok-settled.ensures.ok;
      explains = c.in_ok-explained.ensures.ok;
    }
