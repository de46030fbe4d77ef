use Rattle.std.proofs.Common.{sym, true≢false}
use Rattle.wire_lines.proofs.Joined.{no_item}
use Rattle.wire_lines.proofs.sets.item_of.Goals as goal

pub returns-then-not-is_name-clause-none : goal.returns-then-not-is_name-clause-none
returns-then-not-is_name-clause-none c =
    no_item c.args.word.now c.in-Some.job.now c.in-Some.rank.now c.in-Some.ensures.found c.in-Some.ensures.first
    (λ named e. cc (c.if-not-is_name.ensures, named)) (λ named n small e. cc (c.if-not-is_name.ensures, named))

pub returns-in-None-clause-none : goal.returns-in-None-clause-none
returns-in-None-clause-none c =
    no_item c.args.word.now c.in-Some.job.now c.in-Some.rank.now c.in-Some.ensures.found c.in-Some.ensures.first
    (λ named e. true≢false (sym (c.if-is_text.ensures.1 e))) (λ named n small e. c.in-None.ensures.none n small e)
