use Rattle.wire_pattern_lines.proofs.Bracket.{bracket_found, bracket_none}
use Rattle.wire_pattern_lines.proofs.key.cut_at_bracket.Goals as goal

pub returns-in-Some-clause-found : goal.returns-in-Some-clause-found
returns-in-Some-clause-found c = (bracket_found c.args.word.now c.in-Some.at c.in-Some.ensures).0

pub returns-in-Some-clause-first : goal.returns-in-Some-clause-first
returns-in-Some-clause-first c = (bracket_found c.args.word.now c.in-Some.at c.in-Some.ensures).1

pub returns-in-None-clause-none : goal.returns-in-None-clause-none
returns-in-None-clause-none c = λ a b. bracket_none c.args.word.now a b c.in-None.ensures
