use Rattle.wire_pattern_commands.proofs.FirstWaits.{judged_shown, later_shown}
use Rattle.wire_pattern_commands.proofs.first_wait.find_shown.Goals as goal

pub returns-in-Some-clause-ok : goal.returns-in-Some-clause-ok
returns-in-Some-clause-ok c = judged_shown c.args.pattern.now c.args.beyond.now _ c.in-Some.found c.in-Some.is c.in_ok-found.ensures.ok

pub returns-in_ok-found-in-None-clause-ok : goal.returns-in_ok-found-in-None-clause-ok
returns-in_ok-found-in-None-clause-ok c =
    later_shown c.args.pattern.now c.args.beyond.now _ c.in_ok-found-in-None.found c.in-None.is c.in_ok-found.ensures.ok c.in_ok-found-in-None.ensures.ok
