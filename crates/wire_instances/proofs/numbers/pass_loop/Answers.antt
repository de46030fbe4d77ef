use Rattle.std.proofs.Common.{ap, sym}
use Rattle.wire_runs.specs.Patterns as plan
use Rattle.wire_pattern.specs.Instances.{cast_of}
use Rattle.wire_pattern.specs.Views.{turns_by}
use Rattle.wire_instances.specs.Search.{past}
use Rattle.wire_instances.proofs.Searches.{no_turns}
use Rattle.wire_instances.proofs.numbers.pass_loop.Goals as goal

pub returns-then-is_empty : goal.returns-then-is_empty
returns-then-is_empty c =
    let round = c.args.round in
    sym (ap (past c.args.search.now) (no_turns c.args.lines.now
    (plan.turns (cast_of c.args.frame.now.cast) round.caller round.step c.args.group (turns_by round.turns)) (sym c.if-is_empty.ensures)))
