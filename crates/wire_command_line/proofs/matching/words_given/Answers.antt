use Rattle.std.proofs.Common.{option_to_list}
use Rattle.clap.specs.Words.{first_of, found_of, rows_of}
use Rattle.wire_command_line.proofs.Given.{taken_on}
use Rattle.wire_command_line.proofs.matching.words_given.Goals as goal

pub loop-name-preserved : goal.loop-name-preserved
loop-name-preserved c =
    taken_on (λ name. option_to_list (first_of name.now (rows_of (found_of c.args.found.now)))) _ c.loop-name.name-index _ _ _ _ c.loop-name-test.true c.in_ok-add_word.ensures c.loop-name.invariant
