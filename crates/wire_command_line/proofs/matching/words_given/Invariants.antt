use Rattle.std.proofs.Common.{◌≡◌, ◌++◌, map, drop, option_to_list}
use Rattle.std.specs.List.{flat_map}
use Rattle.clap.specs.Words.{first_of, found_of, rows_of}
use Rattle.wire_command_line.specs.CommandLine.{words_given}
use Rattle.wire_command_line.proofs.matching.words_given.Given as goal

-- the words that are taken, and those of the names that are left, are all words
abbrev pub invariant-loop-name : goal.invariant-loop-name
invariant-loop-name l =
    map (λ w. w.now) l.words.items ++ flat_map (λ name. option_to_list (first_of name.now (rows_of (found_of l.found)))) (drop l.name-index l.name-items)
    ≡ words_given (rows_of (found_of l.found))
