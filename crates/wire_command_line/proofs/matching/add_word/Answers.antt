use Rattle.std.proofs.Common.{sym, Some, None}
use Rattle.std.proofs.lemmas.List.{append-nil}
use Rattle.clap.specs.Words.{found_of}
use Rattle.wire_command_line.proofs.Given.{word_given, added}
use Rattle.wire_command_line.proofs.matching.add_word.Goals as goal

pub returns-in_ok-push : goal.returns-in_ok-push
returns-in_ok-push c =
    let given = word_given c.get_str.result (found_of c.args.found.now) c.args.name.now (Some c.in-Some.word) c.get_str.ensures c.in-Some.is in
    rw given (added _ _ c.in-Some.word c.in_ok-push.ensures.items)

pub returns-in_default : goal.returns-in_default
returns-in_default c =
    let given = word_given c.get_str.result (found_of c.args.found.now) c.args.name.now None c.get_str.ensures c.in_default.is in
    rw given (sym (append-nil _))
