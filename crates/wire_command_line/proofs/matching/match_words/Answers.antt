use Rattle.std.proofs.Common.{map}
use Rattle.std.proofs.lemmas.Result.{IfOk-weaker}
use Rattle.clap.specs.Words.{app_of}
use Rattle.wire_command_line.proofs.Parsed.{fails_by, when_ok, when_err, matched}
use Rattle.wire_command_line.proofs.matching.match_words.Goals as goal

pub returns-clause-lawful : goal.returns-clause-lawful
returns-clause-lawful c =
    let words = map (λ w. w.now) c.args.words.now in
    when_ok c.try_get_matches_from.result _ _
    (fails_by (app_of c.in_ok-command_line.field-0) words c.try_get_matches_from.result c.try_get_matches_from.ensures.kinds c.in_ok-command_line.ensures)

pub returns-clause-command : goal.returns-clause-command
returns-clause-command c =
    let words = map (λ w. w.now) c.args.words.now in
    IfOk-weaker c.try_get_matches_from.result _ _
    (λ m has. matched (app_of c.in_ok-command_line.field-0) words m has c.in_ok-command_line.ensures) c.try_get_matches_from.ensures.matches

pub returns-clause-err : goal.returns-clause-err
returns-clause-err c =
    let words = map (λ w. w.now) c.args.words.now in
    when_err c.try_get_matches_from.result _ _
    (fails_by (app_of c.in_ok-command_line.field-0) words c.try_get_matches_from.result c.try_get_matches_from.ensures.kinds c.in_ok-command_line.ensures)
