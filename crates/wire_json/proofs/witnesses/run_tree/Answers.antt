use Rattle.std.proofs.Common.{◌∙◌, ap}
use Rattle.std.proofs.lemmas.Result.{IfOk-weaker}
use Rattle.wire_words.specs.Words.{replied_value, end_word}
use Rattle.wire_json.specs.WitnessTrees.{run_with}
use Rattle.wire_json.proofs.witnesses.run_tree.Goals as goal

pub returns : goal.returns
returns c =
    IfOk-weaker c.end_tree.result _ _
    (λ tree e. e ∙ ap (λ d. run_with c.args.scripts.now (replied_value c.args.end.now) d (end_word c.args.end.now)) c.in_ok-steps.ensures)
    c.end_tree.ensures
