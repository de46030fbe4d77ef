use Rattle.std.proofs.Common.{◌∙◌, option_map}
use Rattle.std.proofs.lemmas.Result.{IfOk-weaker}
use Rattle.wire_explain.proofs.Explanations.{explained}
use Rattle.wire_explain.proofs.file_faults.explain_file.Goals as goal

pub returns-clause-explains : goal.returns-clause-explains
returns-clause-explains c = IfOk-weaker c.shown_text.result _ _
    (λ text is. explained c.args.language c.args.bytes.now c.args.fault (option_map (λ w. w.now) c.in_ok-hint.hint) c.as_slice.result.now text.items c.in_ok-hint.ensures
    (c.as_slice.ensures.value ∙ c.in_ok-explanation.ensures) is)
    c.shown_text.ensures.text
