use Rattle.std.proofs.Common.{◌∙◌, option_map}
use Rattle.wire_explain.proofs.Explanations.{laid_out}
use Rattle.wire_explain.proofs.file_faults.explanation_of.Goals as goal

pub returns : goal.returns
returns c =
    laid_out c.args.language c.args.bytes.now c.args.fault (option_map (λ w. w.now) c.args.hint) c.as_bytes.result.now c.new-explanation.result.items c.push_line.new.out.items c.push_labelled.new.out.items
    c.push_hint.new.out.items c.new-explanation.ensures.items c.in_ok-push_line.ensures c.in_ok-push_labelled.ensures (c.as_bytes.ensures.value ∙ c.in_ok-text.ensures) c.in_ok-push_hint.ensures
