use Rattle.std.proofs.Common.{◌≡◌, ◌∙◌, ◌++◌, ap, sym, append_assoc, codes}
use Rattle.wire_runs.specs.Plan.{kind, event_of}
use Rattle.wire_scripts.specs.Planned.{plan_of}
use Rattle.wire_words.specs.Words.{call_text}
use Rattle.wire_report.specs.Chain.{half_text, half_line}
use Rattle.wire_report.proofs.Appended.{then_more, last_slice}
use Rattle.wire_report.proofs.chain_parts.push_event.Goals as goal

pub returns : goal.returns
returns c =
    let s = c.scripts-scripts.result.now in
    let call = call_text s c.call_of-call.result in
    let verb = codes " " ++ c.as_bytes.result.now in
    let told = then_more _ _ _ call verb c.in_ok-push_call.ensures.ok c.in_ok-push_spaced.ensures.ok in
    let half = then_more _ _ _ (call ++ verb) c.as_bytes-2.result.now told c.in_ok-extend_from_slice.ensures.items in
    let word : c.half_word.result.now ≡ half_text (kind (plan_of c.args.plan.now) (event_of c.args.event)) = c.half_word.ensures c.args.plan.now.sets ∙ ap half_text (sym c.kind.ensures) in
    last_slice c.extend_from_slice-2.result _ _ _ (call ++ verb ++ c.as_bytes-2.result.now) (codes "\n") _ half c.extend_from_slice-2.ensures.items
    (ap (λ t. t ++ c.as_bytes-2.result.now ++ codes "\n") (sym (append_assoc call (codes " ") c.as_bytes.result.now))
    ∙ (λ i. call ++ codes " " ++ (c.as_bytes.ensures.value ∙ c.verb_at.ensures) i ++ (c.as_bytes-2.ensures.value ∙ word) i ++ codes "\n")
    ∙ (λ i. half_line (c.scripts-scripts.ensures.scripts i) (c.call_of-call.ensures i) (half_text (kind (plan_of c.args.plan.now) (event_of c.args.event)))))
