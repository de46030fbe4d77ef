use Rattle.std.proofs.Common.{◌∙◌, ◌+◌, ◌++◌, ap, append_assoc, sym, codes, decimal, arith}
use Rattle.wire_scripts.specs.Scripts.{call_at}
use Rattle.wire_report.specs.Findings.{put_key_text}
use Rattle.wire_report.proofs.Appended.{then_more, last_more, no_room_for_slice, no_room_early, no_room_at_last}
use Rattle.wire_report.proofs.Parts.{three}
use Rattle.wire_report.proofs.findings.push_later.Goals as goal

pub returns-in_err-extend_from_slice-clause-full : goal.returns-in_err-extend_from_slice-clause-full
returns-in_err-extend_from_slice-clause-full c =
    let s = c.args.scripts.now in
    let later = c.args.later in
    let key = put_key_text s (call_at s.processes later.proc.number later.call) in
    no_room_for_slice c.from_residual.result c.args.out.now (codes " ") (decimal (later.call + 1) ++ codes " " ++ key) _ c.in_err-extend_from_slice.ensures.full
    (sym (three (codes " ") (decimal (later.call + 1)) (codes " ") key))

pub returns-in_err-push_number-clause-full : goal.returns-in_err-push_number-clause-full
returns-in_err-push_number-clause-full c =
    let s = c.args.scripts.now in
    let later = c.args.later in
    let key = put_key_text s (call_at s.processes later.proc.number later.call) in
    no_room_early c.from_residual-in_err-push_number.result _ _ c.args.out.now.items _ (codes " ") (decimal (c.from.result + 1)) (codes " " ++ key) _ c.in_ok-extend_from_slice.ensures.items
    c.in_ok-extend_from_slice.ensures.capacity c.in_err-push_number.ensures.full
    (sym (append_assoc (codes " " ++ decimal (c.from.result + 1)) (codes " ") key) ∙ ap (λ n. codes " " ++ decimal (n + 1) ++ codes " " ++ key) c.from.ensures)

pub returns-clause-ok : goal.returns-clause-ok
returns-clause-ok c =
    let number = codes " " ++ decimal (c.from.result + 1) in
    let told = then_more c.args.out.now.items _ _ (codes " ") (decimal (c.from.result + 1)) c.in_ok-extend_from_slice.ensures.items c.in_ok-push_number.ensures.ok in
    last_more c.push_spaced.result c.args.out.now.items _ _ number (codes " " ++ c.put_key.result.now) _ told c.push_spaced.ensures.ok
    (sym (append_assoc number (codes " ") c.put_key.result.now) ∙ (λ i. codes " " ++ decimal (c.from.ensures i + 1) ++ codes " " ++ c.put_key.ensures i))

pub returns-clause-full : goal.returns-clause-full
returns-clause-full c =
    let number = codes " " ++ decimal (c.from.result + 1) in
    let told = then_more c.args.out.now.items _ _ (codes " ") (decimal (c.from.result + 1)) c.in_ok-extend_from_slice.ensures.items c.in_ok-push_number.ensures.ok in
    no_room_at_last c.push_spaced.result _ _ c.args.out.now.items _ number (codes " " ++ c.put_key.result.now) _ told
    (omega (arith, c.in_ok-extend_from_slice.ensures.capacity, c.in_ok-push_number.ensures.capacity)) c.push_spaced.ensures.full
    (sym (append_assoc number (codes " ") c.put_key.result.now) ∙ (λ i. codes " " ++ decimal (c.from.ensures i + 1) ++ codes " " ++ c.put_key.ensures i))
