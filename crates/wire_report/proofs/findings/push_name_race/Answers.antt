use Rattle.std.proofs.Common.{◌∙◌, ◌++◌, ap, codes, arith, refl}
use Rattle.wire_scripts.specs.Scripts.{text_at}
use Rattle.wire_words.specs.Words.{call_text}
use Rattle.wire_report.proofs.Appended.{then_more, last_slice, no_room_at_first, no_room_early_slice, no_room_for_last_slice}
use Rattle.wire_report.proofs.Parts.{name_rest_parts}
use Rattle.wire_report.proofs.findings.push_name_race.Goals as goal

pub returns-in_err-push_higher-clause-full : goal.returns-in_err-push_higher-clause-full
returns-in_err-push_higher-clause-full c =
    let s = c.args.scripts.now in
    no_room_at_first c.from_residual.result _ _ (codes " " ++ call_text s c.args.higher) (codes " name " ++ text_at s.names c.args.name) _
    c.in_err-push_higher.ensures.full (name_rest_parts s c.args.higher c.args.name)

pub returns-in_err-extend_from_slice-clause-full : goal.returns-in_err-extend_from_slice-clause-full
returns-in_err-extend_from_slice-clause-full c =
    let s = c.args.scripts.now in
    no_room_early_slice c.from_residual-in_err-extend_from_slice.result _ c.push_higher.new.out c.args.out.now.items (codes " " ++ call_text s c.args.higher) (codes " name ") (text_at s.names c.args.name) _
    c.in_ok-push_higher.ensures.ok c.in_ok-push_higher.ensures.capacity c.in_err-extend_from_slice.ensures.full refl

pub returns-clause-ok : goal.returns-clause-ok
returns-clause-ok c =
    let s = c.args.scripts.now in
    let words = codes " " ++ call_text s c.args.higher ++ codes " name " in
    last_slice c.extend_from_slice-2.result c.args.out.now.items _ _ words c.text.result.now _
    (then_more c.args.out.now.items _ _ (codes " " ++ call_text s c.args.higher) (codes " name ") c.in_ok-push_higher.ensures.ok c.in_ok-extend_from_slice.ensures.items)
    c.extend_from_slice-2.ensures.items (ap (λ t. words ++ t) (c.text.ensures ∙ ap (λ texts. text_at texts c.args.name) c.names.ensures))

pub returns-clause-full : goal.returns-clause-full
returns-clause-full c =
    let s = c.args.scripts.now in
    let words = codes " " ++ call_text s c.args.higher ++ codes " name " in
    no_room_for_last_slice c.extend_from_slice-2.result _ c.extend_from_slice.new.self c.args.out.now.items words c.text.result.now _
    (then_more c.args.out.now.items _ _ (codes " " ++ call_text s c.args.higher) (codes " name ") c.in_ok-push_higher.ensures.ok c.in_ok-extend_from_slice.ensures.items)
    (omega (arith, c.in_ok-push_higher.ensures.capacity, c.in_ok-extend_from_slice.ensures.capacity)) c.extend_from_slice-2.ensures.full
    (ap (λ t. words ++ t) (c.text.ensures ∙ ap (λ texts. text_at texts c.args.name) c.names.ensures))
