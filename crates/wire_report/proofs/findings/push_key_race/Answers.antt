use Rattle.std.proofs.Common.{◌∙◌, ◌++◌, ap, append_assoc, sym, codes, arith}
use Rattle.wire_scripts.specs.Scripts.{text_at}
use Rattle.wire_words.specs.Words.{call_text, name_of}
use Rattle.wire_report.proofs.Appended.{then_more, last_more, no_room_at_first, no_room_early, no_room_early_slice, no_room_at_last}
use Rattle.wire_report.proofs.Parts.{three, key_rest_parts}
use Rattle.wire_report.proofs.findings.push_key_race.Goals as goal

pub returns-in_err-push_higher-clause-full : goal.returns-in_err-push_higher-clause-full
returns-in_err-push_higher-clause-full c =
    let s = c.args.scripts.now in
    no_room_at_first c.from_residual.result _ _ (codes " " ++ call_text s c.args.higher) (codes " key " ++ name_of s c.args.owner.number ++ codes " " ++ text_at s.keys c.args.key) _
    c.in_err-push_higher.ensures.full (key_rest_parts s c.args.higher c.args.owner.number c.args.key)

pub returns-in_err-extend_from_slice-clause-full : goal.returns-in_err-extend_from_slice-clause-full
returns-in_err-extend_from_slice-clause-full c =
    let s = c.args.scripts.now in
    let higher = codes " " ++ call_text s c.args.higher in
    no_room_early_slice c.from_residual-in_err-extend_from_slice.result _ c.push_higher.new.out c.args.out.now.items higher (codes " key ") (name_of s c.args.owner.number ++ codes " " ++ text_at s.keys c.args.key) _
    c.in_ok-push_higher.ensures.ok c.in_ok-push_higher.ensures.capacity c.in_err-extend_from_slice.ensures.full
    (sym (three (higher ++ codes " key ") (name_of s c.args.owner.number) (codes " ") (text_at s.keys c.args.key)))

pub returns-in_err-push_proc-clause-full : goal.returns-in_err-push_proc-clause-full
returns-in_err-push_proc-clause-full c =
    let s = c.args.scripts.now in
    let key = codes " " ++ call_text s c.args.higher ++ codes " key " in
    no_room_early c.from_residual-in_err-push_proc.result _ _ c.args.out.now.items _ key (name_of s c.args.owner.number) (codes " " ++ text_at s.keys c.args.key) _
    (then_more c.args.out.now.items _ _ (codes " " ++ call_text s c.args.higher) (codes " key ") c.in_ok-push_higher.ensures.ok c.in_ok-extend_from_slice.ensures.items)
    (omega (arith, c.in_ok-push_higher.ensures.capacity, c.in_ok-extend_from_slice.ensures.capacity)) c.in_err-push_proc.ensures.full
    (sym (append_assoc (key ++ name_of s c.args.owner.number) (codes " ") (text_at s.keys c.args.key)))

pub returns-clause-ok : goal.returns-clause-ok
returns-clause-ok c =
    let s = c.args.scripts.now in
    let key = codes " " ++ call_text s c.args.higher ++ codes " key " in
    let owner = then_more c.args.out.now.items _ _ key (name_of s c.args.owner.number)
    (then_more c.args.out.now.items _ _ (codes " " ++ call_text s c.args.higher) (codes " key ") c.in_ok-push_higher.ensures.ok c.in_ok-extend_from_slice.ensures.items) c.in_ok-push_proc.ensures.ok in
    last_more c.push_spaced.result _ _ _ (key ++ name_of s c.args.owner.number) (codes " " ++ c.text.result.now) _ owner c.push_spaced.ensures.ok
    (sym (append_assoc (key ++ name_of s c.args.owner.number) (codes " ") c.text.result.now)
    ∙ ap (λ t. key ++ name_of s c.args.owner.number ++ codes " " ++ t) (c.text.ensures ∙ ap (λ texts. text_at texts c.args.key) c.keys.ensures))

pub returns-clause-full : goal.returns-clause-full
returns-clause-full c =
    let s = c.args.scripts.now in
    let key = codes " " ++ call_text s c.args.higher ++ codes " key " in
    let owner = then_more c.args.out.now.items _ _ key (name_of s c.args.owner.number)
    (then_more c.args.out.now.items _ _ (codes " " ++ call_text s c.args.higher) (codes " key ") c.in_ok-push_higher.ensures.ok c.in_ok-extend_from_slice.ensures.items) c.in_ok-push_proc.ensures.ok in
    no_room_at_last c.push_spaced.result _ _ _ _ (key ++ name_of s c.args.owner.number) (codes " " ++ c.text.result.now) _ owner
    (omega (arith, c.in_ok-push_higher.ensures.capacity, c.in_ok-extend_from_slice.ensures.capacity, c.in_ok-push_proc.ensures.capacity)) c.push_spaced.ensures.full
    (sym (append_assoc (key ++ name_of s c.args.owner.number) (codes " ") c.text.result.now)
    ∙ ap (λ t. key ++ name_of s c.args.owner.number ++ codes " " ++ t) (c.text.ensures ∙ ap (λ texts. text_at texts c.args.key) c.keys.ensures))
