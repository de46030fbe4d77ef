use Rattle.std.proofs.Common.{◌++◌, codes, arith, refl}
use Rattle.wire_words.specs.Words.{call_text}
use Rattle.wire_report.specs.Findings.{rewrite_text}
use Rattle.wire_report.proofs.Appended.{then_more, last_more, no_room_at_last, no_room_for_slice, no_room_early}
use Rattle.wire_report.proofs.Parts.{later_text, rewrite_words}
use Rattle.wire_report.proofs.findings.push_rewrite.Goals as goal

pub returns-in_err-extend_from_slice-clause-full : goal.returns-in_err-extend_from_slice-clause-full
returns-in_err-extend_from_slice-clause-full c = no_room_for_slice c.from_residual.result c.args.out.now (codes "rewrite ") (rewrite_text c.args.scripts.now c.args.first c.args.later) _ c.in_err-extend_from_slice.ensures.full refl

pub returns-in_err-push_call-clause-full : goal.returns-in_err-push_call-clause-full
returns-in_err-push_call-clause-full c =
    no_room_early c.from_residual-in_err-push_call.result _ _ c.args.out.now.items _ (codes "rewrite ") (call_text c.args.scripts.now c.args.first) (later_text c.args.scripts.now c.args.later) _
    c.in_ok-extend_from_slice.ensures.items c.in_ok-extend_from_slice.ensures.capacity c.in_err-push_call.ensures.full
    (rewrite_words c.args.scripts.now c.args.first c.args.later)

pub returns-clause-ok : goal.returns-clause-ok
returns-clause-ok c =
    last_more c.push_later.result c.args.out.now.items _ _ (codes "rewrite " ++ call_text c.args.scripts.now c.args.first) (later_text c.args.scripts.now c.args.later) _
    (then_more c.args.out.now.items _ _ (codes "rewrite ") (call_text c.args.scripts.now c.args.first) c.in_ok-extend_from_slice.ensures.items c.in_ok-push_call.ensures.ok) c.push_later.ensures.ok
    (rewrite_words c.args.scripts.now c.args.first c.args.later)

pub returns-clause-full : goal.returns-clause-full
returns-clause-full c =
    no_room_at_last c.push_later.result _ _ c.args.out.now.items _ (codes "rewrite " ++ call_text c.args.scripts.now c.args.first) (later_text c.args.scripts.now c.args.later) _
    (then_more c.args.out.now.items _ _ (codes "rewrite ") (call_text c.args.scripts.now c.args.first) c.in_ok-extend_from_slice.ensures.items c.in_ok-push_call.ensures.ok)
    (omega (arith, c.in_ok-extend_from_slice.ensures.capacity, c.in_ok-push_call.ensures.capacity)) c.push_later.ensures.full (rewrite_words c.args.scripts.now c.args.first c.args.later)
