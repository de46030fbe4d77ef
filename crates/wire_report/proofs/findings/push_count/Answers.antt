use Rattle.std.proofs.Common.{◌++◌, append_assoc, sym, codes, decimal, arith, refl}
use Rattle.wire_report.proofs.Appended.{then_more, last_slice, no_room_for_slice, no_room_early, no_room_for_last_slice}
use Rattle.wire_report.proofs.findings.push_count.Goals as goal

pub returns-in_err-extend_from_slice-clause-full : goal.returns-in_err-extend_from_slice-clause-full
returns-in_err-extend_from_slice-clause-full c =
    no_room_for_slice c.from_residual.result c.args.out.now (codes "findings ") (decimal c.args.count ++ codes "\n") _ c.in_err-extend_from_slice.ensures.full
    (sym (append_assoc (codes "findings ") (decimal c.args.count) (codes "\n")))

pub returns-in_err-push_number-clause-full : goal.returns-in_err-push_number-clause-full
returns-in_err-push_number-clause-full c =
    no_room_early c.from_residual-in_err-push_number.result _ _ c.args.out.now.items _ (codes "findings ") (decimal c.args.count) (codes "\n") _ c.in_ok-extend_from_slice.ensures.items
    c.in_ok-extend_from_slice.ensures.capacity c.in_err-push_number.ensures.full refl

pub returns-clause-ok : goal.returns-clause-ok
returns-clause-ok c =
    last_slice c.extend_from_slice-2.result c.args.out.now.items _ _ (codes "findings " ++ decimal c.args.count) (codes "\n") _
    (then_more c.args.out.now.items _ _ (codes "findings ") (decimal c.args.count) c.in_ok-extend_from_slice.ensures.items c.in_ok-push_number.ensures.ok) c.extend_from_slice-2.ensures.items refl

pub returns-clause-full : goal.returns-clause-full
returns-clause-full c =
    no_room_for_last_slice c.extend_from_slice-2.result _ c.push_number.new.out c.args.out.now.items (codes "findings " ++ decimal c.args.count) (codes "\n") _
    (then_more c.args.out.now.items _ _ (codes "findings ") (decimal c.args.count) c.in_ok-extend_from_slice.ensures.items c.in_ok-push_number.ensures.ok)
    (omega (arith, c.in_ok-extend_from_slice.ensures.capacity, c.in_ok-push_number.ensures.capacity)) c.extend_from_slice-2.ensures.full refl
