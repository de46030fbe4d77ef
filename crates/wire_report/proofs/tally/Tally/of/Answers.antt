use Rattle.std.proofs.Common.{◌≡◌, ◌∙◌, ap, sym, subst, take, length, add-one, arith}
use Rattle.std.proofs.Math.Seq.{take-length}
use Rattle.wire_report.specs.Tally.{IsLabelTally}
use Rattle.wire_report.proofs.tally.Tally.of.Goals as goal

pub loop-place-init : goal.loop-place-init
loop-place-init g c = c.new-tally.ensures

pub loop-place-preserved : goal.loop-place-preserved
loop-place-preserved g c =
    subst (λ n. IsLabelTally g.K.PartialEq.eq (take n c.args.labels.now) c.note.new.self) (sym (add-one c.loop-place.place)) c.in_ok-note.ensures

pub returns : goal.returns
returns g c =
    let labels = c.args.labels.now in
    let over : c.loop-place.place ≡ length labels = omega arith in
    subst (λ ls. IsLabelTally g.K.PartialEq.eq ls c.loop-place.tally) (ap (λ n. take n labels) over ∙ take-length labels) c.loop-place.invariant
