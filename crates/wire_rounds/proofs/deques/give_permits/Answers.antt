use Rattle.std.proofs.Common.{◌≡◌, ◌<◌, length, arith, subst, refl}
use Rattle.crossbeam_deque.proofs.Lists.{at_index}
use Rattle.wire_rounds.specs.declared.round.Pass.{Pass}
use Rattle.wire_rounds.specs.Deques.{Cutting}
use Rattle.wire_rounds.proofs.Starts.{cutting_more, cutting_parts}
use Rattle.wire_rounds.proofs.deques.give_permits.Goals as goal

pub cut_permits-requires : goal.cut_permits-requires
cut_permits-requires c = cutting_parts _ _ _ c.cuts.invariant (omega arith)

pub cuts-preserved : goal.cuts-preserved
cuts-preserved c =
    let k : c.cuts.to < length c.cut_permits.new.passes.items = omega (arith, c.cuts.invariant.same_length, c.in_ok-permits.ensures.cut.0) in
    let q : Pass = record { worker = c.index_mut-pass.result.now.worker; own = c.index_mut-pass.result.now.own; permits = c.in_ok-permits.permits } in
    cutting_more c.args.passes.now.items c.cuts.passes.items c.cut_permits.new.passes.items c.cuts.to c.index_mut-pass.result.now q c.cuts.invariant c.in_ok-permits.ensures.cut
    c.in_ok-permits.ensures.permits
    (at_index _ _ _ k c.index_mut-pass.ensures.value) refl refl

pub returns-clause-cut : goal.returns-clause-cut
returns-clause-cut c =
    let all : c.cuts.to ≡ length c.args.passes.now.items = omega arith in
    subst (Cutting c.args.passes.now.items c.cuts.passes.items) all c.cuts.invariant
