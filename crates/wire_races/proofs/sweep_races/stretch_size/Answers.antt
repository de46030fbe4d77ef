use Rattle.std.proofs.Common.{◌≡◌, length, take, sym, subst, arith}
use Rattle.std.proofs.lemmas.List.{take_more}
use Rattle.wire_races.specs.SweepRaces.{AreSharesOf}
use Rattle.wire_races.proofs.SweepRaces.{one_of_it}
use Rattle.wire_races.proofs.sweep_races.stretch_size.Goals as goal

pub loop-place-preserved : goal.loop-place-preserved
loop-place-preserved c =
    let shares = c.args.shares.now in
    let n = c.loop-place.place in
    subst (AreSharesOf c.args.proc.number) (sym (take_more shares n _ c.loop-place-test.true))
    (one_of_it c.args.proc.number (take n shares) _ c.if-shares-place.false c.loop-place.invariant)

pub returns-clause-stretch : goal.returns-clause-stretch
returns-clause-stretch c =
    let shares = c.args.shares.now in
    let n = c.loop-place.place in
    let last : n ≡ length shares = omega arith in
    subst (λ m. AreSharesOf c.args.proc.number (take m shares)) last c.loop-place.invariant
