use Rattle.std.proofs.Common.{◌≡◌, ℕ, ◌+◌, List, arith, subst, sym}
use Rattle.wire_rounds.specs.Deques.{Made}
use Rattle.wire_rounds.specs.Rounds.{Thief}
use Rattle.wire_rounds.specs.declared.round.Pass.{Pass}
use Rattle.wire_rounds.proofs.Starts.{made_more}
use Rattle.wire_rounds.proofs.deques.start_all.Goals as goal

abbrev MadeTo : ℕ → ℕ → ℕ → ℕ → List Pass × List Thief → Type 0
MadeTo round ranks workers n x = Made round ranks workers x.0 x.1 n

pub starts-preserved : goal.starts-preserved
starts-preserved c =
    let next = made_more c.args.round c.args.ranks c.args.workers c.starts.passes.items c.starts.thieves.items c.starts.worker c.in_ok-pass.pass c.in_ok-pass.thief c.starts.invariant.0
    c.in_ok-pass.ensures.start in (
      subst (MadeTo c.args.round c.args.ranks c.args.workers (c.starts.worker + 1)) (λ i. (sym c.push_reserved.ensures.items i, sym c.push_reserved-in-starts.ensures.items i)) next,
      omega arith,
      omega arith,
    )

pub returns-clause-made : goal.returns-clause-made
returns-clause-made c =
    let n : c.starts.worker ≡ c.args.workers = omega arith in
    subst (Made c.args.round c.args.ranks c.args.workers c.starts.passes.items c.starts.thieves.items) n c.starts.invariant.0
