use Rattle.std.proofs.Common.{◌≤◌, refl, sym, subst, arith}
use Rattle.std.proofs.lemmas.Result.{on_ok_weaker}
use Rattle.wire_clocks.specs.Rising.{rising_says}
use Rattle.wire_happens_before.specs.Clocks.{base_at}
use Rattle.wire_happens_before.proofs.Growing.{grown_none, trees_grown}
use Rattle.wire_happens_before.proofs.clocks.Clocks.join_base.Goals as goal

pub returns-then-root-last-clause-joined : goal.returns-then-root-last-clause-joined
returns-then-root-last-clause-joined c = λ q.
    let le = subst (λ n. base_at c.args.self.now n q ≤ rising_says c.args.self.now.trees c.args.rising.now q) (sym c.if-root-last.true) (c.requires.last q) in
    omega (arith, le)

pub returns-then-root-last-clause-grown : goal.returns-then-root-last-clause-grown
returns-then-root-last-clause-grown c = grown_none c.args.self.now

pub returns-clause-based : goal.returns-clause-based
returns-clause-based c = on_ok_weaker c.join.result (λ _. trees_grown c.args.self.now _ c.requires.based (record { roots = refl; updates = refl; trees = c.join.ensures.keeps })) c.join.ensures.rising

pub returns-clause-grown : goal.returns-clause-grown
returns-clause-grown c = on_ok_weaker c.join.result (λ _. record { roots = refl; updates = refl; trees = c.join.ensures.keeps }) c.join.ensures.rising
