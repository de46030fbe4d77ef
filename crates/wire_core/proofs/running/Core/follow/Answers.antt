use Rattle.std.proofs.Common.{◌≡◌, ◌∙◌, ◌+◌, ap, sym, subst, suc, map, take, arith}
use Rattle.std.specs.Prelude.{option_map}
use Rattle.std.proofs.lemmas.Option.{slice_get-map, slice_get-get_or}
use Rattle.wire_types.specs.declared.Fault.TheVariants.{NotReady}
use Rattle.wire_core.specs.Following.{Follows}
use Rattle.wire_core.proofs.Following.{follows_more, ends_plainly}
use Rattle.wire_core.proofs.running.Core.follow.Goals as goal

pub loop-step-preserved : goal.loop-step-preserved
loop-step-preserved c =
    let order = c.args.order.now in
    let one : suc c.loop-step.step ≡ c.loop-step.step + 1 = omega arith in
    subst (λ n. Follows c.args.self.now (take n (map (λ p. p.number) order)) c.step.new.self) one
    (follows_more c.args.self.now c.loop-step.self c.step.new.self (map (λ p. p.number) order) c.loop-step.step _ c.loop-step.invariant
    (slice_get-map (λ p. p.number) order c.loop-step.step ∙ ap (option_map (λ p. p.number)) (slice_get-get_or order c.loop-step.step _ c.loop-step-test.true))
    (sym c.if-not-ready.ensures) c.step.ensures)

pub returns-then-not-ready-clause-settled : goal.returns-then-not-ready-clause-settled
returns-then-not-ready-clause-settled c = ends_plainly c.args.self.now c.loop-step.self (take c.loop-step.step (map (λ p. p.number) c.args.order.now)) c.loop-step.invariant

pub returns-clause-settled : goal.returns-clause-settled
returns-clause-settled c = ends_plainly c.args.self.now c.loop-step.self (take c.loop-step.step (map (λ p. p.number) c.args.order.now)) c.loop-step.invariant

pub returns-then-not-ready-clause-err : goal.returns-then-not-ready-clause-err
returns-then-not-ready-clause-err c =
    let order = c.args.order.now in
    let one : c.loop-step.step + 1 ≡ suc c.loop-step.step = omega arith in
    record {
      n = c.loop-step.step;
      is = ap NotReady one;
      before = c.loop-step.invariant;
      p = _;
      next = slice_get-map (λ p. p.number) order c.loop-step.step ∙ ap (option_map (λ p. p.number)) (slice_get-get_or order c.loop-step.step _ c.loop-step-test.true);
      not_enabled = sym c.if-not-ready.ensures;
    }
