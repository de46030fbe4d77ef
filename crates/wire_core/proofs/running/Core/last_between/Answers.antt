use Rattle.std.proofs.Common.{◌≡◌, ◌∙◌, ◌-◌, ap, sym, suc, map, cond, arith}
use Rattle.wire_runs.specs.Puts.{stored}
use Rattle.wire_scripts.specs.Planned.{plan_of}
use Rattle.wire_runs.specs.Sight.{delivered}
use Rattle.wire_runs.specs.Step.{run}
use Rattle.wire_core.proofs.Bring.{delivered_more}
use Rattle.wire_core.proofs.running.Core.last_between.Goals as goal

pub returns-then-brings-clause-told : goal.returns-then-brings-clause-told
returns-then-brings-clause-told c key =
    let plan = plan_of c.self.inside.plan.now in
    let cut = (run plan (map (λ p. p.number) c.self.inside.history.items)).done in
    let p = c.args.owner.number in
    let some = c.events-test.true in
    let from = c.events.invariant.from in
    let up : c.events.at ≡ suc (c.events.at - 1) = omega (arith, some, from) in
    let before = rw (← c.self.view_is) at (c.events.invariant.none key) in
    rw (← c.self.view_is)
    (before
    ∙ ap (delivered plan cut p c.args.node key) up
    ∙ delivered_more plan cut p c.args.node key (c.events.at - 1)
    ∙ ap (λ b. cond b (stored plan p key (c.events.at - 1)) (delivered plan cut p c.args.node key (c.events.at - 1))) (sym (c.brings.ensures cut c.self.invariant.shared.arrived) ∙ c.if-brings.true))

pub events-preserved : goal.events-preserved
events-preserved c =
    let some = c.events-test.true in
    let from = c.events.invariant.from in
    let to = c.events.invariant.to in
    record {
      from = omega (arith, some);
      to = omega (arith, to);
      none = λ key.
          let plan = plan_of c.self.inside.plan.now in
          let cut = (run plan (map (λ p. p.number) c.self.inside.history.items)).done in
          let p = c.args.owner.number in
          let up : c.events.at ≡ suc (c.events.at - 1) = omega (arith, some, from) in
          let before = rw (← c.self.view_is) at (c.events.invariant.none key) in
          rw (← c.self.view_is)
          (before
          ∙ ap (delivered plan cut p c.args.node key) up
          ∙ delivered_more plan cut p c.args.node key (c.events.at - 1)
          ∙ ap (λ b. cond b (stored plan p key (c.events.at - 1)) (delivered plan cut p c.args.node key (c.events.at - 1)))
          (sym (c.brings.ensures cut c.self.invariant.shared.arrived) ∙ c.if-brings.false));
    }
