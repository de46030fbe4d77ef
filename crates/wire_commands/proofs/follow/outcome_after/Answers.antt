use Rattle.std.proofs.Common.{inl, inr}
use Rattle.std.proofs.lemmas.Result.{IfOk-weaker, IfErr-weaker}
use Rattle.wire_types.specs.Outcome.{ends_of}
use Rattle.wire_scripts.specs.Scripts.{numbers_of}
use Rattle.wire_commands.proofs.Followed.{reached, stopped}
use Rattle.wire_commands.proofs.follow.outcome_after.Goals as goal

pub returns-clause-ok : goal.returns-clause-ok
returns-clause-ok c =
    IfOk-weaker c.follow_order-outcome.result _ _
    (λ o told. reached c.args.plan.now c.follow_order-outcome.new.core (numbers_of c.args.order.now) (ends_of o) c.in_ok-core.core c.in_ok-core.ensures.ok told.0 told.1)
    c.follow_order-outcome.ensures.ok

pub returns-clause-err : goal.returns-clause-err
returns-clause-err c =
    IfErr-weaker c.follow_order-outcome.result _ _
    (λ e why. elim why [
      | inl memory ↦ inl memory
      | inr stops ↦ inr (stopped c.args.plan.now c.in_ok-core.core c.follow_order-outcome.new.core (numbers_of c.args.order.now) e c.in_ok-core.ensures.ok stops)
    ])
    c.follow_order-outcome.ensures.err
