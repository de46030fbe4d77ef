use Rattle.std.proofs.Common.{refl, sym, ◌∙◌}
use Rattle.std.proofs.lemmas.Bool.{true≢false}
use Rattle.wire_runs.specs.Plan.{event_of}
use Rattle.wire_scripts.specs.Planned.{plan_of}
use Rattle.wire_portable.proofs.Firsts.{last_of, none_first, here_first, before_first, first_before}
use Rattle.wire_portable.proofs.asked.ends_first.Goals as goal

pub returns-then-call-eq0 : goal.returns-then-call-eq0
returns-then-call-eq0 c = (
  (λ t. absurd (true≢false (sym t))),
  (λ f. absurd (none_first (plan_of c.args.marked.now) (event_of c.args.event) (event_of c.args.call) c.if-call-eq0.true f)),
)

pub returns-then-is_same : goal.returns-then-is_same
returns-then-is_same c = (
  (λ t. here_first (plan_of c.args.marked.now) (event_of c.args.event) (event_of c.args.call) _ (last_of c.args.call.proc.number c.args.call.at c.if-call-eq0.false)
      (c.is_same.ensures.0 c.if-is_same.true)),
  (λ f. refl),
)

pub returns : goal.returns
returns c = (
  (λ t. before_first (plan_of c.args.marked.now) (event_of c.args.event) (event_of c.args.call) _ (last_of c.args.call.proc.number c.args.call.at c.if-call-eq0.false) (c.before-chained.ensures.0 t)),
  (λ f. c.before-chained.ensures.1 (first_before (plan_of c.args.marked.now) (event_of c.args.event) (event_of c.args.call) _ (last_of c.args.call.proc.number c.args.call.at c.if-call-eq0.false)
      (λ e. true≢false (sym (c.is_same.ensures.1 e) ∙ c.if-is_same.false)) f)),
)
