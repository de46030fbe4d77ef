use Rattle.std.proofs.Common.{◌∙◌, inl, inr, sym, subst}
use Rattle.std.proofs.lemmas.List.{append-nil}
use Rattle.std.proofs.lemmas.Bool.{true≢false}
use Rattle.wire_runs.specs.Plan.{event_of}
use Rattle.wire_scripts.specs.Planned.{plan_of}
use Rattle.wire_runs.specs.Order.{Live}
use Rattle.wire_runs.proofs.Histories.{after_live}
use Rattle.wire_happens_before.proofs.Growing.{clock_falls}
use Rattle.wire_happens_before.specs.Chain.{IsShownChain}
use Rattle.wire_happens_before.proofs.Back.{rest_of, shown_whole}
use Rattle.wire_happens_before.proofs.steps.chain_between.Goals as goal

pub step_back-event-requires-clause-before : goal.step_back-event-requires-clause-before
step_back-event-requires-clause-before c = elim c.walk.invariant.leads [
  | inl e ↦ absurd (true≢false (sym (c.is_same.ensures.1 e) ∙ c.walk-test.true))
  | inr b ↦ b
]

pub walk-smaller : goal.walk-smaller
walk-smaller c =
    let live : Live (plan_of c.args.plan.now) (event_of c.walk.event) = elim c.walk.invariant.leads [
      | inl e ↦ absurd (true≢false (sym (c.is_same.ensures.1 e) ∙ c.walk-test.true))
      | inr b ↦ after_live b
    ] in
    clock_falls (plan_of c.args.plan.now) c.args.marks.now (event_of c.step_back-event.result) (event_of c.walk.event) c.requires.marks live c.step_back-event.ensures.source

pub walk-preserved : goal.walk-preserved
walk-preserved c = record {
  leads = c.step_back-event.ensures.leads;
  rest = rw c.in_ok-push.ensures.items (rest_of (plan_of c.args.plan.now) (event_of c.args.x) (event_of c.args.y) c.walk.event c.step_back-event.result c.walk.chain.items c.walk.invariant.rest
      c.step_back-event.ensures);
}

pub returns : goal.returns
returns c =
    rw (c.reverse.ensures.items, c.in_ok-push-2.ensures.items) (shown_whole (plan_of c.args.plan.now) (event_of c.args.x) (event_of c.args.y) c.walk.event c.walk.chain.items c.walk.invariant.rest
    (c.is_same.ensures.0 c.walk-test.false))

pub walk-init : goal.walk-init
walk-init c = record {
  leads = inr c.requires.before;
  rest = λ start h. rw c.new-chain.ensures.items (subst (λ l. IsShownChain (plan_of c.args.plan.now) (event_of c.args.x) (event_of c.args.y) l) (sym (append-nil start)) h);
}
