use Rattle.std.proofs.Common.{sym, inl, inr}
use Rattle.std.proofs.lemmas.Bool.{true≢false}
use Rattle.wire_runs.specs.Plan.{event_of}
use Rattle.wire_scripts.specs.Planned.{plan_of}
use Rattle.wire_anywhere.proofs.Surely.{by_fence, by_get, either_way}
use Rattle.wire_anywhere.proofs.carriers.has_surely.Goals as goal

pub carrying-requires-clause-lists : goal.carrying-requires-clause-lists
carrying-requires-clause-lists c = rw c.plan.ensures c.requires.table

pub carrying-requires-clause-once : goal.carrying-requires-clause-once
carrying-requires-clause-once c = rw c.plan.ensures c.requires.get.once

pub get_brings_surely-requires : goal.get_brings_surely-requires
get_brings_surely-requires c = rw c.plan.ensures at c.carrying.ensures

pub returns-then-fence_brings_surely : goal.returns-then-fence_brings_surely
returns-then-fence_brings_surely c = (
  (λ t. by_fence (plan_of c.args.marked.now) c.args.asked.owner.number c.args.asked.key c.args.proc.number (event_of c.args.asked.get_now) c.args.asked.owner.number c.args.asked.key
      c.requires.get.is c.requires.another (c.fence_brings_surely.ensures.0 c.if-fence_brings_surely.true)),
  (λ s. c.if-fence_brings_surely.true),
)

pub returns-else-fence_brings_surely : goal.returns-else-fence_brings_surely
returns-else-fence_brings_surely c = (
  (λ t. by_get (plan_of c.args.marked.now) c.args.asked.owner.number c.args.asked.key c.args.proc.number (event_of c.args.asked.get_now) c.requires.another (c.get_brings_surely.ensures.0 t)),
  (λ s. elim (either_way (plan_of c.args.marked.now) c.args.asked.owner.number c.args.asked.key c.args.proc.number (event_of c.args.asked.get_now) s) [
    | inl f ↦ absurd (true≢false (sym (c.if-fence_brings_surely.ensures.1 f)))
    | inr g ↦ c.get_brings_surely.ensures.1 g
  ]),
)
