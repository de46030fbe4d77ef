use Rattle.wire_scripts.specs.Planned.{plan_of}
use Rattle.wire_portable.proofs.Had.{store_process}
use Rattle.wire_portable.proofs.own_calls.unsure.Goals as goal

pub has_left-requires-clause-owner : goal.has_left-requires-clause-owner
has_left-requires-clause-owner c = store_process (plan_of c.args.judge.now) c.args.asked.owner c.args.asked.key c.args.store c.requires.store

pub has_left-requires-clause-once : goal.has_left-requires-clause-once
has_left-requires-clause-once c = c.requires.store.once

pub unsure_left-requires-clause-left : goal.unsure_left-requires-clause-left
unsure_left-requires-clause-left c = c.has_left.ensures c.if-has_left.true

pub returns-then-has_left : goal.returns-then-has_left
returns-then-has_left c = c.unsure_left.ensures

pub returns-else-has_left : goal.returns-else-has_left
returns-else-has_left c = c.unsure_got.ensures
