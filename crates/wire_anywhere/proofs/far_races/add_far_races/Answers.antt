use Rattle.std.proofs.Common.{◌∙◌, sym}
use Rattle.std.proofs.lemmas.Bool.{true≢false}
use Rattle.std.proofs.lemmas.Result.{on_ok_weaker}
use Rattle.wire_runs.specs.Plan.{event_of}
use Rattle.wire_scripts.specs.Planned.{plan_of}
use Rattle.wire_anywhere.proofs.Far.{sure_none, adds_far}
use Rattle.wire_anywhere.proofs.far_races.add_far_races.Goals as goal

pub has_surely-requires-clause-another : goal.has_surely-requires-clause-another
has_surely-requires-clause-another c = c.requires.get.other

pub carrying-gets-requires-clause-lists : goal.carrying-gets-requires-clause-lists
carrying-gets-requires-clause-lists c = rw c.plan.ensures c.requires.table

pub carrying-gets-requires-clause-once : goal.carrying-gets-requires-clause-once
carrying-gets-requires-clause-once c = rw c.plan.ensures c.requires.get.once

pub returns-then-has_surely : goal.returns-then-has_surely
returns-then-has_surely c =
    sure_none (plan_of c.args.marked.now) (event_of c.args.asked.get_now) c.args.asked.owner.number c.args.asked.key c.args.found.now (c.has_surely.ensures.0 c.if-has_surely.true)

pub add_all_late-requires-clause-unsure : goal.add_all_late-requires-clause-unsure
add_all_late-requires-clause-unsure c = record { opened = c.requires.get; not_sure = λ s. true≢false (sym (c.has_surely.ensures.1 s) ∙ c.if-has_surely.false) }

pub add_get_races-requires-clause-unsure : goal.add_get_races-requires-clause-unsure
add_get_races-requires-clause-unsure c = record { opened = c.requires.get; not_sure = λ s. true≢false (sym (c.has_surely.ensures.1 s) ∙ c.if-has_surely.false) }

pub returns : goal.returns
returns c =
    on_ok_weaker c.add_get_races.result (λ h. adds_far (plan_of c.args.marked.now) (event_of c.args.asked.get_now) c.args.asked.owner.number c.args.asked.key c.args.found.now c.add_all_late.new.found
    c.add_get_races.new.found c.in_ok-add_all_late.ensures h) c.add_get_races.ensures
