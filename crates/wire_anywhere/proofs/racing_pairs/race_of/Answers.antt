use Rattle.std.proofs.Common.{◌∙◌, sym}
use Rattle.std.proofs.lemmas.Bool.{true≢false}
use Rattle.wire_runs.specs.Plan.{event_of}
use Rattle.wire_scripts.specs.Planned.{plan_of}
use Rattle.wire_anywhere.proofs.Races.{source_there, get_there, shown_low, shown_high}
use Rattle.wire_anywhere.proofs.racing_pairs.race_of.Goals as goal

pub call_of-first-requires : goal.call_of-first-requires
call_of-first-requires c =
    source_there (plan_of c.args.plan.now) (event_of c.args.source) (event_of c.args.asked.get_now) c.args.asked.owner.number c.args.asked.key c.requires.source c.requires.get

pub call_of-second-requires : goal.call_of-second-requires
call_of-second-requires c =
    get_there (plan_of c.args.plan.now) (event_of c.args.source) (event_of c.args.asked.get_now) c.args.asked.owner.number c.args.asked.key c.requires.source c.requires.get

pub returns-then-is_lower : goal.returns-then-is_lower
returns-then-is_lower c =
    shown_low (plan_of c.args.plan.now) (event_of c.args.source) (event_of c.args.asked.get_now) c.args.asked.owner.number c.args.asked.key c.requires.source c.requires.get
    c.call_of-first.result c.call_of-second.result c.call_of-first.ensures c.call_of-second.ensures (c.is_lower.ensures.0 c.if-is_lower.true)

pub returns-else-is_lower : goal.returns-else-is_lower
returns-else-is_lower c =
    shown_high (plan_of c.args.plan.now) (event_of c.args.source) (event_of c.args.asked.get_now) c.args.asked.owner.number c.args.asked.key c.requires.source c.requires.get
    c.call_of-first.result c.call_of-second.result c.call_of-first.ensures c.call_of-second.ensures (λ low. true≢false (sym (c.is_lower.ensures.1 low) ∙ c.if-is_lower.false))
