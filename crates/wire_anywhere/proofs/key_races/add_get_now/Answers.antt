use Rattle.std.proofs.Common.{◌∙◌, sym}
use Rattle.std.proofs.lemmas.Bool.{true≢false}
use Rattle.std.proofs.lemmas.Result.{on_ok_weaker}
use Rattle.wire_runs.specs.Plan.{event_of}
use Rattle.wire_scripts.specs.Planned.{plan_of}
use Rattle.wire_anywhere.proofs.Races.{adds_shown, not_open}
use Rattle.wire_anywhere.proofs.key_races.add_get_now.Goals as goal

pub returns-then-not-is_open : goal.returns-then-not-is_open
returns-then-not-is_open c =
    not_open (plan_of c.args.marked.now) (event_of c.args.asked.get_now) c.args.asked.owner.number c.args.asked.key c.args.found.now c.requires.get
    (λ o. true≢false (sym (c.is_open.ensures.1 o) ∙ c.if-not-is_open.true))

pub returns : goal.returns
returns c =
    on_ok_weaker c.add_far_races.result (λ h. adds_shown (plan_of c.args.marked.now) (event_of c.args.asked.get_now) c.args.asked.owner.number c.args.asked.key c.args.found.now c.add_near_race.new.found
    c.add_far_races.new.found c.requires.get c.in_ok-add_near_race.ensures h) c.add_far_races.ensures
