use Rattle.std.proofs.Common.{◌∙◌, sym}
use Rattle.std.proofs.lemmas.Bool.{true≢false}
use Rattle.wire_runs.specs.Plan.{event_of}
use Rattle.wire_scripts.specs.Planned.{plan_of}
use Rattle.wire_runs.proofs.Basics.{process_within}
use Rattle.wire_portable.proofs.OpenGets.{get_added, nothing_added, gets_kept, still_first}
use Rattle.wire_portable.proofs.gets.GetTable.add_get.Goals as goal

pub place_of-place-requires : goal.place_of-place-requires
place_of-place-requires c = process_within (plan_of c.args.marked.now) c.args.event.proc.number c.args.event.at _ c.requires.is

pub returns-in_ok-add-clause-added : goal.returns-in_ok-add-clause-added
returns-in_ok-add-clause-added c = λ are.
    let plan = plan_of c.args.marked.now in
    let together = c.args.self.now.together in
    let q = c.args.event.proc.number in
    get_added together plan q c.args.event.at c.args.asked.owner.number c.place_of-place.result c.args.asked.key c.lower_to.new.self c.add.new.self
    c.requires.is c.requires.other (c.is_asked.ensures.0 c.if-is_asked.true) (sym c.place_of-place.ensures) c.in_ok-add.ensures.here c.in_ok-add.ensures.others
    (gets_kept together plan q c.args.event.at c.args.self.now c.lower_to.new.self c.in_ok-lower_to.ensures.lists are)

pub returns-else-is_asked-clause-added : goal.returns-else-is_asked-clause-added
returns-else-is_asked-clause-added c =
    nothing_added c.args.self.now.together (plan_of c.args.marked.now) c.args.event.proc.number c.args.event.at c.args.self.now
    (λ p n h. true≢false (sym (c.is_asked.ensures.1 h.asked) ∙ c.if-is_asked.false))

pub returns-in_ok-add-clause-firsts : goal.returns-in_ok-add-clause-firsts
returns-in_ok-add-clause-firsts c = λ are.
    still_first (plan_of c.args.marked.now) c.args.self.now.phases.now c.args.asked.owner.number c.place_of-place.result c.phase-phase.result c.args.asked.key (event_of c.args.event) c.args.self.now
    c.lower_to.new.self c.add.new.self c.requires.is (sym c.phase-phase.ensures) c.in_ok-lower_to.ensures.lower c.in_ok-lower_to.ensures.less c.in_ok-lower_to.ensures.lists c.in_ok-add.ensures.firsts c.in_ok-add.ensures.here c.in_ok-add.ensures.others are
