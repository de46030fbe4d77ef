use Rattle.std.proofs.Common.{◌∙◌, refl, sym}
use Rattle.std.proofs.lemmas.Bool.{true≢false}
use Rattle.wire_runs.specs.Plan.{event_of}
use Rattle.wire_board.proofs.Looking.{shown_fate, fate_alone}
use Rattle.wire_board.proofs.lane.Lane.next_fate.Goals as goal

pub returns-then-not-finds_all-clause-ready : goal.returns-then-not-finds_all-clause-ready
returns-then-not-finds_all-clause-ready c = (λ ne. absurd (ne refl), λ shown _. true≢false (sym (c.finds_all.ensures.found.1 shown.sources) ∙ c.if-not-finds_all.true))

pub returns-clause-ready : goal.returns-clause-ready
returns-clause-ready c =
    let new = c.finds_all.new.self in
    let sources = c.finds_all.ensures.found.0 c.if-not-finds_all.false in
    shown_fate c.args.self.now new (event_of c.in-Some.event) c.fate_of.result c.finds_all.ensures.read c.in-Some.ensures.0 c.in-Some.ensures.1 sources c.fate_of.ensures

pub returns-clause-fate : goal.returns-clause-fate
returns-clause-fate c = fate_alone c.finds_all.new.self.seat c.fate_of.result c.fate_of.ensures
