use Rattle.std.proofs.Common.{map, refl, sym, subst}
use Rattle.std.proofs.lemmas.List.{length-map}
use Rattle.wire_runs.specs.Plan.{event_of}
use Rattle.wire_happens_before.specs.Clocks.{base_at}
use Rattle.wire_happens_before.specs.Meeting.{AreMarked, IsJoin}
use Rattle.wire_happens_before.proofs.Growing.{grown_keeps}
use Rattle.wire_happens_before.proofs.Joining.{joined_new, meeting_joined, marked_kept}
use Rattle.wire_happens_before.proofs.joins.Meeting.join_arrivals.Goals as goal

pub returns-in-Some-clause-joined : goal.returns-in-Some-clause-joined
returns-in-Some-clause-joined c = c.requires.kept.joined c.in-Some.root c.in-Some.is

pub returns-clause-joined : goal.returns-clause-joined
returns-clause-joined c =
    let places = map event_of c.args.arrivals.now in
    let count = sym (length-map c.args.arrivals.now event_of) in
    joined_new c.args.clocks.now c.join.new.self places c.in_ok-root.root
    (grown_keeps c.args.clocks.now c.join.new.self c.requires.based c.in_ok-root.ensures.grown)
    c.in_ok-root.ensures.there
    (subst (λ n. AreMarked c.args.clocks.now places n) count c.requires.marked)
    (subst (λ n. IsJoin c.args.clocks.now places n (base_at c.join.new.self c.in_ok-root.root)) count c.in_ok-root.ensures.join)

pub returns-clause-kept : goal.returns-clause-kept
returns-clause-kept c =
    let places = map event_of c.args.arrivals.now in
    let count = sym (length-map c.args.arrivals.now event_of) in
    let keeps = grown_keeps c.args.clocks.now c.join.new.self c.requires.based c.in_ok-root.ensures.grown in
    meeting_joined c.join.new.self places c.args.self.now _ c.in_ok-root.root refl refl
    (marked_kept c.args.clocks.now c.join.new.self places c.args.self.now.count keeps c.requires.kept.marked)
    (joined_new c.args.clocks.now c.join.new.self places c.in_ok-root.root keeps c.in_ok-root.ensures.there
    (subst (λ n. AreMarked c.args.clocks.now places n) count c.requires.marked)
    (subst (λ n. IsJoin c.args.clocks.now places n (base_at c.join.new.self c.in_ok-root.root)) count c.in_ok-root.ensures.join))
