use Rattle.std.proofs.Common.{◌≡◌, ◌∙◌, ◌<◌, ℕ, Option, Some, None, length, map, refl, sym, arith}
use Rattle.std.specs.Prelude.{option_map, MatchOption}
use Rattle.std.proofs.lemmas.Bool.{true≢false}
use Rattle.wire_runs.specs.Plan.{Event, event_of}
use Rattle.wire_happens_before.specs.Clocks.{marked_count}
use Rattle.wire_happens_before.specs.Marking.{next_of, IsStuckAt, IsNextBase}
use Rattle.wire_happens_before.specs.Meeting.{plan_in, AreMarked, IsJoined}
use Rattle.wire_happens_before.proofs.Growing.{come_within, grown_keeps, sound_grown, stuck_same}
use Rattle.wire_happens_before.proofs.Joining.{awaited_edge, arrival_edge, arrivals_at_fence, meetings_on, meetings_kept, next_unmet, next_met}
use Rattle.wire_happens_before.proofs.grow.next_base.Goals as goal

pub returns-then-at-event_count-clause-next : goal.returns-then-at-event_count-clause-next
returns-then-at-event_count-clause-next c = λ ready.
    let within = come_within (plan_in c.args.growth.now) (next_of c.args.growth.now.clocks c.args.proc.number) ready.comes in
    let at = c.marked-at.ensures in
    let count = c.event_count.ensures in
    let past = c.if-at-event_count.true in
    omega (arith, within, at, count, past)

pub returns-then-not-is_source_marked-clause-next : goal.returns-then-not-is_source_marked-clause-next
returns-then-not-is_source_marked-clause-next c = λ ready.
    let sources = c.sources-sources.result in
    let are = rw c.marked-at.ensures at c.sources-sources.ensures.sources in
    let marked : (z : Event) → option_map event_of sources.awaited ≡ Some z → z.at < marked_count c.args.growth.now.clocks z.proc = λ z e.
    ready.sources z (awaited_edge (plan_in c.args.growth.now) (next_of c.args.growth.now.clocks c.args.proc.number) (option_map event_of sources.previous) (option_map event_of sources.awaited)
    (map event_of sources.arrivals.now) are z e) in
    true≢false (sym (c.is_source_marked.ensures.1 marked) ∙ c.if-not-is_source_marked.true)

pub meet-requires-clause-kept : goal.meet-requires-clause-kept
meet-requires-clause-kept c =
    let xs = map event_of c.sources-sources.result.arrivals.now in
    let here = arrivals_at_fence c.args.growth.now.plan.now c.args.growth.now.fences.now _ c.in-Some.fence.number xs c.in-Some.ensures c.sources-sources.ensures.leave in
    c.requires.kept c.in-Some.fence.number here.0 xs here.1 here.2

pub returns-clause-growing : goal.returns-clause-growing
returns-clause-growing c =
    let plan = plan_in c.args.growth.now in
    let old = c.args.growth.now.clocks in
    let new = c.meet.new.clocks in
    let xs = map event_of c.sources-sources.result.arrivals.now in
    let here = arrivals_at_fence c.args.growth.now.plan.now c.args.growth.now.fences.now _ c.in-Some.fence.number xs c.in-Some.ensures c.sources-sources.ensures.leave in
    let grown = c.in_ok-met.ensures.grown in
    let keeps = grown_keeps old new c.requires.marked.based grown in
    record {
      fences = c.requires.fences;
      marked = sound_grown old new c.requires.marked.based grown plan c.requires.marked c.in_ok-met.ensures.based;
      kept = meetings_on plan c.args.growth.now.fences.now old new c.args.growth.now.meetings.items c.meet.new.meetings.items c.in-Some.fence.number here.0 xs keeps here.1 here.2
          c.in_ok-met.ensures.kept
          c.in_ok-met.ensures.others c.requires.kept;
    }

pub returns-clause-next : goal.returns-clause-next
returns-clause-next c = told c.in_ok-met.met c.in_ok-met.ensures.met
  where
    told : (o : Option ℕ) → MatchOption o (AreMarked c.args.growth.now.clocks (map event_of c.sources-sources.result.arrivals.now) (length c.sources-sources.result.arrivals.now) → ⊥)
        (λ n. IsJoined c.meet.new.clocks (map event_of c.sources-sources.result.arrivals.now) n) →
        MatchOption o (IsStuckAt (plan_in c.args.growth.now) c.meet.new.clocks c.args.proc.number) (λ n. IsNextBase (plan_in c.args.growth.now) c.meet.new.clocks c.args.proc.number n)
    told None missing = stuck_same c.args.growth.now.plan.now c.args.growth.now.plan.now c.args.growth.now.clocks c.meet.new.clocks c.args.proc.number refl c.in_ok-met.ensures.grown.roots (λ ready.
        let sources = c.sources-sources.result in
        let are = rw c.marked-at.ensures at c.sources-sources.ensures.sources in
        missing (λ k z lt e.
        ready.sources z (arrival_edge (plan_in c.args.growth.now) (next_of c.args.growth.now.clocks c.args.proc.number) (option_map event_of sources.previous) (option_map event_of sources.awaited)
        (map event_of sources.arrivals.now) are k z e)))
    told (Some n) joined =
        let sources = c.sources-sources in
        let is = c.marked-at.ensures in
        next_met c.args.growth.now.plan.now c.args.growth.now.fences.now c.args.growth.now.clocks c.meet.new.clocks c.args.proc.number n c.in-Some.fence.number
        (option_map event_of sources.result.previous)
        (option_map event_of sources.result.awaited) (map event_of sources.result.arrivals.now)
        c.requires.marked.based
        (sym (rw is at c.may_come.ensures) ∙ c.if-not-may_come.false)
        (rw is at sources.ensures.sources)
        (rw is at sources.ensures.previous)
        (rw is at sources.ensures.awaited)
        (rw is at sources.ensures.leave)
        (rw is at c.in-Some.ensures)
        (c.is_source_marked.ensures.0 c.if-not-is_source_marked.false)
        (omega arith)
        c.in_ok-met.ensures.grown joined

pub returns-in_default-clause-growing : goal.returns-in_default-clause-growing
returns-in_default-clause-growing c =
    let plan = plan_in c.args.growth.now in
    let old = c.args.growth.now.clocks in
    let new = c.base_after.new.self in
    let grown = c.in_ok-root.ensures.grown in
    record {
      fences = c.requires.fences;
      marked = sound_grown old new c.requires.marked.based grown plan c.requires.marked c.in_ok-root.ensures.based;
      kept = meetings_kept plan c.args.growth.now.fences.now old new c.args.growth.now.meetings.items (grown_keeps old new c.requires.marked.based grown) c.requires.kept;
    }

pub returns-in_default-clause-next : goal.returns-in_default-clause-next
returns-in_default-clause-next c =
    let sources = c.sources-sources in
    let none = rw c.in_default.is at c.find_ended_fence.ensures in
    let is = c.marked-at.ensures in
    let are = rw (c.marked-at.ensures, sources.ensures.others none) at sources.ensures.sources in
    next_unmet (plan_in c.args.growth.now) c.args.growth.now.clocks c.base_after.new.self c.args.proc.number c.in_ok-root.root (option_map event_of sources.result.previous)
    (option_map event_of sources.result.awaited)
    c.requires.marked
    (sym (rw is at c.may_come.ensures) ∙ c.if-not-may_come.false)
    are
    (rw is at sources.ensures.previous)
    (c.is_source_marked.ensures.0 c.if-not-is_source_marked.false)
    (omega arith)
    c.in_ok-root.ensures.grown c.in_ok-root.ensures.there c.in_ok-root.ensures.raised

pub sources-sources-requires : goal.sources-sources-requires
sources-sources-requires c = let count = c.event_count.ensures in let low = c.if-at-event_count.false in omega (arith, count, low)

pub find_ended_fence-requires-clause-there : goal.find_ended_fence-requires-clause-there
find_ended_fence-requires-clause-there c = let count = c.event_count.ensures in let low = c.if-at-event_count.false in omega (arith, count, low)

pub returns-then-not-may_come-clause-next : goal.returns-then-not-may_come-clause-next
returns-then-not-may_come-clause-next c = λ ready. true≢false (sym ready.comes ∙ (sym (rw c.marked-at.ensures at c.may_come.ensures) ∙ c.if-not-may_come.true))

pub base_after-requires-clause-awaited : goal.base_after-requires-clause-awaited
base_after-requires-clause-awaited c = c.is_source_marked.ensures.0 c.if-not-is_source_marked.false
