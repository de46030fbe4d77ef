use Rattle.std.proofs.Common.{◌≡◌, ℕ, Option, Some, None, map, ap, refl}
use Rattle.std.specs.Prelude.{option_map, slice_get, IfSome}
use Rattle.wire_runs.specs.Plan.{Event, event_of}
use Rattle.wire_types.specs.declared.Proc.{Proc}
use Rattle.wire_runs.specs.Order.{Edge}
use Rattle.wire_happens_before.specs.Marking.{next_of}
use Rattle.wire_happens_before.specs.Meeting.{plan_in}
use Rattle.wire_happens_before.proofs.Joining.{awaited_edge, arrival_edge}
use Rattle.wire_happens_before.proofs.way.waits_for.Goals as goal

pub returns-in-Some : goal.returns-in-Some
returns-in-Some c =
    let sources = c.sources-sources.result in
    let are = rw c.marked-at.ensures at c.sources-sources.ensures.sources in
    let edge = awaited_edge (plan_in c.args.growth.now) (next_of c.args.growth.now.clocks c.args.proc.number) (option_map event_of sources.previous) (option_map event_of sources.awaited)
    (map event_of sources.arrivals.now) are (event_of c.in-Some.awaited) (ap (option_map event_of) c.in-Some.is) in
    (event_of c.in-Some.awaited, edge, refl)

pub returns : goal.returns
returns c = told c.missing_at.result c.missing_at.ensures
  where
    told : (o : Option Proc) → IfSome o (λ p. (k : ℕ) × (z : Event) × (slice_get (map event_of c.sources-sources.result.arrivals.now) k ≡ Some z) × (z.proc ≡ p.number)) →
        IfSome o (λ q. (z : Event) × Edge (plan_in c.args.growth.now) z (next_of c.args.growth.now.clocks c.args.proc.number) × (z.proc ≡ q.number))
    told None h = h
    told (Some q) w =
        let sources = c.sources-sources.result in
        let are = rw c.marked-at.ensures at c.sources-sources.ensures.sources in (
          w.1,
          arrival_edge (plan_in c.args.growth.now) (next_of c.args.growth.now.clocks c.args.proc.number) (option_map event_of sources.previous) (option_map event_of sources.awaited)
              (map event_of sources.arrivals.now) are w.0 w.1 w.2,
          w.3,
        )
