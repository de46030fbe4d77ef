use Rattle.std.proofs.Common.{◌∙◌, ap, sym, refl, subst}
use Rattle.std.proofs.lemmas.Bool.{true≢false}
use Rattle.std.specs.Prelude.{option_map}
use Rattle.wire_runs.specs.Plan.{event_of}
use Rattle.wire_scripts.specs.Planned.{plan_of}
use Rattle.wire_plan.specs.Index.{source_list}
use Rattle.wire_board.specs.Cuts.{skip_shown, ShowsSources}
use Rattle.wire_board.specs.Seats.{next_of}
use Rattle.wire_board.specs.Lanes.{LaneIs}
use Rattle.wire_board.proofs.Looking.{read_nothing, read_twice, left_on, left_skipped, left_none, left_head, skip_shorter}
use Rattle.wire_board.proofs.lane.Lane.finds_all.Goals as goal

pub sources-init : goal.sources-init
sources-init c =
    let now = c.args.self.now in
    let all = c.sources_left.result in
    let xs = source_list all.previous all.awaited all.arrivals.now in
    let known = ap (λ (l : LaneIs). l.seat.known) c.self.view_is in
    (read_nothing now, left_skipped (plan_of now.seat.board.plan) now.seat xs _ c.sources_left.ensures (c.skip_known-left.ensures ∙ ap (λ ks. skip_shown ks xs) known))

pub keep_left-requires : goal.keep_left-requires
keep_left-requires c = left_on c.sources.self c.finds.new.self _ c.finds.ensures.read c.sources.invariant.1

pub returns-then-not-finds-clause-found : goal.returns-then-not-finds-clause-found
returns-then-not-finds-clause-found c =
    let new = c.finds.new.self in
    let left = c.sources.left in
    let xs = source_list left.previous left.awaited left.arrivals.now in
    let at = sym c.first_source.ensures ∙ ap (option_map event_of) c.in-Some.is in
    let missing = sym c.finds.ensures.found ∙ c.if-not-finds.true in
    let are = left_on c.sources.self new xs c.finds.ensures.read c.sources.invariant.1 in (
      (λ e. absurd (true≢false (sym e))),
      (λ shown. absurd (left_head (plan_of new.seat.board.plan) new.seat xs (event_of c.in-Some.source) at missing are
          (subst (λ (l : LaneIs). ShowsSources (plan_of l.seat.board.plan) l.seat.known (next_of l.seat)) c.keep_left.ensures shown))),
    )

pub sources-smaller : goal.sources-smaller
sources-smaller c =
    let new = c.finds.new.self in
    let left = c.sources.left in
    let xs = source_list left.previous left.awaited left.arrivals.now in
    let at = sym c.first_source.ensures ∙ ap (option_map event_of) c.in-Some.is in
    let known = ap (λ (l : LaneIs). l.seat.known) c.self-in-Some.view_is in
    skip_shorter new.seat.known xs _ (event_of c.in-Some.source) at (sym c.finds.ensures.found ∙ c.if-not-finds.false) (c.skip_known-left-in-Some.ensures ∙ ap (λ ks. skip_shown ks xs) known)

pub sources-preserved : goal.sources-preserved
sources-preserved c =
    let new = c.finds.new.self in
    let left = c.sources.left in
    let xs = source_list left.previous left.awaited left.arrivals.now in
    let known = ap (λ (l : LaneIs). l.seat.known) c.self-in-Some.view_is in
    let are = left_on c.sources.self new xs c.finds.ensures.read c.sources.invariant.1 in (
      read_twice c.args.self.now c.sources.self new c.sources.invariant.0 c.finds.ensures.read,
      left_skipped (plan_of new.seat.board.plan) new.seat xs _ are (c.skip_known-left-in-Some.ensures ∙ ap (λ ks. skip_shown ks xs) known),
    )

pub returns-clause-found : goal.returns-clause-found
returns-clause-found c =
    let now = c.sources.self in
    let left = c.sources.left in
    let xs = source_list left.previous left.awaited left.arrivals.now in
    let none = sym c.first_source.ensures ∙ ap (option_map event_of) c.in_default.is in
    (λ _. left_none (plan_of now.seat.board.plan) now.seat xs none c.sources.invariant.1, λ _. refl)
