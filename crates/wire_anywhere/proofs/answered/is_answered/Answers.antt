use Rattle.std.proofs.Common.{◌∙◌, sym, refl, map}
use Rattle.std.proofs.lemmas.Bool.{true≢false}
use Rattle.wire_runs.specs.Plan.{event_of}
use Rattle.wire_scripts.specs.Planned.{plan_of}
use Rattle.wire_fates.proofs.Marked.{marks_of}
use Rattle.wire_anywhere.proofs.Coming.{done_live, comes_exactly}
use Rattle.wire_anywhere.proofs.answered.is_answered.Goals as goal

pub returns-then-not-live : goal.returns-then-not-live
returns-then-not-live c = (
  (λ t. absurd (true≢false (sym t))),
  (λ d. absurd (true≢false (sym (c.if-not-live.ensures.1 (done_live (plan_of c.args.marked.now) c.requires.settled (event_of c.args.event) d))))),
)

pub returns-then-is_after_some : goal.returns-then-is_after_some
returns-then-is_after_some c =
    let plan = plan_of c.args.marked.now in
    let exactly = comes_exactly plan c.requires.settled (marks_of plan c.marks.result.now c.marks.ensures) (map event_of c.args.stuck.now) c.requires.stuck (event_of c.args.event) in (
      (λ t. absurd (true≢false (sym t))),
      (λ d. absurd ((exactly.1 d).1 (c.is_after_some.ensures.0 c.if-is_after_some.true))),
    )

pub returns : goal.returns
returns c =
    let plan = plan_of c.args.marked.now in
    let exactly = comes_exactly plan c.requires.settled (marks_of plan c.marks.result.now c.marks.ensures) (map event_of c.args.stuck.now) c.requires.stuck (event_of c.args.event) in (
      (λ t. exactly.0 (c.live.ensures.0 c.if-not-live.false, (λ a. true≢false (sym (c.is_after_some.ensures.1 a) ∙ c.if-is_after_some.false)))),
      (λ d. refl),
    )
