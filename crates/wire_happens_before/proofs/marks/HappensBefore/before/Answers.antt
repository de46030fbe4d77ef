use Rattle.std.proofs.Common.{◌∙◌, ◌<◌, sym, arith, leb-true, le-leb}
use Rattle.std.proofs.lemmas.Bool.{true≢false}
use Rattle.wire_runs.specs.Plan.{event_of}
use Rattle.wire_happens_before.proofs.Growing.{before_iff, never_self}
use Rattle.wire_happens_before.proofs.marks.HappensBefore.before.Goals as goal

pub returns-then-not-is_same : goal.returns-then-not-is_same
returns-then-not-is_same c plan m =
    let iff = before_iff plan c.args.self.now (event_of c.args.x) (event_of c.args.y) m (λ e. true≢false (sym (c.is_same.ensures.1 e) ∙ c.if-not-is_same.true)) in
    let count = rw c.self.view_is at c.count.ensures in (
      (λ t. iff.0 (let lt : c.args.x.at < c.count.result = leb-true _ _ t in omega (arith, lt, count))),
      (λ b. le-leb _ _ (let lt = iff.1 b in omega (arith, lt, count))),
    )

pub returns-else-not-is_same : goal.returns-else-not-is_same
returns-else-not-is_same c plan m = (
  (λ t. absurd (true≢false (sym (rw c.if-not-is_same.false at t)))),
  (λ b. absurd (never_self plan (event_of c.args.x) (event_of c.args.y) (c.is_same.ensures.0 c.if-not-is_same.false) b)),
)
