use Rattle.std.proofs.Common.{◌≡◌, ◌∙◌, ◌≤◌, ℕ, [], length, slice_index, sym, ap, subst, arith, inl, inr}
use Rattle.std.proofs.lemmas.Bool.{cases_lt}
use Rattle.wire_circles.specs.Circles.{waited_by, WaitsFor}
use Rattle.wire_circles.specs.Search.{IsSearch}
use Rattle.wire_circles.proofs.Searching.{begun, past_of, no_circle}
use Rattle.wire_circles.proofs.search.find_circle.Goals as goal

pub loop-start-init : goal.loop-start-init
loop-start-init c = record {
  search = subst (λ left. IsSearch (waited_by c.args.waits.now) (slice_index left) []) (sym c.in_ok-left.ensures) (begun c.args.waits.now);
  before = λ p low. absurd (omega (arith, low));
  past = λ p past. ap (λ left. slice_index left p) c.in_ok-left.ensures ∙ (past_of c.args.waits.now p past).0;
}

pub returns : goal.returns
returns c = no_circle (WaitsFor c.args.waits.now) (λ p. c.loop-start.invariant.search.ended p (elim (cases_lt p c.loop-start.start) [
  | inl below ↦ c.loop-start.invariant.before p below
  | inr past ↦ c.loop-start.invariant.past p (omega (arith, past, c.loop-start-test.false))
]))
