use Rattle.std.proofs.Common.{◌≡◌, ◌∙◌, ◌<◌, ◌+◌, ℕ, ap, sym, arith, List, length, slice_index, slice_set, max, inl, inr}
use Rattle.std.proofs.lemmas.Bool.{cases_eq}
use Rattle.std.proofs.lemmas.List.{get_or-set_same, get_or-set_other, length-set}
use Rattle.wire_clocks.proofs.rows.greater_numbers.Goals as goal

-- one more number is the greater one
raised : (now lefts rights : List ℕ) (i n k : ℕ) → ((k : ℕ) → k < i → slice_index now k ≡ max (slice_index lefts k) (slice_index rights k)) → i < length now
    → n ≡ max (slice_index lefts i) (slice_index rights i) → k < i + 1 → slice_index (slice_set now i n) k ≡ max (slice_index lefts k) (slice_index rights k)
raised now lefts rights i n k below within is low = elim (cases_eq k i) [
  | inl e ↦ ap (slice_index (slice_set now i n)) e ∙ get_or-set_same now i n 0 within ∙ is ∙ ap (λ j. max (slice_index lefts j) (slice_index rights j)) (sym e)
  | inr ne ↦ get_or-set_other now i k n 0 ne ∙ below k (omega (arith, low, ne))
]

pub loop-i-preserved : goal.loop-i-preserved
loop-i-preserved c =
    let now = c.loop-i.greater in
    let i = c.loop-i.i in
    let n = c.max.result in
    let width = c.loop-i.invariant.width in
    let within : i < length now = omega (arith, width) in
    let is = c.max.ensures ∙ ap (λ g. max g (slice_index c.args.rights.now i)) (c.loop-i.invariant.above i (omega arith)) in
    record {
      width = length-set now i n ∙ width;
      below = λ k low. raised now c.args.lefts.now c.args.rights.now i n k c.loop-i.invariant.below within is low;
      above = λ k high. get_or-set_other now i k n 0 (λ e. omega (arith, e, high)) ∙ c.loop-i.invariant.above k (omega (arith, high));
    }
