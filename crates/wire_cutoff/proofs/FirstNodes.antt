-- The nodes of a counterexample are the first, of those that are tried, on which something is found.
use Rattle.std.proofs.Common.{◌≡◌, ap, sym, subst, ℕ, ◌<◌, List, inl, inr, arith}
use Rattle.std.specs.Prelude.{sum_by}
use Rattle.wire_pattern.specs.Pattern.{Pattern}
use Rattle.wire_pattern.specs.Instances.{Cast, process_count}
use Rattle.wire_cutoff.specs.declared.counterexample.Counterexample.{Counterexample}
use Rattle.wire_cutoff.specs.FirstNodes.{IsPairBefore, AreFirstNodes}
use Rattle.wire_cutoff.specs.Judged.{AreMoved}
use Rattle.wire_cutoff.specs.Sharing.{IsSettledOn, IsPairSettled}
use Rattle.wire_cutoff.specs.Views.{IsShownBeside}
use Rattle.wire_cutoff.proofs.Pairs.{ArePairsSettled, moved_on}

-- what is said of the nodes of one cast holds of those of one with the same processes
pub nodes_moved : (p : Pattern) (cast moved : Cast) (nodes : List ℕ) → AreMoved cast moved → AreFirstNodes p cast nodes → AreFirstNodes p moved nodes
nodes_moved p cast moved nodes same first = go first
  where
    count : process_count moved ≡ process_count cast
    count = ap (λ ns. sum_by (λ (n : ℕ). n) ns) same.0

    on : (f : ℕ → ℕ) → IsSettledOn p cast f → IsSettledOn p moved f
    on f settled = moved_on p moved cast f (sym same.0, sym same.1) settled

    go : AreFirstNodes p cast nodes → AreFirstNodes p moved nodes
    go (inl alone) = inl (λ v lt. alone v (omega (arith, lt, count)))
    go (inr pair) = inr (record {
      a = pair.a;
      b = pair.b;
      in_order = pair.in_order;
      there = omega (arith, pair.there, count);
      paired = λ v lt. pair.paired v (omega (arith, lt, count));
      alone = on (λ v. v) pair.alone;
      before = λ c d low high before. let settled = pair.before c d low (omega (arith, high, count)) before in (on _ settled.0, on _ settled.1);
    })

-- the first of all pairs
pub pair_first : (p : Pattern) (cast : Cast) (processes a : ℕ) (c : Counterexample) → processes ≡ process_count cast → IsSettledOn p cast (λ v. v)
    → ArePairsSettled p cast processes a → IsShownBeside p cast a c → AreFirstNodes p cast c.cast.nodes.of.items
pair_first p cast processes a c is alone before shown = inr (record {
  a = a;
  b = shown.b;
  in_order = shown.in_order;
  there = shown.there;
  paired = shown.paired.node;
  alone = alone;
  before = earlier;
})
  where
    earlier : (d e : ℕ) → d < e → e < process_count cast → IsPairBefore d e a shown.b → IsPairSettled p cast d e
    earlier d e low high (inl less) = before d less e low (omega (arith, high, is))
    earlier d e low high (inr (same, less)) =
        subst (λ n. IsPairSettled p cast n e) (sym same) (shown.before e (subst (λ n. n < e) same low) less)
