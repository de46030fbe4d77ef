-- The shown chain is one.
use Rattle.std.proofs.Common.{◌≡◌, inl, inr, List, [], ◌∷◌, ◌++◌, refl, sym, ap, ◌∙◌, subst, arith}
use Rattle.wire_runs.specs.Plan.{Plan, Event}
use Rattle.wire_runs.specs.Order.{Edge, Live, edge, further}
use Rattle.wire_runs.proofs.Histories.{no_cycle, before_live}
use Rattle.wire_happens_before.specs.Chain.{AtMost, IsStepBack, IsShownChain, begins, goes_on, OneShown}

at_most_both : (x y : Event) → AtMost x y → AtMost y x → x ≡ y
at_most_both x y (inl a) (inl b) = absurd (omega (arith, a, b))
at_most_both x y (inl a) (inr b) = let e = b.0 in absurd (omega (arith, a, e))
at_most_both x y (inr a) (inl b) = let e = a.0 in absurd (omega (arith, e, b))
at_most_both x y (inr a) (inr b) =
    let f = a.1 in
    let g = b.1 in
    let at : x.at ≡ y.at = omega (arith, f, g) in
    λ t. record { proc = a.0 t; at = at t }

-- no step leads back from a live event to where the chain begins
never_back : (plan : Plan) (x z : Event) → Live plan x → IsStepBack plan x x z → ⊥
never_back plan x z l s = elim s.leads [
  | inl e ↦ no_cycle l (edge l (subst (λ a. Edge plan a x) (sym e) s.source) l)
  | inr b ↦ no_cycle l (further b s.source l)
]

one_step : {plan : Plan} {x y z w : Event} → IsStepBack plan x y z → IsStepBack plan x y w → z ≡ w
one_step {plan} {x} {y} {z} {w} a b = at_most_both z w (a.lowest w b.source b.leads) (b.lowest z a.source a.leads)

at_same : {plan : Plan} {x y w z : Event} → y ≡ w → IsStepBack plan x w z → IsStepBack plan x y z
at_same {plan} {x} {y} {w} {z} e s = subst (λ u. IsStepBack plan x u z) (sym e) s

longer_same : {a b : List Event} {y w : Event} → a ≡ b → y ≡ w → a ++ y ∷ [] ≡ b ++ w ∷ []
longer_same {a} {b} {y} {w} f e = ap (λ c. c ++ y ∷ []) f ∙ ap (λ u. b ++ u ∷ []) e

one_from : (plan : Plan) (x : Event) → Live plan x → {y w : Event} {a b : List Event} → IsShownChain plan x y a → IsShownChain plan x w b → y ≡ w → a ≡ b
one_from plan x l begins begins e = refl
one_from plan x l begins (goes_on r forth) e = absurd (never_back plan x _ l (at_same e forth))
one_from plan x l (goes_on s back) begins e = absurd (never_back plan x _ l (at_same (sym e) back))
one_from plan x l (goes_on s back) (goes_on r forth) e = longer_same (one_from plan x l s r (one_step back (at_same e forth))) e

pub one_shown : OneShown
one_shown plan x y a b before s r = one_from plan x (before_live before) s r refl
