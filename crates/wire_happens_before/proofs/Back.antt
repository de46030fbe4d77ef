-- The chain that is shown, step by step.
use Rattle.std.proofs.Common.{◌≡◌, ◌⊎◌, inl, inr, ⊎_elim, List, [], ◌∷◌, ◌++◌, Option, Some, None, map, reverse, refl, sym, ap, ◌∙◌, subst, arith, append_assoc}
use Rattle.std.specs.Prelude.{IsSome, option_map}
use Rattle.std.proofs.lemmas.List.{map-append, reverse-append}
use Rattle.wire_runs.specs.Plan.{Plan, Event, event_of}
use Rattle.wire_types.specs.declared.place.Event.{Event as CodeEvent}
use Rattle.wire_runs.specs.Order.{Before}
use Rattle.wire_runs.specs.Fate.{IsIn}
use Rattle.wire_runs.proofs.Members.{in_left, in_index, index_in}
use Rattle.wire_runs.proofs.Lists.{reverse-map}
use Rattle.wire_plan.specs.Index.{AreSources}
use Rattle.wire_happens_before.specs.Clocks.{LeadsTo}
use Rattle.wire_happens_before.specs.Chain.{AtMost, IsStepBack, IsShownChain, begins, goes_on, IsLowest, Lowest}
use Rattle.wire_happens_before.proofs.Marking.{last_source}

at_most_through : (x y z : Event) → AtMost x y → AtMost y z → AtMost x z
at_most_through x y z (inl a) (inl b) = inl (omega (arith, a, b))
at_most_through x y z (inl a) (inr b) = let e = b.0 in inl (omega (arith, a, e))
at_most_through x y z (inr a) (inl b) = let e = a.0 in inl (omega (arith, e, b))
at_most_through x y z (inr a) (inr b) = let f = a.1 in let g = b.1 in inr (a.0 ∙ b.0, omega (arith, f, g))

in_last : (xs : List Event) (y z : Event) → IsIn z (xs ++ y ∷ []) → IsIn z xs ⊎ (z ≡ y)
in_last [] y z (inl e) = inr e
in_last [] y z (inr i) = absurd i
in_last (x ∷ xs) y z (inl e) = inl (inl e)
in_last (x ∷ xs) y z (inr i) = ⊎_elim (λ a. inl (inr a)) (λ e. inr e) (in_last xs y z i)

in_end : (xs : List Event) (y : Event) → IsIn y (xs ++ y ∷ [])
in_end [] y = inl refl
in_end (x ∷ xs) y = inr (in_end xs y)

pub lowest_skip : (plan : Plan) (x : Event) (places : List Event) (z : Event) (lowest : Option Event) → (LeadsTo plan x z → ⊥) → Lowest plan x places lowest → Lowest plan x (places ++ z ∷ []) lowest
lowest_skip plan x places z None not_led h = λ w i l. elim (in_last places z w i) [
  | inl was ↦ h w was l
  | inr e ↦ not_led (subst (λ v. LeadsTo plan x v) e l)
]
lowest_skip plan x places z (Some v) not_led h = record {
  source = in_left places (z ∷ []) v h.source;
  leads = h.leads;
  lowest = λ w i l. elim (in_last places z w i) [
    | inl was ↦ h.lowest w was l
    | inr e ↦ absurd (not_led (subst (λ u. LeadsTo plan x u) e l))
  ];
}

pub lowest_take : (plan : Plan) (x : Event) (places : List Event) (z new : Event) (lowest : Option Event) → LeadsTo plan x z → Lowest plan x places lowest → (lowest ≡ Some new) ⊎ (new ≡ z) →
    ((w : Event) → lowest ≡ Some w → AtMost new w) → AtMost new z → IsLowest plan x (places ++ z ∷ []) new
lowest_take plan x places z new lowest l h one first second = record {
  source = ⊎_elim (λ e. in_left places (z ∷ []) new (was e).source) (λ e. subst (λ v. IsIn v (places ++ z ∷ [])) (sym e) (in_end places z)) one;
  leads = ⊎_elim (λ e. (was e).leads) (λ e. subst (λ v. LeadsTo plan x v) (sym e) l) one;
  lowest = λ w i m. elim (in_last places z w i) [
    | inl old ↦ below lowest refl h w old m
    | inr e ↦ subst (λ v. AtMost new v) (sym e) second
  ];
}
  where
    was : lowest ≡ Some new → IsLowest plan x places new
    was e = subst (λ o. Lowest plan x places o) e h

    below : (o : Option Event) → lowest ≡ o → Lowest plan x places o → (w : Event) → IsIn w places → LeadsTo plan x w → AtMost new w
    below None e g w i m = absurd (g w i m)
    below (Some v) e g w i m = at_most_through new v w (first v e) (g.lowest w i m)

-- nothing was looked at
pub none_lowest : (plan : Plan) (x : Event) → Lowest plan x [] None
none_lowest plan x = λ w i l. i

-- a source leads on from x
pub some_leads : (plan : Plan) (x y : Event) (sources : List Event) (lowest : Option Event) → AreSources plan y sources → Before plan x y → Lowest plan x sources lowest → IsSome lowest
some_leads plan x y sources (Some v) are b h = search
some_leads plan x y sources None are b h =
    let s = last_source b in
    let w = are.all s.0 s.1 in
    absurd (h s.0 (index_in sources s.0 w.0 w.1) s.2)

pub is_step_back : (plan : Plan) (x y : Event) (sources : List Event) (z : Event) → AreSources plan y sources → IsLowest plan x sources z → IsStepBack plan x y z
is_step_back plan x y sources z are h = record {
  source = let w = in_index sources z h.source in are.only w.0 z w.1;
  leads = h.leads;
  lowest = λ w e l. let s = are.all w e in h.lowest w (index_in sources w s.0 s.1) l;
}

-- one more event of the chain is known
pub rest_step : (plan : Plan) (x y at z : Event) (chain : List Event) → ((start : List Event) → IsShownChain plan x at start → IsShownChain plan x y (start ++ reverse chain)) → IsStepBack plan x at z →
    (start : List Event) → IsShownChain plan x z start → IsShownChain plan x y (start ++ reverse (chain ++ at ∷ []))
rest_step plan x y at z chain rest back start shown =
    let e : (start ++ at ∷ []) ++ reverse chain ≡ start ++ reverse (chain ++ at ∷ []) = rw reverse-append (append_assoc start (at ∷ []) (reverse chain)) in
    subst (λ c. IsShownChain plan x y c) e (rest (start ++ at ∷ []) (goes_on shown back))

-- the same, of events
pub rest_of : (plan : Plan) (x y : Event) (at z : CodeEvent) (chain : List CodeEvent) →
    ((start : List Event) → IsShownChain plan x (event_of at) start → IsShownChain plan x y (start ++ reverse (map event_of chain))) → IsStepBack plan x (event_of at) (event_of z) → (start : List Event) →
    IsShownChain plan x (event_of z) start → IsShownChain plan x y (start ++ reverse (map event_of (chain ++ at ∷ [])))
rest_of plan x y at z chain rest back start shown =
    subst (λ l. IsShownChain plan x y (start ++ reverse l)) (sym (map-append event_of chain (at ∷ []))) (rest_step plan x y (event_of at) (event_of z) (map event_of chain) rest back start shown)

-- the walk has come to x
pub shown_whole : (plan : Plan) (x y : Event) (last : CodeEvent) (chain : List CodeEvent) →
    ((start : List Event) → IsShownChain plan x (event_of last) start → IsShownChain plan x y (start ++ reverse (map event_of chain))) → x ≡ event_of last →
    IsShownChain plan x y (map event_of (reverse (chain ++ last ∷ [])))
shown_whole plan x y last chain rest e =
    let first : IsShownChain plan x (event_of last) (event_of last ∷ []) = subst (λ a. IsShownChain plan x a (a ∷ [])) e begins in
    let turned : map event_of (reverse (chain ++ last ∷ [])) ≡ event_of last ∷ reverse (map event_of chain) = ap (map event_of) (reverse-append chain (last ∷ []))
    ∙ ap (λ l. event_of last ∷ l) (sym (reverse-map event_of chain)) in
    subst (λ l. IsShownChain plan x y l) (sym turned) (rest (event_of last ∷ []) first)

pub some_event : (o : Option CodeEvent) → IsSome (option_map event_of o) → IsSome o
some_event (Some e) h = search
some_event None h = h
