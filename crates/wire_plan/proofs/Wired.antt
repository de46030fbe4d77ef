-- The sources of an event, from their parts.
use Rattle.std.proofs.Common.{◌≡◌, ◌∙◌, ap, sym, subst, refl, ℕ, zero, suc, List, [], ◌++◌, Option, Some, None, map, ◌⊎◌, inl, inr, arith}
use Rattle.std.specs.Prelude.{slice_get, option_map, option_to_list}
use Rattle.std.proofs.lemmas.Option.{same_Some}
use Rattle.wire_runs.specs.Plan.{Plan, Event, Kind, Leave, kind, event_of}
use Rattle.wire_types.specs.declared.Event.{Event as CodeEvent}
use Rattle.wire_runs.specs.Fences.{arrivals}
use Rattle.wire_runs.specs.Order.{Edge, Follows, Meets, Feeds, Announces}
use Rattle.wire_plan.specs.Index.{AreSources, AreArrivals, AwaitsOnly, AwaitsCommit, AwaitsPublish, FindsAwaited, previous_at, previous_of, source_list}
use Rattle.wire_runs.proofs.Due.{place_path}

-- what stands in a list behind an option
front_or_rest : (a : Option Event) (rest : List Event) (k : ℕ) (z : Event) → slice_get (option_to_list a ++ rest) k ≡ Some z → (a ≡ Some z) ⊎ ((j : ℕ) × (slice_get rest j ≡ Some z))
front_or_rest None rest k z is = inr (k, is)
front_or_rest (Some x) rest zero z is = inl is
front_or_rest (Some x) rest (suc k) z is = inr (k, is)

front_stands : (a : Option Event) (rest : List Event) (z : Event) → a ≡ Some z → (k : ℕ) × (slice_get (option_to_list a ++ rest) k ≡ Some z)
front_stands None rest z is = absurd (cc)
front_stands (Some x) rest z is = (0, is)

rest_stands : (a : Option Event) (rest : List Event) (z : Event) → (j : ℕ) × (slice_get rest j ≡ Some z) → (k : ℕ) × (slice_get (option_to_list a ++ rest) k ≡ Some z)
rest_stands None rest z found = found
rest_stands (Some x) rest z found = (suc found.0, found.1)

-- the event before it
previous_is : (p i : ℕ) (z : Event) → previous_at p i ≡ Some z → (z.proc ≡ p) × (suc z.at ≡ i)
previous_is p zero z is = absurd (cc)
previous_is p (suc i) z is = (ap (λ x. x.proc) (sym (same_Some _ _ is)), ap (λ x. suc x.at) (sym (same_Some _ _ is)))

is_previous : (p i : ℕ) (z : Event) → z.proc ≡ p → suc z.at ≡ i → previous_at p i ≡ Some z
is_previous p zero z proc at = absurd (omega (arith, at))
is_previous p (suc i) z proc at = ap Some (sym (place_path z p i proc (omega (arith, at))))

-- what it awaits is a source of it
awaited_edge : (plan : Plan) (y z : Event) → AwaitsOnly plan y z → Edge plan z y
awaited_edge plan y z (AwaitsCommit key is other once stores) = Feeds key is other once stores
awaited_edge plan y z (AwaitsPublish name is once) = Announces name is once

-- whether it ends a fence
ends_fence : (o : Option Kind) → ((members : List ℕ) × (o ≡ Some (Leave members))) ⊎ ((members : List ℕ) → o ≡ Some (Leave members) → ⊥)
ends_fence (Some (Leave members)) = inl (members, refl)
ends_fence None = inr (λ members is. cc)
ends_fence (Some _) = inr (λ members is. cc)

module _ (plan : Plan) (y : Event) (previous awaited : Option CodeEvent) (came : List CodeEvent) (first : option_map event_of previous ≡ previous_of y)
    (second : FindsAwaited plan y (option_map event_of awaited)) (leave : (members : List ℕ) → kind plan y ≡ Some (Leave members) →
    AreArrivals plan members (arrivals plan y.proc members y.at) (map event_of came)) (others : ((members : List ℕ) → kind plan y ≡ Some (Leave members) → ⊥) → came ≡ []) where
  an_arrival : (j : ℕ) (z : Event) → slice_get (map event_of came) j ≡ Some z → Edge plan z y
  an_arrival j z is = elim (ends_fence (kind plan y)) [
    | inl ends ↦ Meets ends.0 ends.1 ((leave ends.0 ends.1).only j z is)
    | inr ends_none ↦
        let none = others ends_none in
        let bad = subst (λ l. slice_get (map event_of l) j ≡ Some z) none is in
        absurd (cc)
  ]

  is_source : (k : ℕ) (z : Event) → slice_get (source_list previous awaited came) k ≡ Some z → Edge plan z y
  is_source k z is = elim (front_or_rest (option_map event_of previous) _ k z is) [
    | inl here ↦ let p = previous_is y.proc y.at z (sym first ∙ here) in Follows p.0 p.1
    | inr later ↦ elim (front_or_rest (option_map event_of awaited) _ later.0 z later.1) [
      | inl here ↦ awaited_edge plan y z (second.only z here)
      | inr last ↦ an_arrival last.0 z last.1
    ]
  ]

  stands : (z : Event) → Edge plan z y → (k : ℕ) × (slice_get (source_list previous awaited came) k ≡ Some z)
  stands z (Follows proc at) = front_stands (option_map event_of previous) _ z (first ∙ is_previous y.proc y.at z proc at)
  stands z (Meets members is arrival) = rest_stands (option_map event_of previous) _ z (rest_stands (option_map event_of awaited) _ z ((leave members is).all z arrival))
  stands z (Feeds key is other once stores) = rest_stands (option_map event_of previous) _ z (front_stands (option_map event_of awaited) _ z (second.all z (AwaitsCommit key is other once stores)))
  stands z (Announces name is once) = rest_stands (option_map event_of previous) _ z (front_stands (option_map event_of awaited) _ z (second.all z (AwaitsPublish name is once)))

  pub sources_are : AreSources plan y (source_list previous awaited came)
  sources_are = record { only = is_source; all = stands }
