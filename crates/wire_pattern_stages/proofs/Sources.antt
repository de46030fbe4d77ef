-- Where it is so of all sources, it is so of each edge.
use Rattle.std.proofs.Common.{◌≡◌, ℕ, zero, suc, List, ◌++◌, map, Option, Some, None, inr, refl, sym, ap, ◌∙◌, arith}
use Rattle.std.specs.Prelude.{slice_get, option_map, option_to_list}
use Rattle.std.proofs.lemmas.Option.{none-some, same_Some}
use Rattle.wire_runs.specs.Plan.{Plan, Event, event_of}
use Rattle.wire_runs.specs.Order.{Edge}
use Rattle.wire_size_laws.specs.Stages.{StageKey}
use Rattle.wire_types.specs.declared.place.Event.{Event as CodeEvent}
use Rattle.wire_plan.specs.Index.{AreSources, source_list, previous_of}
use Rattle.wire_pattern_stages.specs.Rising.{Goes, AllGo}

in_front : (holds : Event → Type 0) (o : Option Event) (rest : List Event) → ((z : Event) → o ≡ Some z → holds z) → ((k : ℕ) (z : Event) → slice_get rest k ≡ Some z → holds z)
    → (k : ℕ) (z : Event) → slice_get (option_to_list o ++ rest) k ≡ Some z → holds z
in_front holds None rest one all k z is = all k z is
in_front holds (Some x) rest one all zero z is = one z is
in_front holds (Some x) rest one all (suc k) z is = all k z is

previous_goes : (key : Event → StageKey) (y z : Event) → previous_of y ≡ Some z → Goes key z y
previous_goes key y z is = go y.at refl is
  where
    go : (n : ℕ) → y.at ≡ n → previous_of (record { proc = y.proc; at = n }) ≡ Some z → Goes key z y
    go zero at is = absurd (none-some z is)
    go (suc n) at is =
        let same = same_Some _ _ is in
        let place : z.at ≡ n = sym (ap (λ (v : Event). v.at) same) in
        inr (sym (ap (λ (v : Event). v.proc) same), omega (arith, at, place))

pub each_goes : (key : Event → StageKey) (plan : Plan) (y : Event) (previous awaited : Option CodeEvent) (arrivals : List CodeEvent) → AreSources plan y (source_list previous awaited arrivals)
    → option_map event_of previous ≡ previous_of y → ((z : Event) → option_map event_of awaited ≡ Some z → Goes key z y) → AllGo key (map event_of arrivals) y
    → (x : Event) → Edge plan x y → Goes key x y
each_goes key plan y previous awaited arrivals sources before one all x edge =
    let at = sources.all x edge in
    in_front (λ z. Goes key z y) (option_map event_of previous) (option_to_list (option_map event_of awaited) ++ map event_of arrivals)
    (λ z is. previous_goes key y z (sym before ∙ is))
    (in_front (λ z. Goes key z y) (option_map event_of awaited) (map event_of arrivals) one all) at.0 x at.1
