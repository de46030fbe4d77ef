-- The ends of one fence wait for the same arrivals.
use Rattle.std.proofs.Common.{◌≡◌, ◌∙◌, ℕ, suc, ◌+◌, List, [], ◌<◌, true, Option, Some, map, ap, sym, subst, inl, inr, arith, ltb-true}
use Rattle.std.specs.Prelude.{slice_get, slice_index}
use Rattle.std.proofs.lemmas.Option.{none-some}
use Rattle.wire_types.specs.declared.Event.{Event as CodeEvent}
use Rattle.wire_types.specs.declared.Proc.{Proc}
use Rattle.wire_runs.specs.Plan.{Plan, Kind, Leave, Get, LookupWait, Event, kind, event_of}
use Rattle.wire_runs.specs.Fences.{arrivals}
use Rattle.wire_runs.specs.Order.{IsArrival, Edge, Follows, Meets, Feeds, Announces}
use Rattle.wire_runs.proofs.Lists.{slice_get-map_kept}
use Rattle.wire_plan.specs.Index.{AreArrivals}
use Rattle.wire_fates.proofs.First.{leave_next}
use Rattle.wire_board.specs.Cuts.{shows_event, ImpliesSources}
use Rattle.wire_board.specs.Seats.{SeatIs, next_of}
use Rattle.wire_board.specs.Lanes.{WaitsForMore}

not_none : (xs : List CodeEvent) (k : ℕ) (a : CodeEvent) → slice_get xs k ≡ Some a → xs ≡ [] → ⊥
not_none xs k a is none = none-some a (ap (λ ys. slice_get ys k) (sym none) ∙ is)

-- the event z, after one of the arrivals for which y waits
pub waits_for_more : (plan : Plan) (y : Event) (places : List CodeEvent) (a z : CodeEvent) (k : ℕ) → slice_get places k ≡ Some a → z.proc ≡ a.proc → z.at ≡ a.at + 1
    → ((members : List ℕ) → kind plan y ≡ Some (Leave members) → AreArrivals plan members (arrivals plan y.proc members y.at) (map event_of places))
    → (((members : List ℕ) → kind plan y ≡ Some (Leave members) → ⊥) → places ≡ []) → WaitsForMore plan y (event_of z)
waits_for_more plan y places a z k there here next leave others x (Follows p n) = inl (p, n)
waits_for_more plan y places a z k there here next leave others x (Meets members is arrival) =
    let arrived = (leave members is).only k (event_of a) (slice_get-map_kept event_of places k a there) in
    let end = leave_next plan a.proc.number a.at members arrived.collect arrived.is in
    let edge : Edge plan x (record { proc = a.proc.number; at = suc a.at }) = Meets members end (subst (λ j. IsArrival plan members j x) (sym arrived.nth) arrival) in
    let later : z.at ≡ suc a.at = omega (arith, next) in
    inr (subst (Edge plan x) (λ i. record { proc = ap (λ (p : Proc). p.number) (sym here) i; at = sym later i }) edge)
waits_for_more plan y places a z k there here next leave others x (Feeds key is other once stores) =
    absurd (not_none places k a there (others (λ members leaves. no_get x.proc key members (sym is ∙ leaves))))
  where
    no_get : (q k : ℕ) (members : List ℕ) → ◌≡◌ {A = Option Kind} (Some (Get q k)) (Some (Leave members)) → ⊥
    no_get q k members e = cc
waits_for_more plan y places a z k there here next leave others x (Announces name is once) =
    absurd (not_none places k a there (others (λ members leaves. no_lookup name members (sym is ∙ leaves))))
  where
    no_lookup : (n : ℕ) (members : List ℕ) → ◌≡◌ {A = Option Kind} (Some (LookupWait n)) (Some (Leave members)) → ⊥
    no_lookup n members e = cc

-- where such an event is known to be done, the seat knows enough of all sources of the next event
pub all_implied : (plan : Plan) (seat : SeatIs) (z : Event) → WaitsForMore plan (next_of seat) z → shows_event seat.known z ≡ true → ImpliesSources plan seat.known (next_of seat)
all_implied plan seat z more shown x e = elim (more x e) [
  | inl before ↦ inl (subst (λ p. x.at < slice_index seat.known p) (sym before.0) (let next = before.1 in omega (arith, next)))
  | inr later ↦ inr (z, later, ltb-true z.at (slice_index seat.known z.proc) shown)
]
