-- The last arrival at a fence that brings data: behind it nothing has come to a node.
use Rattle.std.proofs.Common.{◌≡◌, ◌∙◌, ◌≤◌, ◌+◌, ℕ, suc, true, Option, Some, None, IfSome, refl, sym, arith}
use Rattle.std.proofs.lemmas.Bool.{false_from_ne_true, and_parts, true≢false}
use Rattle.wire_types.specs.declared.Event.{Event as CodeEvent}
use Rattle.wire_runs.specs.Plan.{Plan, event_of, Kind, Arrive, kind_at, event_count}
use Rattle.wire_runs.specs.Puts.{stored}
use Rattle.wire_runs.specs.Fences.{arrivals}
use Rattle.wire_runs.specs.Sight.{delivered}
use Rattle.wire_runs.proofs.Brought.{complete_more}
use Rattle.wire_plan.specs.Index.{BringsData, IsLastBringingArrival}
use Rattle.wire_core.specs.Met.{brings_with, brings_at}
use Rattle.wire_core.specs.Looks.{stored_or}
use Rattle.wire_core.proofs.Bring.{delivered_idle}

module _ (plan : Plan) (cut : ℕ → ℕ) (within : (q : ℕ) → cut q ≤ event_count plan q) where
  -- an event that has brought data is an arrival at a fence that brings data
  brings_data : (p node n : ℕ) → brings_at plan cut p node n ≡ true → BringsData plan (record { proc = p; at = n })
  brings_data p node n = go (kind_at plan p n) refl
    where
      go : (o : Option Kind) → kind_at plan p n ≡ o → brings_with plan cut p node n o ≡ true → BringsData plan (record { proc = p; at = n })
      go (Some (Arrive members collect)) is brought =
          let complete = and_parts _ _ brought in
          let collecting = and_parts _ _ complete.1 in
          let member = and_parts _ _ collecting.1 in
          record {
            members = members;
            j = arrivals plan p members (suc n);
            arrival = record { collect = collect; is = is; member = member.0; nth = refl };
            full = complete_more plan cut (event_count plan) members (arrivals plan p members (suc n)) within complete.0;
            collecting = collecting.0;
          }
      go _ is brought = absurd (true≢false (sym brought))

  -- what has come with the last of these arrivals before an event is what has come before that event
  pub delivered_newest : (p node key done : ℕ) (last : CodeEvent) → IsLastBringingArrival plan (record { proc = p; at = done }) (Some (event_of last)) →
      delivered plan cut p node key done ≡ delivered plan cut p node key (last.at + 1)
  delivered_newest p node key done last is =
      let early = is.0.earlier in
      delivered_idle plan cut p node key (last.at + 1) done
      (λ n ge lt. false_from_ne_true _ (λ brought.
      let low = is.1 (record { proc = p; at = n }) (record { brings = brings_data p node n brought; same = refl; earlier = lt }) in
      omega (arith, low, ge)))
      (omega (arith, early))

  -- the same of what has come with one of them, where anything has
  pub newest_told : (p node done : ℕ) (last : CodeEvent) → IsLastBringingArrival plan (record { proc = p; at = done }) (Some (event_of last)) → (found : Option ℕ) →
      ((key : ℕ) → delivered plan cut p node key (last.at + 1) ≡ stored_or plan p key found (delivered plan cut p node key last.at)) →
      IfSome found (λ n. (key : ℕ) → delivered plan cut p node key done ≡ stored plan p key n)
  newest_told p node done last is None told = tt
  newest_told p node done last is (Some n) told = λ key. delivered_newest p node key done last is ∙ told key
