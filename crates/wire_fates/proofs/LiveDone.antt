-- Which live events wait for ever: lookups alone. Where none does, a run that can't go on has done all live events.
use Rattle.std.proofs.Common.{◌≡◌, ◌∙◌, ap, refl, sym, subst, ℕ, zero, suc, ◌≤◌, true, Option, Some, None, is_some, arith, inl, inr, eq-eqb, ltb-true, lt-ltb}
use Rattle.std.specs.Prelude.{nat_lt}
use Rattle.std.proofs.lemmas.Bool.{cond-true, cases_eq, cases_lt, true≢false}
use Rattle.wire_runs.specs.Plan.{Plan, Event, Kind, Get, Leave, LookupWait, kind}
use Rattle.wire_runs.specs.State.{State, IsDone, next_event}
use Rattle.wire_runs.specs.Puts.{own}
use Rattle.wire_runs.specs.Sight.{held}
use Rattle.wire_runs.specs.Step.{is_seen, may_do, reply, IsEnd, IsReachable}
use Rattle.wire_runs.specs.Order.{Edge, Follows, Live, live, may_come}
use Rattle.wire_runs.specs.Races.{IsSettled}
use Rattle.wire_runs.specs.Fate.{Fate, Waits, Says, fate_in, HasFate, dead, told}
use Rattle.wire_runs.proofs.Due.{live_may, reachable_sound}
use Rattle.wire_runs.proofs.Fates.{fates_tell, get_fate}
use Rattle.wire_runs.proofs.Marks.{live_least}
use Rattle.wire_fates.specs.Waiting.{NoneWaitsForEver, LiveAreDone}
use Rattle.wire_fates.proofs.Fates.{leave_may}

never_says : (plan : Plan) (past : State) (y : Event) → Waits ≡ fate_in plan past y → may_do plan past y (kind plan y) ≡ true → ⊥
never_says plan past y e may = go (e ∙ cond-true _ _ _ may)
  where
    go : Waits ≡ Says (reply plan past y (kind plan y)) → ⊥
    go e = cc

held_is_seen : (o : Option ℕ) → is_some o ≡ true → is_seen (held o) ≡ true
held_is_seen None h = h
held_is_seen (Some put) h = refl

abbrev IsLookup : Plan → Event → Type 0
IsLookup plan y = (name : ℕ) × (kind plan y ≡ Some (LookupWait name))

-- a live event whose fate is to wait waits for a name
pub only_lookups_wait : (plan : Plan) → IsSettled plan → (y : Event) → Live plan y → HasFate plan y Waits → IsLookup plan y
only_lookups_wait plan settled y l (dead no_ e) = absurd (no_ l)
only_lookups_wait plan settled y l (told m fate_of all past is_past e) = go (kind plan y) refl
  where
    may : (o : Option Kind) → kind plan y ≡ o → may_do plan past y o ≡ true → IsLookup plan y
    may o is can = absurd (never_says plan past y e (ap (may_do plan past y) is ∙ can))

    go : (o : Option Kind) → kind plan y ≡ o → IsLookup plan y
    go None is = absurd (true≢false (sym (live_may l) ∙ ap (may_come plan y) is))
    go (Some (LookupWait name)) is = (name, is)
    go (Some (Leave members)) is = may (Some (Leave members)) is (leave_may plan y fate_of past members l is_past is)
    go (Some (Get t key)) is = elim (cases_eq y.proc t) [
      | inl same ↦ may (Some (Get t key)) is
          (ap is_seen (cond-true _ _ _ (eq-eqb y.proc t same))
          ∙ held_is_seen (own plan t key y.at) (sym (cond-true _ _ _ (eq-eqb y.proc t same)) ∙ sym (ap (may_come plan y) is) ∙ live_may l))
      | inr other ↦ absurd (no_says (get_fate plan settled y Waits l t key is other (told m fate_of all past is_past e)))
    ]
      where
        no_says : {a : _} → Waits ≡ Says a → ⊥
        no_says e = cc
    go (Some k) is = may (Some k) is refl

module _ (plan : Plan) (settled : IsSettled plan) (fates : (y : Event) → (fate : Fate) × HasFate plan y fate) (none_ : NoneWaitsForEver plan) (s : State) (reached : IsReachable plan s)
    (end : IsEnd plan s) where
  module _ (y : Event) (may : may_come plan y (kind plan y) ≡ true) (from : (x : Event) → Edge plan x y → IsDone s x) where
    is_live : Live plan y
    is_live = live may (λ x e. (reachable_sound plan s reached).live_done x (from x e))

    -- all before it in its process are done
    comes_next : s.done y.proc ≤ y.at → next_event s y.proc ≡ y
    comes_next ge = go y.at refl
      where
        go : (n : ℕ) → y.at ≡ n → next_event s y.proc ≡ y
        go zero is = let at : s.done y.proc ≡ y.at = omega (arith, ge, is) in λ i. record { proc = y.proc; at = at i }
        go (suc n) is =
            let d = from (record { proc = y.proc; at = n }) (Follows refl (sym is)) in
            let at : s.done y.proc ≡ y.at = omega (arith, ge, is, d) in λ i. record { proc = y.proc; at = at i }

    can_happen : next_event s y.proc ≡ y → ⊥
    can_happen same =
        let f = fates y in
        let told_ = (fates_tell plan s settled reached).enabled y.proc f.0 (subst (λ z. HasFate plan z f.0) (sym same) f.1) in
        let on = told_.1 (
          (λ x e. from x (subst (λ z. Edge plan x z) same e)),
          (λ w. none_ y (record { live = is_live; waits = subst (λ v. HasFate plan y v) w f.1 })),
        ) in
        true≢false (sym on ∙ end y.proc)

    is_done : IsDone s y
    is_done = elim (cases_lt y.at (s.done y.proc)) [
      | inl lt ↦ lt
      | inr ge ↦ absurd (can_happen (comes_next ge))
    ]

  live_done : (y : Event) → Live plan y → IsDone s y
  live_done y l =
      ltb-true y.at (s.done y.proc)
      (live_least plan (λ z. nat_lt z.at (s.done z.proc)) (λ z may from. lt-ltb z.at (s.done z.proc) (is_done z may (λ x e. ltb-true x.at (s.done x.proc) (from x e)))) l)

-- where no live event waits for ever, each run that can't go on has done the live events alone
pub live_are_done : (plan : Plan) → IsSettled plan → ((y : Event) → (fate : Fate) × HasFate plan y fate) → NoneWaitsForEver plan → LiveAreDone plan
live_are_done plan settled fates none_ s reached end y = (
  (λ d. (reachable_sound plan s reached).live_done y d),
  (λ l. live_done plan settled fates none_ s reached end y l),
)
