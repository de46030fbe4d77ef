-- In a settled plan each live event happens, if each lookup-wait at which a process stands in the end is of a name that
-- is published once.
use Rattle.std.proofs.Common.{◌≡◌, ℕ, suc, pred, ◌<◌, ◌≤◌, List, [], ◌∷◌, true, false, Option, Some, None, is_some, inl, inr, refl, sym, ap, ◌∙◌, subst, arith, eq-eqb, ne_eqb, eqb-true}
use Rattle.std.proofs.lemmas.Bool.{cond-true, cond-false, cond_both, cases_eq, cases_lt, true≢false}
use Rattle.wire_runs.specs.Plan.{Plan, Event, Kind, Leave, Get, Publish, LookupWait, kind, same_node}
use Rattle.wire_runs.specs.State.{State, next_event, IsDone}
use Rattle.wire_runs.specs.Names.{takes_name, writes_name}
use Rattle.wire_runs.specs.Puts.{own, stored}
use Rattle.wire_runs.specs.Fences.{arrivals}
use Rattle.wire_runs.specs.Sight.{held}
use Rattle.wire_runs.specs.Step.{is_seen, may_do, is_enabled, name_after, IsReachable}
use Rattle.wire_runs.specs.PlainRun.{plain_run}
use Rattle.wire_runs.specs.Order.{Edge, Follows, Meets, Announces, PublishesOnce, may_come, Live, live, Before}
use Rattle.wire_runs.specs.Races.{IsSettled}
use Rattle.wire_runs.specs.Laws.{plain_end}
use Rattle.wire_runs.specs.Fate.{IsIn, left_by}
use Rattle.wire_runs.proofs.Due.{chain_to_next, closed_cut, place_path, reachable_sound}
use Rattle.wire_runs.proofs.Brought.{complete_if_arrived, get_ready}
use Rattle.wire_runs.proofs.Fates.{served_is_seen, Kept, reachable_kept}
use Rattle.wire_runs.proofs.PlainRun.{plain_runs}
use Rattle.wire_answer_laws.specs.AnySize.{StandsForOne}

held_is_seen : (o : Option ℕ) → is_some o ≡ true → is_seen (held o) ≡ true
held_is_seen None h = h
held_is_seen (Some put) h = refl

-- what writes a name and doesn't take it publishes it
writes_publish : (plan : Plan) (n : ℕ) (z : Event) (o : Option Kind) → writes_name plan n z o ≡ true → takes_name plan n z o ≡ false → o ≡ Some (Publish n)
writes_publish plan n z (Some (Publish m)) w t = ap (λ v. Some (Publish v)) (eqb-true m n w)
writes_publish plan n z o w t = absurd (true≢false (sym w ∙ t))

-- after a publish something stands under the name
after_publish : (before : Option Event) (z : Event) (n : ℕ) (o : Option Kind) → o ≡ Some (Publish n) → is_some (name_after before z o n) ≡ true
after_publish before z n o is =
    ap (λ v. is_some (name_after before z v n)) is
    ∙ ap is_some (cond-true _ _ _ (eq-eqb n n refl))
    ∙ cond_both (is_some before) before (Some z) (λ v. is_some v ≡ true) (λ t. t) (λ _. refl)

-- where all that write it publish it, something stands there
left_some : (plan : Plan) (n : ℕ) (x : Event) (xs : List Event) → ((z : Event) → IsIn z xs → kind plan z ≡ Some (Publish n)) → IsIn x xs → is_some (left_by plan n xs) ≡ true
left_some plan n x [] all i = absurd i
left_some plan n x (z ∷ zs) all i = after_publish (left_by plan n zs) z n (kind plan z) (all z (inl refl))

pub plain_reached : (plan : Plan) → IsReachable plan (plain_end plan)
plain_reached plan = (plain_run plan, (plain_runs plan).is_run, refl)

pub done_live : (plan : Plan) (y : Event) → IsDone (plain_end plan) y → Live plan y
done_live plan y d = (reachable_sound plan (plain_end plan) (plain_reached plan)).live_done y d

module _ (plan : Plan) (settled : IsSettled plan) (told : StandsForOne plan) where
  abbrev s : State
  s = plain_end plan

  k : Kept plan s
  k = reachable_kept plan settled s (plain_reached plan)

  module _ (y : Event) (l : Live plan y) (may : may_come plan y (kind plan y) ≡ true) (sources : (x : Event) → Edge plan x y → IsDone s x) (late : s.done y.proc ≤ y.at) where
    known : (z : Event) → Before plan z y → IsDone s z
    known z b = chain_to_next plan s k.known.sound sources b

    stands : s.done y.proc ≡ y.at
    stands = elim (cases_lt 0 y.at) [
      | inr none ↦ omega (arith, none, late)
      | inl some ↦ (
          let before : Event = record { proc = y.proc; at = pred y.at } in
          let next : suc (pred y.at) ≡ y.at = omega (arith, some) in
          let d : pred y.at < s.done y.proc = sources before (Follows refl next) in
          omega (arith, next, d, late))
    ]

    is_next : y ≡ next_event s y.proc
    is_next = place_path y y.proc (s.done y.proc) refl (sym stands)

    may_now : (o : Option Kind) → kind plan y ≡ o → may_do plan s y o ≡ true
    may_now None is = rw is at may
    may_now (Some (Get t key)) is = elim (cases_eq y.proc t) [
      | inl e ↦ (
          let own_put : is_some (own plan t key y.at) ≡ true = sym (cond-true _ _ _ (eq-eqb y.proc t e)) ∙ ap (may_come plan y) (sym is) ∙ may in
          ap is_seen (cond-true _ _ _ (eq-eqb y.proc t e)) ∙ held_is_seen (own plan t key y.at) own_put)
      | inr other ↦ (
          let ready = get_ready plan settled s.done s.done y (λ m. omega arith) known (closed_cut k.known.sound) late l t key is other in
          ap is_seen (cond-false _ _ _ (ne_eqb y.proc t other)) ∙ served_is_seen plan t (same_node plan t y.proc) (stored plan t key (s.done t)) ready)
    ]
    may_now (Some (Leave members)) is =
        complete_if_arrived plan s.done members (arrivals plan y.proc members y.at) (ap (may_come plan y) (sym is) ∙ may) (λ z a. sources z (Meets members is a))
    may_now (Some (LookupWait name)) is =
        let x = told y.proc name (ap (kind plan) (sym is_next) ∙ is) in
        let w = k.written name in
        let d = sources x.0 (Announces name is x.1) in
        let once : PublishesOnce plan x.0 name = x.1 in
        let there = w.all x.0 d (ap (writes_name plan name x.0) once.is ∙ eq-eqb name name refl) in
        ap is_some w.left ∙ left_some plan name x.0 w.calls (λ z i. writes_publish plan name z (kind plan z) (w.is_done z i).1 (once.stays z)) there
    may_now (Some _) is = refl

    never : ⊥
    never =
        let enabled : is_enabled plan s y.proc ≡ true = subst (λ v. may_do plan s v (kind plan v) ≡ true) is_next (may_now (kind plan y) refl) in
        true≢false (sym enabled ∙ (plain_runs plan).ends y.proc)

  pub happens : {y : Event} → Live plan y → IsDone s y
  happens {y = y} (live may from) = elim (cases_lt y.at (s.done y.proc)) [
    | inl lt ↦ lt
    | inr late ↦ absurd (never y (live may from) may (λ x e. happens (from x e)) late)
  ]
