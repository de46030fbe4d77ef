-- An event that keeps what its kind has to keep, keeps all.
use Rattle.std.proofs.Common.{◌≡◌, List, Option, Some, sym, subst, ◌∙◌}
use Rattle.wire_runs.specs.Plan.{Event, Kind, Put, Arrive, kind}
use Rattle.wire_library_laws.specs.Portable.{IsAsked}
use Rattle.wire_portable.specs.declared.libraries.Library.{Library}
use Rattle.wire_portable.specs.declared.listed.Unportable.{Unportable}
use Rattle.wire_portable.specs.Adding.{AddsUnportable}
use Rattle.wire_portable.specs.Fences.{IsPlainArrival}
use Rattle.wire_portable.specs.Judging.{IsNoRewrite}
use Rattle.wire_portable.specs.Kept.{IsCallFine, IsEventFine}
use Rattle.wire_portable.specs.Searched.{Searched, plan_in}

-- no put, no arrival
abbrev pub IsNoPut : Option Kind → Type 0
IsNoPut (Some (Put key scope)) = ⊥
IsNoPut _ = Unit {0}

abbrev pub IsNoArrival : Option Kind → Type 0
IsNoArrival (Some (Arrive members collect)) = ⊥
IsNoArrival _ = Unit {0}

module _ (v : Searched) (y : Event) (o : Option Kind) (is : kind (plan_in v) y ≡ o) (xs ys : List Unportable) where
  no_put : IsNoPut o → IsNoRewrite (plan_in v) y
  no_put other x rewrite = subst IsNoPut (sym is ∙ rewrite.later_is) other

  no_arrival : (library : Library) → IsNoArrival o → IsPlainArrival library v.scripts v.rows v.sets y
  no_arrival library other members collect arrives alive = absurd (subst IsNoArrival (sym is ∙ arrives) other)

  pub put_alone : IsNoArrival o → ((library : Library) → IsCallFine v library y o) → AddsUnportable xs ys (λ library. IsNoRewrite (plan_in v) y) →
      AddsUnportable xs ys (λ library. IsEventFine v library y)
  put_alone other fine h = λ library u.
      let t = h library u in
      (t.0, record { put = t.1; arrival = no_arrival library other; call = λ asked. subst (IsCallFine v library y) (sym is) (fine library) })

  pub arrival_alone : IsNoPut o → ((library : Library) → IsCallFine v library y o) → AddsUnportable xs ys (λ library. IsPlainArrival library v.scripts v.rows v.sets y) →
      AddsUnportable xs ys (λ library. IsEventFine v library y)
  arrival_alone other fine h = λ library u.
      let t = h library u in
      (t.0, record { put = no_put other; arrival = t.1; call = λ asked. subst (IsCallFine v library y) (sym is) (fine library) })

  pub call_alone : IsNoPut o → IsNoArrival o → AddsUnportable xs ys (λ library. IsAsked (plan_in v) y → IsCallFine v library y (kind (plan_in v) y)) →
      AddsUnportable xs ys (λ library. IsEventFine v library y)
  call_alone put arrival h = λ library u. let t = h library u in (t.0, record { put = no_put put; arrival = no_arrival library arrival; call = t.1 })

  pub nothing_alone : IsNoPut o → IsNoArrival o → ((library : Library) → IsCallFine v library y o) → AddsUnportable xs xs (λ library. IsEventFine v library y)
  nothing_alone put arrival fine = λ library u.
      (u, record { put = no_put put; arrival = no_arrival library arrival; call = λ asked. subst (IsCallFine v library y) (sym is) (fine library) })
