-- A set of marks that grows by events whose sources are marked ends as the live events, and its clocks tell what is before what.
use Rattle.std.proofs.Common.{◌≡◌, ◌∙◌, inl, inr, ℕ, zero, suc, ◌<◌, ◌≤◌, true, max, refl, sym, subst, arith, leb-true, le-leb}
use Rattle.std.specs.Prelude.{nat_lt, ◌==◌}
use Rattle.std.proofs.lemmas.Bool.{cases_eq, cases_lt, cases_Bool, eqb-true, eq-eqb}
use Rattle.wire_runs.specs.Plan.{Event}
use Rattle.wire_runs.specs.Plan.{Plan, kind}
use Rattle.wire_runs.specs.Order.{Edge, Follows, may_come, Live, live, Before, edge, further}
use Rattle.wire_runs.proofs.Marks.{live_least}
use Rattle.wire_runs.proofs.Due.{live_source, place_path}
use Rattle.wire_runs.proofs.Histories.{same_process, joined}
use Rattle.wire_happens_before.specs.Clocks.{own_of, LeadsTo, IsClock}
use Rattle.wire_happens_before.specs.Marking.{IsReady, MarkedAreLive, NoneIsReady, IsBase}

pub ready_live : (plan : Plan) (count : ℕ → ℕ) (y : Event) → MarkedAreLive plan count → IsReady plan count y → Live plan y
ready_live plan count y all r = live r.comes (λ z e. all z (r.sources z e))

-- the event before it is marked
below_marked : (plan : Plan) (count : ℕ → ℕ) (p i : ℕ) → ((z : Event) → Edge plan z (record { proc = p; at = i }) → z.at < count z.proc) → i ≤ count p
below_marked plan count p zero from = omega arith
below_marked plan count p (suc i) from = let h = from (record { proc = p; at = i }) (Follows refl refl) in omega (arith, h)

-- where nothing more can be marked, the live events are marked
pub live_marked : (plan : Plan) (count : ℕ → ℕ) → NoneIsReady plan count → {y : Event} → Live plan y → y.at < count y.proc
live_marked plan count stuck {y} l = leb-true _ _ (live_least plan (λ z. nat_lt z.at (count z.proc)) closed l)
  where
    closed : (z : Event) → may_come plan z (kind plan z) ≡ true → ((x : Event) → Edge plan x z → nat_lt x.at (count x.proc) ≡ true) → nat_lt z.at (count z.proc) ≡ true
    closed z may from =
        let marked : (x : Event) → Edge plan x z → x.at < count x.proc = λ x e. leb-true _ _ (from x e) in
        let le = below_marked plan count z.proc z.at marked in
        elim (cases_eq z.at (count z.proc)) [
          | inl e ↦ absurd (stuck z e (record { comes = may; sources = marked }))
          | inr ne ↦ le-leb _ _ (omega arith)
        ]

pub leads_on : (plan : Plan) (x z y : Event) → Live plan z → LeadsTo plan x z → Edge plan z y → Live plan y → Before plan x y
leads_on plan x z y lz (inl e) f l = subst (λ a. Before plan a y) (sym e) (edge lz f l)
leads_on plan x z y lz (inr b) f l = further b f l

-- a chain ends with an edge
pub last_source : {plan : Plan} {x y : Event} → Before plan x y → (z : Event) × Edge plan z y × LeadsTo plan x z
last_source (edge {x} {y} l e m) = (x, e, inl refl)
last_source (further {x} {y} {z} b e m) = (y, e, inr b)

same_place : (x y : Event) → x.proc ≡ y.proc → x.at ≡ y.at → x ≡ y
same_place x y a b = place_path x y.proc y.at a b

pub leads_through : {plan : Plan} {x y z : Event} → LeadsTo plan x y → LeadsTo plan y z → LeadsTo plan x z
leads_through {plan} {x} {y} {z} (inl e) l = subst (λ v. LeadsTo plan v z) (sym e) l
leads_through {plan} {x} {y} {z} (inr b) (inl e) = inr (subst (λ v. Before plan x v) e b)
leads_through (inr b) (inr c) = inr (joined b c)

-- what an event counts of its own process
pub own_here : (y : Event) → own_of y y.proc ≡ suc y.at
own_here y = rw (eq-eqb y.proc y.proc refl) refl

pub own_counts : (y : Event) (q n : ℕ) → n < own_of y q → (q ≡ y.proc) × (n ≤ y.at)
own_counts y q n lt = elim (cases_Bool (q == y.proc)) [
  | inl t ↦ let up : n < suc y.at = rw t at lt in (eqb-true q y.proc t, omega (arith, up))
  | inr f ↦ absurd (let none : n < 0 = rw f at lt in omega (arith, none))
]

pub own_rises : (z y : Event) (q : ℕ) → z.proc ≡ y.proc → z.at ≤ y.at → own_of z q ≤ own_of y q
own_rises z y q e le = elim (cases_lt (own_of y q) (own_of z q)) [
  | inl lt ↦ absurd (
      let h = own_counts z q (own_of y q) lt in
      let at : own_of y q ≤ z.at = h.1 in
      let here : own_of y q ≡ suc y.at = subst (λ p. own_of y p ≡ suc y.at) (sym (h.0 ∙ e)) (own_here y) in
      omega (arith, at, here, le))
  | inr ge ↦ ge
]

-- the clock over a base
pub clock_step : (plan : Plan) (clock : Event → ℕ → ℕ) (y : Event) (base : ℕ → ℕ) → Live plan y → ((z : Event) → Edge plan z y → IsClock plan z (clock z)) → IsBase plan clock y base →
    IsClock plan y (λ q. max (base q) (own_of y q))
clock_step plan clock y base l clocks b = record { only = only; all = all }
  where
    own_leads : (x : Event) → x.at < own_of y x.proc → LeadsTo plan x y
    own_leads x lt =
        let h = own_counts y x.proc x.at lt in
        let le : x.at ≤ y.at = h.1 in
        elim (cases_eq x.at y.at) [
          | inl same ↦ inl (same_place x y h.0 same)
          | inr ne ↦ inr (same_process plan x y l h.0 (omega (arith, le, ne)))
        ]

    only : (x : Event) → x.at < max (base x.proc) (own_of y x.proc) → LeadsTo plan x y
    only x lt = elim (cases_lt x.at (base x.proc)) [
      | inl h ↦ let w = b.from x.proc x.at h in inr (leads_on plan x w.0 y (live_source l w.1) ((clocks w.0 w.1).only x w.2) w.1 l)
      | inr ge ↦ own_leads x (omega (arith, lt, ge))
    ]

    all : (x : Event) → LeadsTo plan x y → x.at < max (base x.proc) (own_of y x.proc)
    all x (inl e) = subst (λ (z : Event). z.at < max (base z.proc) (own_of y z.proc)) (sym e) (let own = own_here y in omega (arith, own))
    all x (inr before) =
        let s = last_source before in
        let there = (clocks s.0 s.1).all x s.2 in
        let up = b.covers x.proc s.0 s.1 in
        omega (arith, there, up)
