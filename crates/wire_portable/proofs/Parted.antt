-- What a fence parts: an event of a member in front of it has ended when a get of a member behind it is asked.
use Rattle.std.proofs.Common.{◌≡◌, ℕ, suc, ◌-◌, ◌<◌, ◌≤◌, List, true, Some, inl, inr, refl, sym, ap, subst, arith}
use Rattle.std.proofs.lemmas.Bool.{cases_eq, cases_lt}
use Rattle.wire_runs.specs.Plan.{Plan, Event, Get, Leave, kind, kind_at}
use Rattle.wire_runs.specs.Fences.{arrivals, is_member}
use Rattle.wire_runs.specs.Order.{IsArrival, Before}
use Rattle.wire_runs.proofs.Arrivals.{left_first, left_full}
use Rattle.wire_runs.proofs.Basics.{arrivals_rise, arrivals_step}
use Rattle.wire_runs.proofs.Brought.{nth_arrival}
use Rattle.wire_runs.proofs.FenceChains.{leave_next, member_arrives, one_arrival_is_all}
use Rattle.wire_runs.proofs.Histories.{before_live, joined, same_process}
use Rattle.wire_plan.proofs.Grown.{place}
use Rattle.wire_library_laws.specs.Portable.{EndsFirst, IsAsked}

-- p's arrival at a fence stands in front of its first m events, where these have as many arrivals, and behind its first n,
-- where these have fewer
arrives_below : (plan : Plan) (members : List ℕ) (j p at m : ℕ) → IsArrival plan members j (place p at) → j ≤ arrivals plan p members m → at < m
arrives_below plan members j p at m a le = elim (cases_lt at m) [
  | inl lt ↦ lt
  | inr ge ↦ absurd (
      let step = arrivals_step plan p members a.collect at a.is in
      let rise = arrivals_rise plan p members m at ge in
      let nth = a.nth in
      omega (arith, le, step, rise, nth))
]

arrives_from : (plan : Plan) (members : List ℕ) (j p at n : ℕ) → IsArrival plan members j (place p at) → arrivals plan p members n < j → n ≤ at
arrives_from plan members j p at n a lt = elim (cases_lt at n) [
  | inr ge ↦ ge
  | inl low ↦ absurd (
      let rise = arrivals_rise plan p members (suc at) n low in
      let nth = a.nth in
      omega (arith, lt, rise, nth))
]

module _ (plan : Plan) (members : List ℕ) (x h : Event) (p key : ℕ) (of_x : is_member members x.proc ≡ true) (of_h : is_member members h.proc ≡ true)
    (is_h : kind plan h ≡ Some (Get p key)) (asked : IsAsked plan h) where
  abbrev last : Event
  last = place h.proc (h.at - 1)

  -- an earlier arrival of the get's process is before the event in front of the get
  left_by_last : (j a : ℕ) → IsArrival plan members j (place h.proc a) → a < h.at → Before plan (place h.proc a) last
  left_by_last j a at_h lt = same_process plan (place h.proc a) last (asked last (record { same = refl; next = omega (arith, lt) })) refl (elim (cases_eq (suc a) h.at) [
    | inl e ↦ absurd (
        let there : kind_at plan h.proc h.at ≡ Some (Get p key) = is_h in
        let leaves : kind_at plan h.proc (suc a) ≡ Some (Leave members) = leave_next plan h.proc a members at_h.collect at_h.is in
        let same = ap (kind_at plan h.proc) e in
        cc)
    | inr ne ↦ omega (arith, lt, ne)
  ])

  met_first : (j a b : ℕ) → IsArrival plan members j (place h.proc a) → a < h.at → IsArrival plan members j (place x.proc b) → x.at ≤ b → EndsFirst plan x h
  met_first j a b at_h lt at_x le = record { last = last; is = record { same = refl; next = omega (arith, lt) }; leads = inr leads }
    where
      met : Before plan (place x.proc b) last
      met = one_arrival_is_all plan members j (place h.proc a) (place x.proc b) last at_h at_x (left_by_last j a at_h lt)

      leads : Before plan x last
      leads = elim (cases_eq x.at b) [
        | inl e ↦ subst (λ v. Before plan (place x.proc v) last) (sym e) met
        | inr ne ↦ joined (same_process plan x (place x.proc b) (before_live met) refl (omega (arith, le, ne))) met
      ]

  pub parted : arrivals plan x.proc members x.at < arrivals plan h.proc members h.at → EndsFirst plan x h
  parted lt =
      let j = suc (arrivals plan x.proc members x.at) in
      let here = nth_arrival plan h.proc members j h.at (omega arith) (omega (arith, lt)) of_h in
      let low = arrives_below plan members j h.proc here.0 h.at here.1 (omega (arith, lt)) in
      let full = left_full plan members j last (left_first members j here.1 (left_by_last j here.0 here.1 low)) in
      let there = member_arrives plan members j x.proc (place h.proc here.0) full here.1 of_x in
      met_first j here.0 there.0 here.1 low there.1 (arrives_from plan members j x.proc there.0 x.at there.1 (omega arith))
