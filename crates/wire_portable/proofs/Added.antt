-- What is said on the list of lines, step by step.
use Rattle.std.proofs.Common.{◌≡◌, ℕ, ◌+◌, ◌<◌, ◌≤◌, List, Option, false, inl, inr, sym, ap, subst, arith, length}
use Rattle.std.proofs.lemmas.Bool.{cases_eq, cases_lt}
use Rattle.std.proofs.lemmas.Option.{slice_get_past}
use Rattle.wire_runs.specs.Plan.{Plan, Event, Kind, kind, kinds, event_count, process_count, process_kinds}
use Rattle.wire_portable.specs.declared.libraries.Library.{Library}
use Rattle.wire_portable.specs.declared.listed.Unportable.{Unportable}
use Rattle.wire_portable.specs.Adding.{AddsUnportable}
use Rattle.wire_portable.specs.Kept.{IsCallFine, IsEventFine, AreFineTo, AreAllFine}
use Rattle.wire_portable.specs.Libraries.{has, all}
use Rattle.wire_portable.specs.Searched.{Searched, plan_in}
use Rattle.wire_portable.proofs.Sets.{not_all}

-- nothing was added, and it holds
pub adds_nothing : (xs : List Unportable) (P : Library → Type 0) → ((library : Library) → P library) → AddsUnportable xs xs P
adds_nothing xs P holds = λ library u. (u, holds library)

-- all are blamed
pub adds_all : (xs ys : List Unportable) (P : Library → Type 0) → AddsUnportable xs ys (λ library. has all library ≡ false) → AddsUnportable xs ys P
adds_all xs ys P h = λ library u. let t = h library u in (t.0, absurd (not_all library t.1))

pub adds_other : (xs ys : List Unportable) (P Q : Library → Type 0) → ((library : Library) → P library → Q library) → AddsUnportable xs ys P → AddsUnportable xs ys Q
adds_other xs ys P Q so h = λ library u. let t = h library u in (t.0, so library t.1)

-- one after the other
pub adds_both : (xs ys zs : List Unportable) (P Q R : Library → Type 0) → ((library : Library) → P library → Q library → R library) → AddsUnportable xs ys P → AddsUnportable ys zs Q → AddsUnportable xs zs R
adds_both xs ys zs P Q R so a b = λ library u.
    let t = b library u in
    let s = a library t.0 in
    (s.0, so library s.1 t.1)

-- a process that has an event is one of the plan's
count_within : (plan : Plan) (p i : ℕ) → i < event_count plan p → p < process_count plan
unfolding event_count kinds
count_within plan p i lt = elim (cases_lt p (process_count plan)) [
  | inl low ↦ low
  | inr ge ↦ absurd (let none = ap (λ o. length (process_kinds o)) (slice_get_past plan.processes p ge) in omega (arith, lt, none))
]

-- what holds of a call by its kind
pub call_told : (v : Searched) (y : Event) (o : Option Kind) (xs ys : List Unportable) → kind (plan_in v) y ≡ o → AddsUnportable xs ys (λ library. IsCallFine v library y o) →
    AddsUnportable xs ys (λ library. IsCallFine v library y (kind (plan_in v) y))
call_told v y o xs ys e h = λ library u. let t = h library u in (t.0, subst (IsCallFine v library y) (sym e) t.1)

module _ (v : Searched) where
  -- one event of a process more
  fine_more : (library : Library) (p n m : ℕ) → m ≡ n + 1 → AreFineTo v library p n → IsEventFine v library (record { proc = p; at = n }) → AreFineTo v library p m
  fine_more library p n m e are one i lt = elim (cases_eq i n) [
    | inl same ↦ subst (λ k. IsEventFine v library (record { proc = p; at = k })) (sym same) one
    | inr other ↦ are i (omega (arith, e, lt, other))
  ]

  pub one_event : (xs ys zs : List Unportable) (p n m : ℕ) → m ≡ n + 1 → AddsUnportable xs ys (λ library. AreFineTo v library p n) →
      AddsUnportable ys zs (λ library. IsEventFine v library (record { proc = p; at = n })) → AddsUnportable xs zs (λ library. AreFineTo v library p m)
  one_event xs ys zs p n m e a b = λ library u.
      let t = b library u in
      let s = a library t.0 in
      (s.0, fine_more library p n m e s.1 t.1)

  pub no_event : (xs : List Unportable) (p : ℕ) → AddsUnportable xs xs (λ library. AreFineTo v library p 0)
  no_event xs p = λ library u. (u, λ i lt. absurd (omega (arith, lt)))

  pub all_events : (xs ys : List Unportable) (p n : ℕ) → event_count (plan_in v) p ≤ n → AddsUnportable xs ys (λ library. AreFineTo v library p n) →
      AddsUnportable xs ys (λ library. AreFineTo v library p (event_count (plan_in v) p))
  all_events xs ys p n le a = λ library u. let t = a library u in (t.0, λ i lt. t.1 i (omega (arith, lt, le)))

  -- the events of the first n processes
  abbrev pub AreFineBelow : Library → ℕ → Type 0
  AreFineBelow library n = (y : Event) → y.proc < n → y.at < event_count (plan_in v) y.proc → IsEventFine v library y

  pub no_process : (xs : List Unportable) → AddsUnportable xs xs (λ library. AreFineBelow library 0)
  no_process xs = λ library u. (u, λ y lt. absurd (omega (arith, lt)))

  below_more : (library : Library) (n m : ℕ) → m ≡ n + 1 → AreFineBelow library n → AreFineTo v library n (event_count (plan_in v) n) → AreFineBelow library m
  below_more library n m e are one y lt within = elim (cases_eq y.proc n) [
    | inl same ↦
        (let it = one y.at (subst (λ p. y.at < event_count (plan_in v) p) same within) in
        subst (IsEventFine v library) (λ t. record { proc = sym same t; at = y.at }) it)
    | inr other ↦ are y (omega (arith, e, lt, other)) within
  ]

  pub one_process : (xs ys zs : List Unportable) (n m : ℕ) → m ≡ n + 1 → AddsUnportable xs ys (λ library. AreFineBelow library n) →
      AddsUnportable ys zs (λ library. AreFineTo v library n (event_count (plan_in v) n)) → AddsUnportable xs zs (λ library. AreFineBelow library m)
  one_process xs ys zs n m e a b = λ library u.
      let t = b library u in
      let s = a library t.0 in
      (s.0, below_more library n m e s.1 t.1)

  pub all_processes : (xs ys : List Unportable) (n : ℕ) → process_count (plan_in v) ≤ n → AddsUnportable xs ys (λ library. AreFineBelow library n) → AddsUnportable xs ys (AreAllFine v)
  all_processes xs ys n le a = λ library u. let t = a library u in
      (t.0, λ y within. t.1 y (let p = count_within (plan_in v) y.proc y.at within in omega (arith, p, le)) within)
