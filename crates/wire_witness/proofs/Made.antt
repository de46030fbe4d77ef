-- Runs that are made by limits: what is held back, and what is needed.
use Rattle.std.proofs.Common.{◌≡◌, ◌∙◌, refl, sym, ap, subst, inl, inr, ℕ, zero, suc, ◌+◌, ◌<◌, ◌≤◌, List, [], ◌∷◌, ◌++◌, length, length-append, Option, Some, None, true, eq-eqb, ne_eqb, arith}
use Rattle.std.specs.Prelude.{◌⊎◌, IfSome}
use Rattle.std.proofs.lemmas.Option.{slice_get_past}
use Rattle.wire_types.specs.declared.CallAt.{CallAt}
use Rattle.std.proofs.lemmas.Bool.{cond-true, cond-false, cases_eq, cases_lt}
use Rattle.wire_runs.specs.Plan.{Plan, Event, event_count, process_count}
use Rattle.wire_runs.specs.State.{State, start, next_event, next_kind, IsDone}
use Rattle.wire_runs.specs.Step.{is_enabled, IsInterleaving, run}
use Rattle.wire_runs.specs.Ends.{process_calls, calls_of, first_event}
use Rattle.wire_runs.specs.Order.{Live}
use Rattle.wire_runs.proofs.Basics.{event_within, process_within}
use Rattle.wire_runs.proofs.Due.{has_event, reachable_sound, enabled_is_due}
use Rattle.wire_runs.proofs.Fates.{live_event}
use Rattle.wire_runs.proofs.Runs.{legal_append}
use Rattle.wire_runs.proofs.PlainRun.{enabled_within}
use Rattle.wire_runs.proofs.Histories.{after_live}
use Rattle.wire_scripts.specs.Scripts.{Scripts}
use Rattle.wire_scripts.specs.Planned.{plan_of}
use Rattle.wire_happens_before.specs.Clocks.{Clocks, AreMarks, LeadsTo, marked_count}
use Rattle.wire_core.specs.Course.{Course, plan_in, state_of}
use Rattle.wire_core.specs.Within.{limit_at, MayGo, RunsWithin}
use Rattle.wire_witness.specs.declared.runs.Run.{Run}
use Rattle.wire_witness.specs.Witness.{IsWholeRun}
use Rattle.wire_witness.specs.NotShown.{HoldsBack, IsHeldRun, XIsFirst, XIsMissing, RunsUpTo, IsNeededRun, BothHappen, XIsNotFirst, YIsMissing}
use Rattle.wire_witness.specs.Runs.{AreLimitsBefore, AreLimitsUpTo, fresh, HasOnly, HasRunAhead, GoesOn, IsWitnessRun, steps_of}

limit_kept : (xs : List ℕ) (x p : ℕ) → p < length xs → limit_at (xs ++ x ∷ []) p ≡ limit_at xs p
limit_kept [] x p lt = absurd (omega (arith, lt))
limit_kept (y ∷ xs) x zero lt = refl
limit_kept (y ∷ xs) x (suc p) lt = limit_kept xs x p (omega (arith, lt))

limit_last : (xs : List ℕ) (x : ℕ) → limit_at (xs ++ x ∷ []) (length xs) ≡ x
limit_last [] x = refl
limit_last (y ∷ xs) x = limit_last xs x

-- limits, and one more
pub counted_more : (xs ys : List ℕ) (n x : ℕ) → length xs ≡ n → ys ≡ xs ++ x ∷ [] → length ys ≡ n + 1
counted_more xs ys n x count is = let l = ap length is in let m = length-append xs (x ∷ []) in omega (arith, l, m, count)

pub one_limit_more : (P : ℕ → ℕ → Type 0) (xs ys : List ℕ) (n x : ℕ) → length xs ≡ n → ys ≡ xs ++ x ∷ [] → P n x → ((p : ℕ) → p < n → P p (limit_at xs p)) →
    (p : ℕ) → p < n + 1 → P p (limit_at ys p)
one_limit_more P xs ys n x count is here before p lt = elim (cases_eq p n) [
  | inl same ↦
      let at : p ≡ length xs = same ∙ sym count in
      let value : limit_at ys p ≡ x = ap (λ l. limit_at l p) is ∙ ap (limit_at (xs ++ x ∷ [])) at ∙ limit_last xs x in
      subst (λ (q : ℕ × ℕ). P q.0 q.1) (λ i. (sym same i, sym value i)) here
  | inr other ↦
      let low : p < n = omega (arith, lt, other) in
      subst (P p) (sym (ap (λ l. limit_at l p) is ∙ limit_kept xs x p (omega (arith, low, count)))) (before p low)
]

-- whether an event is live is told by marks
pub live_or_not : (plan : Plan) (clocks : Clocks) (z : Event) → AreMarks plan clocks → Live plan z ⊎ (Live plan z → ⊥)
live_or_not plan clocks z are = elim (cases_lt z.at (marked_count clocks z.proc)) [
  | inl marked ↦ inl ((are.live z).0 marked)
  | inr not_marked ↦ inr (λ live. let lt = (are.live z).1 live in absurd (omega (arith, lt, not_marked)))
]

-- a process that is enabled has an event to come
next_there : (plan : Plan) (s : State) (p : ℕ) → is_enabled plan s p ≡ true → s.done p < event_count plan p
next_there plan s p enabled = let v = has_event plan s p (next_kind plan s p) refl enabled in event_within plan p (s.done p) v.0 v.1

held_back : (plan : Plan) (y : Event) (limits steps : List ℕ) → AreLimitsBefore plan y limits → y.proc < process_count plan → IsInterleaving plan start steps →
    ((p : ℕ) → limit_at limits p < (run plan steps).done p → (run plan steps).done p ≡ 0) → ((p : ℕ) → MayGo plan limits (run plan steps) p → ⊥) → HoldsBack plan y steps
held_back plan y limits steps limited there legal within ended = record { legal = legal; not_yet = not_yet; only_it = only_it }
  where
    of_y : limit_at limits y.proc ≡ y.at
    of_y = limited y.proc there ∙ cond-true _ _ _ (eq-eqb y.proc y.proc refl)

    not_yet : IsDone (run plan steps) y → ⊥
    not_yet done =
        let above : limit_at limits y.proc < (run plan steps).done y.proc = omega (arith, done, of_y) in
        let none_ = within y.proc above in
        absurd (omega (arith, above, none_))

    at_y : (run plan steps).done y.proc ≤ y.at
    at_y = elim (cases_lt y.at ((run plan steps).done y.proc)) [ inl lt ↦ absurd (not_yet lt) | inr ge ↦ ge ]

    only_it : (p : ℕ) → is_enabled plan (run plan steps) p ≡ true → next_event (run plan steps) p ≡ y
    only_it p enabled = elim (cases_eq p y.proc) [
      | inl same ↦
          let least : y.at ≤ (run plan steps).done p = elim (cases_lt ((run plan steps).done p) y.at) [
            | inl lt ↦
                let limit : limit_at limits p ≡ y.at = ap (limit_at limits) same ∙ of_y in
                absurd (ended p (record { enabled = enabled; below = omega (arith, lt, limit) }))
            | inr ge ↦ ge
          ] in
          let most : (run plan steps).done p ≤ y.at = subst (λ q. (run plan steps).done q ≤ y.at) (sym same) at_y in
          let at : (run plan steps).done p ≡ y.at = omega (arith, least, most) in
          λ i. record { proc = same i; at = at i }
      | inr other ↦
          let limit = limited p (enabled_within plan (run plan steps) p enabled) ∙ cond-false _ _ _ (ne_eqb p y.proc other) in
          let room = next_there plan (run plan steps) p enabled in
          absurd (ended p (record { enabled = enabled; below = omega (arith, room, limit) }))
    ]

-- a process that has done something is one of the plan's
done_within : (plan : Plan) (steps : List ℕ) → IsInterleaving plan start steps → (e : Event) → IsDone (run plan steps) e → e.proc < process_count plan
done_within plan steps legal e done =
    let is = live_event plan e ((reachable_sound plan (run plan steps) (steps, legal, refl)).live_done e done) in process_within plan e.proc e.at is.0 is.1

up_to : (plan : Plan) (z : Event) (limits so_far more : List ℕ) → AreLimitsUpTo plan z limits → IsInterleaving plan start (so_far ++ more) →
    ((p : ℕ) → limit_at limits p < (run plan (so_far ++ more)).done p → (run plan (so_far ++ more)).done p ≡ (run plan so_far).done p) →
    ((p : ℕ) → MayGo plan limits (run plan (so_far ++ more)) p → ⊥) → RunsUpTo plan z so_far more
up_to plan z limits so_far more limited legal within ended = record { legal = legal; needed = needed; no_more = no_more }
  where
    leads : (p n : ℕ) → p < process_count plan → n < limit_at limits p → LeadsTo plan (record { proc = p; at = n }) z
    leads p n there lt = elim limited.live_or_not [
      | inl alive ↦ ((limited.clocks p there).counts alive (record { proc = p; at = n }) refl).0 lt
      | inr dead ↦ (let none_ = (limited.clocks p there).dead dead in absurd (omega (arith, lt, none_)))
    ]

    needed : (e : Event) → IsDone (run plan (so_far ++ more)) e → IsDone (run plan so_far) e ⊎ LeadsTo plan e z
    needed e done = elim (cases_lt e.at ((run plan so_far).done e.proc)) [
      | inl before ↦ inl before
      | inr since ↦
          let low : e.at < limit_at limits e.proc = elim (cases_lt (limit_at limits e.proc) ((run plan (so_far ++ more)).done e.proc)) [
            | inl above ↦ (let same = within e.proc above in absurd (omega (arith, same, since, done)))
            | inr at_most ↦ omega (arith, at_most, done)
          ] in
          inr (leads e.proc e.at (done_within plan (so_far ++ more) legal e done) low)
    ]

    no_more : (p : ℕ) → is_enabled plan (run plan (so_far ++ more)) p ≡ true → ¬ (LeadsTo plan (next_event (run plan (so_far ++ more)) p) z)
    no_more p enabled leads_ = elim limited.live_or_not [
      | inl alive ↦
          ended p (record {
            enabled = enabled;
            below = ((limited.clocks p (enabled_within plan (run plan (so_far ++ more)) p enabled)).counts alive (next_event (run plan (so_far ++ more)) p) refl).1 leads_;
          })
      | inr dead ↦ elim leads_ [
        | inl same ↦ dead (subst (Live plan) same (enabled_is_due plan (run plan (so_far ++ more)) p (so_far ++ more, legal, refl) enabled).is_live)
        | inr before ↦ dead (after_live before)
      ]
    ]

-- what a core has run that was held back by limits
held_within : (s : Scripts) (y : Event) (limits : List ℕ) (new : Course) → AreLimitsBefore (plan_of s) y limits → y.proc < process_count (plan_of s) → RunsWithin limits (fresh s) new →
    HoldsBack (plan_of s) y new.history
held_within s y limits new limited there r =
    let taken = r.follows.taken in
    subst (λ (c : Course). HoldsBack (plan_of s) y c.history) (sym taken)
    (held_back (plan_of s) y limits r.steps limited there r.follows.enabled
    (subst (λ (c : Course). (p : ℕ) → limit_at limits p < (state_of c).done p → (state_of c).done p ≡ 0) taken r.within)
    (subst (λ (c : Course). (p : ℕ) → MayGo (plan_in c) limits (state_of c) p → ⊥) taken r.ended))

scripts_kept : (s : Scripts) (limits : List ℕ) (new : Course) → RunsWithin limits (fresh s) new → new.scripts ≡ s
scripts_kept s limits new r = ap (λ (c : Course). c.scripts) r.follows.taken

held_some : (s : Scripts) (x y : Event) (limits more : List ℕ) (core : Course) (made : Run) → AreLimitsBefore (plan_of s) y limits → y.proc < process_count (plan_of s) →
    HasRunAhead s limits x y (Some core) → made.core.history ≡ core.history ++ more → IsWholeRun (plan_of s) made.core.history → IsHeldRun (plan_of s) x y (steps_of (Some made))
held_some s x y limits more core made limited there ahead is whole =
    XIsFirst core.history more (held_within s y limits core limited there ahead.0)
    (subst (λ t. IsDone (run (plan_of t) core.history) x) (scripts_kept s limits core ahead.0) ahead.1.0) (subst (IsWholeRun (plan_of s)) is whole) (ap Some is)

held_none : (s : Scripts) (x y : Event) (limits : List ℕ) → AreLimitsBefore (plan_of s) y limits → y.proc < process_count (plan_of s) → HasRunAhead s limits x y None →
    IsHeldRun (plan_of s) x y None
held_none s x y limits limited there ahead =
    let held = held_within s y limits ahead.0 limited there ahead.1 in
    XIsMissing ahead.0.history held
    (λ done.
    ahead.2 (
      subst (λ t. IsDone (run (plan_of t) ahead.0.history) x) (sym (scripts_kept s limits ahead.0 ahead.1)) done,
      λ came. held.not_yet (subst (λ t. IsDone (run (plan_of t) ahead.0.history) y) (scripts_kept s limits ahead.0 ahead.1) came),
    )) refl

-- what a core has run that takes only what is needed
up_within : (s : Scripts) (z : Event) (limits so_far : List ℕ) (new : Course) → AreLimitsUpTo (plan_of s) z limits → IsInterleaving (plan_of s) start so_far →
    RunsWithin limits (record { scripts = s; history = so_far }) new →
    (more : List ℕ) × (new ≡ record { scripts = s; history = so_far ++ more }) × RunsUpTo (plan_of s) z so_far more
up_within s z limits so_far new limited legal r =
    let taken = r.follows.taken in (
      r.steps,
      taken,
      up_to (plan_of s) z limits so_far r.steps limited (legal_append (plan_of s) start so_far r.steps legal r.follows.enabled)
          (subst (λ (c : Course). (p : ℕ) → limit_at limits p < (state_of c).done p → (state_of c).done p ≡ (run (plan_of s) so_far).done p) taken r.within)
          (subst (λ (c : Course). (p : ℕ) → MayGo (plan_in c) limits (state_of c) p → ⊥) taken r.ended),
    )

needed_after : (s : Scripts) (x y : Event) (later to_x : List ℕ) (made : Option Run) → AreLimitsUpTo (plan_of s) y later → RunsUpTo (plan_of s) x [] to_x →
    HasOnly (record { scripts = s; history = to_x }) x y → GoesOn (record { scripts = s; history = to_x }) later y made →
    ((r : Run) → made ≡ Some r → IsWholeRun (plan_of s) r.core.history) → IsNeededRun (plan_of s) x y (steps_of made)
needed_after s x y later to_x (Some made) limited up only goes whole =
    let on = up_within s y later to_x goes.0 limited up.legal goes.1 in
    let same : made.core.history ≡ (to_x ++ on.0) ++ goes.3 = goes.4 ∙ ap (λ (c : Course). c.history ++ goes.3) on.1 in
    BothHappen to_x on.0 goes.3 up only.0 only.1 on.2 (subst (λ (c : Course). IsDone (state_of c) y) on.1 goes.2)
    (subst (IsWholeRun (plan_of s)) same (whole made refl)) (ap Some same)
needed_after s x y later to_x None limited up only goes whole =
    let on = up_within s y later to_x goes.0 limited up.legal goes.1 in
    YIsMissing to_x on.0 up on.2 (λ done. goes.2 (subst (λ (c : Course). IsDone (state_of c) y) (sym on.1) done)) refl

needed_some : (s : Scripts) (x y : Event) (limits later : List ℕ) (core : Course) (made : Option Run) → AreLimitsUpTo (plan_of s) x limits → AreLimitsUpTo (plan_of s) y later →
    HasRunAhead s limits x y (Some core) → GoesOn core later y made → ((r : Run) → made ≡ Some r → IsWholeRun (plan_of s) r.core.history) → IsNeededRun (plan_of s) x y (steps_of made)
needed_some s x y limits later core made limited limited_later ahead goes whole =
    let on = up_within s x limits [] core limited tt ahead.0 in
    subst (λ (c : Course). HasOnly c x y → GoesOn c later y made → IsNeededRun (plan_of s) x y (steps_of made)) (sym on.1)
    (λ only goes_on. needed_after s x y later on.0 made limited_later on.2 only goes_on whole) ahead.1 goes

needed_none : (s : Scripts) (x y : Event) (limits : List ℕ) → AreLimitsUpTo (plan_of s) x limits → HasRunAhead s limits x y None → IsNeededRun (plan_of s) x y None
needed_none s x y limits limited ahead =
    let on = up_within s x limits [] ahead.0 limited tt ahead.1 in
    XIsNotFirst on.0 on.2 (λ only. ahead.2 (subst (λ (c : Course). HasOnly c x y) (sym on.1) only)) refl

-- the process of a call of the plan is one of the plan's
call_there : (plan : Plan) (call : CallAt) → call.call < length (calls_of plan call.proc.number) → call.proc.number < process_count plan
call_there plan call lt = elim (cases_lt call.proc.number (process_count plan)) [
  | inl there ↦ there
  | inr past ↦ (let none_ : length (calls_of plan call.proc.number) ≡ 0 = ap (λ o. length (process_calls o)) (slice_get_past plan.processes call.proc.number past) in
      absurd (omega (arith, lt, none_)))
]

-- the run in which the other call is held back, by what its functions ensure
pub held_run_some : (s : Scripts) (first other : CallAt) (x y : Event) (limits given : List ℕ) (core : Course) (made : Run) → x ≡ first_event (plan_of s) first →
    y ≡ first_event (plan_of s) other → AreLimitsBefore (plan_of s) y limits → given ≡ limits → other.call < length (calls_of (plan_of s) other.proc.number) →
    HasRunAhead s given x y (Some core) → core.scripts ≡ s → ((more : List ℕ) × (made.core.history ≡ core.history ++ more)) → IsWitnessRun core.scripts first other made →
    IsHeldRun (plan_of s) (first_event (plan_of s) first) (first_event (plan_of s) other) (steps_of (Some made))
held_run_some s first other x y limits given core made x_is y_is limited same there ahead scripts later is_run =
    let proc : y.proc ≡ other.proc.number = ap (λ (e : Event). e.proc) y_is in
    let inside : y.proc < process_count (plan_of s) = subst (λ p. p < process_count (plan_of s)) (sym proc) (call_there (plan_of s) other there) in
    let held : IsHeldRun (plan_of s) x y (steps_of (Some made)) =
    held_some s x y limits later.0 core made limited inside (subst (λ l. HasRunAhead s l x y (Some core)) same ahead) later.1
    (subst (λ t. IsWholeRun (plan_of t) made.core.history) scripts is_run.with_first.whole) in
    subst (λ (e : Event × Event). IsHeldRun (plan_of s) e.0 e.1 (steps_of (Some made))) (λ i. (x_is i, y_is i)) held

pub held_run_none : (s : Scripts) (first other : CallAt) (x y : Event) (limits given : List ℕ) → x ≡ first_event (plan_of s) first → y ≡ first_event (plan_of s) other →
    AreLimitsBefore (plan_of s) y limits → given ≡ limits → other.call < length (calls_of (plan_of s) other.proc.number) → HasRunAhead s given x y None →
    IsHeldRun (plan_of s) (first_event (plan_of s) first) (first_event (plan_of s) other) None
held_run_none s first other x y limits given x_is y_is limited same there ahead =
    let proc : y.proc ≡ other.proc.number = ap (λ (e : Event). e.proc) y_is in
    let inside : y.proc < process_count (plan_of s) = subst (λ p. p < process_count (plan_of s)) (sym proc) (call_there (plan_of s) other there) in
    subst (λ (e : Event × Event). IsHeldRun (plan_of s) e.0 e.1 None) (λ i. (x_is i, y_is i)) (held_none s x y limits limited inside (subst (λ l. HasRunAhead s l x y None) same ahead))

-- whether a run that was made is whole
wholes : (s : Scripts) (first other : CallAt) (scripts : Scripts) (made : Option Run) → scripts ≡ s → IfSome made (IsWitnessRun scripts first other) → (r : Run) → made ≡ Some r →
    IsWholeRun (plan_of s) r.core.history
wholes s first other scripts made same runs r is =
    let its : IsWitnessRun scripts first other r = subst (λ o. IfSome o (IsWitnessRun scripts first other)) is runs in subst (λ t. IsWholeRun (plan_of t) r.core.history) same its.with_first.whole

-- the run in which only what is needed comes before the calls, by what its functions ensure
needed_there : (s : Scripts) (first other : CallAt) (x y : Event) (limits later given given_later : List ℕ) (core : Course) (made : Option Run) → x ≡ first_event (plan_of s) first →
    y ≡ first_event (plan_of s) other → AreLimitsUpTo (plan_of s) x limits → AreLimitsUpTo (plan_of s) y later → given ≡ limits → given_later ≡ later →
    HasRunAhead s given x y (Some core) → core.scripts ≡ s → GoesOn core given_later y made → IfSome made (IsWitnessRun core.scripts first other) →
    IsNeededRun (plan_of s) (first_event (plan_of s) first) (first_event (plan_of s) other) (steps_of made)
needed_there s first other x y limits later given given_later core made x_is y_is limited limited_later same same_later ahead scripts goes runs =
    let needed : IsNeededRun (plan_of s) x y (steps_of made) =
    needed_some s x y limits later core made limited limited_later (subst (λ l. HasRunAhead s l x y (Some core)) same ahead) (subst (λ l. GoesOn core l y made) same_later goes)
    (wholes s first other core.scripts made scripts runs) in
    subst (λ (e : Event × Event). IsNeededRun (plan_of s) e.0 e.1 (steps_of made)) (λ i. (x_is i, y_is i)) needed

pub needed_run_some : (s t : Scripts) (first other : CallAt) (x y : Event) (limits later given given_later : List ℕ) (core : Course) (made : Option Run) → t ≡ s →
    x ≡ first_event (plan_of t) first → y ≡ first_event (plan_of t) other → AreLimitsUpTo (plan_of s) x limits → AreLimitsUpTo (plan_of s) y later → given ≡ limits → given_later ≡ later →
    HasRunAhead t given x y (Some core) → core.scripts ≡ t → GoesOn core given_later y made → IfSome made (IsWitnessRun core.scripts first other) →
    IsNeededRun (plan_of s) (first_event (plan_of s) first) (first_event (plan_of s) other) (steps_of made)
needed_run_some s t first other x y limits later given given_later core made plan_is x_is y_is limited limited_later same same_later ahead scripts goes runs =
    needed_there s first other x y limits later given given_later core made (x_is ∙ ap (λ u. first_event (plan_of u) first) plan_is)
    (y_is ∙ ap (λ u. first_event (plan_of u) other) plan_is) limited limited_later same same_later (subst (λ u. HasRunAhead u given x y (Some core)) plan_is ahead) (scripts ∙ plan_is) goes runs

pub needed_run_none : (s t : Scripts) (first other : CallAt) (x y : Event) (limits given : List ℕ) → t ≡ s → x ≡ first_event (plan_of t) first → y ≡ first_event (plan_of t) other →
    AreLimitsUpTo (plan_of s) x limits → given ≡ limits → HasRunAhead t given x y None →
    IsNeededRun (plan_of s) (first_event (plan_of s) first) (first_event (plan_of s) other) None
needed_run_none s t first other x y limits given plan_is x_is y_is limited same ahead =
    subst (λ (e : Event × Event). IsNeededRun (plan_of s) e.0 e.1 None)
    (λ i. ((x_is ∙ ap (λ u. first_event (plan_of u) first) plan_is) i, (y_is ∙ ap (λ u. first_event (plan_of u) other) plan_is) i))
    (needed_none s x y limits limited (subst (λ l. HasRunAhead s l x y None) same (subst (λ u. HasRunAhead u given x y None) plan_is ahead)))
