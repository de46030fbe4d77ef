-- One more event is marked.
use Rattle.std.proofs.Common.{◌≡◌, ◌⊎◌, ◌↔◌, inl, inr, ℕ, zero, suc, ◌+◌, ◌-◌, ◌^◌, ◌<◌, ◌≤◌, [], ◌∷◌, Bool, true, false, if◌then◌else◌, max, Option, Some, None, length, refl, sym, ap, ◌∙◌, subst, arith, length-append}
use Rattle.std.specs.Prelude.{slice_get}
use Rattle.std.specs.Bool.{OnTrue}
use Rattle.std.proofs.lemmas.Bool.{cases_eq, cases_lt}
use Rattle.std.proofs.lemmas.Option.{slice_get_past, slice_get_within, same_Some}
use Rattle.wire_runs.specs.Plan.{Event}
use Rattle.wire_runs.specs.Plan.{Plan, kind, event_count, process_count, kinds, process_kinds}
use Rattle.wire_runs.specs.Order.{Edge, may_come, Live, Before}
use Rattle.wire_scripts.specs.Scripts.{Scripts}
use Rattle.wire_scripts.specs.Planned.{plan_of}
use Rattle.wire_runs.proofs.Basics.{event_within}
use Rattle.wire_runs.proofs.Due.{live_source, live_may, place_path, coming_event}
use Rattle.wire_runs.proofs.Histories.{no_cycle, before_live, after_live}
use Rattle.wire_runs.proofs.Lists.{slice_get-append_left, slice_get_push_last}
use Rattle.wire_happens_before.specs.Clocks.{items_at}
use Rattle.wire_clocks.specs.ClockTrees.{says, IsRoot, Holds, HasZeros}
use Rattle.wire_clocks.proofs.Staying.{clocks_stay_through, holds_kept, zeros_kept}
use Rattle.wire_happens_before.specs.Clocks.{Clocks, marked_count, root_at, base_at, own_of, clock_over, clock_of, IsClock, AreMarks}
use Rattle.wire_happens_before.specs.Marking.{IsReady, NoneIsReady, AreBased, AreClocks, next_of, IsStuckAt, IsNextBase, sum_to, unmarked, IsGrown, MarksNext, Notes}
use Rattle.wire_happens_before.specs.Updates.{updates_at, AreUpdates}
use Rattle.wire_happens_before.proofs.Noting.{chain_within, updates_same, updates_more}
use Rattle.wire_happens_before.proofs.Marking.{ready_live, live_marked, clock_step, leads_on}

pub come_within : (plan : Plan) (y : Event) → may_come plan y (kind plan y) ≡ true → y.at < event_count plan y.proc
come_within plan y h = let v = coming_event plan y (kind plan y) h in event_within plan y.proc y.at v.0 v.1

pub event_process : (plan : Plan) (p i : ℕ) → i < event_count plan p → p < process_count plan
unfolding event_count kinds
event_process plan p i lt = elim (cases_lt p (process_count plan)) [
  | inl h ↦ h
  | inr ge ↦ absurd (let past = slice_get_past plan.processes p ge in let e : length (process_kinds (slice_get plan.processes p)) ≡ 0 = rw past refl in omega (arith, lt, e))
]

-- a process with a next event is one of the plan's
pub next_there : (plan : Plan) (clocks : Clocks) (p n : ℕ) → IsNextBase plan clocks p n → p < process_count plan
next_there plan clocks p n next = event_process plan p (marked_count clocks p) (come_within plan (next_of clocks p) next.ready.comes)

-- the same clock
pub same_clock : (plan : Plan) (y : Event) (c d : ℕ → ℕ) → ((q : ℕ) → d q ≡ c q) → IsClock plan y c → IsClock plan y d
same_clock plan y c d same h = record {
  only = λ x lt. h.only x (let e = same x.proc in omega (arith, lt, e));
  all = λ x l. let e = same x.proc in let lt = h.all x l in omega (arith, lt, e);
}

-- what is marked keeps its clock, and a base says what it said
pub record Keeps (old new : Clocks) : Type 0 where
  pub marked : (y : Event) → y.at < marked_count old y.proc → y.at < marked_count new y.proc
  pub clocks : (y : Event) → y.at < marked_count old y.proc → (q : ℕ) → clock_of new y q ≡ clock_of old y q
  pub roots : (n : ℕ) → IsRoot old.trees n → IsRoot new.trees n
  pub bases : (n : ℕ) → IsRoot old.trees n → (q : ℕ) → base_at new n q ≡ base_at old n q

-- nothing has grown
pub grown_none : (clocks : Clocks) → IsGrown clocks clocks
grown_none clocks = record { roots = refl; updates = refl; trees = record { width = refl; roots = λ n is. is; same = λ n is q. refl } }

pub grown_through : (a b c : Clocks) → IsGrown a b → IsGrown b c → IsGrown a c
grown_through a b c ab bc = record {
  roots = bc.roots ∙ ab.roots;
  updates = bc.updates ∙ ab.updates;
  trees = clocks_stay_through a.trees b.trees c.trees ab.trees bc.trees;
}

-- only the trees have grown
pub trees_grown : (old new : Clocks) → AreBased old → IsGrown old new → AreBased new
trees_grown old new based grown = record {
  there = λ y n e. grown.trees.roots n (based.there y n (sym (ap (λ ns. slice_get (items_at ns y.proc) y.at) grown.roots) ∙ e));
  room = λ p lt. holds_kept old.trees new.trees p grown.trees (based.room p (let same = ap length grown.roots in omega (arith, lt, same)));
  few = λ p. let same = ap (λ ns. length (items_at ns p)) grown.roots in let few = based.few p in omega (arith, same, few);
  zeros = zeros_kept old.trees new.trees grown.trees based.zeros;
}

module _ (old new : Clocks) (based : AreBased old) (grown : IsGrown old new) where
  pub count_grown : (p : ℕ) → marked_count new p ≡ marked_count old p
  count_grown p = ap (λ ns. length (items_at ns p)) grown.roots

  root_grown : (y : Event) → root_at new y ≡ root_at old y
  root_grown y = ap (λ ns. slice_get (items_at ns y.proc) y.at) grown.roots

  over_grown : (y : Event) (q : ℕ) (o : Option ℕ) → root_at old y ≡ o → clock_over new y o q ≡ clock_over old y o q
  over_grown y q None e = refl
  over_grown y q (Some n) e = ap (λ b. max b (own_of y q)) (grown.trees.same n (based.there y n e) q)

  pub clock_grown : (y : Event) (q : ℕ) → clock_of new y q ≡ clock_of old y q
  clock_grown y q = ap (λ o. clock_over new y o q) (root_grown y) ∙ over_grown y q (root_at old y) refl

  pub grown_keeps : Keeps old new
  grown_keeps = record {
    marked = λ y lt. let e = count_grown y.proc in omega (arith, lt, e);
    clocks = λ y lt q. clock_grown y q;
    roots = grown.trees.roots;
    bases = grown.trees.same;
  }

  pub sound_grown : (plan : Plan) → AreClocks plan old → AreBased new → AreClocks plan new
  sound_grown plan sound still = record {
    processes = ap length grown.roots ∙ sound.processes;
    based = still;
    live = λ y lt. sound.live y (let e = count_grown y.proc in omega (arith, lt, e));
    closed = λ x y e lt. (let a = count_grown x.proc in let b = count_grown y.proc in let h = sound.closed x y e (omega (arith, lt, b)) in omega (arith, h, a));
    updates = λ name. subst (λ lists. AreUpdates plan (λ z. z.at < marked_count new z.proc) name (updates_at lists name)) (sym grown.updates)
        (updates_same plan (λ z. z.at < marked_count old z.proc) (λ z. z.at < marked_count new z.proc) name (updates_at old.updates name) (λ z lt. let e = count_grown z.proc in omega (arith, lt, e))
        (λ z lt. let e = count_grown z.proc in omega (arith, lt, e)) (sound.updates name));
    told = λ y lt. same_clock plan y (clock_of old y) (clock_of new y) (λ q. clock_grown y q) (sound.told y (let e = count_grown y.proc in omega (arith, lt, e)));
  }

module _ (plan : Plan) (old new : Clocks) (p n : ℕ) (there : p < process_count plan) (sound : AreClocks plan old) (next : IsNextBase plan old p n) (adds : MarksNext old new p n) where
  count_here : marked_count new p ≡ suc (marked_count old p)
  count_here = rw adds.here (omega (arith, length-append (items_at old.roots.items p) (n ∷ [])))

  count_other : (q : ℕ) → (q ≡ p → ⊥) → marked_count new q ≡ marked_count old q
  count_other q ne = ap length (adds.others q ne)

  was_or_next : (y : Event) → y.at < marked_count new y.proc → (y.at < marked_count old y.proc) ⊎ (y ≡ next_of old p)
  was_or_next y lt = elim (cases_eq y.proc p) [
    | inl e ↦
        let now : marked_count new y.proc ≡ suc (marked_count old p) = rw e count_here in
        let same : marked_count old y.proc ≡ marked_count old p = rw e refl in
        elim (cases_lt y.at (marked_count old p)) [
          | inl was ↦ inl (omega (arith, was, same))
          | inr ge ↦ inr (place_path y p (marked_count old p) e (omega (arith, lt, now, ge)))
        ]
    | inr ne ↦ let c = count_other y.proc ne in inl (omega (arith, c, lt))
  ]

  marked_up : (y : Event) → y.at < marked_count old y.proc → y.at < marked_count new y.proc
  marked_up y lt = elim (cases_eq y.proc p) [
    | inl e ↦
        let now : marked_count new y.proc ≡ suc (marked_count old p) = rw e count_here in
        let same : marked_count old y.proc ≡ marked_count old p = rw e refl in
        omega (arith, lt, now, same)
    | inr ne ↦ let c = count_other y.proc ne in omega (arith, c, lt)
  ]

  root_here : root_at new (next_of old p) ≡ Some n
  root_here = ap (λ ns. slice_get ns (marked_count old p)) adds.here ∙ slice_get_push_last (items_at old.roots.items p) n

  root_kept : (y : Event) → y.at < marked_count old y.proc → root_at new y ≡ root_at old y
  root_kept y lt = elim (cases_eq y.proc p) [
    | inl e ↦
        let lt' : y.at < marked_count old p = subst (λ q. y.at < marked_count old q) e lt in
        subst (λ q. slice_get (items_at new.roots.items q) y.at ≡ slice_get (items_at old.roots.items q) y.at) (sym e)
        (ap (λ ns. slice_get ns y.at) adds.here ∙ slice_get-append_left (items_at old.roots.items p) (n ∷ []) y.at lt')
    | inr ne ↦ ap (λ ns. slice_get ns y.at) (adds.others y.proc ne)
  ]

  over_kept : (y : Event) (q : ℕ) (o : Option ℕ) → clock_over new y o q ≡ clock_over old y o q
  over_kept y q None = refl
  over_kept y q (Some m) = ap (λ trees. max (says trees m q) (own_of y q)) adds.trees

  clock_kept : (y : Event) → y.at < marked_count old y.proc → (q : ℕ) → clock_of new y q ≡ clock_of old y q
  clock_kept y lt q = ap (λ o. clock_over new y o q) (root_kept y lt) ∙ over_kept y q (root_at old y)

  clock_here : (q : ℕ) → clock_of new (next_of old p) q ≡ max (base_at old n q) (own_of (next_of old p) q)
  clock_here q = ap (λ o. clock_over new (next_of old p) o q) root_here ∙ over_kept (next_of old p) q (Some n)

  next_live : Live plan (next_of old p)
  next_live = ready_live plan (marked_count old) (next_of old p) sound.live next.ready

  next_told : IsClock plan (next_of old p) (λ q. max (base_at old n q) (own_of (next_of old p) q))
  next_told = clock_step plan (clock_of old) (next_of old p) (base_at old n) next_live (λ z e. sound.told z (next.ready.sources z e)) next.base

  based_added : AreBased new
  based_added = record {
    there = λ y m e. subst (λ trees. IsRoot trees m) (sym adds.trees) (elim (was_or_next y (slice_get_within (items_at new.roots.items y.proc) y.at m e)) [
      | inl was ↦ sound.based.there y m (sym (root_kept y was) ∙ e)
      | inr is ↦ let same : n ≡ m = same_Some _ _ (sym root_here ∙ (ap (root_at new) (sym is) ∙ e)) in subst (λ k. IsRoot old.trees k) same next.there
    ]);
    room = λ q lt. subst (λ trees. Holds trees q) (sym adds.trees) (sound.based.room q (let same = adds.same in omega (arith, lt, same)));
    few = λ q. elim (cases_eq q p) [
      | inl e ↦ subst (λ k. marked_count new k < 2 ^ 32) (sym e) (let here = count_here in let few = next.few in omega (arith, here, few))
      | inr ne ↦ let c = count_other q ne in let few = sound.based.few q in omega (arith, c, few)
    ];
    zeros = subst HasZeros (sym adds.trees) sound.based.zeros;
  }

  next_marked : marked_count old p < marked_count new p
  next_marked = let here = count_here in omega (arith, here)

  closed_added : (x y : Event) → Edge plan x y → y.at < marked_count new y.proc → x.at < marked_count new x.proc
  closed_added x y e lt = elim (was_or_next y lt) [
    | inl was ↦ marked_up x (sound.closed x y e was)
    | inr is ↦ marked_up x (next.ready.sources x (subst (λ z. Edge plan x z) is e))
  ]

  -- nothing that is marked stands behind the next event
  next_last : (y : Event) → y.at < marked_count old y.proc → Before plan (next_of old p) y → ⊥
  next_last y lt b = let h = chain_within (marked_count old) sound.closed b lt in omega (arith, h)

  pub sound_added : Notes plan (next_of old p) old new → AreClocks plan new
  sound_added notes = record {
    processes = adds.same ∙ sound.processes;
    based = based_added;
    closed = closed_added;
    updates = λ name. updates_more plan name (λ z. z.at < marked_count old z.proc) (λ z. z.at < marked_count new z.proc) (next_of old p) marked_up next_marked was_or_next (λ lt. omega (arith, lt))
        next_last (updates_at old.updates name) (updates_at new.updates name) (notes name) (sound.updates name);
    live = λ y lt. elim (was_or_next y lt) [
      | inl was ↦ sound.live y was
      | inr is ↦ subst (λ z. Live plan z) (sym is) next_live
    ];
    told = λ y lt. elim (was_or_next y lt) [
      | inl was ↦ same_clock plan y (clock_of old y) (clock_of new y) (clock_kept y was) (sound.told y was)
      | inr is ↦ subst (λ z. IsClock plan z (clock_of new z)) (sym is)
          (same_clock plan (next_of old p) (λ q. max (base_at old n q) (own_of (next_of old p) q)) (clock_of new (next_of old p)) clock_here next_told)
    ];
  }

  pub added_keeps : Keeps old new
  added_keeps = record {
    marked = marked_up;
    clocks = clock_kept;
    roots = λ m root. subst (λ trees. IsRoot trees m) (sym adds.trees) root;
    bases = λ m root q. ap (λ trees. says trees m q) adds.trees;
  }

  sum_same : (n : ℕ) (f g : ℕ → ℕ) → ((q : ℕ) → q < n → g q ≡ f q) → sum_to n g ≡ sum_to n f
  sum_same zero f g same = refl
  sum_same (suc n) f g same = let a = sum_same n f g (λ q lt. same q (omega (arith, lt))) in let b = same n (omega arith) in omega (arith, a, b)

  sum_falls : (n : ℕ) (f g : ℕ → ℕ) → p < n → g p < f p → ((q : ℕ) → (q ≡ p → ⊥) → g q ≡ f q) → sum_to n g < sum_to n f
  sum_falls zero f g lt less other = absurd (omega (arith, lt))
  sum_falls (suc n) f g lt less other = elim (cases_eq p n) [
    | inl e ↦
        let a = sum_same n f g (λ q h. other q (λ same. omega (arith, h, same, e))) in
        let b : g n < f n = subst (λ q. g q < f q) e less in
        omega (arith, a, b)
    | inr ne ↦ let a = sum_falls n f g (omega arith) less other in let b = other n (λ same. ne (sym same)) in omega (arith, a, b)
  ]

  pub left_falls : unmarked plan new < unmarked plan old
  left_falls =
      let within = come_within plan (next_of old p) next.ready.comes in
      let here = count_here in
      sum_falls (process_count plan) _ _ there (omega (arith, within, here)) (λ q ne. ap (λ n. event_count plan q - n) (count_other q ne))

-- what is left is told by what is marked
pub left_same : (s t : Scripts) (old new : Clocks) → t ≡ s → new.roots.items ≡ old.roots.items → unmarked (plan_of t) new ≡ unmarked (plan_of s) old
left_same s t old new is same =
    ap (λ ns. sum_to (process_count (plan_of t)) (λ p. event_count (plan_of t) p - length (items_at ns p))) same
    ∙ ap (λ v. unmarked (plan_of v) old) is

pub stuck_same : (s t : Scripts) (old new : Clocks) (p : ℕ) → t ≡ s → new.roots.items ≡ old.roots.items → IsStuckAt (plan_of s) old p → IsStuckAt (plan_of t) new p
stuck_same s t old new p is same stuck =
    let here : IsStuckAt (plan_of t) old p = subst (λ v. IsStuckAt (plan_of v) old p) (sym is) stuck in
    subst (λ ns. IsReady (plan_of t) (λ q. length (items_at ns q)) (record { proc = p; at = length (items_at ns p) }) → ⊥) (sym same) here

-- a pass marks an event more, or is the last one
pub pass_falls : (moved before : Bool) (new between old : ℕ) → before ≡ true → between ≤ old → new ≤ between → OnTrue moved (new < between) → new + (if moved then 1 else 0) < old + (if before then 1 else 0)
pass_falls true true new between old e down more falls = omega (arith, down, falls)
pass_falls false true new between old e down more falls = omega (arith, down, more)
pass_falls moved false new between old e down more falls = absurd (cc)

-- where no process of the plan has a ready event, the marks are whole
pub marks_whole : (plan : Plan) (clocks : Clocks) → AreClocks plan clocks → ((p : ℕ) → p < process_count plan → IsStuckAt plan clocks p) → AreMarks plan clocks
marks_whole plan clocks sound stuck = record {
  live = λ y. (sound.live y, all_marked y);
  told = λ y l. sound.told y (all_marked y l);
  updates = λ name. updates_same plan (λ z. z.at < marked_count clocks z.proc) (Live plan) name (updates_at clocks.updates name) sound.live all_marked (sound.updates name);
}
  where
    none_ready : NoneIsReady plan (marked_count clocks)
    none_ready y e ready =
        let within = event_process plan y.proc y.at (come_within plan y ready.comes) in
        stuck y.proc within (subst (λ z. IsReady plan (marked_count clocks) z) (place_path y y.proc _ refl e) ready)

    all_marked : (y : Event) → Live plan y → y.at < marked_count clocks y.proc
    all_marked y l = live_marked plan (marked_count clocks) none_ready l

-- an event that isn't marked counts none
pub clock_past : (clocks : Clocks) (y : Event) (q : ℕ) → marked_count clocks y.proc ≤ y.at → clock_of clocks y q ≡ 0
clock_past clocks y q ge = ap (λ o. clock_over clocks y o q) (slice_get_past (items_at clocks.roots.items y.proc) y.at ge)

-- what the clock says, for two places
pub before_told : (plan : Plan) (clocks : Clocks) (x y : Event) → AreMarks plan clocks → (x ≡ y → ⊥) → x.at < clock_of clocks y x.proc → Before plan x y
before_told plan clocks x y m ne lt =
    let marked : y.at < marked_count clocks y.proc = elim (cases_lt y.at (marked_count clocks y.proc)) [
      | inl h ↦ h
      | inr ge ↦ absurd (let e = clock_past clocks y x.proc ge in omega (arith, lt, e))
    ] in
    elim ((m.told y ((m.live y).0 marked)).only x lt) [ inl e ↦ absurd (ne e) | inr b ↦ b ]

pub before_tells : (plan : Plan) (clocks : Clocks) (x y : Event) → AreMarks plan clocks → Live plan y → Before plan x y → x.at < clock_of clocks y x.proc
before_tells plan clocks x y m l b = (m.told y l).all x (inr b)

pub never_self : (plan : Plan) (x y : Event) → x ≡ y → Before plan x y → ⊥
never_self plan x y e b = no_cycle (before_live b) (subst (λ z. Before plan x z) (sym e) b)

pub before_iff : (plan : Plan) (clocks : Clocks) (x y : Event) → AreMarks plan clocks → (x ≡ y → ⊥) → (x.at < clock_of clocks y x.proc) ↔ Before plan x y
before_iff plan clocks x y m ne = (before_told plan clocks x y m ne, λ b. before_tells plan clocks x y m (after_live b) b)

sum_le : (n : ℕ) (f g : ℕ → ℕ) → ((q : ℕ) → g q ≤ f q) → sum_to n g ≤ sum_to n f
sum_le zero f g le = omega arith
sum_le (suc n) f g le = let a = sum_le n f g le in let b = le n in omega (arith, a, b)

sum_less : (n p : ℕ) (f g : ℕ → ℕ) → p < n → g p < f p → ((q : ℕ) → g q ≤ f q) → sum_to n g < sum_to n f
sum_less zero p f g lt less le = absurd (omega (arith, lt))
sum_less (suc n) p f g lt less le = elim (cases_eq p n) [
  | inl e ↦ let a = sum_le n f g le in let b : g n < f n = subst (λ q. g q < f q) e less in omega (arith, a, b)
  | inr ne ↦ let a = sum_less n p f g (omega arith) less le in let b = le n in omega (arith, a, b)
]

-- a source has the lower clock
pub clock_falls : (plan : Plan) (clocks : Clocks) (z y : Event) → AreMarks plan clocks → Live plan y → Edge plan z y →
    sum_to (process_count plan) (clock_of clocks z) < sum_to (process_count plan) (clock_of clocks y)
clock_falls plan clocks z y m l e =
    sum_less (process_count plan) y.proc (clock_of clocks y) (clock_of clocks z) (event_process plan y.proc y.at (come_within plan y (live_may l)))
    (elim (cases_lt y.at (clock_of clocks z y.proc)) [
      | inl lt ↦ absurd (no_cycle l (leads_on plan y z y (live_source l e) ((m.told z (live_source l e)).only y lt) e l))
      | inr ge ↦ let own = (m.told y l).all y (inl refl) in omega (arith, ge, own)
    ])
    (λ q. elim (cases_lt (clock_of clocks y q) (clock_of clocks z q)) [
      | inl lt ↦ absurd (
          let x : Event = record { proc = q; at = clock_of clocks y q } in
          let b = leads_on plan x z y (live_source l e) ((m.told z (live_source l e)).only x lt) e l in
          let more = (m.told y l).all x (inr b) in
          omega (arith, more))
      | inr ge ↦ ge
    ])
