-- A base of the next event, from its sources: those of a fence's arrivals are joined into one.
use Rattle.std.proofs.Common.{◌≡◌, ◌⊎◌, inl, inr, ℕ, zero, suc, ◌+◌, ◌<◌, ◌≤◌, ◌^◌, List, [], ◌∷◌, ◌++◌, true, false, Option, Some, None, length, slice_set, max, refl, sym, ap, ◌∙◌, subst}
use Rattle.std.proofs.Common.{arith}
use Rattle.std.specs.Prelude.{Bool, slice_get, option_to_list, if◌then◌else◌}
use Rattle.std.proofs.lemmas.Bool.{cases_eq, cases_lt}
use Rattle.std.proofs.lemmas.Option.{slice_get_past, slice_get_within, same_Some}
use Rattle.wire_runs.specs.Plan.{Plan, Event, Leave, kind, process_count}
use Rattle.wire_runs.specs.Fences.{arrivals, arrivals_with, is_member}
use Rattle.wire_scripts.specs.Scripts.{Scripts}
use Rattle.wire_scripts.specs.Planned.{plan_of}
use Rattle.wire_fence.specs.FenceTable.{FenceInfo, FenceTable, fence_at}
use Rattle.wire_runs.specs.Order.{Edge, IsArrival, may_come}
use Rattle.wire_runs.proofs.Lists.{slice_get_push_cases}
use Rattle.wire_plan.specs.Index.{AreSources, AreArrivals, AwaitsCommit, AwaitsPublish, AwaitsOnly, FindsAwaited, previous_at, previous_of}
use Rattle.wire_plan.specs.Meetings.{fence_members}
use Rattle.wire_happens_before.specs.declared.joins.Meeting.{Meeting}
use Rattle.wire_clocks.specs.ClockTrees.{IsRoot, Holds}
use Rattle.wire_happens_before.specs.Clocks.{Clocks, list_in, items_at, marked_count, root_at, base_at, own_of, clock_of, LeadsTo}
use Rattle.wire_happens_before.specs.Marking.{AreBased, AreClocks, IsReady, IsBase, next_of, IsNextBase, IsGrown, MarksNext, root_or_zero, root_before, Counts, IsRaised, Notes}
use Rattle.wire_happens_before.specs.Meeting.{AreMarked, IsJoin, IsJoined, IsMeeting, IsMeetingAt, IsEmpty, AreMeetings, AreAdded, AreOthersKept, IsLeaveOf}
use Rattle.wire_happens_before.proofs.Tables.{slice_get-set_same, slice_get-set_other}
use Rattle.wire_happens_before.proofs.Same.{at_head, same_places}
use Rattle.wire_happens_before.proofs.Marking.{own_rises, leads_through}
use Rattle.wire_happens_before.proofs.Growing.{Keeps, grown_keeps, added_keeps, sound_added, count_grown}
use Rattle.wire_happens_before.proofs.Leaving.{leave_after}

-- a clock that is raised says no less
pub raised_not_below : (here : Bool) (new old number : ℕ) → new ≡ (if here then max old number else old) → old ≤ new
raised_not_below true new old number is = omega (arith, is)
raised_not_below false new old number is = omega (arith, is)

-- a clock that is joined with a base, and then raised by what stands in one process, is joined with both
pub joined_with_both : (here : Bool) (new between old base number : ℕ) → new ≡ (if here then max between (number + 1) else between) → between ≡ max old base →
    new ≡ max old (max base (if here then suc number else 0))
joined_with_both true new between old base number raised joined = omega (arith, raised, joined)
joined_with_both false new between old base number raised joined = omega (arith, raised, joined)

-- the trees have numbers for the process of a marked event
pub marked_room : (clocks : Clocks) (z : Event) → AreBased clocks → z.at < marked_count clocks z.proc → Holds clocks.trees z.proc
marked_room clocks z based lt = based.room z.proc (elim (cases_lt z.proc (length clocks.roots.items)) [
  | inl within ↦ within
  | inr past ↦ absurd (let e : marked_count clocks z.proc ≡ 0 = ap (λ o. length (list_in o)) (slice_get_past clocks.roots.items z.proc past) in omega (arith, lt, e))
])

-- one more place is joined
pub join_step : (clocks : Clocks) (places : List Event) (k : ℕ) (x : Event) (old new : ℕ → ℕ) → slice_get places k ≡ Some x → IsJoin clocks places k old →
    ((q : ℕ) → new q ≡ max (old q) (clock_of clocks x q)) → IsJoin clocks places (k + 1) new
join_step clocks places k x old new at join each = record {
  from = λ q m lt.
      let e = each q in
      elim (cases_lt m (old q)) [
        | inl was ↦ let w = join.from q m was in let lk = w.2 in (w.0, w.1, omega (arith, lk), w.3, w.4)
        | inr ge ↦ (k, x, omega arith, at, omega (arith, e, lt, ge))
      ];
  covers = λ q j z lt h.
      let e = each q in
      elim (cases_eq j k) [
        | inl same ↦
            let is : x ≡ z = same_Some _ _ (sym at ∙ subst (λ i. slice_get places i ≡ Some z) same h) in
            subst (λ y. clock_of clocks y q ≤ new q) is (omega (arith, e))
        | inr ne ↦ let c = join.covers q j z (omega arith) h in omega (arith, e, c)
      ];
}

-- the same clock
pub join_as : (clocks : Clocks) (places : List Event) (n : ℕ) (clock same : ℕ → ℕ) → ((q : ℕ) → same q ≡ clock q) → IsJoin clocks places n clock → IsJoin clocks places n same
join_as clocks places n clock same is join = record {
  from = λ q m lt. join.from q m (let e = is q in omega (arith, lt, e));
  covers = λ q k z lt h.
      let e = is q in
      let c = join.covers q k z lt h in
      omega (arith, e, c);
}

pub marked_step : (clocks : Clocks) (places : List Event) (k : ℕ) (x : Event) → slice_get places k ≡ Some x → x.at < marked_count clocks x.proc → AreMarked clocks places k →
    AreMarked clocks places (k + 1)
marked_step clocks places k x at there marked = λ j z lt h. elim (cases_eq j k) [
  | inl same ↦ subst (λ v. v.at < marked_count clocks v.proc) (same_Some _ _ (sym at ∙ subst (λ i. slice_get places i ≡ Some z) same h)) there
  | inr ne ↦ marked j z (omega arith) h
]

-- nobody is met
pub nobody_met : (clocks : Clocks) (places : List Event) (meeting : Meeting) → IsEmpty meeting → IsMeeting clocks places meeting
nobody_met clocks places meeting fresh = record {
  marked = λ k z lt h. absurd (let e = fresh.nobody in omega (arith, lt, e));
  joined = λ n e. absurd (let none = sym fresh.none ∙ e in cc);
}

-- what is kept of a fence stays right
pub marked_kept : (old new : Clocks) (places : List Event) (n : ℕ) → Keeps old new → AreMarked old places n → AreMarked new places n
marked_kept old new places n keeps h = λ k z lt e. keeps.marked z (h k z lt e)

joined_kept : (old new : Clocks) (places : List Event) (n : ℕ) → Keeps old new → IsJoined old places n → IsJoined new places n
joined_kept old new places n keeps h = record {
  there = keeps.roots n h.there;
  marked = marked_kept old new places (length places) keeps h.marked;
  join = record {
    from = λ q m lt.
        let same = keeps.bases n h.there q in
        let w = h.join.from q m (omega (arith, lt, same)) in
        let e = keeps.clocks w.1 (h.marked w.0 w.1 w.2 w.3) q in
        let at = w.4 in
        (w.0, w.1, w.2, w.3, omega (arith, at, e));
    covers = λ q k z lt f.
        let same = keeps.bases n h.there q in
        let e = keeps.clocks z (h.marked k z lt f) q in
        let c = h.join.covers q k z lt f in
        omega (arith, e, c, same);
  };
}

pub meeting_kept : (old new : Clocks) (places : List Event) (meeting : Meeting) → Keeps old new → IsMeeting old places meeting → IsMeeting new places meeting
meeting_kept old new places meeting keeps h = record {
  marked = marked_kept old new places meeting.count keeps h.marked;
  joined = λ n e. joined_kept old new places n keeps (h.joined n e);
}

-- all arrivals are joined into a base of their own
pub joined_new : (old new : Clocks) (places : List Event) (n : ℕ) → Keeps old new → IsRoot new.trees n → AreMarked old places (length places) →
    IsJoin old places (length places) (base_at new n) → IsJoined new places n
joined_new old new places n keeps there marked join = record {
  there = there;
  marked = marked_kept old new places (length places) keeps marked;
  join = record {
    from = λ q m lt.
        let w = join.from q m lt in
        let e = keeps.clocks w.1 (marked w.0 w.1 w.2 w.3) q in
        let at = w.4 in
        (w.0, w.1, w.2, w.3, omega (arith, at, e));
    covers = λ q k z lt f.
        let e = keeps.clocks z (marked k z lt f) q in
        let c = join.covers q k z lt f in
        omega (arith, e, c);
  };
}

-- what is kept of a fence, with the base that was made
pub meeting_joined : (clocks : Clocks) (places : List Event) (was now : Meeting) (n : ℕ) → now.count ≡ was.count → now.base ≡ Some n → AreMarked clocks places was.count → IsJoined clocks places n →
    IsMeeting clocks places now
meeting_joined clocks places was now n count base marked joined = record {
  marked = subst (λ k. AreMarked clocks places k) (sym count) marked;
  joined = λ m e. subst (λ k. IsJoined clocks places k) (same_Some _ _ (sym base ∙ e)) joined;
}

-- the meeting of one fence has gone on, and the others are kept
pub meetings_on : (plan : Plan) (table : FenceTable) (old new : Clocks) (was now : List Meeting) (number : ℕ) (info : FenceInfo) (places : List Event) → Keeps old new →
    fence_at table number ≡ Some info → AreArrivals plan info.members info.nth places → IsMeetingAt new now number places → AreOthersKept was now number → AreMeetings plan table old was →
    AreMeetings plan table new now
meetings_on plan table old new was now number info places keeps is are here others h = λ n other list f a meeting g. elim (cases_eq n number) [
  | inl e ↦
      let same_info : info ≡ other = same_Some _ _ (sym is ∙ subst (λ k. fence_at table k ≡ Some other) e f) in
      let same_list : places ≡ list = same_places (IsArrival plan info.members info.nth) places list are (subst (λ i. AreArrivals plan i.members i.nth list) (sym same_info) a) in
      subst (λ l. IsMeeting new l meeting) same_list (here meeting (subst (λ k. slice_get now k ≡ Some meeting) e g))
  | inr ne ↦ elim (others n meeting ne g) [
    | inl kept ↦ meeting_kept old new list meeting keeps (h n other list f a meeting kept)
    | inr fresh ↦ nobody_met new list meeting fresh
  ]
]

-- only the clocks have changed
pub meetings_kept : (plan : Plan) (table : FenceTable) (old new : Clocks) (meetings : List Meeting) → Keeps old new → AreMeetings plan table old meetings → AreMeetings plan table new meetings
meetings_kept plan table old new meetings keeps h = λ n info list f a meeting g. meeting_kept old new list meeting keeps (h n info list f a meeting g)

-- what is kept stays right when an event is marked
pub growing_added : (plan : Plan) (table : FenceTable) (old new : Clocks) (meetings : List Meeting) (p n : ℕ) → p < process_count plan → AreClocks plan old →
    AreMeetings plan table old meetings → IsNextBase plan old p n →
    MarksNext old new p n → Notes plan (next_of old p) old new → AreClocks plan new × AreMeetings plan table new meetings
growing_added plan table old new meetings p n there marked kept next adds notes = (
  sound_added plan old new p n there marked next adds notes,
  meetings_kept plan table old new meetings (added_keeps plan old new p n there marked next adds) kept,
)

-- the three parts of a list of sources
pub awaited_edge : (plan : Plan) (y : Event) (previous awaited : Option Event) (xs : List Event) → AreSources plan y (option_to_list previous ++ (option_to_list awaited ++ xs)) → (z : Event) →
    awaited ≡ Some z → Edge plan z y
awaited_edge plan y None None xs are z e = absurd (cc)
awaited_edge plan y None (Some s) xs are z e = are.only 0 z e
awaited_edge plan y (Some p) None xs are z e = absurd (cc)
awaited_edge plan y (Some p) (Some s) xs are z e = are.only 1 z e

pub previous_edge : (plan : Plan) (y : Event) (previous awaited : Option Event) (xs : List Event) → AreSources plan y (option_to_list previous ++ (option_to_list awaited ++ xs)) → (z : Event) →
    previous ≡ Some z → Edge plan z y
previous_edge plan y None awaited xs are z e = absurd (cc)
previous_edge plan y (Some p) awaited xs are z e = are.only 0 z e

pub arrival_edge : (plan : Plan) (y : Event) (previous awaited : Option Event) (xs : List Event) → AreSources plan y (option_to_list previous ++ (option_to_list awaited ++ xs)) →
    (k : ℕ) (z : Event) →
    slice_get xs k ≡ Some z → Edge plan z y
arrival_edge plan y None None xs are k z e = are.only k z e
arrival_edge plan y None (Some s) xs are k z e = are.only (suc k) z e
arrival_edge plan y (Some p) None xs are k z e = are.only (suc k) z e
arrival_edge plan y (Some p) (Some s) xs are k z e = are.only (suc (suc k)) z e

abbrev pub IsPart : Option Event → Option Event → List Event → Event → Type 0
IsPart previous awaited xs z = (previous ≡ Some z) ⊎ ((awaited ≡ Some z) ⊎ ((k : ℕ) × (slice_get xs k ≡ Some z)))

part_of : (previous awaited : Option Event) (xs : List Event) (z : Event) (k : ℕ) → slice_get (option_to_list previous ++ (option_to_list awaited ++ xs)) k ≡ Some z → IsPart previous awaited xs z
part_of None None xs z k e = inr (inr (k, e))
part_of None (Some s) xs z k e = elim (at_head s z xs k e) [ inl same ↦ inr (inl (ap (λ v. Some v) (sym same))) | inr r ↦ inr (inr (r.0, r.2)) ]
part_of (Some p) None xs z k e = elim (at_head p z xs k e) [ inl same ↦ inl (ap (λ v. Some v) (sym same)) | inr r ↦ inr (inr (r.0, r.2)) ]
part_of (Some p) (Some s) xs z k e = elim (at_head p z (s ∷ xs) k e) [
  | inl same ↦ inl (ap (λ v. Some v) (sym same))
  | inr r ↦ elim (at_head s z xs r.0 r.2) [ inl same ↦ inr (inl (ap (λ v. Some v) (sym same))) | inr t ↦ inr (inr (t.0, t.2)) ]
]

pub source_part : (plan : Plan) (y : Event) (previous awaited : Option Event) (xs : List Event) → AreSources plan y (option_to_list previous ++ (option_to_list awaited ++ xs)) → (z : Event) →
    Edge plan z y → IsPart previous awaited xs z
source_part plan y previous awaited xs are z e = let w = are.all z e in part_of previous awaited xs z w.0 w.1

previous_is : (p n : ℕ) (z : Event) → previous_at p n ≡ Some z → (z.proc ≡ p) × (z.at < n)
previous_is p zero z e = absurd (cc)
previous_is p (suc i) z e = let same = same_Some _ _ e in (ap (λ (v : Event). v.proc) (sym same), let h : z.at ≡ i = ap (λ (v : Event). v.at) (sym same) in omega (arith, h))

-- the event before the next one is marked
previous_marked : (clocks : Clocks) (p : ℕ) (z : Event) → previous_at p (marked_count clocks p) ≡ Some z → z.at < marked_count clocks z.proc
previous_marked clocks p z e = let h = previous_is p _ z e in subst (λ q. z.at < marked_count clocks q) (sym h.0) h.1

-- the next event is ready
pub ready_is : (plan : Plan) (clocks : Clocks) (p : ℕ) (previous awaited : Option Event) (xs : List Event) → may_come plan (next_of clocks p) (kind plan (next_of clocks p)) ≡ true →
    AreSources plan (next_of clocks p) (option_to_list previous ++ (option_to_list awaited ++ xs)) → previous ≡ previous_of (next_of clocks p) →
    ((z : Event) → awaited ≡ Some z → z.at < marked_count clocks z.proc) → AreMarked clocks xs (length xs) → IsReady plan (marked_count clocks) (next_of clocks p)
ready_is plan clocks p previous awaited xs may are before awaited_marked marked = record {
  comes = may;
  sources = λ z e. elim (source_part plan (next_of clocks p) previous awaited xs are z e) [
    | inl is ↦ previous_marked clocks p z (sym before ∙ is)
    | inr other ↦ elim other [
      | inl is ↦ awaited_marked z is
      | inr w ↦ marked w.0 z (slice_get_within xs w.0 z w.1) w.1
    ]
  ];
}

-- the root of the base of what is marked
pub root_of : (clocks : Clocks) (z : Event) → z.at < marked_count clocks z.proc → (n : ℕ) × (root_at clocks z ≡ Some n)
root_of clocks z lt = go (items_at clocks.roots.items z.proc) z.at lt
  where
    go : (xs : List ℕ) (i : ℕ) → i < length xs → (n : ℕ) × (slice_get xs i ≡ Some n)
    go [] i lt = absurd (omega (arith, lt))
    go (x ∷ xs) zero lt = (x, refl)
    go (x ∷ xs) (suc i) lt = go xs i (omega (arith, lt))

-- what an event counts is counted by each event that counts it
counted_below : (plan : Plan) (clocks : Clocks) (z w : Event) → AreClocks plan clocks → z.at < marked_count clocks z.proc → w.at < marked_count clocks w.proc → z.at < clock_of clocks w z.proc →
    (q : ℕ) → clock_of clocks z q ≤ clock_of clocks w q
counted_below plan clocks z w sound mz mw lt q = elim (cases_lt (clock_of clocks w q) (clock_of clocks z q)) [
  | inl less ↦ absurd (
      let x : Event = record { proc = q; at = clock_of clocks w q } in
      let first : LeadsTo plan x z = (sound.told z mz).only x less in
      let second : LeadsTo plan z w = (sound.told w mw).only z lt in
      let more = (sound.told w mw).all x (leads_through first second) in
      omega (arith, more))
  | inr ge ↦ ge
]

pub before_fits : (clocks : Clocks) (previous : Option Event) → AreBased clocks → IsRoot clocks.trees (root_before clocks previous)
before_fits clocks None based = based.zeros.root
before_fits clocks (Some z) based = go (root_at clocks z) refl
  where
    go : (o : Option ℕ) → root_at clocks z ≡ o → IsRoot clocks.trees (root_or_zero o)
    go None e = based.zeros.root
    go (Some n) e = based.there z n e

-- where nothing is awaited, or the event before counts it, its base is raised
pub raised_none : (clocks : Clocks) (previous : Option Event) → IsRaised clocks previous None (base_at clocks (root_before clocks previous))
raised_none clocks previous = record {
  from = λ q n lt. inl lt;
  keeps = λ q. omega arith;
  covers = λ z e. absurd (cc);
}

pub raised_counted : (clocks : Clocks) (previous : Option Event) (z : Event) → Counts clocks previous z → IsRaised clocks previous (Some z) (base_at clocks (root_before clocks previous))
raised_counted clocks previous z counts = record {
  from = λ q n lt. inl lt;
  keeps = λ q. omega arith;
  covers = λ y e. inl (subst (λ v. Counts clocks previous v) (same_Some z y e) counts);
}

-- the base of the event before, raised to the clock of what is awaited
pub raised_here : (clocks : Clocks) (previous : Option Event) (z : Event) (base : ℕ → ℕ) → ((q : ℕ) → base q ≡ max (base_at clocks (root_before clocks previous) q) (clock_of clocks z q)) →
    IsRaised clocks previous (Some z) base
raised_here clocks previous z base each = record {
  from = λ q n lt. elim (cases_lt n (base_at clocks (root_before clocks previous) q)) [
    | inl was ↦ inl was
    | inr ge ↦ inr (let e = each q in (z, refl, omega (arith, lt, e, ge)))
  ];
  keeps = λ q. let e = each q in omega (arith, e);
  covers = λ w is. inr (λ q. subst (λ v. clock_of clocks v q ≤ base q) (same_Some _ _ is) (let e = each q in omega (arith, e)));
}

module _ (plan : Plan) (clocks : Clocks) (p : ℕ) (previous awaited : Option Event) (sound : AreClocks plan clocks)
    (are : AreSources plan (next_of clocks p) (option_to_list previous ++ (option_to_list awaited ++ []))) (before : previous ≡ previous_of (next_of clocks p))
    (awaited_marked : (z : Event) → awaited ≡ Some z → z.at < marked_count clocks z.proc) (base : ℕ → ℕ) (raised : IsRaised clocks previous awaited base) where
  previous_counted : (z : Event) → previous ≡ Some z → z.at < marked_count clocks z.proc
  previous_counted z is = previous_marked clocks p z (sym before ∙ is)

  -- the clock of the event before
  previous_over : (z : Event) → previous ≡ Some z → (q : ℕ) → clock_of clocks z q ≡ max (base_at clocks (root_before clocks previous) q) (own_of z q)
  previous_over z is q =
      let m = root_of clocks z (previous_counted z is) in
      rw (is, m.1) refl

  previous_from : (o : Option Event) → previous ≡ o → (q n : ℕ) → n < base_at clocks (root_before clocks o) q → (z : Event) × Edge plan z (next_of clocks p) × (n < clock_of clocks z q)
  previous_from None is q n lt = absurd (let none : base_at clocks 0 q ≡ 0 = sound.based.zeros.zeros q in omega (arith, lt, none))
  previous_from (Some z) is q n lt =
      let e = subst (λ o. clock_of clocks z q ≡ max (base_at clocks (root_before clocks o) q) (own_of z q)) is (previous_over z is q) in
      (z, previous_edge plan (next_of clocks p) previous awaited [] are z is, omega (arith, lt, e))

  previous_below : (z : Event) → previous ≡ Some z → (q : ℕ) → clock_of clocks z q ≤ max (base q) (own_of (next_of clocks p) q)
  previous_below z is q =
      let h = previous_is p (marked_count clocks p) z (sym before ∙ is) in
      let at : z.at < marked_count clocks p = h.1 in
      let own = own_rises z (next_of clocks p) q h.0 (omega (arith, at)) in
      let over = previous_over z is q in
      let keeps = raised.keeps q in
      omega (arith, own, over, keeps)

  counted_by : (o : Option Event) → previous ≡ o → (z : Event) → awaited ≡ Some z → Counts clocks o z → (q : ℕ) → clock_of clocks z q ≤ max (base q) (own_of (next_of clocks p) q)
  counted_by None is z w counts q = absurd counts
  counted_by (Some v) is z w counts q =
      let a = counted_below plan clocks z v sound (awaited_marked z w) (previous_counted v is) counts q in
      let b = previous_below v is q in
      omega (arith, a, b)

  awaited_below : (z : Event) → awaited ≡ Some z → (q : ℕ) → clock_of clocks z q ≤ max (base q) (own_of (next_of clocks p) q)
  awaited_below z is q = elim (raised.covers z is) [
    | inl counts ↦ counted_by previous refl z is counts q
    | inr le ↦ let h = le q in omega (arith, h)
  ]

  pub raised_base : IsBase plan (clock_of clocks) (next_of clocks p) base
  raised_base = record {
    from = λ q n lt. elim (raised.from q n lt) [
      | inl was ↦ previous_from previous refl q n was
      | inr w ↦ (w.0, awaited_edge plan (next_of clocks p) previous awaited [] are w.0 w.1, w.2)
    ];
    covers = λ q z e. elim (source_part plan (next_of clocks p) previous awaited [] are z e) [
      | inl is ↦ previous_below z is q
      | inr other ↦ elim other [
        | inl is ↦ awaited_below z is q
        | inr w ↦ absurd (let lt = slice_get_within {A = Event} [] w.0 z w.1 in omega (arith, lt))
      ]
    ];
  }

-- the base that a fence's arrivals are joined into
pub joined_base : (plan : Plan) (clocks : Clocks) (y : Event) (previous awaited : Option Event) (xs : List Event) (n : ℕ) →
    AreSources plan y (option_to_list previous ++ (option_to_list awaited ++ xs)) → awaited ≡ None → ((z : Event) → previous ≡ Some z → (k : ℕ) × (slice_get xs k ≡ Some z)) → IsJoined clocks xs n →
    IsBase plan (clock_of clocks) y (base_at clocks n)
joined_base plan clocks y previous awaited xs n are none among joined = record {
  from = λ q m lt. let w = joined.join.from q m lt in (w.1, arrival_edge plan y previous awaited xs are w.0 w.1 w.3, w.4);
  covers = λ q z e. elim (source_part plan y previous awaited xs are z e) [
    | inl is ↦ below q z (among z is)
    | inr other ↦ elim other [
      | inl is ↦ absurd (let bad = sym none ∙ is in cc)
      | inr w ↦ below q z w
    ]
  ];
}
  where
    below : (q : ℕ) (z : Event) → (k : ℕ) × (slice_get xs k ≡ Some z) → clock_of clocks z q ≤ max (base_at clocks n q) (own_of y q)
    below q z w = let c = joined.join.covers q w.0 z (slice_get_within xs w.0 z w.1) w.1 in omega (arith, c)

-- the same, once bases are added
pub next_grown : (plan : Plan) (old new : Clocks) (p n : ℕ) → AreBased old → IsGrown old new → IsReady plan (marked_count old) (next_of old p) → suc (marked_count old p) < 2 ^ 32 →
    IsRoot new.trees n → IsBase plan (clock_of old) (next_of old p) (base_at new n) → IsNextBase plan new p n
next_grown plan old new p n based grown ready few there base = record {
  ready = subst (λ ns. IsReady plan (λ q. length (items_at ns q)) (record { proc = p; at = length (items_at ns p) })) (sym grown.roots) ready;
  few = let e = count_grown old new based grown p in omega (arith, few, e);
  there = there;
  base = subst (λ ns. IsBase plan (clock_of new) (record { proc = p; at = length (items_at ns p) }) (base_at new n)) (sym grown.roots) (record {
    from = λ q m lt.
        let w = base.from q m lt in
        let e = keeps.clocks w.0 (ready.sources w.0 w.1) q in
        let at = w.2 in
        (w.0, w.1, omega (arith, at, e));
    covers = λ q z f.
        let e = keeps.clocks z (ready.sources z f) q in
        let c = base.covers q z f in
        omega (arith, c, e);
  });
}
  where
    keeps : Keeps old new
    keeps = grown_keeps old new based grown

-- the same of a base that is one by the new clocks
pub next_joined : (plan : Plan) (old new : Clocks) (p n : ℕ) → AreBased old → IsGrown old new → IsReady plan (marked_count old) (next_of old p) → suc (marked_count old p) < 2 ^ 32 →
    IsRoot new.trees n → IsBase plan (clock_of new) (next_of old p) (base_at new n) → IsNextBase plan new p n
next_joined plan old new p n based grown ready few there base = record {
  ready = subst (λ ns. IsReady plan (λ q. length (items_at ns q)) (record { proc = p; at = length (items_at ns p) })) (sym grown.roots) ready;
  few = let e = count_grown old new based grown p in omega (arith, few, e);
  there = there;
  base = subst (λ ns. IsBase plan (clock_of new) (record { proc = p; at = length (items_at ns p) }) (base_at new n)) (sym grown.roots) base;
}

-- the arrivals that the sources of the end of a fence name are those of that fence
pub arrivals_at_fence : (s : Scripts) (table : FenceTable) (y : Event) (number : ℕ) (xs : List Event) → IsLeaveOf s table y number →
    ((members : List ℕ) → kind (plan_of s) y ≡ Some (Leave members) → AreArrivals (plan_of s) members (arrivals (plan_of s) y.proc members y.at) xs) → (info : FenceInfo)
    × (fence_at table number ≡ Some info) × AreArrivals (plan_of s) info.members info.nth xs
arrivals_at_fence s table y number xs ends leave =
    let info = ends.met.fence in
    let members : info.members ≡ ends.members = ends.met.members ∙ ap fence_members ends.is in
    let count : arrivals (plan_of s) y.proc info.members y.at ≡ info.nth = sym (ap (arrivals_with info.members (arrivals (plan_of s) y.proc info.members y.at)) ends.is) ∙ ends.met.nth in
    let given = subst (λ m. AreArrivals (plan_of s) m (arrivals (plan_of s) y.proc m y.at) xs) (sym members) (leave ends.members ends.is) in
    (info, ends.met.there, subst (λ n. AreArrivals (plan_of s) info.members n xs) count given)

-- the event before the end of a fence is among them
pub previous_among : (s : Scripts) (table : FenceTable) (y : Event) (number : ℕ) (xs : List Event) (previous : Option Event) → IsLeaveOf s table y number →
    ((members : List ℕ) → kind (plan_of s) y ≡ Some (Leave members) → AreArrivals (plan_of s) members (arrivals (plan_of s) y.proc members y.at) xs) → previous ≡ previous_of y → (z : Event) →
    previous ≡ Some z → (k : ℕ) × (slice_get xs k ≡ Some z)
previous_among s table y number xs previous ends leave before z is =
    let members : ends.met.fence.members ≡ ends.members = ends.met.members ∙ ap fence_members ends.is in
    let member : is_member ends.members y.proc ≡ true = subst (λ m. is_member m y.proc ≡ true) members ends.met.member in
    (leave ends.members ends.is).all z (leave_after (plan_of s) y.proc y.at ends.members z ends.is member (sym before ∙ is))

-- the end of a fence awaits nothing else
no_leave : (plan : Plan) (y z : Event) (members : List ℕ) → kind plan y ≡ Some (Leave members) → AwaitsOnly plan y z → ⊥
no_leave plan y z members is (AwaitsCommit key get other once stores) = let bad = sym is ∙ get in cc
no_leave plan y z members is (AwaitsPublish name get once) = let bad = sym is ∙ get in cc

pub leave_awaits_none : (plan : Plan) (y : Event) (members : List ℕ) (awaited : Option Event) → kind plan y ≡ Some (Leave members) → FindsAwaited plan y awaited → awaited ≡ None
leave_awaits_none plan y members None is h = refl
leave_awaits_none plan y members (Some z) is h = absurd (no_leave plan y z members is (h.only z refl))

-- a base of the next event that ends no fence
pub next_unmet : (plan : Plan) (old new : Clocks) (p n : ℕ) (previous awaited : Option Event) → AreClocks plan old → may_come plan (next_of old p) (kind plan (next_of old p)) ≡ true →
    AreSources plan (next_of old p) (option_to_list previous ++ (option_to_list awaited ++ [])) → previous ≡ previous_of (next_of old p) →
    ((z : Event) → awaited ≡ Some z → z.at < marked_count old z.proc) → suc (marked_count old p) < 2 ^ 32 → IsGrown old new → IsRoot new.trees n →
    IsRaised old previous awaited (base_at new n) → IsNextBase plan new p n
next_unmet plan old new p n previous awaited sound may are before marked few grown there raised =
    next_grown plan old new p n sound.based grown
    (ready_is plan old p previous awaited [] may are before marked (λ k z lt e. absurd (omega (arith, lt))))
    few there
    (raised_base plan old p previous awaited sound are before marked (base_at new n) raised)

-- a base of the next event that ends a fence
pub next_met : (s : Scripts) (table : FenceTable) (old new : Clocks) (p n number : ℕ) (previous awaited : Option Event) (xs : List Event) → AreBased old →
    may_come (plan_of s) (next_of old p) (kind (plan_of s) (next_of old p)) ≡ true → AreSources (plan_of s) (next_of old p) (option_to_list previous ++ (option_to_list awaited ++ xs)) →
    previous ≡ previous_of (next_of old p) → FindsAwaited (plan_of s) (next_of old p) awaited →
    ((members : List ℕ) → kind (plan_of s) (next_of old p) ≡ Some (Leave members) → AreArrivals (plan_of s) members (arrivals (plan_of s) p members (marked_count old p)) xs) →
    IsLeaveOf s table (next_of old p) number → ((z : Event) → awaited ≡ Some z → z.at < marked_count old z.proc) → suc (marked_count old p) < 2 ^ 32 → IsGrown old new → IsJoined new xs n →
    IsNextBase (plan_of s) new p n
next_met s table old new p n number previous awaited xs based may are before waits leave ends marked few grown joined =
    next_joined (plan_of s) old new p n based grown
    (ready_is (plan_of s) old p previous awaited xs may are before marked (λ k z lt e. let m = joined.marked k z lt e in let same = count_grown old new based grown z.proc in omega (arith, m, same)))
    few joined.there
    (joined_base (plan_of s) new (next_of old p) previous awaited xs n are (leave_awaits_none (plan_of s) (next_of old p) ends.members awaited ends.is waits)
    (previous_among s table (next_of old p) number xs previous ends leave before) joined)

pub added_none : (meetings : List Meeting) → AreAdded meetings meetings
added_none meetings = λ n meeting e. inl e

-- one more meeting is there
pub added_push : (old meetings : List Meeting) (x : Meeting) → IsEmpty x → AreAdded old meetings → AreAdded old (meetings ++ x ∷ [])
added_push old meetings x fresh h = λ n meeting e. elim (slice_get_push_cases meetings x n meeting e) [
  | inl was ↦ h n meeting was
  | inr last ↦ inr (subst (λ m. IsEmpty m) last.1 fresh)
]

-- what stands at the number of a fence is right, once there is something
pub added_at : (clocks : Clocks) (old new : List Meeting) (number : ℕ) (places : List Event) → AreAdded old new → IsMeetingAt clocks old number places → IsMeetingAt clocks new number places
added_at clocks old new number places added h = λ meeting e. elim (added number meeting e) [
  | inl was ↦ h meeting was
  | inr fresh ↦ nobody_met clocks places meeting fresh
]

pub set_at : (clocks : Clocks) (meetings : List Meeting) (number : ℕ) (places : List Event) (now : Meeting) → number < length meetings → IsMeeting clocks places now →
    IsMeetingAt clocks (slice_set meetings number now) number places
set_at clocks meetings number places now there h = λ meeting e. subst (λ m. IsMeeting clocks places m) (same_Some _ _ (sym (slice_get-set_same meetings number now there) ∙ e)) h

pub set_others : (old meetings : List Meeting) (number : ℕ) (now : Meeting) → AreAdded old meetings → AreOthersKept old (slice_set meetings number now) number
set_others old meetings number now added = λ n meeting ne e. added n meeting (sym (slice_get-set_other meetings number n now ne) ∙ e)
