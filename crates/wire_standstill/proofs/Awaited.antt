-- The ranks for which a rank waits, from what its next event waits for.
use Rattle.std.proofs.Common.{◌≡◌, ◌≢◌, ◌∙◌, ◌<◌, ◌≤◌, ◌+◌, ◌⊎◌, ℕ, suc, zero, Bool, true, false, List, [], ◌∷◌, ◌++◌, length, map, Some, None, get_or, sym, ap, subst, arith, inl, inr, refl, drop, append_assoc}
use Rattle.std.specs.Prelude.{◌↔◌, Option, slice_get, slice_index_or, nat_lt, option_map, if◌then◌else◌}
use Rattle.std.specs.Option.{option_to_list}
use Rattle.std.specs.List.{Contains}
use Rattle.std.proofs.lemmas.Bool.{cases_lt, ltb-true, ltb-false}
use Rattle.std.proofs.lemmas.Option.{slice_get-get_or, get_or_from_slice_get, slice_get_within, slice_get_past, same_Some}
use Rattle.std.proofs.lemmas.List.Elements.{Contains-append_left, Contains-append_right, Contains-append_cases}
use Rattle.std.proofs.lemmas.List.{at_drop_more, append-nil}
use Rattle.std.proofs.Math.ListN.{drop_of_length-le}
use Rattle.wire_types.specs.declared.Event.{Event as CodeEvent}
use Rattle.wire_runs.specs.Plan.{event_of, Plan, Event, Kind, Publish, LookupWait, kind, kind_at, process_count}
use Rattle.wire_runs.proofs.Basics.{process_within}
use Rattle.wire_runs.specs.State.{State, next_event, next_kind, IsDone}
use Rattle.wire_runs.specs.Order.{Edge, Follows, Meets, Feeds, Announces}
use Rattle.std.specs.Prelude.{Vec}
use Rattle.std.specs.declared.alloc.Global.{Global}
use Rattle.wire_runs.proofs.Lists.{slice_get-append_left, slice_get_push_last}
use Rattle.wire_circles.specs.Circles.{waited_by, list_in}
use Rattle.wire_circles.specs.Deadlocks.{RankWaits, IsAwaited, Source, Publishes}
use Rattle.wire_plan.specs.Index.{AreSources, previous_at, ArePublishes}
use Rattle.wire_standstill.specs.Standstill.{undone_rank, undone_ranks, ArePublishesFor, AreWaitedBy, AreWaits}

-- a rank of an event that hasn't happened
undone_back : (s : State) (x : Event) (q : ℕ) (b : Bool) → nat_lt x.at (s.done x.proc) ≡ b → Contains (if b then [] else x.proc ∷ []) q → (x.proc ≡ q) × (IsDone s x → ⊥)
undone_back s x q true is (k, low, there) = absurd (omega (arith, low))
undone_back s x q false is (zero, low, there) = (there, λ done. let past : s.done x.proc ≤ x.at = ltb-false x.at (s.done x.proc) is in omega (arith, past, done))
undone_back s x q false is (suc k, low, there) = absurd (omega (arith, low))

undone_forth : (s : State) (x : Event) (q : ℕ) (b : Bool) → nat_lt x.at (s.done x.proc) ≡ b → x.proc ≡ q → (IsDone s x → ⊥) → Contains (if b then [] else x.proc ∷ []) q
undone_forth s x q true is rank to_come = absurd (to_come (ltb-true x.at (s.done x.proc) is))
undone_forth s x q false is rank to_come = (0, omega arith, rank)

-- one event more is looked at
pub pushed_more : (s : State) (events : List CodeEvent) (i : ℕ) (d : CodeEvent) (out new all : List ℕ) → i < length events →
    out ++ undone_ranks s (map event_of (drop i events)) ≡ all → new ≡ out ++ undone_rank s (event_of (get_or events i d)) →
    new ++ undone_ranks s (map event_of (drop (i + 1) events)) ≡ all
pushed_more s events i d out new all low so_far is =
    let rest = undone_ranks s (map event_of (drop (i + 1) events)) in
    ap (λ xs. xs ++ rest) is ∙ append_assoc out (undone_rank s (event_of (get_or events i d))) rest
    ∙ ap (λ xs. out ++ xs) (sym (at_drop_more (λ xs. undone_ranks s (map event_of xs)) events i d low)) ∙ so_far

pub pushed_all : (s : State) (events : List CodeEvent) (i : ℕ) (out all : List ℕ) → length events ≤ i → out ++ undone_ranks s (map event_of (drop i events)) ≡ all → out ≡ all
pushed_all s events i out all past so_far = sym (append-nil out) ∙ ap (λ xs. out ++ undone_ranks s (map event_of xs)) (sym (drop_of_length-le events past)) ∙ so_far

-- an event that is listed
pub record IsListed (s : State) (xs : List Event) (q : ℕ) : Type 0 where
  pub event : Event
  pub listed : Contains xs event
  pub rank : event.proc ≡ q
  pub to_come : IsDone s event → ⊥

contains_more : (x y : Event) (xs : List Event) → Contains xs y → Contains (x ∷ xs) y
contains_more x y xs listed = Contains-append_right (x ∷ []) xs y listed

pub ranks_back : (s : State) (xs : List Event) (q : ℕ) → Contains (undone_ranks s xs) q → IsListed s xs q
ranks_back s [] q (k, low, there) = absurd (omega (arith, low))
ranks_back s (x ∷ xs) q contains = elim (Contains-append_cases (undone_rank s x) (undone_ranks s xs) q contains) [
  | inl here ↦ let h = undone_back s x q (nat_lt x.at (s.done x.proc)) refl here in record { event = x; listed = (0, omega arith, refl); rank = h.0; to_come = h.1 }
  | inr there ↦ let h = ranks_back s xs q there in record { event = h.event; listed = contains_more x h.event xs h.listed; rank = h.rank; to_come = h.to_come }
]

pub ranks_forth : (s : State) (xs : List Event) (x : Event) (q : ℕ) → Contains xs x → x.proc ≡ q → (IsDone s x → ⊥) → Contains (undone_ranks s xs) q
ranks_forth s [] x q (k, low, there) rank to_come = absurd (omega (arith, low))
ranks_forth s (y ∷ ys) x q (zero, low, there) rank to_come =
    Contains-append_left (undone_rank s y) (undone_ranks s ys) q
    (undone_forth s y q (nat_lt y.at (s.done y.proc)) refl (ap (λ (z : Event). z.proc) there ∙ rank) (λ done. to_come (subst (IsDone s) there done)))
ranks_forth s (y ∷ ys) x q (suc k, low, there) rank to_come =
    Contains-append_right (undone_rank s y) (undone_ranks s ys) q (ranks_forth s ys x q (k, omega (arith, low), there) rank to_come)

-- the event before the next one of a rank has happened
previous_done : (s : State) (p n : ℕ) (x : Event) → Contains (option_to_list (previous_at p n)) x → n ≡ s.done p → IsDone s x
previous_done s p zero x (k, low, there) is = absurd (omega (arith, low))
previous_done s p (suc i) x (zero, low, there) is = let h : i < s.done p = omega (arith, is) in subst (IsDone s) there h
previous_done s p (suc i) x (suc k, low, there) is = absurd (omega (arith, low))

pub listed_as : (xs : List Event) (k : ℕ) (x : Event) → slice_get xs k ≡ Some x → Contains xs x
listed_as xs k x is = (k, slice_get_within xs k x is, get_or_from_slice_get xs k x x is)

pub placed : (xs : List Event) (x : Event) → Contains xs x → (k : ℕ) × (slice_get xs k ≡ Some x)
placed xs x (k, low, there) = (k, slice_get-get_or xs k x low ∙ ap Some there)

-- the ranks of what an event waits for, its publishes too, are those for which its rank waits
pub ranks_are : (plan : Plan) (s : State) (p : ℕ) (next : Kind) (single arrivals publishes : List Event) → next_kind plan s p ≡ Some next →
    AreSources plan (next_event s p) (option_to_list (previous_at p (s.done p)) ++ (single ++ arrivals)) →
    ArePublishesFor plan next publishes →
    (ranks : List ℕ) → ranks ≡ (undone_ranks s single ++ undone_ranks s arrivals) ++ undone_ranks s publishes → AreWaitedBy plan s p ranks
ranks_are plan s p next single arrivals publishes next_is sources named ranks is q = (back, forth)
  where
    before : List Event
    before = option_to_list (previous_at p (s.done p))

    as_source : (x : Event) → Contains (before ++ (single ++ arrivals)) x → x.proc ≡ q → (IsDone s x → ⊥) → RankWaits plan s p q
    as_source x listed rank to_come =
        let at = placed (before ++ (single ++ arrivals)) x listed in
        record { event = x; rank = rank; awaited = Source (sources.only at.0 x at.1); to_come = to_come }

    back : Contains ranks q → RankWaits plan s p q
    back contains = elim (Contains-append_cases (undone_ranks s single ++ undone_ranks s arrivals) (undone_ranks s publishes) q (subst (λ xs. Contains xs q) is contains)) [
      | inl some ↦ elim (Contains-append_cases (undone_ranks s single) (undone_ranks s arrivals) q some) [
        | inl one ↦ let h = ranks_back s single q one in
            as_source h.event (Contains-append_right before (single ++ arrivals) h.event (Contains-append_left single arrivals h.event h.listed)) h.rank h.to_come
        | inr many ↦ let h = ranks_back s arrivals q many in
            as_source h.event (Contains-append_right before (single ++ arrivals) h.event (Contains-append_right single arrivals h.event h.listed)) h.rank h.to_come
      ]
      | inr published ↦
          let h = ranks_back s publishes q published in
          let t = named.only h.event h.listed in
          record { event = h.event; rank = h.rank; awaited = Publishes t.0 (next_is ∙ ap Some t.1) t.2; to_come = h.to_come }
    ]

    by_source : (w : RankWaits plan s p q) → Edge plan w.event (next_event s p) → Contains ranks q
    by_source w edge =
        let at = sources.all w.event edge in
        elim (Contains-append_cases before (single ++ arrivals) w.event (listed_as (before ++ (single ++ arrivals)) at.0 w.event at.1)) [
          | inl first ↦ absurd (w.to_come (previous_done s p (s.done p) w.event first refl))
          | inr some ↦ subst (λ xs. Contains xs q) (sym is) (Contains-append_left (undone_ranks s single ++ undone_ranks s arrivals) (undone_ranks s publishes) q
              (elim (Contains-append_cases single arrivals w.event some) [
                | inl one ↦ Contains-append_left (undone_ranks s single) (undone_ranks s arrivals) q (ranks_forth s single w.event q one w.rank w.to_come)
                | inr many ↦ Contains-append_right (undone_ranks s single) (undone_ranks s arrivals) q (ranks_forth s arrivals w.event q many w.rank w.to_come)
              ]))
        ]

    by_kind : (w : RankWaits plan s p q) → IsAwaited plan s p w.event → Contains ranks q
    by_kind w (Source edge) = by_source w edge
    by_kind w (Publishes name waits publishes_it) =
        subst (λ xs. Contains xs q) (sym is) (Contains-append_right (undone_ranks s single ++ undone_ranks s arrivals) (undone_ranks s publishes) q
        (ranks_forth s publishes w.event q (named.all w.event name (same_Some next (LookupWait name) (sym next_is ∙ waits)) publishes_it) w.rank w.to_come))

    forth : RankWaits plan s p q → Contains ranks q
    forth w = by_kind w w.awaited

-- a rank without a next event waits for nobody
follows_done : (s : State) (p : ℕ) (x : Event) → x.proc ≡ p → suc x.at ≡ s.done p → IsDone s x
follows_done s p x same next = let h : x.at < s.done p = omega (arith, next) in subst (λ r. x.at < s.done r) (sym same) h

pub none_awaited : (plan : Plan) (s : State) (p : ℕ) → next_kind plan s p ≡ None → AreWaitedBy plan s p []
none_awaited plan s p none q = (λ contains. absurd (omega (arith, contains.1)), λ w. absurd (never w w.awaited))
  where
    never_edge : (w : RankWaits plan s p q) → Edge plan w.event (next_event s p) → ⊥
    never_edge w (Follows same next) = w.to_come (follows_done s p w.event same next)
    never_edge w (Meets members is met) = cc (none, is)
    never_edge w (Feeds key is other once stores) = cc (none, is)
    never_edge w (Announces name is once) = cc (none, is)

    never : (w : RankWaits plan s p q) → IsAwaited plan s p w.event → ⊥
    never w (Source edge) = never_edge w edge
    never w (Publishes name is publishes) = cc (none, is)

-- the publishes that the plan lists for a name
pub published : (plan : Plan) (name : ℕ) (next : Kind) (publishes : List Event) → next ≡ LookupWait name → ArePublishes plan name publishes → ArePublishesFor plan next publishes
published plan name next publishes is are = record {
  only = λ x listed. let at = placed publishes x listed in (name, is, are.only at.0 x at.1);
  all = λ x other waits publishes_it.
      let same : other ≡ name = cc (is, waits) in
      let at = are.all x (publishes_it ∙ ap (λ n. Some (Publish n)) same) in listed_as publishes at.0 x at.1;
}

-- an empty table says for whom those wait who wait for nobody, and a table with one list more
pub table_more : (plan : Plan) (s : State) (waits new : List (Vec ℕ Global)) (list : Vec ℕ Global) (n : ℕ) → length waits ≡ n →
    ((p : ℕ) → p < n → AreWaitedBy plan s p (waited_by waits p)) → AreWaitedBy plan s n list.items → new ≡ waits ++ list ∷ [] →
    (p : ℕ) → p < n + 1 → AreWaitedBy plan s p (waited_by new p)
table_more plan s waits new list n size so_far one is p low = subst (λ t. AreWaitedBy plan s p (waited_by t p)) (sym is) (elim (cases_lt p n) [
  | inl before ↦ subst (AreWaitedBy plan s p) (ap list_in (sym (slice_get-append_left waits (list ∷ []) p (omega (arith, before, size))))) (so_far p before)
  | inr here ↦
      let last : p ≡ n = omega (arith, here, low) in
      subst (λ k. AreWaitedBy plan s k (waited_by (waits ++ list ∷ []) k)) (sym last)
      (subst (AreWaitedBy plan s n) (ap list_in (sym (ap (slice_get (waits ++ list ∷ [])) (sym size) ∙ slice_get_push_last waits list))) one)
])

-- past the ranks of the plan there is no call
pub no_call : (plan : Plan) (s : State) (p : ℕ) → process_count plan ≤ p → next_kind plan s p ≡ None
no_call plan s p past = go (next_kind plan s p) refl
  where
    go : (k : Option Kind) → next_kind plan s p ≡ k → k ≡ None
    go None is = refl
    go (Some k) is = absurd (omega (arith, past, process_within plan p (s.done p) k is))

pub table_whole : (plan : Plan) (s : State) (waits : List (Vec ℕ Global)) (n : ℕ) → length waits ≡ n → process_count plan ≤ n →
    ((p : ℕ) → p < n → AreWaitedBy plan s p (waited_by waits p)) → AreWaits plan s waits
table_whole plan s waits n size most each p = elim (cases_lt p n) [
  | inl low ↦ each p low
  | inr past ↦ subst (AreWaitedBy plan s p) (ap list_in (sym (slice_get_past waits p (omega (arith, past, size))))) (none_awaited plan s p (no_call plan s p (omega (arith, past, most))))
]
