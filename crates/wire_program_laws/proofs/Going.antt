-- A run of a program goes on by each step that a process can take.
use Rattle.std.proofs.Common.{◌≡◌, ℕ, zero, suc, ◌+◌, ◌<◌, ◌≤◌, ◌⊎◌, List, [], ◌∷◌, ◌++◌, length, get_or, true, false, ◌&&◌, ◌==◌, Option, Some, None, inl, inr, refl, sym, ap, ◌∙◌, subst, arith, nat_le, leb-true, eq-eqb, ne_eqb, eqb-true, append-nil, append_assoc}
use Rattle.std.specs.Prelude.{slice_get, option_to_list, if◌then◌else◌}
use Rattle.std.proofs.lemmas.List.{length-append}
use Rattle.std.proofs.lemmas.Bool.{cond-true, cond-false, cases_eq, cases_lt, cases_Bool, and_parts, and_from, and_left, and_right, true≢false}
use Rattle.std.proofs.lemmas.Option.{slice_get-get_or}
use Rattle.wire_runs.specs.Plan.{Plan, Process, Event, Call, CallPut, CallCommit, CallFence, CallGet, CallGetNow, CallPublish, CallLookup, CallLookupWait, CallUnpublish, CallUnpublishAll, CallFixed}
use Rattle.wire_runs.specs.Plan.{Kind, Leave, kind, kinds, kinds_of, kind_at, event_count, node_of, process_count, process_node}
use Rattle.wire_runs.specs.Fences.{arrivals, is_member, is_complete}
use Rattle.wire_runs.specs.State.{Answer, Silent, Value, Published, State, start, next_event, next_kind, IsDone}
use Rattle.wire_runs.specs.Step.{reply, is_enabled, step, IsInterleaving, run, run_from, IsEnd, IsReachable}
use Rattle.wire_runs.specs.Laws.{HasOneEnd}
use Rattle.wire_runs.specs.Ends.{call_size, calls_of, process_calls}
use Rattle.wire_runs.proofs.Basics.{list_all_at_member, event_within, process_within}
use Rattle.wire_runs.proofs.Brought.{complete_more}
use Rattle.wire_runs.proofs.Due.{reachable_sound, has_event, done_same, done_other, done_was, done_up}
use Rattle.wire_runs.proofs.Known.{replies_same, replies_other}
use Rattle.wire_runs.proofs.Onward.{reached_on}
use Rattle.wire_runs.proofs.Runs.{run_push, legal_push}
use Rattle.wire_runs.proofs.Lists.{slice_get-append_left}
use Rattle.wire_program_laws.specs.Runs.{IsSameHead}
use Rattle.wire_program_laws.specs.Programs.{Text, Told, Program, event, arrival_at, heard_from, heard, told, AreChosen, IsRunOf}
use Rattle.wire_program_laws.specs.Going.{HasRun, RunsStart, RunsGoOn, SameInterleavings}
use Rattle.wire_program_laws.proofs.Ahead.{enabled_same, step_same, arrivals_same}
use Rattle.wire_program_laws.proofs.Named.{reachable_named}
use Rattle.wire_program_laws.proofs.Chosen.{first_call, kinds_of_plan}
use Rattle.wire_program_laws.proofs.Programs.{map_alike, arrival_low, arrival_on, programs_tell}

-- a plan with more calls of p at its end
added : ℕ → List Call → List Process → List Process
added p more [] = []
added zero more (x ∷ xs) = record { node = x.node; calls = x.calls ++ more } ∷ xs
added (suc p) more (x ∷ xs) = x ∷ added p more xs

added_count : (p : ℕ) (more : List Call) (xs : List Process) → length (added p more xs) ≡ length xs
unfolding added
added_count p more [] = refl
added_count zero more (x ∷ xs) = refl
added_count (suc p) more (x ∷ xs) = ap suc (added_count p more xs)

added_node : (p q : ℕ) (more : List Call) (xs : List Process) → process_node (slice_get (added p more xs) q) ≡ process_node (slice_get xs q)
unfolding added
added_node p q more [] = refl
added_node zero zero more (x ∷ xs) = refl
added_node zero (suc q) more (x ∷ xs) = refl
added_node (suc p) zero more (x ∷ xs) = refl
added_node (suc p) (suc q) more (x ∷ xs) = added_node p q more xs

added_there : (p : ℕ) (more : List Call) (xs : List Process) → p < length xs → process_calls (slice_get (added p more xs) p) ≡ process_calls (slice_get xs p) ++ more
unfolding added
added_there p more [] lt = absurd (omega (arith, lt))
added_there zero more (x ∷ xs) lt = refl
added_there (suc p) more (x ∷ xs) lt = added_there p more xs (omega (arith, lt))

added_other : (p q : ℕ) (more : List Call) (xs : List Process) → (q ≡ p → ⊥) → process_calls (slice_get (added p more xs) q) ≡ process_calls (slice_get xs q)
unfolding added
added_other p q more [] ne = refl
added_other zero zero more (x ∷ xs) ne = absurd (ne refl)
added_other zero (suc q) more (x ∷ xs) ne = refl
added_other (suc p) zero more (x ∷ xs) ne = refl
added_other (suc p) (suc q) more (x ∷ xs) ne = added_other p q more xs (λ e. ne (ap suc e))

all_calls : (xs ys : List Call) → kinds_of (xs ++ ys) ≡ kinds_of xs ++ kinds_of ys
all_calls [] ys = refl
all_calls (c ∷ xs) ys =
    first_call c (xs ++ ys) ∙ ap (λ ks. kinds_of (c ∷ []) ++ ks) (all_calls xs ys) ∙ sym (append_assoc (kinds_of (c ∷ [])) (kinds_of xs) (kinds_of ys))
    ∙ ap (λ ks. ks ++ kinds_of ys) (sym (first_call c xs))

size_positive : (call : Call) → 0 < call_size call
size_positive (CallPut key scope) = omega arith
size_positive CallCommit = omega arith
size_positive (CallFence members collect) = omega arith
size_positive (CallGet owner key) = omega arith
size_positive (CallGetNow owner key) = omega arith
size_positive (CallPublish name) = omega arith
size_positive (CallLookup name) = omega arith
size_positive (CallLookupWait name) = omega arith
size_positive (CallUnpublish name) = omega arith
size_positive CallUnpublishAll = omega arith
size_positive (CallFixed r) = omega arith

-- the arrival that is found among the first n events is one of them
arrival_below : (plan : Plan) (m : ℕ) (members : List ℕ) (j n : ℕ) → j ≤ arrivals plan m members n → 0 < n → arrival_at plan m members j n < n
arrival_below plan m members j zero there pos = absurd (omega (arith, pos))
arrival_below plan m members j (suc n) there pos = elim (cases_Bool (nat_le j (arrivals plan m members n))) [
  | inl t ↦ (let e : arrival_at plan m members j (suc n) ≡ arrival_at plan m members j n = cond-true _ _ _ t in let low = arrival_low plan m members j n in omega (arith, e, low))
  | inr f ↦ (let e : arrival_at plan m members j (suc n) ≡ n = cond-false _ _ _ f in omega (arith, e))
]

-- a fence that a process has left is complete
Left : Plan → State → Type 0
Left plan s = (y : Event) (members : List ℕ) → IsDone s y → kind plan y ≡ Some (Leave members) → is_complete plan s.done members (arrivals plan y.proc members y.at) ≡ true

left_step : (plan : Plan) (s : State) (q : ℕ) → Left plan s → is_enabled plan s q ≡ true → Left plan (step plan s q)
unfolding Left
left_step plan s q l may y members d is = complete_more plan s.done (step plan s q).done members (arrivals plan y.proc members y.at) (done_up plan s q) (elim (done_was plan s q y d) [
  | inl was ↦ l y members was is
  | inr e ↦
      (let now : next_kind plan s q ≡ Some (Leave members) = subst (λ z. kind plan z ≡ Some (Leave members)) e is in
      subst (λ (z : Event). is_complete plan s.done members (arrivals plan z.proc members z.at) ≡ true) (sym e) (rw now at may))
])

left_run : (plan : Plan) (w : List ℕ) (s : State) → Left plan s → IsInterleaving plan s w → Left plan (run_from plan s w)
left_run plan [] s l h = l
left_run plan (q ∷ w) s l h = left_run plan w (step plan s q) (left_step plan s q l h.0) h.1

left_all : (plan : Plan) (s : State) → IsReachable plan s → Left plan s
unfolding Left
left_all plan s r = subst (λ t. Left plan t) r.2 (left_run plan r.0 start (λ y members d. absurd (omega (arith, d))) r.1)

-- an element of the front of a list that is longer
front_of : (xs ys : List Answer) (i : ℕ) (z : Answer) → i < length xs → get_or (xs ++ ys) i z ≡ get_or xs i z
front_of [] ys i z lt = absurd (omega (arith, lt))
front_of (x ∷ xs) ys zero z lt = refl
front_of (x ∷ xs) ys (suc i) z lt = front_of xs ys i z (omega (arith, lt))

told_front : (plan : Plan) (text : Event → Text) (xs ys : List Answer) (q n : ℕ) → ((i : ℕ) → i < n → get_or xs i Silent ≡ get_or ys i Silent) → told plan text xs q n ≡ told plan text ys q n
told_front plan text xs ys q zero same = refl
told_front plan text xs ys q (suc n) same = λ t. told_front plan text xs ys q n (λ i lt. same i (omega (arith, lt))) t ++ record {
  answer = same n (omega arith) t;
  texts = heard plan text (event q n) (kind_at plan q n) (same n (omega arith) t);
} ∷ []

module _ (program : Program) (a : Plan) (text : Event → Text) (v : List ℕ) (p : ℕ) (first : IsRunOf program a text v) (may : is_enabled a (run a v) p ≡ true) where
  abbrev before : State
  before = run a v

  abbrev after : State
  after = step a (run a v) p

  abbrev d : ℕ
  d = suc ((run a v).done p)

  legal : IsReachable a before
  legal = (v, first.is_run, refl)

  legal_after : IsReachable a after
  legal_after = reached_on a before (p ∷ []) legal (may, tt)

  abbrev now_told : List Told
  now_told = told a text (after.replies p) p d

  abbrev chosen_now : Option Call → List Call
  chosen_now None = []
  chosen_now (Some c) = c ∷ []

  abbrev more : List Call
  more = if d == event_count a p then chosen_now (program.choose p now_told) else []

  abbrev larger : Plan
  larger = record { processes = added p more a.processes; keep = a.keep }

  abbrev new_text : Event → Text
  new_text x = if (x.proc == p) && (x.at == d) then program.says p now_told else text x

  there : p < process_count a
  there = let e = has_event a before p (next_kind a before p) refl may in process_within a p (before.done p) e.0 e.1

  head : IsSameHead a larger
  unfolding node_of
  head = record { count = sym (added_count p more a.processes); nodes = λ q. sym (added_node p q more a.processes); keep = refl }

  calls_there : calls_of larger p ≡ calls_of a p ++ more
  calls_there = added_there p more a.processes there

  calls_other : (q : ℕ) → (q ≡ p → ⊥) → calls_of larger q ≡ calls_of a q
  calls_other q ne = added_other p q more a.processes ne

  kinds_larger : (q : ℕ) → (ks : List Kind) × (kinds larger q ≡ kinds a q ++ ks)
  kinds_larger q = elim (cases_eq q p) [
    | inl e ↦ (
      kinds_of more,
      kinds_of_plan larger q ∙ ap (λ r. kinds_of (calls_of larger r)) e ∙ ap kinds_of calls_there ∙ all_calls (calls_of a p) more
          ∙ ap (λ ks. ks ++ kinds_of more) (ap (λ r. kinds_of (calls_of a r)) (sym e) ∙ sym (kinds_of_plan a q)),
    )
    | inr ne ↦ ([], kinds_of_plan larger q ∙ ap kinds_of (calls_other q ne) ∙ sym (kinds_of_plan a q) ∙ sym (append-nil (kinds a q)))
  ]

  kind_same : (q i : ℕ) → i < event_count a q → kind_at a q i ≡ kind_at larger q i
  unfolding kind_at event_count
  kind_same q i lt = let k = kinds_larger q in sym (ap (λ ks. slice_get ks i) k.1 ∙ slice_get-append_left (kinds a q) k.0 i lt)

  count_more : (q : ℕ) → event_count a q ≤ event_count larger q
  unfolding event_count
  count_more q = let k = kinds_larger q in let l = length-append (kinds a q) k.0 in let e = ap length k.1 in omega (arith, l, e)

  -- the same steps lead to the same state
  module _ (z : State) (r : IsReachable a z) where
    in_a : (q : ℕ) → z.done q ≤ event_count a q
    in_a = (reachable_sound a z r).within

    in_larger : (q : ℕ) → z.done q ≤ event_count larger q
    in_larger q = let l = in_a q in let m = count_more q in omega (arith, l, m)

    so_far : (q i : ℕ) → i < z.done q → kind_at a q i ≡ kind_at larger q i
    so_far q i lt = kind_same q i (let l = in_a q in omega (arith, lt, l))

    next_same : (q : ℕ) → is_enabled a z q ≡ true → next_kind a z q ≡ next_kind larger z q
    next_same q h = let e = has_event a z q (next_kind a z q) refl h in kind_same q (z.done q) (event_within a q (z.done q) e.0 e.1)

    may_too : (q : ℕ) → is_enabled a z q ≡ true → is_enabled larger z q ≡ true
    may_too q h = sym (enabled_same a larger head z in_a in_larger so_far q (next_same q h)) ∙ h

    does_too : (q : ℕ) → is_enabled a z q ≡ true → step a z q ≡ step larger z q
    does_too q h = step_same a larger head z in_a in_larger so_far q (next_same q h)

    counts_too : (q : ℕ) (members : List ℕ) (n : ℕ) → n ≤ z.done q → arrivals a q members n ≡ arrivals larger q members n
    counts_too = arrivals_same a larger head z in_a in_larger so_far

  runs_too : (w : List ℕ) (z : State) → IsReachable a z → IsInterleaving a z w → IsInterleaving larger z w × (run_from a z w ≡ run_from larger z w)
  runs_too [] z r h = (tt, refl)
  runs_too (q ∷ w) z r h =
      let does = does_too z r q h.0 in
      let rest = runs_too w (step a z q) (reached_on a z (q ∷ []) r (h.0, tt)) h.1 in
      ((may_too z r q h.0, subst (λ t. IsInterleaving larger t w) does rest.0), rest.1 ∙ ap (λ t. run_from larger t w) does)

  whole : IsInterleaving larger start (v ++ p ∷ []) × (after ≡ run larger (v ++ p ∷ []))
  whole =
      let r = runs_too (v ++ p ∷ []) start ([], tt, refl) (legal_push a start v p first.is_run may) in
      (r.0, sym (run_push a start v p) ∙ r.1)

  in_whole : run larger (v ++ p ∷ []) ≡ after
  in_whole = sym whole.1

  done_now_is : after.done p ≡ d
  done_now_is = done_same a before p

  left_all_here : (y : Event) (members : List ℕ) → IsDone after y → kind a y ≡ Some (Leave members) → is_complete a after.done members (arrivals a y.proc members y.at) ≡ true
  unfolding Left
  left_all_here = left_all a after legal_after

  answer_there : (q n : ℕ) → n < after.done q → slice_get (after.replies q) n ≡ Some (get_or (after.replies q) n Silent)
  answer_there q n lt = slice_get-get_or (after.replies q) n Silent (let l = (reachable_named a after legal_after).lengths q in omega (arith, lt, l))

  done_rises : (q : ℕ) → before.done q ≤ after.done q
  done_rises = done_up a before p

  -- what is said by an event that is done stays
  unchanged : (x : Event) → IsDone after x → new_text x ≡ text x
  unchanged x lt = cond-false _ _ _ (elim (cases_eq x.proc p) [
    | inl e ↦
        (let same : after.done x.proc ≡ after.done p = ap after.done e in
        let now = done_now_is in
        let not_now : x.at ≡ d → ⊥ = λ f. absurd (omega (arith, f, lt, same, now)) in
        and_right (x.proc == p) (x.at == d) (ne_eqb x.at d not_now))
    | inr ne ↦ and_left (x.proc == p) (x.at == d) (ne_eqb x.proc p ne)
  ])

  -- the answers before stay
  longer : (q n : ℕ) → n ≤ before.done q → told a text (before.replies q) q n ≡ told a text (after.replies q) q n
  longer q n le = told_front a text _ _ q n (λ i lt. elim (cases_eq q p) [
    | inl e ↦
        (let len = (reachable_named a before legal).lengths q in
        let now : after.replies q ≡ before.replies q ++ reply a before (next_event before p) (kind a (next_event before p)) ∷ [] =
        subst (λ r. after.replies r ≡ before.replies r ++ reply a before (next_event before p) (kind a (next_event before p)) ∷ []) (sym e) (replies_same a before p) in
        sym (ap (λ xs. get_or xs i Silent) now ∙ front_of (before.replies q) _ i Silent (omega (arith, lt, le, len))))
    | inr ne ↦ sym (ap (λ xs. get_or xs i Silent) (replies_other a before p q ne))
  ])

  found : (m : ℕ) (members : List ℕ) (j n : ℕ) → n ≤ after.done m → arrival_at larger m members j n ≡ arrival_at a m members j n
  found m members j zero le = refl
  found m members j (suc n) le =
      ap (λ k. if nat_le j k then arrival_at larger m members j n else n) (sym (counts_too after legal_after m members n (omega (arith, le))))
      ∙ ap (λ k. if nat_le j (arrivals a m members n) then k else n) (found m members j n (omega (arith, le)))

  -- what a member gave to a fence that is complete
  gave : (members : List ℕ) (j m : ℕ) → is_complete a after.done members j ≡ true → is_member members m ≡ true →
      new_text (event m (arrival_at larger m members j (event_count larger m))) ≡ text (event m (arrival_at a m members j (event_count a m)))
  gave members j m all i =
      let here = leb-true _ _ (list_all_at_member _ members m all i) in
      let count = counts_too after legal_after m members (after.done m) (omega arith) in
      ap (λ n. new_text (event m n)) (arrival_on larger m members j (after.done m) (event_count larger m) (omega (arith, here, count)) (in_larger after legal_after m))
      ∙ ap (λ n. new_text (event m n)) (found m members j (after.done m) (omega arith))
      ∙ stays here
      ∙ ap (λ n. text (event m n)) (sym (arrival_on a m members j (after.done m) (event_count a m) here (in_a after legal_after m)))
    where
      elsewhere : after.done m ≤ 0 → ((m == p) && (arrival_at a m members j (after.done m) == d)) ≡ false
      elsewhere none_yet = elim (cases_eq m p) [
        | inl e ↦ absurd (let same : after.done m ≡ after.done p = ap after.done e in let now = done_now_is in omega (arith, none_yet, same, now))
        | inr ne ↦ and_left (m == p) (arrival_at a m members j (after.done m) == d) (ne_eqb m p ne)
      ]

      stays : j ≤ arrivals a m members (after.done m) → new_text (event m (arrival_at a m members j (after.done m))) ≡ text (event m (arrival_at a m members j (after.done m)))
      stays here = elim (cases_lt 0 (after.done m)) [
        | inl pos ↦ unchanged (event m (arrival_at a m members j (after.done m))) (arrival_below a m members j (after.done m) here pos)
        | inr none_yet ↦ cond-false ((m == p) && (arrival_at a m members j (after.done m) == d)) (program.says p now_told)
            (text (event m (arrival_at a m members j (after.done m)))) (elsewhere none_yet)
      ]

  hears : (q n : ℕ) (o : Option Kind) → n < after.done q → kind_at a q n ≡ o
      → heard larger new_text (event q n) o (get_or (after.replies q) n Silent) ≡ heard a text (event q n) o (get_or (after.replies q) n Silent)
  hears q n (Some (Leave members)) lt is =
      let all = left_all_here (event q n) members lt is in
      map_alike _ _ members (λ m i.
      ap (λ j. new_text (event m (arrival_at larger m members j (event_count larger m)))) (sym (counts_too after legal_after q members n (omega (arith, lt))))
      ∙ gave members (arrivals a q members n) m all i)
  hears q n o lt is = by_answer (get_or (after.replies q) n Silent) refl
    where
      by_answer : (answer : Answer) → get_or (after.replies q) n Silent ≡ answer → heard_from new_text answer ≡ heard_from text answer
      by_answer (Value put) e = λ t. unchanged put ((reachable_named a after legal_after).puts (event q n) put (answer_there q n lt ∙ ap Some e)) t ∷ []
      by_answer (Published z) e = λ t. unchanged z ((reachable_named a after legal_after).publishes (event q n) z (answer_there q n lt ∙ ap Some e)) t ∷ []
      by_answer _ e = refl

  told_too : (q n : ℕ) → n ≤ after.done q → told larger new_text (after.replies q) q n ≡ told a text (after.replies q) q n
  told_too q zero le = refl
  told_too q (suc n) le = λ t. told_too q n (omega (arith, le)) t ++ record {
    answer = get_or (after.replies q) n Silent;
    texts = (ap (λ o. heard larger new_text (event q n) o (get_or (after.replies q) n Silent)) (sym (kind_same q n (let l = in_a after legal_after q in omega (arith, le, l))))
        ∙ hears q n (kind_at a q n) (omega (arith, le)) refl) t;
  } ∷ []

  all_alike : (q n : ℕ) → n ≤ before.done q → told larger new_text (after.replies q) q n ≡ told a text (before.replies q) q n
  all_alike q n le = told_too q n (let up = done_rises q in omega (arith, le, up)) ∙ sym (longer q n le)

  -- the calls of another process
  keep_chosen : (q n : ℕ) (calls : List Call) → (q ≡ p → ⊥) → n ≤ before.done q → AreChosen program a text before q n calls → AreChosen program larger new_text after q n calls
  keep_chosen q n [] ne le x = ap (program.choose q) (all_alike q n le) ∙ x
  keep_chosen q n (c ∷ cs) ne le x = (ap (program.choose q) (all_alike q n le) ∙ x.0, go x.1 (λ up rest. keep_chosen q (n + call_size c) cs ne up rest))
    where
      go : ((before.done q < n + call_size c) × (cs ≡ [])) ⊎ ((n + call_size c ≤ before.done q) × AreChosen program a text before q (n + call_size c) cs)
          → (n + call_size c ≤ before.done q → AreChosen program a text before q (n + call_size c) cs → AreChosen program larger new_text after q (n + call_size c) cs) →
          ((after.done q < n + call_size c) × (cs ≡ [])) ⊎ ((n + call_size c ≤ after.done q) × AreChosen program larger new_text after q (n + call_size c) cs)
      go (inl short) rest = inl (let low = short.0 in let same = done_other a before p q ne in omega (arith, low, same), short.1)
      go (inr over) rest = inr (let up = over.0 in let same = done_other a before p q ne in omega (arith, up, same), rest over.0 over.1)

  -- the next call of p, if it makes one
  next_chosen : (n : ℕ) (o : Option Call) → n ≡ d → program.choose p now_told ≡ o → AreChosen program larger new_text after p n (chosen_now o)
  next_chosen n None e is = ap (program.choose p) (told_too p n (let now = done_now_is in omega (arith, e, now)) ∙ ap (told a text (after.replies p) p) e) ∙ is
  next_chosen n (Some c) e is = (
    ap (program.choose p) (told_too p n (let now = done_now_is in omega (arith, e, now)) ∙ ap (told a text (after.replies p) p) e) ∙ is,
    inl (let now = done_now_is in let pos = size_positive c in omega (arith, e, now, pos), refl),
  )

  size_of : (c : Call) (cs : List Call) → length (kinds_of (c ∷ cs)) ≡ call_size c + length (kinds_of cs)
  size_of c cs = ap length (first_call c cs) ∙ length-append (kinds_of (c ∷ [])) (kinds_of cs)

  grown : (n : ℕ) (calls : List Call) → n ≤ before.done p → n + length (kinds_of calls) ≡ event_count a p → AreChosen program a text before p n calls
      → AreChosen program larger new_text after p n (calls ++ more)
  grown n [] le count x = absurd (let l = in_a after legal_after p in let now = done_now_is in omega (arith, le, count, l, now))
  grown n (c ∷ cs) le count x = (
    ap (program.choose p) (all_alike p n le) ∙ x.0,
    go x.1 (λ up rest. grown (n + call_size c) cs up (let z = size_of c cs in omega (arith, count, z)) rest),
  )
    where
      go : ((before.done p < n + call_size c) × (cs ≡ [])) ⊎ ((n + call_size c ≤ before.done p) × AreChosen program a text before p (n + call_size c) cs)
          → (n + call_size c ≤ before.done p → AreChosen program a text before p (n + call_size c) cs → AreChosen program larger new_text after p (n + call_size c) (cs ++ more)) →
          ((after.done p < n + call_size c) × (cs ++ more ≡ [])) ⊎ ((n + call_size c ≤ after.done p) × AreChosen program larger new_text after p (n + call_size c) (cs ++ more))
      go (inr over) rest = inr (let up = over.0 in let rise = done_rises p in omega (arith, up, rise), rest over.0 over.1)
      go (inl short) rest =
          let z = size_of c cs in
          let none_left : length (kinds_of cs) ≡ 0 = ap (λ xs. length (kinds_of xs)) short.1 in
          let low = short.0 in
          let l = in_a after legal_after p in
          let now = done_now_is in
          elim (cases_eq d (event_count a p)) [
            | inl e ↦ inr (
              (omega (arith, count, z, none_left, e, now)),
              subst (AreChosen program larger new_text after p (n + call_size c)) (sym (ap (λ xs. xs ++ more) short.1 ∙ cond-true _ _ _ (eq-eqb d (event_count a p) e)))
                  (next_chosen (n + call_size c) (program.choose p now_told) (omega (arith, count, z, none_left, e)) refl),
            )
            | inr ne ↦ inl (
              (omega (arith, count, z, none_left, l, now, ne)),
              (ap (λ xs. xs ++ more) short.1 ∙ cond-false _ _ _ (ne_eqb d (event_count a p) ne)),
            )
          ]

  chosen_after : (q : ℕ) → q < process_count larger → AreChosen program larger new_text after q 0 (calls_of larger q)
  unfolding event_count
  chosen_after q lt =
      let count = head.count in
      elim (cases_eq q p) [
        | inl e ↦ subst (λ r. AreChosen program larger new_text after r 0 (calls_of larger r)) (sym e)
            (subst (AreChosen program larger new_text after p 0) (sym calls_there)
            (grown 0 (calls_of a p) (omega arith) (let n : length (kinds_of (calls_of a p)) ≡ length (kinds a p) = ap length (sym (kinds_of_plan a p)) in omega (arith, n)) (first.chosen p there)))
        | inr ne ↦ subst (AreChosen program larger new_text after q 0) (sym (calls_other q ne)) (keep_chosen q 0 (calls_of a q) ne (omega arith) (first.chosen q (omega (arith, lt, count))))
      ]

  said_after : (q i : ℕ) → i ≤ after.done q → new_text (event q i) ≡ program.says q (told larger new_text (after.replies q) q i)
  said_after q i le = elim (cases_Bool ((q == p) && (i == d))) [
    | inl t ↦
        (let both = and_parts (q == p) (i == d) t in
        let is_p : q ≡ p = eqb-true q p both.0 in
        let is_d : i ≡ d = eqb-true i d both.1 in
        cond-true _ _ _ t
        ∙ (λ s. program.says (sym is_p s) (told a text (after.replies (sym is_p s)) (sym is_p s) (sym is_d s)))
        ∙ ap (program.says q) (sym (told_too q i le)))
    | inr f ↦ cond-false _ _ _ f ∙ first.said q i (was f) ∙ ap (program.says q) (longer q i (was f) ∙ sym (told_too q i le))
  ]
    where
      was : ((q == p) && (i == d)) ≡ false → i ≤ before.done q
      was f = elim (cases_eq q p) [
        | inr ne ↦ (let same = done_other a before p q ne in omega (arith, le, same))
        | inl e ↦
            (let now = done_now_is in
            let there_ : after.done q ≡ after.done p = ap after.done e in
            let here : before.done q ≡ before.done p = ap before.done e in
            let not_d : i ≡ d → ⊥ = λ g. true≢false (sym (and_from (q == p) (i == d) (eq-eqb q p e) (eq-eqb i d g)) ∙ f) in
            omega (arith, le, now, there_, here, not_d))
      ]

  goes_on : HasRun program a (v ++ p ∷ [])
  goes_on = record {
    plan = larger;
    text = new_text;
    is_run = record {
      is_run = whole.0;
      chosen = λ q lt. subst (λ z. AreChosen program larger new_text z q 0 (calls_of larger q)) whole.1 (chosen_after q lt);
      said = λ q i le. subst (λ (z : State). i ≤ z.done q → new_text (event q i) ≡ program.says q (told larger new_text (z.replies q) q i)) whole.1 (said_after q i) le;
    };
    same_head = head;
  }

pub runs_go_on : RunsGoOn
runs_go_on program a text v p first may = goes_on program a text v p first may

-- the processes of a list from number p on, each with its first call
begun : Program → ℕ → List Process → List Process
begun program p [] = []
begun program p (x ∷ xs) = record { node = x.node; calls = option_to_list (program.choose p []) } ∷ begun program (suc p) xs

begun_count : (program : Program) (p : ℕ) (xs : List Process) → length (begun program p xs) ≡ length xs
unfolding begun
begun_count program p [] = refl
begun_count program p (x ∷ xs) = ap suc (begun_count program (suc p) xs)

begun_node : (program : Program) (p q : ℕ) (xs : List Process) → process_node (slice_get (begun program p xs) q) ≡ process_node (slice_get xs q)
unfolding begun
begun_node program p q [] = refl
begun_node program p zero (x ∷ xs) = refl
begun_node program p (suc q) (x ∷ xs) = begun_node program (suc p) q xs

begun_calls : (program : Program) (p q : ℕ) (xs : List Process) → q < length xs → process_calls (slice_get (begun program p xs) q) ≡ option_to_list (program.choose (p + q) [])
unfolding begun
begun_calls program p q [] lt = absurd (omega (arith, lt))
begun_calls program p zero (x ∷ xs) lt = let e : p ≡ p + 0 = omega arith in ap (λ n. option_to_list (program.choose n [])) e
begun_calls program p (suc q) (x ∷ xs) lt =
    let e : suc p + q ≡ p + suc q = omega arith in
    begun_calls program (suc p) q xs (omega (arith, lt)) ∙ ap (λ n. option_to_list (program.choose n [])) e

module _ (program : Program) (head_plan : Plan) where
  abbrev first_plan : Plan
  first_plan = record { processes = begun program 0 head_plan.processes; keep = head_plan.keep }

  abbrev first_text : Event → Text
  first_text x = program.says x.proc []

  first_chosen : (p : ℕ) (o : Option Call) → program.choose p [] ≡ o → AreChosen program first_plan first_text start p 0 (option_to_list o)
  first_chosen p None is = is
  first_chosen p (Some c) is = (is, inl (let pos = size_positive c in omega (arith, pos), refl))

  starts : HasRun program head_plan []
  unfolding node_of
  starts = record {
    plan = first_plan;
    text = first_text;
    is_run = record {
      is_run = tt;
      chosen = λ p lt. subst (AreChosen program first_plan first_text start p 0) (sym (begun_calls program 0 p head_plan.processes (let n = begun_count program 0 head_plan.processes in omega (arith, lt, n))))
          (first_chosen p (program.choose (0 + p) []) (let e : p ≡ 0 + p = omega arith in ap (λ n. program.choose n []) e));
      said = λ p i le. (let e : i ≡ 0 = omega arith in subst (λ k. first_text (event p k) ≡ program.says p (told first_plan first_text [] p k)) (sym e) refl);
    };
    same_head = record {
      count = sym (begun_count program 0 head_plan.processes);
      nodes = λ p. sym (begun_node program 0 p head_plan.processes);
      keep = refl;
    };
  }

pub runs_start : RunsStart
runs_start program head_plan = starts program head_plan

head_back : {a b : Plan} → IsSameHead a b → IsSameHead b a
head_back h = record { count = sym h.count; nodes = λ p. sym (h.nodes p); keep = sym h.keep }

head_on : {a b c : Plan} → IsSameHead a b → IsSameHead b c → IsSameHead a c
head_on h g = record { count = h.count ∙ g.count; nodes = λ p. h.nodes p ∙ g.nodes p; keep = h.keep ∙ g.keep }

module _ (program : Program) (b : Plan) (other : Event → Text) (w : List ℕ) (alike : HasOneEnd b) (whole : IsRunOf program b other w) (ends : IsEnd b (run b w)) where
  -- a run of the program goes on as the plan does
  one_more : (u : List ℕ) (q : ℕ) → HasRun program b u → is_enabled b (run b u) q ≡ true → HasRun program b (u ++ q ∷ [])
  one_more u q has may =
      let a = has.plan in
      let head = head_back has.same_head in
      let told_ = programs_tell program a b has.text other u w alike whole ends has.is_run head in
      let both = told_.tells.both in
      let in_b : IsReachable b (run a u) = (u, both.is_run, sym both.same_state) in
      let same = enabled_same a b head (run a u) (reachable_sound a (run a u) (u, has.is_run.is_run, refl)).within (reachable_sound b (run a u) in_b).within
      (λ p i lt. both.same_calls p i (omega (arith, lt))) q (both.same_calls q ((run a u).done q) (omega arith)) in
      let more_ = runs_go_on program a has.text u q has.is_run (same ∙ ap (λ s. is_enabled b s q) both.same_state ∙ may) in
      record { plan = more_.plan; text = more_.text; is_run = more_.is_run; same_head = head_on has.same_head more_.same_head }

  all_more : (rest u : List ℕ) → HasRun program b u → IsInterleaving b (run b u) rest → HasRun program b (u ++ rest)
  all_more [] u has h = subst (HasRun program b) (sym (append-nil u)) has
  all_more (q ∷ rest) u has h =
      subst (HasRun program b) (append_assoc u (q ∷ []) rest)
      (all_more rest (u ++ q ∷ []) (one_more u q has h.0) (subst (λ s. IsInterleaving b s rest) (sym (run_push b start u q)) h.1))

pub same_interleavings : SameInterleavings
same_interleavings program b other w alike whole ends u h = all_more program b other w alike whole ends u [] (runs_start program b) h
