-- The events of calls, one call after another, and those of the processes of a plan.
use Rattle.std.proofs.Common.{◌≡◌, ◌∙◌, ap, sym, refl, subst, ℕ, zero, suc, ◌+◌, ◌*◌, ◌-◌, ◌^◌, ◌<◌, ◌≤◌, List, [], ◌∷◌, ◌++◌, length, map, take, drop, get_or, add-one, Option, Some, None, inl, inr}
use Rattle.std.proofs.Common.{length-append, arith, append_assoc, true, false, nat_lt, flat_map}
use Rattle.std.specs.Prelude.{slice_get, slice_range, option_map, sum_by, replicate}
use Rattle.std.specs.List.Sorted.{IsPartitionPoint, IsPartitionedBy}
use Rattle.std.proofs.lemmas.Option.{same_Some, slice_get-map, slice_get-get_or}
use Rattle.std.proofs.lemmas.List.{length-map, length-replicate, drop_more, at_drop_all, append-nil}
use Rattle.std.proofs.lemmas.List.Sums.{sum_by-cons}
use Rattle.std.proofs.lemmas.Bool.{cases_lt, cond_below, cond_above, true≢false, ltb-true, lt-ltb}
use Rattle.wire_runs.specs.Plan.{Plan, Call, CallPut, CallCommit, CallFence, CallGet, CallGetNow, CallPublish, CallLookup, CallLookupWait, CallUnpublish, CallUnpublishAll, CallFixed}
use Rattle.wire_runs.specs.Plan.{Kind, kinds_of, process_kinds, process_node, kinds, kind_at, event_count, node_of}
use Rattle.wire_runs.specs.Plan as plan
use Rattle.wire_scripts.specs.Scripts.{Process, Scripts, call_count}
use Rattle.wire_scripts.specs.Planned.{planned_call, planned_process, plan_of}
use Rattle.wire_plan.specs.Kinds.{kinds_planned, calls_from, calls_planned, firsts_planned}
use Rattle.wire_runs.specs.Plan.{event_total}
use Rattle.wire_runs.specs.Ends.{call_number, call_size, calls_of, process_calls}
use Rattle.wire_plan.proofs.Parts.{IsPart, is_part, no_part, part_is, part_ordered, part_within, slice_range-map}

-- a first call's events, and then those of the others
pub events_first : (call : Call) (calls : List Call) → kinds_of (call ∷ calls) ≡ kinds_of (call ∷ []) ++ kinds_of calls
events_first (CallPut key scope) calls = refl
events_first CallCommit calls = refl
events_first (CallFence members collect) calls = refl
events_first (CallGet owner key) calls = refl
events_first (CallGetNow owner key) calls = refl
events_first (CallPublish name) calls = refl
events_first (CallLookup name) calls = refl
events_first (CallLookupWait name) calls = refl
events_first (CallUnpublish name) calls = refl
events_first CallUnpublishAll calls = refl
events_first (CallFixed reply) calls = refl

-- at most two events a call
pub events_few : (calls : List Call) → length (kinds_of calls) ≤ 2 * length calls
events_few [] = omega arith
events_few (CallPut key scope ∷ calls) = omega (arith, events_few calls)
events_few (CallCommit ∷ calls) = omega (arith, events_few calls)
events_few (CallFence members collect ∷ calls) = omega (arith, events_few calls)
events_few (CallGet owner key ∷ calls) = omega (arith, events_few calls)
events_few (CallGetNow owner key ∷ calls) = omega (arith, events_few calls)
events_few (CallPublish name ∷ calls) = omega (arith, events_few calls)
events_few (CallLookup name ∷ calls) = omega (arith, events_few calls)
events_few (CallLookupWait name ∷ calls) = omega (arith, events_few calls)
events_few (CallUnpublish name ∷ calls) = omega (arith, events_few calls)
events_few (CallUnpublishAll ∷ calls) = omega (arith, events_few calls)
events_few (CallFixed reply ∷ calls) = omega (arith, events_few calls)

-- no process has more events than numbers of 32 bits count
pub count_fits : (s : Scripts) (p : ℕ) → call_count s.processes < 2 ^ 31 → event_count (plan_of s) p < 2 ^ 32
unfolding event_count kinds
count_fits s p few = subst (λ o. length (process_kinds o) < 2 ^ 32) (sym (slice_get-map (planned_process s) s.processes p)) (go s.processes p few)
  where
    go : (ps : List Process) (p : ℕ) → call_count ps < 2 ^ 31 → length (process_kinds (option_map (planned_process s) (slice_get ps p))) < 2 ^ 32
    go [] p few = omega arith
    go (q ∷ qs) zero few = omega (arith, events_few (map (planned_call s) q.calls), length-map q.calls (planned_call s), sum_by-cons (λ r. length r.calls) q qs, few)
    go (q ∷ qs) (suc p) few = go qs p (omega (arith, sum_by-cons (λ r. length r.calls) q qs, few))

get_front : (k n : ℕ) (rest : List ℕ) (i : ℕ) → i < k → slice_get (replicate k n ++ rest) i ≡ Some n
get_front zero n rest i lt = absurd (omega (arith, lt))
get_front (suc k) n rest zero lt = refl
get_front (suc k) n rest (suc i) lt = get_front k n rest i (omega (arith, lt))

get_rest : (k n : ℕ) (rest : List ℕ) (i : ℕ) → k ≤ i → slice_get (replicate k n ++ rest) i ≡ slice_get rest (i - k)
get_rest zero n rest i le = let same : i ≡ i - 0 = omega arith in ap (slice_get rest) same
get_rest (suc k) n rest zero le = absurd (omega (arith, le))
get_rest (suc k) n rest (suc i) le =
    let same : i - k ≡ suc i - suc k = omega arith in
    get_rest k n rest i (omega (arith, le)) ∙ ap (slice_get rest) same

-- each event has the number of its call
pub call_from : (n : ℕ) (calls : List Call) (i : ℕ) → i < length (kinds_of calls) → slice_get (calls_from n calls) i ≡ Some (n + call_number calls i)
call_from n [] i lt = absurd (omega (arith, lt))
call_from n (c ∷ calls) i lt =
    let size = call_size c in
    let first : length (kinds_of (c ∷ calls)) ≡ size + length (kinds_of calls) =
    ap length (events_first c calls) ∙ length-append (kinds_of (c ∷ [])) (kinds_of calls) in
    elim (cases_lt i size) [
      | inl low ↦
          let same : n ≡ n + 0 = omega arith in
          get_front size n (calls_from (suc n) calls) i low
          ∙ ap Some same
          ∙ ap (λ k. Some (n + k)) (cond_below i size 0 (suc (call_number calls (i - size))) low)
      | inr high ↦
          let there : i - size < length (kinds_of calls) = omega (arith, high, first, lt) in
          let same : suc n + call_number calls (i - size) ≡ n + suc (call_number calls (i - size)) = omega arith in
          get_rest size n (calls_from (suc n) calls) i high
          ∙ call_from (suc n) calls (i - size) there
          ∙ ap Some same
          ∙ ap (λ k. Some (n + k)) (cond_above i size 0 (suc (call_number calls (i - size))) (suc (call_number calls (i - size))) high refl)
    ]

-- as many numbers as events
pub numbers_count : (n : ℕ) (calls : List Call) → length (calls_from n calls) ≡ length (kinds_of calls)
numbers_count n [] = refl
numbers_count n (c ∷ calls) =
    let front = length-append (replicate (call_size c) n) (calls_from (suc n) calls) in
    let size = length-replicate (call_size c) n in
    let rest = numbers_count (suc n) calls in
    let all : length (kinds_of (c ∷ calls)) ≡ call_size c + length (kinds_of calls) = ap length (events_first c calls) ∙ length-append (kinds_of (c ∷ [])) (kinds_of calls) in
    omega (arith, front, size, rest, all)

-- one more call, behind the events and the numbers of those before it
pub add_events : (call : Call) (rest : List Call) (old new : List Kind) → new ≡ old ++ kinds_of (call ∷ []) → old ++ kinds_of (call ∷ rest) ≡ new ++ kinds_of rest
add_events call rest old new is = ap (λ es. old ++ es) (events_first call rest) ∙ sym (append_assoc old (kinds_of (call ∷ [])) (kinds_of rest)) ∙ ap (λ es. es ++ kinds_of rest) (sym is)

pub add_numbers : (n : ℕ) (call : Call) (rest : List Call) (old new : List ℕ) → new ≡ old ++ calls_from n (call ∷ []) → old ++ calls_from n (call ∷ rest) ≡ new ++ calls_from (suc n) rest
add_numbers n call rest old new is =
    ap (λ ns. old ++ ns) (ap (λ ns. ns ++ calls_from (suc n) rest) (no_more (replicate (call_size call) n)))
    ∙ sym (append_assoc old (replicate (call_size call) n ++ []) (calls_from (suc n) rest))
    ∙ ap (λ ns. ns ++ calls_from (suc n) rest) (sym is)
  where
    no_more : (xs : List ℕ) → xs ≡ xs ++ []
    no_more [] = refl
    no_more (x ∷ xs) = ap (λ ys. x ∷ ys) (no_more xs)

-- the events before a call are those of the calls before it
pub number_low : (calls : List Call) (c i : ℕ) → i < length (kinds_of (take c calls)) → call_number calls i < c
number_low calls zero i lt = absurd (omega (arith, lt))
number_low [] (suc c) i lt = absurd (omega (arith, lt))
number_low (x ∷ calls) (suc c) i lt =
    let size : length (kinds_of (x ∷ take c calls)) ≡ call_size x + length (kinds_of (take c calls)) =
    ap length (events_first x (take c calls)) ∙ length-append (kinds_of (x ∷ [])) (kinds_of (take c calls)) in
    elim (cases_lt i (call_size x)) [
      | inl low ↦ subst (λ n. n < suc c) (cond_below i (call_size x) 0 (suc (call_number calls (i - call_size x))) low) (omega arith)
      | inr high ↦
          let rest = number_low calls c (i - call_size x) (omega (arith, high, size, lt)) in
          subst (λ n. n < suc c)
          (cond_above i (call_size x) 0 (suc (call_number calls (i - call_size x))) (suc (call_number calls (i - call_size x))) high refl)
          (omega (arith, rest))
    ]

pub number_high : (calls : List Call) (c i : ℕ) → length (kinds_of (take c calls)) ≤ i → i < length (kinds_of calls) → c ≤ call_number calls i
number_high calls zero i le lt = omega arith
number_high [] (suc c) i le lt = absurd (omega (arith, lt))
number_high (x ∷ calls) (suc c) i le lt =
    let size : length (kinds_of (x ∷ take c calls)) ≡ call_size x + length (kinds_of (take c calls)) =
    ap length (events_first x (take c calls)) ∙ length-append (kinds_of (x ∷ [])) (kinds_of (take c calls)) in
    let all : length (kinds_of (x ∷ calls)) ≡ call_size x + length (kinds_of calls) = ap length (events_first x calls) ∙ length-append (kinds_of (x ∷ [])) (kinds_of calls) in
    let high : call_size x ≤ i = omega (arith, size, le) in
    let rest = number_high calls c (i - call_size x) (omega (arith, size, le)) (omega (arith, high, all, lt)) in
    subst (λ n. suc c ≤ n)
    (cond_above i (call_size x) 0 (suc (call_number calls (i - call_size x))) (suc (call_number calls (i - call_size x))) high refl)
    (omega (arith, rest))

pub front_count : (calls : List Call) (c : ℕ) → length (kinds_of (take c calls)) ≤ length (kinds_of calls)
front_count calls zero = omega arith
front_count [] (suc c) = omega arith
front_count (x ∷ calls) (suc c) =
    let front = ap length (events_first x (take c calls)) ∙ length-append (kinds_of (x ∷ [])) (kinds_of (take c calls)) in
    let all = ap length (events_first x calls) ∙ length-append (kinds_of (x ∷ [])) (kinds_of calls) in
    let rest = front_count calls c in
    omega (arith, front, all, rest)

-- the number of an event's call, read in the list of numbers
pub number_read : (calls : List Call) (i d : ℕ) → i < length (kinds_of calls) → get_or (calls_from 0 calls) i d ≡ call_number calls i
number_read calls i d lt =
    let count = numbers_count 0 calls in
    let same : 0 + call_number calls i ≡ call_number calls i = omega arith in
    same_Some _ _ (sym (slice_get-get_or (calls_from 0 calls) i d (omega (arith, count, lt))) ∙ call_from 0 calls i lt ∙ ap Some same)

-- numbers below one stand in front
pub numbers_parted : (calls : List Call) (c : ℕ) → IsPartitionedBy (λ n. nat_lt n c) (calls_from 0 calls)
numbers_parted calls c i j d le lt low =
    let count = numbers_count 0 calls in
    let there : j < length (kinds_of calls) = omega (arith, count, lt) in
    let under : call_number calls j < c = subst (λ n. n < c) (number_read calls j d there) (ltb-true (get_or (calls_from 0 calls) j d) c low) in
    elim (cases_lt j (length (kinds_of (take c calls)))) [
      | inl front ↦
          let before : i < length (kinds_of calls) = omega (arith, le, there) in
          let own = number_low calls c i (omega (arith, le, front)) in
          lt-ltb (get_or (calls_from 0 calls) i d) c (subst (λ n. n < c) (sym (number_read calls i d before)) own)
      | inr back ↦ let over = number_high calls c j back there in absurd (omega (arith, over, under))
    ]

-- so where they end is where the call begins
pub parted_at : (calls : List Call) (c n : ℕ) → n ≤ length (calls_from 0 calls) → IsPartitionPoint (λ m. nat_lt m c ≡ true) (λ m. nat_lt m c ≡ false) (calls_from 0 calls) n
    → n ≡ length (kinds_of (take c calls))
parted_at calls c n bound point =
    let count = numbers_count 0 calls in
    let first = length (kinds_of (take c calls)) in
    let some = front_count calls c in
    elim (cases_lt n first) [
      | inl low ↦
          let there : n < length (kinds_of calls) = omega (arith, low, some) in
          let under = number_low calls c n low in
          absurd (true≢false (sym (lt-ltb (get_or (calls_from 0 calls) n 0) c (subst (λ m. m < c) (sym (number_read calls n 0 there)) under))
          ∙ point.1 n 0 (omega arith) (omega (arith, count, there))))
      | inr high ↦ elim (cases_lt first n) [
        | inl over ↦
            let there : first < length (kinds_of calls) = omega (arith, over, bound, count) in
            let above = number_high calls c first (omega arith) there in
            let under : call_number calls first < c =
            subst (λ m. m < c) (number_read calls first 0 there) (ltb-true (get_or (calls_from 0 calls) first 0) c (point.0 first 0 (omega arith) over)) in
            absurd (omega (arith, above, under))
        | inr same ↦ omega (arith, high, same)
      ]
    ]

-- the events of a process, and the numbers of their calls
abbrev pub kinds_by : Scripts → Process → List Kind
kinds_by s q = kinds_of (map (planned_call s) q.calls)

abbrev pub calls_by : Scripts → Process → List ℕ
calls_by s q = calls_from 0 (map (planned_call s) q.calls)

module _ (s : Scripts) where
  -- the events and the calls of a process, as they are planned
  pub kinds_here : (p : ℕ) (q : Process) → slice_get s.processes p ≡ Some q → kinds (plan_of s) p ≡ kinds_of (map (planned_call s) q.calls)
  unfolding kinds
  kinds_here p q is = ap process_kinds (slice_get-map (planned_process s) s.processes p ∙ ap (option_map (planned_process s)) is)

  pub kinds_past : (p : ℕ) → slice_get s.processes p ≡ None → kinds (plan_of s) p ≡ []
  unfolding kinds
  kinds_past p is = ap process_kinds (slice_get-map (planned_process s) s.processes p ∙ ap (option_map (planned_process s)) is)

  pub calls_here : (p : ℕ) (q : Process) → slice_get s.processes p ≡ Some q → calls_of (plan_of s) p ≡ map (planned_call s) q.calls
  calls_here p q is = ap process_calls (slice_get-map (planned_process s) s.processes p ∙ ap (option_map (planned_process s)) is)

  pub calls_past : (p : ℕ) → slice_get s.processes p ≡ None → calls_of (plan_of s) p ≡ []
  calls_past p is = ap process_calls (slice_get-map (planned_process s) s.processes p ∙ ap (option_map (planned_process s)) is)

  -- a process has the events of its calls
  pub kinds_called : (p : ℕ) → kinds (plan_of s) p ≡ kinds_of (calls_of (plan_of s) p)
  unfolding kinds
  kinds_called p = go (slice_get (plan_of s).processes p)
    where
      go : (o : Option plan.Process) → process_kinds o ≡ kinds_of (process_calls o)
      go None = refl
      go (Some q) = refl

  pub count_called : (p : ℕ) → event_count (plan_of s) p ≡ length (kinds_of (calls_of (plan_of s) p))
  unfolding event_count
  count_called p = ap length (kinds_called p)

  module _ (firsts : List ℕ) (shown : firsts ≡ firsts_planned s) (p : ℕ) where
    -- where no process has this number, there are no events and no calls of one
    none_there : length firsts ≤ suc p → slice_get s.processes p ≡ None
    none_there le = no_part (λ q. length (kinds_by s q)) 0 s.processes p (subst (λ l. length l ≤ suc p) shown le)

    pub no_kinds : length firsts ≤ suc p → kinds (plan_of s) p ≡ []
    no_kinds le = kinds_past p (none_there le)

    pub no_numbers : length firsts ≤ suc p → calls_from 0 (calls_of (plan_of s) p) ≡ []
    no_numbers le = ap (calls_from 0) (calls_past p (none_there le))

    module _ (from to : ℕ) (first : slice_get firsts p ≡ Some from) (next : slice_get firsts (suc p) ≡ Some to) where
      kinds_part : IsPart (kinds_by s) 0 s.processes p from to
      kinds_part =
          is_part (kinds_by s) (λ q. length (kinds_by s q)) (λ q. refl) 0 s.processes p from to
          (ap (λ l. slice_get l p) (sym shown) ∙ first) (ap (λ l. slice_get l (suc p)) (sym shown) ∙ next)

      calls_part : IsPart (calls_by s) 0 s.processes p from to
      calls_part =
          is_part (calls_by s) (λ q. length (kinds_by s q)) (λ q. numbers_count 0 (map (planned_call s) q.calls)) 0 s.processes p from to
          (ap (λ l. slice_get l p) (sym shown) ∙ first) (ap (λ l. slice_get l (suc p)) (sym shown) ∙ next)

      -- the part of a process is within all events, and has its own
      pub part_rises : from ≤ to
      part_rises = part_ordered (kinds_by s) s.processes p from to kinds_part

      pub kinds_within : {K : Type 0} (ev : K → Kind) (all : List K) → map ev all ≡ kinds_planned s → to ≤ length all
      kinds_within ev all is =
          let within = part_within (kinds_by s) s.processes p from to kinds_part in
          let count = sym (length-map all ev) ∙ ap length is in
          omega (arith, within, count)

      pub kinds_shown : {K : Type 0} (ev : K → Kind) (all : List K) → map ev all ≡ kinds_planned s → map ev (slice_range all from to) ≡ kinds (plan_of s) p
      kinds_shown ev all is =
          slice_range-map ev all from to
          ∙ ap (λ l. slice_range l from to) is
          ∙ part_is (kinds_by s) s.processes p from to kinds_part
          ∙ sym (kinds_here p kinds_part.x kinds_part.is)

      pub numbers_within : (all : List ℕ) → all ≡ calls_planned s → to ≤ length all
      numbers_within all is = subst (λ l. to ≤ length l) (sym is) (part_within (calls_by s) s.processes p from to calls_part)

      pub numbers_shown : (all : List ℕ) → all ≡ calls_planned s → slice_range all from to ≡ calls_from 0 (calls_of (plan_of s) p)
      numbers_shown all is =
          ap (λ l. slice_range l from to) is
          ∙ part_is (calls_by s) s.processes p from to calls_part
          ∙ ap (calls_from 0) (sym (calls_here p calls_part.x calls_part.is))

module _ {K C : Type 0} (ev : K → Kind) (f : C → Call) (calls : List C) (i : ℕ) (d : C) (lt : i < length calls) where
  one_off : map f (drop i calls) ≡ f (get_or calls i d) ∷ map f (drop (i + 1) calls)
  one_off = ap (map f) (drop_more calls i d lt)

  -- the events of one more call, of those that are left
  pub events_step : (whole : List Kind) (kinds more : List K) → whole ≡ map ev kinds ++ kinds_of (map f (drop i calls))
      → map ev more ≡ map ev kinds ++ kinds_of (f (get_or calls i d) ∷ []) → whole ≡ map ev more ++ kinds_of (map f (drop (i + 1) calls))
  events_step whole kinds more before grown =
      before
      ∙ ap (λ cs. map ev kinds ++ kinds_of cs) one_off
      ∙ add_events (f (get_or calls i d)) (map f (drop (i + 1) calls)) (map ev kinds) (map ev more) grown

  -- its number for each of them
  pub numbers_step : (whole : List ℕ) (n : ℕ) (old new : List ℕ) → whole ≡ old ++ calls_from n (map f (drop i calls))
      → new ≡ old ++ calls_from n (f (get_or calls i d) ∷ []) → whole ≡ new ++ calls_from (n + 1) (map f (drop (i + 1) calls))
  numbers_step whole n old new before grown =
      before
      ∙ ap (λ cs. old ++ calls_from n cs) one_off
      ∙ add_numbers n (f (get_or calls i d)) (map f (drop (i + 1) calls)) old new grown
      ∙ ap (λ m. new ++ calls_from m (map f (drop (i + 1) calls))) (sym (add-one n))

-- the node of a process
pub node_planned : (s : Scripts) (p : ℕ) (q : Process) → slice_get s.processes p ≡ Some q → node_of (plan_of s) p ≡ q.node
unfolding node_of
node_planned s p q is = ap process_node (slice_get-map (planned_process s) s.processes p ∙ ap (option_map (planned_process s)) is)

-- as many events as all processes have
pub total_shown : (s : Scripts) → length (kinds_planned s) ≡ event_total (plan_of s)
total_shown s = go s.processes
  where
    go : (ps : List Process) → length (flat_map (λ p. kinds_of (map (planned_call s) p.calls)) ps) ≡ sum_by (λ process. length (kinds_of process.calls)) (map (planned_process s) ps)
    go [] = refl
    go (p ∷ ps) = length-append (kinds_of (map (planned_call s) p.calls)) (flat_map (λ q. kinds_of (map (planned_call s) q.calls)) ps)
        ∙ ap (λ n. length (kinds_of (map (planned_call s) p.calls)) + n) (go ps)
        ∙ sym (sum_by-cons (λ process. length (kinds_of process.calls)) (planned_process s p) (map (planned_process s) ps))

pub total_fits : (s : Scripts) → call_count s.processes < 2 ^ 31 → event_total (plan_of s) < 2 ^ 32
total_fits s few = let le = go s.processes in omega (arith, le, few)
  where
    go : (ps : List Process) → sum_by (λ process. length (kinds_of process.calls)) (map (planned_process s) ps) ≤ 2 * call_count ps
    go [] = omega arith
    go (p ∷ ps) = omega (
      arith,
      go ps,
      events_few (map (planned_call s) p.calls),
      length-map p.calls (planned_call s),
      sum_by-cons (λ q. length q.calls) p ps,
      sum_by-cons (λ process. length (kinds_of process.calls)) (planned_process s p) (map (planned_process s) ps),
    )

-- all is done where nothing is left of a list
pub done_at_end : {X Y : Type 0} (F : List X → List Y) (all done : List Y) (xs : List X) (i : ℕ) → F [] ≡ [] → length xs ≤ i → all ≡ done ++ F (drop i xs) → done ≡ all
done_at_end F all done xs i none le is = sym (is ∙ at_drop_all (λ ys. done ++ F ys) xs i le ∙ ap (λ ys. done ++ ys) none ∙ append-nil done)
