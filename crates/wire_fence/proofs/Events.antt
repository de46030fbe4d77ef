-- The events of calls: a process arrives at fences as often as it calls them.
use Rattle.std.proofs.Common.{◌≡◌, ◌∙◌, ℕ, zero, suc, ◌+◌, ◌<◌, List, [], ◌∷◌, ◌++◌, map, take, drop, length, Bool, true, false, cond, ◌&&◌, ◌==◌, Option, Some, None, slice_get, refl}
use Rattle.std.proofs.Common.{sym, ap, inl, inr, arith, add-one, length-append}
use Rattle.std.specs.Prelude.{⊤}
use Rattle.std.specs.Str.{bytes_eq}
use Rattle.std.specs.Cmp.Lexicographic.{bytes_decides}
use Rattle.std.proofs.lemmas.Bool.{cases_eq, cond_both, eq-eqb, ne_eqb, false_from_ne_true}
use Rattle.std.proofs.lemmas.Option.{none-some, same_Some, slice_get-get_or}
use Rattle.std.proofs.lemmas.List.{map-append}
use Rattle.std.proofs.lemmas.List.Sums.{sum_by_push}
use Rattle.wire_runs.specs.Plan.{Kind, Put, Commit, Arrive, Leave, Get, GetNow, Publish, Lookup, LookupWait, Unpublish, UnpublishAll, Fixed, CallPut, CallCommit, CallFence, CallGet}
use Rattle.wire_runs.specs.Plan.{CallGetNow, CallPublish, CallLookup, CallLookupWait, CallUnpublish, CallUnpublishAll, CallFixed, set_of, kinds_of, kind_at, event_count}
use Rattle.wire_runs.specs.Plan as plan
use Rattle.wire_runs.specs.Fences.{arrivals_with, arrivals, collects_with, collects}
use Rattle.wire_types.specs.declared.Call.{Call}
use Rattle.wire_types.specs.declared.Call.TheVariants as call
use Rattle.wire_types.specs.declared.Reply.{Reply}
use Rattle.wire_types.specs.declared.Status.TheVariants.{BadParam}
use Rattle.wire_types.specs.Replies.{bare}
use Rattle.wire_runs.proofs.Lists.{take_get, slice_get-append_right}
use Rattle.wire_scripts.specs.Said.{is_reserved}
use Rattle.wire_scripts.specs.Scripts.{Scripts, IsSound, set_at, text_at}
use Rattle.wire_scripts.specs.Planned.{reply_of_key, planned_call, plan_of}
use Rattle.wire_scripts.proofs.PlannedCalls.{events_are}
use Rattle.wire_fence.specs.FenceTable.{is_over, fence_count, written_calls, FenceInfo, FenceTable, AreFencesOf, fence_at, fence_over}
use Rattle.wire_fence.specs.Reading.{says_with, says_to}
use Rattle.wire_fence.specs.Missing.{CallsAreArrivals}

-- elements by their numbers
pub take_past : {A : Type 0} (xs : List A) (n : ℕ) → slice_get xs n ≡ None → take (suc n) xs ≡ take n xs
take_past [] zero h = refl
take_past [] (suc n) h = refl
take_past (y ∷ ys) zero h = absurd (none-some y (sym h))
take_past {A = A} (y ∷ ys) (suc n) h = ap (λ (zs : List A). y ∷ zs) (take_past ys n h)

drop_get : {A : Type 0} (xs : List A) (n : ℕ) (x : A) → slice_get xs n ≡ Some x → xs ≡ take n xs ++ (x ∷ drop (suc n) xs)
drop_get [] n x h = absurd (none-some x h)
drop_get (y ∷ ys) zero x h = ap (λ z. z ∷ ys) (same_Some y x h)
drop_get {A = A} (y ∷ ys) (suc n) x h = ap (λ (zs : List A). y ∷ zs) (drop_get ys n x h)

events-append : (xs ys : List plan.Call) → kinds_of (xs ++ ys) ≡ kinds_of xs ++ kinds_of ys
events-append [] ys = refl
events-append (CallPut key scope ∷ xs) ys = ap (λ es. Put key scope ∷ es) (events-append xs ys)
events-append (CallCommit ∷ xs) ys = ap (λ es. Commit ∷ es) (events-append xs ys)
events-append (CallFence members collect ∷ xs) ys = ap (λ es. Arrive (set_of members) collect ∷ (Leave (set_of members) ∷ es)) (events-append xs ys)
events-append (CallGet owner key ∷ xs) ys = ap (λ es. Get owner key ∷ es) (events-append xs ys)
events-append (CallGetNow owner key ∷ xs) ys = ap (λ es. GetNow owner key ∷ es) (events-append xs ys)
events-append (CallPublish name ∷ xs) ys = ap (λ es. Publish name ∷ es) (events-append xs ys)
events-append (CallLookup name ∷ xs) ys = ap (λ es. Lookup name ∷ es) (events-append xs ys)
events-append (CallLookupWait name ∷ xs) ys = ap (λ es. LookupWait name ∷ es) (events-append xs ys)
events-append (CallUnpublish name ∷ xs) ys = ap (λ es. Unpublish name ∷ es) (events-append xs ys)
events-append (CallUnpublishAll ∷ xs) ys = ap (λ es. UnpublishAll ∷ es) (events-append xs ys)
events-append (CallFixed reply ∷ xs) ys = ap (λ es. Fixed reply ∷ es) (events-append xs ys)

-- a call that is no fence is one event, which is no arrival
abbrev IsPlain : plan.Call → Type 0
IsPlain (CallFence members collect) = ⊥
IsPlain _ = ⊤

record PlainEvent (k : plan.Call) : Type 0 where
  pub event : Kind
  pub one : (ks : List plan.Call) → kinds_of (k ∷ ks) ≡ event ∷ kinds_of ks
  pub arrives : (members : List ℕ) (n : ℕ) → arrivals_with members n (Some event) ≡ n
  pub says : (members : List ℕ) (j n : ℕ) (before : Bool) → collects_with members j n before (Some event) ≡ before

plain_event : (k : plan.Call) → IsPlain k → PlainEvent k
plain_event (CallPut key scope) plain = record { event = Put key scope; one = λ _. refl; arrives = λ _ _. refl; says = λ _ _ _ _. refl }
plain_event CallCommit plain = record { event = Commit; one = λ _. refl; arrives = λ _ _. refl; says = λ _ _ _ _. refl }
plain_event (CallFence members collect) plain = absurd plain
plain_event (CallGet owner key) plain = record { event = Get owner key; one = λ _. refl; arrives = λ _ _. refl; says = λ _ _ _ _. refl }
plain_event (CallGetNow owner key) plain = record { event = GetNow owner key; one = λ _. refl; arrives = λ _ _. refl; says = λ _ _ _ _. refl }
plain_event (CallPublish name) plain = record { event = Publish name; one = λ _. refl; arrives = λ _ _. refl; says = λ _ _ _ _. refl }
plain_event (CallLookup name) plain = record { event = Lookup name; one = λ _. refl; arrives = λ _ _. refl; says = λ _ _ _ _. refl }
plain_event (CallLookupWait name) plain = record { event = LookupWait name; one = λ _. refl; arrives = λ _ _. refl; says = λ _ _ _ _. refl }
plain_event (CallUnpublish name) plain = record { event = Unpublish name; one = λ _. refl; arrives = λ _ _. refl; says = λ _ _ _ _. refl }
plain_event CallUnpublishAll plain = record { event = UnpublishAll; one = λ _. refl; arrives = λ _ _. refl; says = λ _ _ _ _. refl }
plain_event (CallFixed reply) plain = record { event = Fixed reply; one = λ _. refl; arrives = λ _ _. refl; says = λ _ _ _ _. refl }

unless_plain : (b : Bool) (reply : Reply) (k : plan.Call) → IsPlain k → IsPlain (cond b (CallFixed reply) k)
unless_plain b reply k plain = cond_both b (CallFixed reply) k IsPlain (λ _. tt) (λ _. plain)

pub event_is : (s : Scripts) (p i : ℕ) → kind_at (plan_of s) p i ≡ slice_get (kinds_of (map (planned_call s) (written_calls s p))) i
unfolding kind_at
event_is s p i = ap (λ es. slice_get es i) (events_are s p)

-- how many events the first calls are
abbrev pub events_to : Scripts → ℕ → ℕ → ℕ
events_to s p c = length (kinds_of (map (planned_call s) (take c (written_calls s p))))

pub count_is : (s : Scripts) (p : ℕ) → event_count (plan_of s) p ≡ length (kinds_of (map (planned_call s) (written_calls s p)))
unfolding event_count
count_is s p = ap length (events_are s p)

events_more : (s : Scripts) (p c : ℕ) (k : Call) → slice_get (written_calls s p) c ≡ Some k → events_to s p (suc c) ≡ events_to s p c + length (kinds_of (planned_call s k ∷ []))
events_more s p c k is =
    ap (λ calls. length (kinds_of (map (planned_call s) calls))) (take_get (written_calls s p) c k is)
    ∙ ap (λ calls. length (kinds_of calls)) (map-append (planned_call s) (take c (written_calls s p)) (k ∷ []))
    ∙ ap length (events-append (map (planned_call s) (take c (written_calls s p))) (planned_call s k ∷ []))
    ∙ length-append (kinds_of (map (planned_call s) (take c (written_calls s p)))) (kinds_of (planned_call s k ∷ []))

event_of_call : (s : Scripts) (p c i : ℕ) (k : Call) → slice_get (written_calls s p) c ≡ Some k →
    kind_at (plan_of s) p (events_to s p c + i) ≡ slice_get (kinds_of (planned_call s k ∷ map (planned_call s) (drop (suc c) (written_calls s p)))) i
event_of_call s p c i k is =
    let front = take c (written_calls s p) in
    let rest = drop (suc c) (written_calls s p) in
    event_is s p (events_to s p c + i)
    ∙ ap (λ calls. slice_get (kinds_of (map (planned_call s) calls)) (events_to s p c + i)) (drop_get (written_calls s p) c k is)
    ∙ ap (λ calls. slice_get (kinds_of calls) (events_to s p c + i)) (map-append (planned_call s) front (k ∷ rest))
    ∙ ap (λ es. slice_get es (events_to s p c + i)) (events-append (map (planned_call s) front) (planned_call s k ∷ map (planned_call s) rest))
    ∙ slice_get-append_right (kinds_of (map (planned_call s) front)) (kinds_of (planned_call s k ∷ map (planned_call s) rest)) i

-- sets of the scripts are the same where their numbers are
pub set_there : (s : Scripts) (set : ℕ) → set < length s.sets → slice_get s.sets set ≡ Some (set_at s.sets set)
set_there s set low = slice_get-get_or s.sets set [] low

pub set_canonical : (s : Scripts) (set : ℕ) → IsSound s → set < length s.sets → set_of (set_at s.sets set) ≡ set_at s.sets set
set_canonical s set sound low = sound.sets.canonical set (set_at s.sets set) (set_there s set low)

pub same_set : (s : Scripts) (m n : ℕ) → IsSound s → m < length s.sets → n < length s.sets → set_at s.sets m ≡ set_at s.sets n → m ≡ n
same_set s m n sound low_m low_n same = sound.sets.once m n (set_at s.sets n) (set_there s m low_m ∙ ap Some same) (set_there s n low_n)

-- fences with the same members and the same number among theirs are one
pub same_fence : (s : Scripts) (table : FenceTable) (m n : ℕ) (f g : FenceInfo) → AreFencesOf s table → fence_at table m ≡ Some f → fence_at table n ≡ Some g → f.members ≡ g.members → f.nth ≡ g.nth →
    m ≡ n
same_fence s table m n f g fences at_m at_n members nth =
    let is_f = fences.each m f at_m in
    let is_g = fences.each n g at_n in
    let sets : f.set ≡ g.set = same_set s f.set g.set fences.sound is_f.of_set is_g.of_set (sym (ap (λ (x : FenceInfo). x.members) is_f.is) ∙ members ∙ ap (λ (x : FenceInfo). x.members) is_g.is) in
    let same : f ≡ g = is_f.is ∙ ap (λ a. fence_over s a f.nth) sets ∙ ap (fence_over s g.set) nth ∙ sym is_g.is in
    fences.once m n g (at_m ∙ ap Some same) at_n

sets_compare : (s : Scripts) (m n : ℕ) → IsSound s → m < length s.sets → n < length s.sets → bytes_eq (set_of (set_at s.sets m)) (set_at s.sets n) ≡ (m == n)
sets_compare s m n sound low_m low_n =
    ap (λ xs. bytes_eq xs (set_at s.sets n)) (set_canonical s m sound low_m)
    ∙ elim (cases_eq m n) [
      | inl same ↦ (bytes_decides (set_at s.sets m) (set_at s.sets n)).1 (ap (set_at s.sets) same) ∙ sym (eq-eqb m n same)
      | inr other ↦
          false_from_ne_true (bytes_eq (set_at s.sets m) (set_at s.sets n)) (λ t. other (same_set s m n sound low_m low_n ((bytes_decides (set_at s.sets m) (set_at s.sets n)).0 t)))
          ∙ sym (ne_eqb m n other)
    ]

module _ (s : Scripts) (p set j : ℕ) (sound : IsSound s) (low : set < length s.sets) where
  -- what arrivals and calls say, after so many calls
  pub record Agrees (c : ℕ) : Type 0 where
    pub arrive : arrivals (plan_of s) p (set_at s.sets set) (events_to s p c) ≡ fence_count set (take c (written_calls s p))
    pub say : collects (plan_of s) p (set_at s.sets set) j (events_to s p c) ≡ says_to set j (written_calls s p) c

  count_more : (c : ℕ) (k : Call) → slice_get (written_calls s p) c ≡ Some k →
      fence_count set (take (suc c) (written_calls s p)) ≡ fence_count set (take c (written_calls s p)) + cond (is_over set k) 1 0
  count_more c k is =
      ap (fence_count set) (take_get (written_calls s p) c k is)
      ∙ sum_by_push (λ x. cond (is_over set x) 1 0) (take c (written_calls s p)) k

  -- a call that is no fence
  plain_agrees : (c : ℕ) (k : Call) → slice_get (written_calls s p) c ≡ Some k → IsPlain (planned_call s k) → is_over set k ≡ false →
      ((n : ℕ) (before : Bool) → says_with set j n before (Some k) ≡ before) → Agrees c → Agrees (suc c)
  plain_agrees c k is plain over silent agrees =
      let e = plain_event (planned_call s k) plain in
      let members = set_at s.sets set in
      let one : events_to s p (suc c) ≡ suc (events_to s p c) =
      events_more s p c k is ∙ ap (λ es. events_to s p c + length es) (e.one []) ∙ add-one (events_to s p c)
      in
      let here : kind_at (plan_of s) p (events_to s p c) ≡ Some e.event =
      ap (kind_at (plan_of s) p) (add_none (events_to s p c)) ∙ event_of_call s p c 0 k is ∙ ap (λ es. slice_get es 0) (e.one (map (planned_call s) (drop (suc c) (written_calls s p))))
      in
      record {
        arrive =
            ap (arrivals (plan_of s) p members) one
            ∙ ap (arrivals_with members (arrivals (plan_of s) p members (events_to s p c))) here
            ∙ e.arrives members (arrivals (plan_of s) p members (events_to s p c))
            ∙ agrees.arrive
            ∙ sym (count_more c k is ∙ ap (λ b. fence_count set (take c (written_calls s p)) + cond b 1 0) over ∙ sym (add_none (fence_count set (take c (written_calls s p)))));
        say =
            ap (collects (plan_of s) p members j) one
            ∙ ap (collects_with members j (arrivals (plan_of s) p members (events_to s p c)) (collects (plan_of s) p members j (events_to s p c))) here
            ∙ e.says members j (arrivals (plan_of s) p members (events_to s p c)) (collects (plan_of s) p members j (events_to s p c))
            ∙ agrees.say
            ∙ sym (ap (says_with set j (fence_count set (take c (written_calls s p))) (says_to set j (written_calls s p) c)) is
            ∙ silent (fence_count set (take c (written_calls s p))) (says_to set j (written_calls s p) c));
      }
    where
      add_none : (n : ℕ) → n ≡ n + 0
      add_none n = omega arith

  fence_agrees : (c other : ℕ) (collect : Bool) → slice_get (written_calls s p) c ≡ Some (call.Fence other collect) → Agrees c → Agrees (suc c)
  fence_agrees c other collect is agrees =
      let members = set_at s.sets set in
      let others = set_of (set_at s.sets other) in
      let there = (sound.members p c other collect is).0 in
      let same = sets_compare s other set sound there low in
      let two : events_to s p (suc c) ≡ suc (suc (events_to s p c)) = events_more s p c (call.Fence other collect) is ∙ plus_two (events_to s p c) in
      let here : kind_at (plan_of s) p (events_to s p c) ≡ Some (Arrive others collect) = ap (kind_at (plan_of s) p) (add_none (events_to s p c))
      ∙ event_of_call s p c 0 (call.Fence other collect) is in
      let next : kind_at (plan_of s) p (suc (events_to s p c)) ≡ Some (Leave others) = ap (kind_at (plan_of s) p) (sym (add-one (events_to s p c)))
      ∙ event_of_call s p c 1 (call.Fence other collect) is in
      let before = arrivals (plan_of s) p members (events_to s p c) in
      let said = collects (plan_of s) p members j (events_to s p c) in
      let count = fence_count set (take c (written_calls s p)) in
      record {
        arrive =
            ap (arrivals (plan_of s) p members) two
            ∙ ap (arrivals_with members (arrivals_with members before (kind_at (plan_of s) p (events_to s p c)))) next
            ∙ ap (arrivals_with members before) here
            ∙ ap (λ b. cond b (suc before) before) same
            ∙ ap (λ n. cond (other == set) (suc n) n) agrees.arrive
            ∙ one_or_none (other == set) count
            ∙ sym (count_more c (call.Fence other collect) is);
        say =
            ap (collects (plan_of s) p members j) two
            ∙ ap (collects_with members j (arrivals (plan_of s) p members (suc (events_to s p c))) (collects (plan_of s) p members j (suc (events_to s p c)))) next
            ∙ ap (collects_with members j before said) here
            ∙ ap (λ b. cond (b && (suc before == j)) collect said) same
            ∙ ap (λ n. cond ((other == set) && (suc n == j)) collect said) agrees.arrive
            ∙ ap (cond ((other == set) && (suc count == j)) collect) agrees.say
            ∙ sym (ap (says_with set j count (says_to set j (written_calls s p) c)) is);
      }
    where
      add_none : (n : ℕ) → n ≡ n + 0
      add_none n = omega arith

      plus_two : (n : ℕ) → n + 2 ≡ suc (suc n)
      plus_two n = omega arith

      one_or_none : (b : Bool) (n : ℕ) → cond b (suc n) n ≡ n + cond b 1 0
      one_or_none true n = omega arith
      one_or_none false n = omega arith

  agrees_more : (c : ℕ) (o : Option Call) → slice_get (written_calls s p) c ≡ o → Agrees c → Agrees (suc c)
  agrees_more c None is agrees =
      let same = take_past (written_calls s p) c is in
      record {
        arrive =
            ap (λ calls. arrivals (plan_of s) p (set_at s.sets set) (length (kinds_of (map (planned_call s) calls)))) same
            ∙ agrees.arrive
            ∙ ap (fence_count set) (sym same);
        say =
            ap (λ calls. collects (plan_of s) p (set_at s.sets set) j (length (kinds_of (map (planned_call s) calls)))) same
            ∙ agrees.say
            ∙ sym (ap (says_with set j (fence_count set (take c (written_calls s p))) (says_to set j (written_calls s p) c)) is);
      }
  agrees_more c (Some (call.Fence other collect)) is agrees = fence_agrees c other collect is agrees
  agrees_more c (Some (call.Put scope key value)) is agrees = plain_agrees c (call.Put scope key value) is (unless_plain (is_reserved (text_at s.keys key)) (bare BadParam) (CallPut key scope) tt) refl
      (λ _ _. refl) agrees
  agrees_more c (Some call.Commit) is agrees = plain_agrees c call.Commit is tt refl (λ _ _. refl) agrees
  agrees_more c (Some (call.Get owner key)) is agrees = plain_agrees c (call.Get owner key) is
      (unless_plain (is_reserved (text_at s.keys key)) (reply_of_key s owner.number key) (CallGet owner.number key) tt) refl (λ _ _. refl) agrees
  agrees_more c (Some (call.GetNow owner key)) is agrees = plain_agrees c (call.GetNow owner key) is
      (unless_plain (is_reserved (text_at s.keys key)) (reply_of_key s owner.number key) (CallGetNow owner.number key) tt) refl (λ _ _. refl) agrees
  agrees_more c (Some (call.Publish name value)) is agrees = plain_agrees c (call.Publish name value) is (unless_plain (is_reserved (text_at s.names name)) (bare BadParam) (CallPublish name) tt) refl
      (λ _ _. refl) agrees
  agrees_more c (Some (call.Lookup name)) is agrees = plain_agrees c (call.Lookup name) is (unless_plain (is_reserved (text_at s.names name)) (bare BadParam) (CallLookup name) tt) refl (λ _ _. refl)
      agrees
  agrees_more c (Some (call.LookupWait name)) is agrees = plain_agrees c (call.LookupWait name) is (unless_plain (is_reserved (text_at s.names name)) (bare BadParam) (CallLookupWait name) tt) refl
      (λ _ _. refl) agrees
  agrees_more c (Some (call.Unpublish name)) is agrees = plain_agrees c (call.Unpublish name) is (unless_plain (is_reserved (text_at s.names name)) (bare BadParam) (CallUnpublish name) tt) refl
      (λ _ _. refl) agrees
  agrees_more c (Some call.UnpublishAll) is agrees = plain_agrees c call.UnpublishAll is tt refl (λ _ _. refl) agrees

  pub agree : (c : ℕ) → Agrees c
  agree zero = record { arrive = refl; say = refl }
  agree (suc c) = agrees_more c (slice_get (written_calls s p) c) refl (agree c)

pub calls_are_arrivals : CallsAreArrivals
calls_are_arrivals s p c set sound low = (agree s p set 0 sound low c).arrive

-- of all calls
all_events : (s : Scripts) (p : ℕ) → event_count (plan_of s) p ≡ events_to s p (length (written_calls s p))
all_events s p = count_is s p ∙ ap (λ calls. length (kinds_of (map (planned_call s) calls))) (sym (take_whole (written_calls s p)))
  where
    take_whole : {A : Type 0} (xs : List A) → take (length xs) xs ≡ xs
    take_whole [] = refl
    take_whole {A = A} (x ∷ xs) = ap (λ (ys : List A). x ∷ ys) (take_whole xs)

pub all_arrivals : (s : Scripts) (p set : ℕ) → IsSound s → set < length s.sets →
    arrivals (plan_of s) p (set_at s.sets set) (event_count (plan_of s) p) ≡ fence_count set (take (length (written_calls s p)) (written_calls s p))
all_arrivals s p set sound low = ap (arrivals (plan_of s) p (set_at s.sets set)) (all_events s p) ∙ (agree s p set 0 sound low (length (written_calls s p))).arrive

pub all_say : (s : Scripts) (p set j : ℕ) → IsSound s → set < length s.sets →
    collects (plan_of s) p (set_at s.sets set) j (event_count (plan_of s) p) ≡ says_to set j (written_calls s p) (length (written_calls s p))
all_say s p set j sound low = ap (collects (plan_of s) p (set_at s.sets set) j) (all_events s p) ∙ (agree s p set j sound low (length (written_calls s p))).say
