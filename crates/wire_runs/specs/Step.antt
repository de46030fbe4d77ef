-- What a step does: who is enabled, what an event replies, what an interleaving is (PMIx Standard 5.0: PMIx_Put,
-- PMIx_Commit, PMIx_Get, PMIx_Fence, PMIx_Publish, PMIx_Lookup, PMIx_Unpublish).
use Rattle.std.specs.Prelude.{◌≡◌, ℕ, suc, List, [], ◌∷◌, ◌++◌, Bool, true, false, Option, Some, None, is_some, ◌==◌}
use Rattle.std.specs.Prelude.{if◌then◌else◌}
use Rattle.wire_runs.specs.Plan.{Plan, Kind, Put, Commit, Arrive, Leave, Get, GetNow, Publish, Lookup, LookupWait}
use Rattle.wire_runs.specs.Plan.{Unpublish, UnpublishAll}
use Rattle.wire_runs.specs.Plan.{Fixed, update, Event}
use Rattle.wire_runs.specs.Fences.{arrivals, is_complete}
use Rattle.wire_runs.specs.State.{Answer, Silent, Success, NotFound, ExistsOutside, Duplicate, Value, Published}
use Rattle.wire_runs.specs.State.{Reserved, State, start, next_event, next_kind}
use Rattle.wire_runs.specs.Sight.{Sight, Nothing, Outside, Shown, get_sees, get_now_sees}

abbrev pub is_seen : Sight → Bool
is_seen Nothing = false
is_seen Outside = true
is_seen (Shown put) = true

-- whether the event x, of this kind, can happen in the state
abbrev pub may_do : Plan → State → Event → Option Kind → Bool
may_do plan s x None = false
may_do plan s x (Some (Get owner key)) = is_seen (get_sees plan s.done x.proc x.at owner key)
may_do plan s x (Some (Leave members)) = is_complete plan s.done members (arrivals plan x.proc members x.at)
may_do plan s x (Some (LookupWait name)) = is_some (s.names name)
may_do plan s x (Some _) = true

abbrev pub is_enabled : Plan → State → ℕ → Bool
is_enabled plan s p = may_do plan s (next_event s p) (next_kind plan s p)

abbrev pub sight_reply : ℕ → Sight → Answer
sight_reply owner Nothing = NotFound
sight_reply owner Outside = ExistsOutside
sight_reply owner (Shown put) = Value (record { proc = owner; at = put })

abbrev pub lookup_reply : Option Event → Answer
lookup_reply None = NotFound
lookup_reply (Some publish) = Published publish

abbrev pub is_publisher : ℕ → Option Event → Bool
is_publisher p None = false
is_publisher p (Some publish) = publish.proc == p

-- what it replies
abbrev pub reply : Plan → State → Event → Option Kind → Answer
reply plan s x None = Silent
reply plan s x (Some (Put key scope)) = Success
reply plan s x (Some Commit) = Success
reply plan s x (Some (Arrive members collect)) = Silent
reply plan s x (Some (Leave members)) = Success
reply plan s x (Some (Get owner key)) = sight_reply owner (get_sees plan s.done x.proc x.at owner key)
reply plan s x (Some (GetNow owner key)) = sight_reply owner (get_now_sees plan s x.proc x.at owner key)
reply plan s x (Some (Publish name)) = if is_some (s.names name) then Duplicate else Success
reply plan s x (Some (Lookup name)) = lookup_reply (s.names name)
reply plan s x (Some (LookupWait name)) = lookup_reply (s.names name)
reply plan s x (Some (Unpublish name)) = if is_publisher x.proc (s.names name) then Success else NotFound
reply plan s x (Some UnpublishAll) = Success
reply plan s x (Some (Fixed r)) = Reserved r

-- what is published under the name after this event
abbrev pub name_after : Option Event → Event → Option Kind → ℕ → Option Event
name_after before x (Some (Publish n)) name = if n == name then (if is_some before then before else Some x) else before
name_after before x (Some (Unpublish n)) name = if n == name then (if is_publisher x.proc before then None else before) else before
name_after before x (Some UnpublishAll) name = if is_publisher x.proc before then None else before
name_after before x _ name = before

-- the state after p's next event
abbrev pub step : Plan → State → ℕ → State
step plan s p = record {
  done = update s.done p (suc (s.done p));
  names = λ n. name_after (s.names n) (next_event s p) (next_kind plan s p) n;
  replies = update s.replies p (s.replies p ++ reply plan s (next_event s p) (next_kind plan s p) ∷ []);
}

-- each process of the list is enabled when it comes
abbrev pub IsInterleaving : Plan → State → List ℕ → Type 0
IsInterleaving plan s [] = Unit {0}
IsInterleaving plan s (p ∷ w) = (is_enabled plan s p ≡ true) × IsInterleaving plan (step plan s p) w

abbrev pub run_from : Plan → State → List ℕ → State
run_from plan s [] = s
run_from plan s (p ∷ w) = run_from plan (step plan s p) w

abbrev pub run : Plan → List ℕ → State
run plan w = run_from plan start w

-- nobody is enabled
abbrev pub IsEnd : Plan → State → Type 0
IsEnd plan s = (p : ℕ) → is_enabled plan s p ≡ false

-- s is the state after some interleaving
abbrev pub IsReachable : Plan → State → Type 0
IsReachable plan s = (w : List ℕ) × IsInterleaving plan start w × (run plan w ≡ s)
