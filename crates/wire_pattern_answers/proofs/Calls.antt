-- Where the call of scripts stands among the events of their plan, on whatever nodes.
use Rattle.std.proofs.Common.{◌≡◌, ◌∙◌, ap, sym, refl, ℕ, zero, suc, List, [], ◌∷◌, Bool, true, false, length, map, take, Option, Some, None, option_map, if◌then◌else◌}
use Rattle.std.specs.Prelude.{slice_get}
use Rattle.std.proofs.lemmas.List.{take-map}
use Rattle.std.proofs.lemmas.Option.{same_Some}
use Rattle.wire_types.specs.declared.Call.{Call as Said}
use Rattle.wire_types.specs.declared.Call.TheVariants as said
use Rattle.wire_types.specs.declared.Reply.{Reply}
use Rattle.wire_types.specs.Said.{is_reserved}
use Rattle.wire_runs.specs.Plan.{Call, CallPut, CallCommit, CallFence, CallGet, CallGetNow, CallPublish, CallLookup, CallLookupWait, CallUnpublish, CallUnpublishAll, CallFixed, Kind, kinds_of}
use Rattle.wire_runs.specs.Ends.{calls_of}
use Rattle.wire_scripts.specs.Process.{Process}
use Rattle.wire_scripts.specs.Scripts.{Scripts, calls_in, call_at}
use Rattle.wire_scripts.specs.Planned.{unless_reserved, planned_call, plan_of}
use Rattle.wire_scripts.specs.Placed.{moved}
use Rattle.wire_scripts.proofs.Moved.{on_node, moved_get}
use Rattle.wire_scripts.proofs.PlannedCalls.{calls_are}
use Rattle.wire_pattern_answers.proofs.Rows.{place}

-- the kind of a call's first event
abbrev pub first_kind : Call → Option Kind
first_kind call = slice_get (kinds_of (call ∷ [])) 0

head_kind : (call : Call) (calls : List Call) → slice_get (kinds_of (call ∷ calls)) 0 ≡ first_kind call
head_kind (CallPut key scope) calls = refl
head_kind CallCommit calls = refl
head_kind (CallFence members collect) calls = refl
head_kind (CallGet owner key) calls = refl
head_kind (CallGetNow owner key) calls = refl
head_kind (CallPublish name) calls = refl
head_kind (CallLookup name) calls = refl
head_kind (CallLookupWait name) calls = refl
head_kind (CallUnpublish name) calls = refl
head_kind CallUnpublishAll calls = refl
head_kind (CallFixed reply) calls = refl

later_kind : (call : Call) (calls before : List Call) → slice_get (kinds_of (call ∷ calls)) (length (kinds_of (call ∷ before))) ≡ slice_get (kinds_of calls) (length (kinds_of before))
later_kind (CallPut key scope) calls before = refl
later_kind CallCommit calls before = refl
later_kind (CallFence members collect) calls before = refl
later_kind (CallGet owner key) calls before = refl
later_kind (CallGetNow owner key) calls before = refl
later_kind (CallPublish name) calls before = refl
later_kind (CallLookup name) calls before = refl
later_kind (CallLookupWait name) calls before = refl
later_kind (CallUnpublish name) calls before = refl
later_kind CallUnpublishAll calls before = refl
later_kind (CallFixed reply) calls before = refl

-- it stands at the call's place
pub kind_there : (calls : List Call) (c : ℕ) (call : Call) → slice_get calls c ≡ Some call → slice_get (kinds_of calls) (place calls c) ≡ first_kind call
kind_there [] c call is = cc
kind_there (x ∷ calls) zero call is = head_kind x calls ∙ ap first_kind (same_Some x call is)
kind_there (x ∷ calls) (suc c) call is = later_kind x calls (take c calls) ∙ kind_there calls c call is

-- how many events calls are
abbrev events_in : List Said → ℕ
events_in [] = 0
events_in (said.Fence set collect ∷ calls) = suc (suc (events_in calls))
events_in (_ ∷ calls) = suc (events_in calls)

one_more : (text : List ℕ) (reply : Reply) (call : Call) (calls : List Call) → length (kinds_of (call ∷ calls)) ≡ suc (length (kinds_of calls))
    → length (kinds_of (unless_reserved text reply call ∷ calls)) ≡ suc (length (kinds_of calls))
one_more text reply call calls one = go (is_reserved text)
  where
    go : (b : Bool) → length (kinds_of ((if b then CallFixed reply else call) ∷ calls)) ≡ suc (length (kinds_of calls))
    go true = refl
    go false = one

planned_length : (s : Scripts) (calls : List Said) → length (kinds_of (map (planned_call s) calls)) ≡ events_in calls
planned_length s [] = refl
planned_length s (said.Put scope key value ∷ calls) = one_more _ _ _ (map (planned_call s) calls) refl ∙ ap suc (planned_length s calls)
planned_length s (said.Commit ∷ calls) = ap suc (planned_length s calls)
planned_length s (said.Fence set collect ∷ calls) = ap (λ n. suc (suc n)) (planned_length s calls)
planned_length s (said.Get owner key ∷ calls) = one_more _ _ _ (map (planned_call s) calls) refl ∙ ap suc (planned_length s calls)
planned_length s (said.GetNow owner key ∷ calls) = one_more _ _ _ (map (planned_call s) calls) refl ∙ ap suc (planned_length s calls)
planned_length s (said.Publish name value ∷ calls) = one_more _ _ _ (map (planned_call s) calls) refl ∙ ap suc (planned_length s calls)
planned_length s (said.Lookup name ∷ calls) = one_more _ _ _ (map (planned_call s) calls) refl ∙ ap suc (planned_length s calls)
planned_length s (said.LookupWait name ∷ calls) = one_more _ _ _ (map (planned_call s) calls) refl ∙ ap suc (planned_length s calls)
planned_length s (said.Unpublish name ∷ calls) = one_more _ _ _ (map (planned_call s) calls) refl ∙ ap suc (planned_length s calls)
planned_length s (said.UnpublishAll ∷ calls) = ap suc (planned_length s calls)

place_is : (s : Scripts) (calls : List Said) (c : ℕ) → place (map (planned_call s) calls) c ≡ events_in (take c calls)
place_is s calls c = ap (λ xs. length (kinds_of xs)) (take-map (planned_call s) c calls) ∙ planned_length s (take c calls)

-- the number of a process's call among its events
abbrev pub place_in : Scripts → ℕ → ℕ → ℕ
place_in s p c = place (calls_of (plan_of s) p) c

calls_on : (node : ℕ) (o : Option Process) → calls_in (option_map (on_node node) o) ≡ calls_in o
calls_on node None = refl
calls_on node (Some process) = refl

module _ (s : Scripts) (names : List (List ℕ)) (nodes : ℕ → ℕ) where
  pub same_calls : (p : ℕ) → calls_in (slice_get (moved s names nodes).processes p) ≡ calls_in (slice_get s.processes p)
  same_calls p = ap calls_in (moved_get nodes 0 s.processes p) ∙ calls_on _ (slice_get s.processes p)

  pub same_call : (p c : ℕ) → call_at (moved s names nodes).processes p c ≡ call_at s.processes p c
  same_call p c = ap (λ calls. slice_get calls c) (same_calls p)

  -- it is the same on all nodes
  pub same_place : (p c : ℕ) → place_in (moved s names nodes) p c ≡ place_in s p c
  same_place p c =
      ap (λ calls. place calls c) (calls_are (moved s names nodes) p) ∙ place_is (moved s names nodes) (calls_in (slice_get (moved s names nodes).processes p)) c
      ∙ ap (λ calls. events_in (take c calls)) (same_calls p)
      ∙ sym (ap (λ calls. place calls c) (calls_are s p) ∙ place_is s (calls_in (slice_get s.processes p)) c)

-- the planned call stands there
pub planned_there : (s : Scripts) (p c : ℕ) (call : Said) → call_at s.processes p c ≡ Some call → slice_get (calls_of (plan_of s) p) c ≡ Some (planned_call s call)
planned_there s p c call is =
    ap (λ calls. slice_get calls c) (calls_are s p) ∙ go (calls_in (slice_get s.processes p)) c is
  where
    go : (calls : List Said) (n : ℕ) → slice_get calls n ≡ Some call → slice_get (map (planned_call s) calls) n ≡ Some (planned_call s call)
    go [] n h = cc
    go (x ∷ calls) zero h = ap (λ k. Some (planned_call s k)) (same_Some x call h)
    go (x ∷ calls) (suc n) h = go calls n h
