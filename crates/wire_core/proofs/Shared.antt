-- What is kept of all processes together follows each step.
use Rattle.std.proofs.Common.{◌≡◌, ◌∙◌, ap, sym, refl, ℕ, zero, suc, ◌<◌, List, length, Bool, true, false, cond, Option, Some, None, inl, inr, arith}
use Rattle.std.specs.Prelude.{option_map, is_some, ◌==◌, replicate, IfSome}
use Rattle.wire_runs.specs.Plan.{Plan, Kind, Put, Commit, Arrive, Leave, Get, GetNow, Publish, Lookup, LookupWait, Unpublish, UnpublishAll, Fixed, Event, kind_at}
use Rattle.wire_types.specs.declared.CallAt.{CallAt}
use Rattle.wire_scripts.specs.Scripts.{Scripts, IsSound}
use Rattle.wire_scripts.specs.Planned.{plan_of}
use Rattle.wire_fence.specs.declared.FenceId.{FenceId}
use Rattle.wire_fence.specs.FenceTable.{FenceTable, AreFencesOf}
use Rattle.wire_fence.specs.Arrivals.{TellsMissing, IsArriving, missing_at}
use Rattle.wire_fence.proofs.Missing.{other_events_keep, arrival_counts, arriving_is_missing}
use Rattle.wire_names.specs.Names.{published, after_publish, after_unpublish}
use Rattle.wire_names.specs.Changes.{names_after, standing_after, HasName}
use Rattle.wire_names.proofs.Changes.{names_follow}
use Rattle.wire_runs.specs.State.{State, start, next_event}
use Rattle.wire_runs.specs.Step.{step, name_after, is_publisher}
use Rattle.wire_runs.specs.Ends.{call_of}
use Rattle.wire_plan.specs.Meetings.{fence_members}
use Rattle.wire_core.specs.Met.{ArrivesAt, after_arrival}
use Rattle.wire_core.specs.Ranks.{AreStateNames, IsShared}
use Rattle.wire_plan.proofs.Behind.{IsBehind, IsPart, First, Second, Other, part, changed_name, calls_by, event_behind}

-- before the first event nothing stands under any name
pub new_names : (scripts : Scripts) (names : List (Option CallAt)) → names ≡ replicate (length scripts.names) None → AreStateNames scripts start names
new_names scripts names is = record {
  count = ap length is ∙ length-replicate (length scripts.names);
  each = λ name. ap (λ t. published t name) is ∙ none (length scripts.names) name;
}
  where
    length-replicate : (n : ℕ) → length (replicate {A = Option CallAt} n None) ≡ n
    length-replicate zero = refl
    length-replicate (suc n) = ap suc (length-replicate n)

    none : (n name : ℕ) → published (replicate n None) name ≡ None
    none zero name = refl
    none (suc n) zero = refl
    none (suc n) (suc name) = none n name

-- a process that is about to arrive at a fence
arriving : (s : Scripts) (state : State) (table : FenceTable) (p number : ℕ) → ArrivesAt s table (next_event state p) (Some number) → IsArriving s state.done table number p
arriving s state table p number (met, (members, collect, is)) = record {
  fence = met.fence;
  there = met.there;
  collect = collect;
  event = is ∙ ap (λ ms. Some (Arrive ms collect)) (sym (met.members ∙ ap fence_members is));
  member = met.member;
  nth = met.nth;
}

pub somebody_missing : (s : Scripts) (state : State) (table : FenceTable) (missing : List ℕ) (p number : ℕ) → ArrivesAt s table (next_event state p) (Some number) →
    TellsMissing s state.done table missing → 0 < missing_at missing number
somebody_missing s state table missing p number at told = arriving_is_missing s state.done table missing number p (arriving s state table p number at) told

pub missing_if : (s : Scripts) (state : State) (table : FenceTable) (missing : List ℕ) (p : ℕ) (fence : Option FenceId) → ArrivesAt s table (next_event state p) (option_map (λ f. f.number) fence) →
    TellsMissing s state.done table missing → IfSome fence (λ f. 0 < missing_at missing f.number)
missing_if s state table missing p None at told = tt
missing_if s state table missing p (Some fence) at told = somebody_missing s state table missing p fence.number at told

arrived_step : (s : Scripts) (state : State) (table : FenceTable) (missing : List ℕ) (p : ℕ) (fence : Option ℕ) → AreFencesOf s table → ArrivesAt s table (next_event state p) fence →
    TellsMissing s state.done table missing → TellsMissing s (step (plan_of s) state p).done table (after_arrival fence missing)
arrived_step s state table missing p None fences at told = other_events_keep s state.done table missing p at told
arrived_step s state table missing p (Some number) fences at told = arrival_counts s state.done table missing number p fences (arriving s state table p number at) told

-- what stands under a name, as a call and as an event
module _ (plan : Plan) (x : Event) where
  published_by : (b : Bool) (o : Option Event) → cond b (after_publish (call_of plan x) (option_map (call_of plan) o)) (option_map (call_of plan) o) ≡ option_map (call_of plan)
      (cond b (cond (is_some o) o (Some x)) o)
  published_by true None = refl
  published_by true (Some publish) = refl
  published_by false o = refl

  removed_by : (b : Bool) (o : Option Event) → cond b (after_unpublish x.proc (option_map (call_of plan) o)) (option_map (call_of plan) o) ≡ option_map (call_of plan)
      (cond b (cond (is_publisher x.proc o) None o) o)
  removed_by true None = refl
  removed_by true (Some publish) = go (publish.proc == x.proc)
    where
      go : (b : Bool) → cond b None (Some (call_of plan publish)) ≡ option_map (call_of plan) (cond b None (Some publish))
      go true = refl
      go false = refl
  removed_by false o = refl

  standing : (e : Kind) (name : ℕ) (o : Option Event) → standing_after (call_of plan x) (Some e) name (option_map (call_of plan) o) ≡ option_map (call_of plan) (name_after o x (Some e) name)
  standing (Put key scope) name o = refl
  standing Commit name o = refl
  standing (Arrive members collect) name o = refl
  standing (Leave members) name o = refl
  standing (Get owner key) name o = refl
  standing (GetNow owner key) name o = refl
  standing (Publish other) name o = published_by (other == name) o
  standing (Lookup other) name o = refl
  standing (LookupWait other) name o = refl
  standing (Unpublish other) name o = removed_by (other == name) o
  standing UnpublishAll name o = removed_by true o
  standing (Fixed reply) name o = refl

-- the table has the name of an event that changes one
pub has_name : (s : Scripts) (p at : ℕ) (e : Kind) (names : List (Option CallAt)) → IsSound s → length names ≡ length s.names → kind_at (plan_of s) p at ≡ Some e → HasName (Some e) names
has_name s p at e names sound count is = let b = event_behind s p at e is in go e refl b (part s b.call b.i e b.here)
  where
    within : (e : Kind) (b : IsBehind s (calls_by s p) at e) (name : ℕ) → changed_name e ≡ Some name → IsPart s b.call b.i e → name < length names
    within e b name changed (First set collect call_is i_is e_is) = none_some (sym (ap changed_name e_is) ∙ changed)
      where
        none_some : None ≡ Some name → name < length names
        none_some h = cc
    within e b name changed (Second set collect call_is i_is e_is) = none_some (sym (ap changed_name e_is) ∙ changed)
      where
        none_some : None ≡ Some name → name < length names
        none_some h = cc
    within e b name changed (Other apart (inl without)) = none_some (sym without ∙ changed)
      where
        none_some : None ≡ Some name → name < length names
        none_some h = cc
    within e b name changed (Other apart (inr same)) = let lt = sound.names p b.c name b.call b.is (sym same ∙ changed) in omega (arith, lt, count)

    go : (x : Kind) → e ≡ x → (b : IsBehind s (calls_by s p) at e) → IsPart s b.call b.i e → HasName (Some x) names
    go (Publish name) is b q = within e b name (ap changed_name is) q
    go (Unpublish name) is b q = within e b name (ap changed_name is) q
    go (Put key scope) is b q = tt
    go Commit is b q = tt
    go (Arrive members collect) is b q = tt
    go (Leave members) is b q = tt
    go (Get owner key) is b q = tt
    go (GetNow owner key) is b q = tt
    go (Lookup name) is b q = tt
    go (LookupWait name) is b q = tt
    go UnpublishAll is b q = tt
    go (Fixed reply) is b q = tt

-- one step
pub shared_step : (s : Scripts) (state : State) (table : FenceTable) (missing : List ℕ) (names : List (Option CallAt)) (p : ℕ) (fence : Option ℕ) (e : Kind) → IsShared s state table missing names →
    kind_at (plan_of s) p (state.done p) ≡ Some e → ArrivesAt s table (next_event state p) fence →
    IsShared s (step (plan_of s) state p) table (after_arrival fence missing) (names_after (call_of (plan_of s) (next_event state p)) (Some e) names)
shared_step s state table missing names p fence e shared is at =
    let plan = plan_of s in
    let place = next_event state p in
    let follows = names_follow (call_of plan place) (Some e) names (has_name s p (state.done p) e names shared.sound shared.named.count is) in
    record {
      sound = shared.sound;
      fences = shared.fences;
      arrived = arrived_step s state table missing p fence shared.fences at shared.arrived;
      named = record {
        count = follows.count ∙ shared.named.count;
        each = λ name. follows.each name ∙ ap (standing_after (call_of plan place) (Some e) name) (shared.named.each name) ∙ standing plan place e name (state.names name)
            ∙ ap (λ o. option_map (call_of plan) (name_after (state.names name) place o name)) (sym is);
      };
    }
