-- What the kinds of events are, and the events that scripts plan, each with the number of its call.
use Rattle.std.specs.Prelude.{◌≡◌, ℕ, suc, ◌+◌, List, [], ◌∷◌, ◌++◌, length, map, replicate, flat_map}
use Rattle.wire_runs.specs.Plan.{Kind, Call, kinds_of, set_of}
use Rattle.wire_runs.specs.Plan as plan
use Rattle.wire_types.specs.declared.Call.{Call as Written}
use Rattle.wire_types.specs.declared.Call.TheVariants.{Fence}
use Rattle.wire_scripts.specs.Scripts.{Scripts, IsSound, set_at}
use Rattle.wire_scripts.specs.Planned.{planned_call}
use Rattle.wire_runs.specs.Ends.{call_size}
use Rattle.wire_plan.specs.declared.kind.Kind.{Kind as CodeKind}
use Rattle.wire_plan.specs.declared.kind.Kind.TheVariants.{Put, Commit, Arrive, Leave, Get, GetNow, Publish, Lookup}
use Rattle.wire_plan.specs.declared.kind.Kind.TheVariants.{LookupWait, Unpublish, UnpublishAll, Fixed}

-- the event of a kind, given the table of sets
abbrev pub kind_of : List (List ℕ) → CodeKind → Kind
kind_of sets (Put scope key) = plan.Put key scope
kind_of sets Commit = plan.Commit
kind_of sets (Arrive set collect) = plan.Arrive (set_of (set_at sets set)) collect
kind_of sets (Leave set) = plan.Leave (set_of (set_at sets set))
kind_of sets (Get owner key) = plan.Get owner.number key
kind_of sets (GetNow owner key) = plan.GetNow owner.number key
kind_of sets (Publish name) = plan.Publish name
kind_of sets (Lookup name) = plan.Lookup name
kind_of sets (LookupWait name) = plan.LookupWait name
kind_of sets (Unpublish name) = plan.Unpublish name
kind_of sets UnpublishAll = plan.UnpublishAll
kind_of sets (Fixed reply) = plan.Fixed reply

-- the events of a call after its first
abbrev pub kinds_after : List (List ℕ) → Written → List Kind
kinds_after sets (Fence set collect) = plan.Leave (set_of (set_at sets set)) ∷ []
kinds_after sets _ = []

-- for each event of these calls the number of its call, the first of them with this number
abbrev pub calls_from : ℕ → List Call → List ℕ
calls_from n [] = []
calls_from n (call ∷ calls) = replicate (call_size call) n ++ calls_from (suc n) calls

-- the events that the calls of the processes are made of, one process after another
abbrev pub kinds_planned : Scripts → List Kind
kinds_planned s = flat_map (λ p. kinds_of (map (planned_call s) p.calls)) s.processes

-- and the number of the call of each
abbrev pub calls_planned : Scripts → List ℕ
calls_planned s = flat_map (λ p. calls_from 0 (map (planned_call s) p.calls)) s.processes

-- where lists of these sizes begin that stand one after another, the first of them at this place, and where the last
-- ends
abbrev pub firsts_from : {A : Type 0} → (A → ℕ) → ℕ → List A → List ℕ
firsts_from size n [] = n ∷ []
firsts_from size n (x ∷ xs) = n ∷ firsts_from size (n + size x) xs

-- where the events of each process begin, and where those of the last end
abbrev pub firsts_planned : Scripts → List ℕ
firsts_planned s = firsts_from (λ p. length (kinds_of (map (planned_call s) p.calls))) 0 s.processes

-- these are the events of these scripts, with their calls, and where those of each process begin
pub record AreEventsOf (s : Scripts) (events : List Kind) (numbers begins : List ℕ) : Type 0 where
  pub kinds : events ≡ kinds_planned s
  pub calls : numbers ≡ calls_planned s
  pub firsts : begins ≡ firsts_planned s
  pub sound : IsSound s
