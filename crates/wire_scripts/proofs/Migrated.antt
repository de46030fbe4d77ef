-- Scripts under version 2 are the same plan.
use Rattle.std.proofs.Common.{◌≡◌, refl, map}
use Rattle.wire_types.specs.declared.Call.{Call}
use Rattle.wire_types.specs.declared.Call.TheVariants.{Put, Commit, Fence, Get, GetNow, Publish, Lookup, LookupWait, Unpublish, UnpublishAll}
use Rattle.wire_scripts.specs.Scripts.{Scripts, under_version_2}
use Rattle.wire_scripts.specs.Planned.{planned_call, plan_of}

same_call : (s : Scripts) (c : Call) → planned_call (under_version_2 s) c ≡ planned_call s c
same_call s (Put scope key value) = refl
same_call s Commit = refl
same_call s (Fence set collect) = refl
same_call s (Get owner key) = refl
same_call s (GetNow owner key) = refl
same_call s (Publish name value) = refl
same_call s (Lookup name) = refl
same_call s (LookupWait name) = refl
same_call s (Unpublish name) = refl
same_call s UnpublishAll = refl

pub same_plan : (s : Scripts) → plan_of (under_version_2 s) ≡ plan_of s
same_plan s = λ i. record { processes = map (λ p. record { node = p.node; calls = map (λ c. same_call s c i) p.calls }) s.processes; keep = s.keeps }
