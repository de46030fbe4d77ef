-- The plan that scripts are: a process on a node, with its calls. A call of a reserved key has a fixed reply.
use Rattle.std.specs.Prelude.{List, ℕ, map, length, nat_lt, if◌then◌else◌}
use Rattle.wire_runs.specs.Plan.{Plan, CallPut, CallCommit, CallFence, CallGet, CallGetNow, CallPublish}
use Rattle.wire_runs.specs.Plan.{CallLookup, CallLookupWait, CallUnpublish, CallUnpublishAll, CallFixed}
use Rattle.wire_runs.specs.Plan as plan
use Rattle.wire_types.specs.Replies.{bare}
use Rattle.wire_types.specs.declared.Call.{Call}
use Rattle.wire_types.specs.declared.Call.TheVariants.{Put, Commit, Fence, Get, GetNow, Publish, Lookup, LookupWait}
use Rattle.wire_types.specs.declared.Call.TheVariants.{Unpublish, UnpublishAll}
use Rattle.wire_types.specs.declared.Reply.{Reply}
use Rattle.wire_types.specs.declared.Status.TheVariants.{NotFound, BadParam}
use Rattle.wire_types.specs.Said.{is_reserved}
use Rattle.wire_scripts.specs.Scripts.{Process, Scripts, text_at, set_at}
use Rattle.wire_scripts.specs.Reserved.{reserved_reply}

-- a call of a key or a name: one with a fixed reply where it is reserved
abbrev pub unless_reserved : List ℕ → Reply → plan.Call → plan.Call
unless_reserved text reply call = if is_reserved text then CallFixed reply else call

-- what a get of a reserved key replies; nothing is found of a process that isn't there
abbrev pub reply_of_key : Scripts → ℕ → ℕ → Reply
reply_of_key s owner key = if nat_lt owner (length s.processes) then reserved_reply s.processes owner (text_at s.keys key) else bare NotFound

abbrev pub planned_call : Scripts → Call → plan.Call
planned_call s (Put scope key value) = unless_reserved (text_at s.keys key) (bare BadParam) (CallPut key scope)
planned_call s Commit = CallCommit
planned_call s (Fence set collect) = CallFence (set_at s.sets set) collect
planned_call s (Get owner key) = unless_reserved (text_at s.keys key) (reply_of_key s owner.number key) (CallGet owner.number key)
planned_call s (GetNow owner key) = unless_reserved (text_at s.keys key) (reply_of_key s owner.number key) (CallGetNow owner.number key)
planned_call s (Publish name value) = unless_reserved (text_at s.names name) (bare BadParam) (CallPublish name)
planned_call s (Lookup name) = unless_reserved (text_at s.names name) (bare BadParam) (CallLookup name)
planned_call s (LookupWait name) = unless_reserved (text_at s.names name) (bare BadParam) (CallLookupWait name)
planned_call s (Unpublish name) = unless_reserved (text_at s.names name) (bare BadParam) (CallUnpublish name)
planned_call s UnpublishAll = CallUnpublishAll

abbrev pub planned_process : Scripts → Process → plan.Process
planned_process s p = record { node = p.node; calls = map (planned_call s) p.calls }

abbrev pub plan_of : Scripts → Plan
plan_of s = record { processes = map (planned_process s) s.processes; keep = s.keeps }
