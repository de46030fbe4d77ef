-- Placings by their calls: where each process has the same calls, replies of reserved keys and names aside, it is a placing.
use Rattle.std.proofs.Common.{◌≡◌, ℕ, List, [], ◌∷◌, map, Option, Some, None, refl, sym, ap, ◌∙◌, slice_get}
use Rattle.wire_types.specs.Replies.{bare}
use Rattle.wire_types.specs.declared.Status.TheVariants as status
use Rattle.wire_runs.specs.Plan.{Plan, Process, Call, CallPut, CallCommit, CallFence, CallGet, CallGetNow, CallPublish, CallLookup, CallLookupWait, CallUnpublish, CallUnpublishAll, CallFixed, Put, Commit, Arrive, Leave, Get, GetNow, Publish, Lookup, LookupWait, Unpublish, UnpublishAll, Fixed, set_of, kinds_of, process_kinds, kinds, process_count}
use Rattle.wire_runs.specs.Ends.{process_calls, calls_of}
use Rattle.wire_runs.specs.Placings.{without_reply, IsPlacing}

-- a call, the reply to one of a reserved key or name forgotten
abbrev pub without_said : Call → Call
without_said (CallFixed reply) = CallFixed (bare status.Success)
without_said call = call

pub kinds_without : (calls : List Call) → map without_reply (kinds_of calls) ≡ kinds_of (map without_said calls)
kinds_without [] = refl
kinds_without (CallPut key scope ∷ calls) = ap (λ ks. Put key scope ∷ ks) (kinds_without calls)
kinds_without (CallCommit ∷ calls) = ap (λ ks. Commit ∷ ks) (kinds_without calls)
kinds_without (CallFence members collect ∷ calls) = ap (λ ks. Arrive (set_of members) collect ∷ (Leave (set_of members) ∷ ks)) (kinds_without calls)
kinds_without (CallGet owner key ∷ calls) = ap (λ ks. Get owner key ∷ ks) (kinds_without calls)
kinds_without (CallGetNow owner key ∷ calls) = ap (λ ks. GetNow owner key ∷ ks) (kinds_without calls)
kinds_without (CallPublish name ∷ calls) = ap (λ ks. Publish name ∷ ks) (kinds_without calls)
kinds_without (CallLookup name ∷ calls) = ap (λ ks. Lookup name ∷ ks) (kinds_without calls)
kinds_without (CallLookupWait name ∷ calls) = ap (λ ks. LookupWait name ∷ ks) (kinds_without calls)
kinds_without (CallUnpublish name ∷ calls) = ap (λ ks. Unpublish name ∷ ks) (kinds_without calls)
kinds_without (CallUnpublishAll ∷ calls) = ap (λ ks. UnpublishAll ∷ ks) (kinds_without calls)
kinds_without (CallFixed reply ∷ calls) = ap (λ ks. Fixed (bare status.Success) ∷ ks) (kinds_without calls)

process_without : (o : Option Process) → map without_reply (process_kinds o) ≡ kinds_of (map without_said (process_calls o))
process_without None = refl
process_without (Some process) = kinds_without process.calls

pub placing_by_calls : (plan other : Plan) → plan.keep ≡ other.keep → process_count plan ≡ process_count other →
    ((p : ℕ) → map without_said (calls_of plan p) ≡ map without_said (calls_of other p)) → IsPlacing plan other
unfolding kinds
placing_by_calls plan other keep count calls = record {
  same_keep = keep;
  same_count = count;
  same_calls = λ p. process_without (slice_get plan.processes p) ∙ ap kinds_of (calls p) ∙ sym (process_without (slice_get other.processes p));
}
