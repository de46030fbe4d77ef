-- Where each call of the instances that are judged has its reply, no process of them stands at a call. (The lemmas of
-- `AllDone` of `wire_reply_laws`, of a process that stands.)
use Rattle.std.proofs.Common.{◌≡◌, ◌∙◌, ap, sym, refl, ℕ, zero, suc, ◌+◌, ◌-◌, ◌<◌, List, [], ◌∷◌, ◌++◌, false, length, map, Option, Some, None, arith}
use Rattle.std.specs.Prelude.{slice_get}
use Rattle.std.proofs.lemmas.List.{length-map}
use Rattle.wire_types.specs.declared.CallEnd.TheVariants.{Replied, Waiting}
use Rattle.wire_types.specs.declared.Reply.{Reply}
use Rattle.wire_runs.specs.Plan.{Plan, Process, LookupWait, kinds, kinds_of, process_kinds, process_count, event_count}
use Rattle.wire_runs.specs.Plan.{Call, CallPut, CallCommit, CallFence, CallGet, CallGetNow, CallPublish, CallLookup, CallLookupWait, CallUnpublish, CallUnpublishAll, CallFixed}
use Rattle.wire_runs.specs.PlainRun.{plain_run}
use Rattle.wire_runs.specs.Ends.{row, replies_of, calls_of, process_calls, unanswered}
use Rattle.wire_runs.specs.Laws.{plain_end}
use Rattle.wire_runs.proofs.Basics.{event_within, process_within}
use Rattle.wire_runs.proofs.Ends.{given_by, none_given, counted_run}
use Rattle.wire_runs.proofs.Lists.{slice_get-append_right}
use Rattle.wire_runs.proofs.PlainRun.{plain_runs}
use Rattle.wire_scripts.specs.Planned.{plan_of}
use Rattle.wire_pattern_waits.proofs.Answered.{row_of}
use Rattle.wire_answer_laws.specs.AnySize.{RepliedStandForOne}

-- where not all events are done, fewer replies are given than there are calls
fewer_given : (calls : List Call) (n : ℕ) → n < length (kinds_of calls) → given_by (kinds_of calls) n < length calls
fewer_given [] n lt = absurd (omega (arith, lt))
fewer_given (call ∷ calls) zero lt = let none = none_given (kinds_of (call ∷ calls)) in omega (arith, none)
fewer_given (CallFence members collect ∷ calls) (suc zero) lt = omega arith
fewer_given (CallFence members collect ∷ calls) (suc (suc n)) lt = omega (arith, fewer_given calls n (omega (arith, lt)))
fewer_given (CallPut key scope ∷ calls) (suc n) lt = omega (arith, fewer_given calls n (omega (arith, lt)))
fewer_given (CallCommit ∷ calls) (suc n) lt = omega (arith, fewer_given calls n (omega (arith, lt)))
fewer_given (CallGet owner key ∷ calls) (suc n) lt = omega (arith, fewer_given calls n (omega (arith, lt)))
fewer_given (CallGetNow owner key ∷ calls) (suc n) lt = omega (arith, fewer_given calls n (omega (arith, lt)))
fewer_given (CallPublish name ∷ calls) (suc n) lt = omega (arith, fewer_given calls n (omega (arith, lt)))
fewer_given (CallLookup name ∷ calls) (suc n) lt = omega (arith, fewer_given calls n (omega (arith, lt)))
fewer_given (CallLookupWait name ∷ calls) (suc n) lt = omega (arith, fewer_given calls n (omega (arith, lt)))
fewer_given (CallUnpublish name ∷ calls) (suc n) lt = omega (arith, fewer_given calls n (omega (arith, lt)))
fewer_given (CallUnpublishAll ∷ calls) (suc n) lt = omega (arith, fewer_given calls n (omega (arith, lt)))
fewer_given (CallFixed r ∷ calls) (suc n) lt = omega (arith, fewer_given calls n (omega (arith, lt)))

fewer_in : (process : Option Process) (n : ℕ) → n < length (process_kinds process) → given_by (process_kinds process) n < length (process_calls process)
fewer_in None n lt = absurd (omega (arith, lt))
fewer_in (Some process) n lt = fewer_given process.calls n lt

waits_first : (m n : ℕ) → m < n → slice_get (unanswered false (n - m)) 0 ≡ Some Waiting
waits_first m n lt = go (n - m) (omega (arith, lt))
  where
    go : (k : ℕ) → 0 < k → slice_get (unanswered false k) 0 ≡ Some Waiting
    go zero none = absurd (omega (arith, none))
    go (suc k) some = refl

not_replied : (r : Reply) → Waiting ≡ Replied r → ⊥
not_replied r e = cc

-- where a process isn't done with its events, a call of it waits in the end
stands : (plan : Plan) (p : ℕ) → (plain_end plan).done p < event_count plan p
    → slice_get (row plan (plain_end plan) p) (length (replies_of plan ((plain_end plan).replies p))) ≡ Some Waiting
unfolding event_count kinds
stands plan p lt =
    let replies : List Reply = replies_of plan ((plain_end plan).replies p) in
    let counted = counted_run plan (plain_run plan) p in
    let fewer = fewer_in (slice_get plan.processes p) ((plain_end plan).done p) lt in
    let less : length replies < length (calls_of plan p) = omega (arith, counted, fewer) in
    let place : length (map Replied replies) + 0 ≡ length replies = (let l = length-map replies Replied in omega (arith, l)) in
    ap (λ ready. slice_get (map Replied replies ++ unanswered ready (length (calls_of plan p) - length replies)) (length replies)) ((plain_runs plan).ends p)
    ∙ ap (slice_get (map Replied replies ++ unanswered false (length (calls_of plan p) - length replies))) (sym place)
    ∙ slice_get-append_right (map Replied replies) (unanswered false (length (calls_of plan p) - length replies)) 0
    ∙ waits_first (length replies) (length (calls_of plan p)) less

pub replied_stand_for_one : RepliedStandForOne
replied_stand_for_one p all number selection s is reads q name has =
    let plan = plan_of s in
    let within = event_within plan q ((plain_end plan).done q) (LookupWait name) has in
    let there = process_within plan q ((plain_end plan).done q) (LookupWait name) has in
    let n : ℕ = length (replies_of plan ((plain_end plan).replies q)) in
    let r = all number selection s q n Waiting is reads
    (ap (λ ends. slice_get ends n) (row_of plan (plain_end plan) (process_count plan) q there) ∙ stands plan q within) in
    absurd (not_replied r.0 r.1)
