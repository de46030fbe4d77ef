-- In a state that a run can reach, each call of a process has an end.
use Rattle.std.proofs.Common.{◌≡◌, ℕ, zero, suc, ◌+◌, ◌-◌, ◌≤◌, List, [], ◌∷◌, ◌++◌, length, map, Bool, Option, Some, None, is_some, inl, inr, refl, sym, ap, ◌∙◌, subst, arith}
use Rattle.std.specs.Prelude.{slice_get}
use Rattle.std.proofs.lemmas.Bool.{cond_both, cases_eq}
use Rattle.std.proofs.lemmas.List.{length-append, length-map, length-replicate}
use Rattle.std.proofs.lemmas.List.Concat.{flat_map-append, flat_map-cons}
use Rattle.wire_types.specs.declared.CallEnd.TheVariants.{Replied, Unreached}
use Rattle.wire_runs.specs.Plan.{Plan, Event, Process, Call, CallPut, CallCommit, CallFence, CallGet, CallGetNow, CallPublish, CallLookup, CallLookupWait, CallUnpublish, CallUnpublishAll, CallFixed}
use Rattle.wire_runs.specs.Plan.{Kind, Put, Commit, Arrive, Leave, Get, GetNow, Publish, Lookup, LookupWait, Unpublish, UnpublishAll, Fixed, kinds, kind_at, kinds_of, process_kinds}
use Rattle.wire_runs.specs.State.{State, Answer, Success, NotFound, Duplicate, start, next_event, next_kind}
use Rattle.wire_runs.specs.Sight.{Sight, Nothing, Outside, Shown, get_sees, get_now_sees}
use Rattle.wire_runs.specs.Step.{sight_reply, lookup_reply, is_publisher, is_enabled, reply, step, run_from}
use Rattle.wire_runs.specs.Ends.{given, replies_of, unanswered, process_calls, calls_of}
use Rattle.wire_runs.specs.Laws.{RowsAreWhole}
use Rattle.wire_runs.proofs.Basics.{update_same, update_other}
use Rattle.wire_runs.proofs.Due.{done_same, done_other}

-- how many replies an event gives
abbrev pub gives : Option Kind → ℕ
gives None = 0
gives (Some (Arrive members collect)) = 0
gives (Some _) = 1

-- how many the first n of these events give
abbrev pub given_by : List Kind → ℕ → ℕ
given_by [] n = 0
given_by (k ∷ ks) zero = 0
given_by (k ∷ ks) (suc n) = gives (Some k) + given_by ks n

pub none_given : (ks : List Kind) → given_by ks zero ≡ 0
none_given [] = refl
none_given (k ∷ ks) = refl

one_more : (ks : List Kind) (n : ℕ) → given_by ks (suc n) ≡ given_by ks n + gives (slice_get ks n)
one_more [] n = refl
one_more (k ∷ ks) zero = let none = none_given ks in omega (arith, none)
one_more (k ∷ ks) (suc n) = let rest = one_more ks n in omega (arith, rest)

-- calls give no more replies than there are calls
few : (calls : List Call) (n : ℕ) → given_by (kinds_of calls) n ≤ length calls
few [] n = omega arith
few (call ∷ calls) zero = let none = none_given (kinds_of (call ∷ calls)) in omega (arith, none)
few (CallPut key scope ∷ calls) (suc n) = omega (arith, few calls n)
few (CallCommit ∷ calls) (suc n) = omega (arith, few calls n)
few (CallFence members collect ∷ calls) (suc zero) = omega arith
few (CallFence members collect ∷ calls) (suc (suc n)) = omega (arith, few calls n)
few (CallGet owner key ∷ calls) (suc n) = omega (arith, few calls n)
few (CallGetNow owner key ∷ calls) (suc n) = omega (arith, few calls n)
few (CallPublish name ∷ calls) (suc n) = omega (arith, few calls n)
few (CallLookup name ∷ calls) (suc n) = omega (arith, few calls n)
few (CallLookupWait name ∷ calls) (suc n) = omega (arith, few calls n)
few (CallUnpublish name ∷ calls) (suc n) = omega (arith, few calls n)
few (CallUnpublishAll ∷ calls) (suc n) = omega (arith, few calls n)
few (CallFixed r ∷ calls) (suc n) = omega (arith, few calls n)

few_in : (process : Option Process) (n : ℕ) → given_by (process_kinds process) n ≤ length (process_calls process)
few_in None n = omega arith
few_in (Some process) n = few process.calls n

seen_gives : (plan : Plan) (owner : ℕ) (sight : Sight) → length (given plan (sight_reply owner sight)) ≡ 1
seen_gives plan owner Nothing = refl
seen_gives plan owner Outside = refl
seen_gives plan owner (Shown put) = refl

found_gives : (plan : Plan) (publish : Option Event) → length (given plan (lookup_reply publish)) ≡ 1
found_gives plan None = refl
found_gives plan (Some publish) = refl

-- an event gives as many replies as it should
gives_so : (plan : Plan) (s : State) (x : Event) (o : Option Kind) → length (given plan (reply plan s x o)) ≡ gives o
gives_so plan s x None = refl
gives_so plan s x (Some (Put key scope)) = refl
gives_so plan s x (Some Commit) = refl
gives_so plan s x (Some (Arrive members collect)) = refl
gives_so plan s x (Some (Leave members)) = refl
gives_so plan s x (Some (Get owner key)) = seen_gives plan owner (get_sees plan s.done x.proc x.at owner key)
gives_so plan s x (Some (GetNow owner key)) = seen_gives plan owner (get_now_sees plan s x.proc x.at owner key)
gives_so plan s x (Some (Publish name)) = cond_both (is_some (s.names name)) Duplicate Success (λ a. length (given plan a) ≡ 1) (λ _. refl) (λ _. refl)
gives_so plan s x (Some (Lookup name)) = found_gives plan (s.names name)
gives_so plan s x (Some (LookupWait name)) = found_gives plan (s.names name)
gives_so plan s x (Some (Unpublish name)) = cond_both (is_publisher x.proc (s.names name)) Success NotFound (λ a. length (given plan a) ≡ 1) (λ _. refl) (λ _. refl)
gives_so plan s x (Some UnpublishAll) = refl
gives_so plan s x (Some (Fixed r)) = refl

-- each process has as many replies as its done events give
abbrev pub Counted : Plan → State → Type 0
Counted plan s = (p : ℕ) → length (replies_of plan (s.replies p)) ≡ given_by (kinds plan p) (s.done p)

one_reply : (plan : Plan) (answers : List Answer) (a : Answer) → length (replies_of plan (answers ++ a ∷ [])) ≡ length (replies_of plan answers) + length (given plan a)
one_reply plan answers a =
    let all = ap length (flat_map-append (given plan) answers (a ∷ [])) in
    let parts = length-append (replies_of plan answers) (replies_of plan (a ∷ [])) in
    let last = ap length (flat_map-cons (given plan) a []) in
    let bare = length-append (given plan a) [] in
    omega (arith, all, parts, last, bare)

counted_step : (plan : Plan) (s : State) (q : ℕ) → Counted plan s → Counted plan (step plan s q)
unfolding kind_at
counted_step plan s q counted p = elim (cases_eq p q) [
  | inl same ↦ subst (λ k. length (replies_of plan ((step plan s q).replies k)) ≡ given_by (kinds plan k) ((step plan s q).done k)) (sym same) here
  | inr other ↦ (
      let replies = ap (λ answers. length (replies_of plan answers)) (update_other s.replies q (s.replies q ++ reply plan s (next_event s q) (next_kind plan s q) ∷ []) p other) in
      let done = ap (given_by (kinds plan p)) (done_other plan s q p other) in
      replies ∙ counted p ∙ sym done)
]
  where
    here : length (replies_of plan ((step plan s q).replies q)) ≡ given_by (kinds plan q) ((step plan s q).done q)
    here =
        let replies = ap (λ answers. length (replies_of plan answers)) (update_same s.replies q (s.replies q ++ reply plan s (next_event s q) (next_kind plan s q) ∷ [])) in
        let more = one_reply plan (s.replies q) (reply plan s (next_event s q) (next_kind plan s q)) in
        let gives_one = gives_so plan s (next_event s q) (next_kind plan s q) in
        let before = counted q in
        let done = ap (given_by (kinds plan q)) (done_same plan s q) in
        let after = one_more (kinds plan q) (s.done q) in
        omega (arith, replies, more, gives_one, before, done, after)

counted_from : (plan : Plan) (s : State) (w : List ℕ) → Counted plan s → Counted plan (run_from plan s w)
counted_from plan s [] counted = counted
counted_from plan s (p ∷ w) counted = counted_from plan (step plan s p) w (counted_step plan s p counted)

pub counted_run : (plan : Plan) (w : List ℕ) → Counted plan (run_from plan start w)
counted_run plan w = counted_from plan start w (λ q. sym (none_given (kinds plan q)))

as_many : (ready : Bool) (n : ℕ) → length (unanswered ready n) ≡ n
as_many ready zero = refl
as_many ready (suc n) = let rest = length-replicate n Unreached in omega (arith, rest)

pub rows_are_whole : RowsAreWhole
unfolding kinds
rows_are_whole plan s p (w, legal, is) =
    let counted : Counted plan s = subst (Counted plan) is (counted_run plan w) in
    let few_replies = few_in (slice_get plan.processes p) (s.done p) in
    let here = counted p in
    let parts = length-append (map Replied (replies_of plan (s.replies p))) (unanswered (is_enabled plan s p) (length (calls_of plan p) - length (replies_of plan (s.replies p)))) in
    let answered = length-map (replies_of plan (s.replies p)) Replied in
    let rest = as_many (is_enabled plan s p) (length (calls_of plan p) - length (replies_of plan (s.replies p))) in
    omega (arith, few_replies, here, parts, answered, rest)
