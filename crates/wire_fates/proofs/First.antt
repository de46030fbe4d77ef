-- The events of a call: the first, and the end of a fence.
use Rattle.std.proofs.Common.{◌≡◌, ◌∙◌, ap, refl, sym, ℕ, zero, suc, List, [], ◌∷◌, Bool, false, Some, arith}
use Rattle.std.specs.Prelude.{slice_get}
use Rattle.std.proofs.lemmas.Bool.{true≢false}
use Rattle.std.proofs.lemmas.Option.{slice_get_within, same_Some}
use Rattle.wire_runs.specs.Plan.{Plan, Event, Call, CallPut, CallCommit, CallFence, CallGet, CallGetNow, CallPublish, CallLookup, CallLookupWait, CallUnpublish, CallUnpublishAll, CallFixed}
use Rattle.wire_runs.specs.Plan.{Kind, Arrive, Leave, kinds_of, kinds, kind_at, kind}
use Rattle.wire_runs.specs.Ends.{call_of, process_calls, first_event}
use Rattle.wire_plan.proofs.Gathering.{is_arrive}
use Rattle.wire_findings.proofs.Calls.{is_leave, same_events, starts_back}

no_end : (e : Kind) → ((members : List ℕ) → e ≡ Leave members → ⊥) → is_leave e ≡ false
no_end (Leave members) never = absurd (never members refl)
no_end _ never = refl

-- an event that ends no fence is the first of its call
pub first_of_call : (plan : Plan) (x : Event) (e : Kind) → kind plan x ≡ Some e → ((members : List ℕ) → e ≡ Leave members → ⊥) → first_event plan (call_of plan x) ≡ x
first_of_call plan x e is never = starts_back plan x (record { what = e; is = is; first = no_end e never })

-- the members of the fence at which an event arrives
abbrev pub members_in : Kind → List ℕ
members_in (Arrive members collect) = members
members_in _ = []

-- the end of a fence stands behind each arrival at it
ends : (calls : List Call) (at : ℕ) (members : List ℕ) (collect : Bool) → slice_get (kinds_of calls) at ≡ Some (Arrive members collect) → slice_get (kinds_of calls) (suc at) ≡ Some (Leave members)
ends [] at members collect is = let lt = slice_get_within [] at _ is in absurd (omega (arith, lt))
ends (CallFence others says ∷ calls) zero members collect is = ap (λ e. Some (Leave (members_in e))) (same_Some _ _ is)
ends (CallFence others says ∷ calls) (suc zero) members collect is = absurd (true≢false (sym (ap is_arrive (same_Some _ _ is))))
ends (CallFence others says ∷ calls) (suc (suc at)) members collect is = ends calls at members collect is
ends (CallPut key scope ∷ calls) zero members collect is = absurd (true≢false (sym (ap is_arrive (same_Some _ _ is))))
ends (CallPut key scope ∷ calls) (suc at) members collect is = ends calls at members collect is
ends (CallCommit ∷ calls) zero members collect is = absurd (true≢false (sym (ap is_arrive (same_Some _ _ is))))
ends (CallCommit ∷ calls) (suc at) members collect is = ends calls at members collect is
ends (CallGet owner key ∷ calls) zero members collect is = absurd (true≢false (sym (ap is_arrive (same_Some _ _ is))))
ends (CallGet owner key ∷ calls) (suc at) members collect is = ends calls at members collect is
ends (CallGetNow owner key ∷ calls) zero members collect is = absurd (true≢false (sym (ap is_arrive (same_Some _ _ is))))
ends (CallGetNow owner key ∷ calls) (suc at) members collect is = ends calls at members collect is
ends (CallPublish name ∷ calls) zero members collect is = absurd (true≢false (sym (ap is_arrive (same_Some _ _ is))))
ends (CallPublish name ∷ calls) (suc at) members collect is = ends calls at members collect is
ends (CallLookup name ∷ calls) zero members collect is = absurd (true≢false (sym (ap is_arrive (same_Some _ _ is))))
ends (CallLookup name ∷ calls) (suc at) members collect is = ends calls at members collect is
ends (CallLookupWait name ∷ calls) zero members collect is = absurd (true≢false (sym (ap is_arrive (same_Some _ _ is))))
ends (CallLookupWait name ∷ calls) (suc at) members collect is = ends calls at members collect is
ends (CallUnpublish name ∷ calls) zero members collect is = absurd (true≢false (sym (ap is_arrive (same_Some _ _ is))))
ends (CallUnpublish name ∷ calls) (suc at) members collect is = ends calls at members collect is
ends (CallUnpublishAll ∷ calls) zero members collect is = absurd (true≢false (sym (ap is_arrive (same_Some _ _ is))))
ends (CallUnpublishAll ∷ calls) (suc at) members collect is = ends calls at members collect is
ends (CallFixed reply ∷ calls) zero members collect is = absurd (true≢false (sym (ap is_arrive (same_Some _ _ is))))
ends (CallFixed reply ∷ calls) (suc at) members collect is = ends calls at members collect is

pub leave_next : (plan : Plan) (p at : ℕ) (members : List ℕ) (collect : Bool) → kind_at plan p at ≡ Some (Arrive members collect) → kind_at plan p (suc at) ≡ Some (Leave members)
unfolding kind_at kinds
leave_next plan p at members collect is =
    let o = slice_get plan.processes p in
    ap (λ es. slice_get es (suc at)) (same_events o) ∙ ends (process_calls o) at members collect (ap (λ es. slice_get es at) (sym (same_events o)) ∙ is)
