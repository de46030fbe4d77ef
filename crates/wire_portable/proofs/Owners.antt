-- The owner of a key that is read is a process of the plan.
use Rattle.std.proofs.Common.{◌≡◌, ℕ, zero, suc, ◌<◌, List, [], ◌∷◌, Option, Some, None, refl, sym, ap, ◌∙◌, subst, map}
use Rattle.std.specs.Prelude.{slice_get}
use Rattle.std.proofs.lemmas.Bool.{cond_both}
use Rattle.std.proofs.lemmas.Option.{none-some, same_Some}
use Rattle.std.proofs.lemmas.List.{length-map}
use Rattle.wire_types.specs.declared.Call.{Call as Written}
use Rattle.wire_types.specs.declared.Call.TheVariants as written
use Rattle.wire_types.specs.Said.{is_reserved}
use Rattle.wire_runs.specs.Plan.{Event, Kind, Get, GetNow, Call, CallPut, CallCommit, CallFence, CallGet, CallGetNow, CallPublish, CallLookup, CallLookupWait, CallUnpublish, CallUnpublishAll, CallFixed, kind, kinds, kind_at, kinds_of, process_count}
use Rattle.wire_runs.proofs.Lists.{slice_get-map_back}
use Rattle.wire_scripts.specs.Scripts.{Scripts, IsSound, owner_in, calls_in, text_at}
use Rattle.wire_scripts.specs.Planned.{plan_of, planned_call}
use Rattle.wire_scripts.proofs.PlannedCalls.{events_are}

-- the owner of the key that an event, or a call, reads
abbrev owner_of : Kind → Option ℕ
owner_of (Get p key) = Some p
owner_of (GetNow p key) = Some p
owner_of _ = None

abbrev owner_by : Call → Option ℕ
owner_by (CallGet p key) = Some p
owner_by (CallGetNow p key) = Some p
owner_by _ = None

abbrev IsCallIn : List Call → ℕ → Type 0
IsCallIn calls p = (c : ℕ) × (call : Call) × (slice_get calls c ≡ Some call) × (owner_by call ≡ Some p)

further : (call : Call) (calls : List Call) (p : ℕ) → IsCallIn calls p → IsCallIn (call ∷ calls) p
further call calls p (c, other, at, owns) = (suc c, other, at, owns)

-- which no event does that isn't of such a call
none_owned : (k : Kind) (p : ℕ) → owner_of k ≡ None → owner_of k ≡ Some p → ⊥
none_owned k p none owns = none-some p (sym none ∙ owns)

find_call : (calls : List Call) (i p : ℕ) (k : Kind) → slice_get (kinds_of calls) i ≡ Some k → owner_of k ≡ Some p → IsCallIn calls p
find_call [] i p k at owns = absurd (none-some k at)
find_call (CallPut key scope ∷ calls) zero p k at owns = absurd (none-some p (ap owner_of (same_Some _ _ at) ∙ owns))
find_call (CallPut key scope ∷ calls) (suc i) p k at owns = further (CallPut key scope) calls p (find_call calls i p k at owns)
find_call (CallCommit ∷ calls) zero p k at owns = absurd (none-some p (ap owner_of (same_Some _ _ at) ∙ owns))
find_call (CallCommit ∷ calls) (suc i) p k at owns = further CallCommit calls p (find_call calls i p k at owns)
find_call (CallFence members collect ∷ calls) zero p k at owns = absurd (none-some p (ap owner_of (same_Some _ _ at) ∙ owns))
find_call (CallFence members collect ∷ calls) (suc zero) p k at owns = absurd (none-some p (ap owner_of (same_Some _ _ at) ∙ owns))
find_call (CallFence members collect ∷ calls) (suc (suc i)) p k at owns = further (CallFence members collect) calls p (find_call calls i p k at owns)
find_call (CallGet owner key ∷ calls) zero p k at owns = (0, CallGet owner key, refl, ap owner_of (same_Some _ _ at) ∙ owns)
find_call (CallGet owner key ∷ calls) (suc i) p k at owns = further (CallGet owner key) calls p (find_call calls i p k at owns)
find_call (CallGetNow owner key ∷ calls) zero p k at owns = (0, CallGetNow owner key, refl, ap owner_of (same_Some _ _ at) ∙ owns)
find_call (CallGetNow owner key ∷ calls) (suc i) p k at owns = further (CallGetNow owner key) calls p (find_call calls i p k at owns)
find_call (CallPublish name ∷ calls) zero p k at owns = absurd (none-some p (ap owner_of (same_Some _ _ at) ∙ owns))
find_call (CallPublish name ∷ calls) (suc i) p k at owns = further (CallPublish name) calls p (find_call calls i p k at owns)
find_call (CallLookup name ∷ calls) zero p k at owns = absurd (none-some p (ap owner_of (same_Some _ _ at) ∙ owns))
find_call (CallLookup name ∷ calls) (suc i) p k at owns = further (CallLookup name) calls p (find_call calls i p k at owns)
find_call (CallLookupWait name ∷ calls) zero p k at owns = absurd (none-some p (ap owner_of (same_Some _ _ at) ∙ owns))
find_call (CallLookupWait name ∷ calls) (suc i) p k at owns = further (CallLookupWait name) calls p (find_call calls i p k at owns)
find_call (CallUnpublish name ∷ calls) zero p k at owns = absurd (none-some p (ap owner_of (same_Some _ _ at) ∙ owns))
find_call (CallUnpublish name ∷ calls) (suc i) p k at owns = further (CallUnpublish name) calls p (find_call calls i p k at owns)
find_call (CallUnpublishAll ∷ calls) zero p k at owns = absurd (none-some p (ap owner_of (same_Some _ _ at) ∙ owns))
find_call (CallUnpublishAll ∷ calls) (suc i) p k at owns = further CallUnpublishAll calls p (find_call calls i p k at owns)
find_call (CallFixed reply ∷ calls) zero p k at owns = absurd (none-some p (ap owner_of (same_Some _ _ at) ∙ owns))
find_call (CallFixed reply ∷ calls) (suc i) p k at owns = further (CallFixed reply) calls p (find_call calls i p k at owns)

-- a written call has the owner of what is planned of it
written_owner : (s : Scripts) (call : Written) (p : ℕ) → owner_by (planned_call s call) ≡ Some p → owner_in call ≡ Some p
written_owner s (written.Put scope key value) p e = cond_both (is_reserved (text_at s.keys key)) _ _ (λ c. owner_by c ≡ Some p → owner_in (written.Put scope key value) ≡ Some p) (λ t e. absurd (none-some p e)) (λ f e. absurd (none-some p e)) e
written_owner s written.Commit p e = absurd (none-some p e)
written_owner s (written.Fence set collect) p e = absurd (none-some p e)
written_owner s (written.Get owner key) p e = cond_both (is_reserved (text_at s.keys key)) _ _ (λ c. owner_by c ≡ Some p → owner_in (written.Get owner key) ≡ Some p) (λ t e. absurd (none-some p e)) (λ f e. e) e
written_owner s (written.GetNow owner key) p e = cond_both (is_reserved (text_at s.keys key)) _ _ (λ c. owner_by c ≡ Some p → owner_in (written.GetNow owner key) ≡ Some p) (λ t e. absurd (none-some p e)) (λ f e. e) e
written_owner s (written.Publish name value) p e = cond_both (is_reserved (text_at s.names name)) _ _ (λ c. owner_by c ≡ Some p → owner_in (written.Publish name value) ≡ Some p) (λ t e. absurd (none-some p e)) (λ f e. absurd (none-some p e)) e
written_owner s (written.Lookup name) p e = cond_both (is_reserved (text_at s.names name)) _ _ (λ c. owner_by c ≡ Some p → owner_in (written.Lookup name) ≡ Some p) (λ t e. absurd (none-some p e)) (λ f e. absurd (none-some p e)) e
written_owner s (written.LookupWait name) p e = cond_both (is_reserved (text_at s.names name)) _ _ (λ c. owner_by c ≡ Some p → owner_in (written.LookupWait name) ≡ Some p) (λ t e. absurd (none-some p e)) (λ f e. absurd (none-some p e)) e
written_owner s (written.Unpublish name) p e = cond_both (is_reserved (text_at s.names name)) _ _ (λ c. owner_by c ≡ Some p → owner_in (written.Unpublish name) ≡ Some p) (λ t e. absurd (none-some p e)) (λ f e. absurd (none-some p e)) e
written_owner s written.UnpublishAll p e = absurd (none-some p e)

module _ (s : Scripts) (sound : IsSound s) (y : Event) (p : ℕ) where
  read_within : (k : Kind) → kind (plan_of s) y ≡ Some k → owner_of k ≡ Some p → p < process_count (plan_of s)
  unfolding kinds kind_at
  read_within k is owns =
      let at : slice_get (kinds_of (map (planned_call s) (calls_in (slice_get s.processes y.proc)))) y.at ≡ Some k = ap (λ ks. slice_get ks y.at) (sym (events_are s y.proc)) ∙ is in
      let c = find_call (map (planned_call s) (calls_in (slice_get s.processes y.proc))) y.at p k at owns in
      let w = slice_get-map_back (planned_call s) (calls_in (slice_get s.processes y.proc)) c.0 c.1 c.2 in
      let within = sound.owned y.proc c.0 p w.0 w.1 (written_owner s w.0 p (ap owner_by w.2 ∙ c.3)) in
      subst (λ n. p < n) (sym (length-map s.processes _)) within

  pub get_owner : (key : ℕ) → kind (plan_of s) y ≡ Some (Get p key) → p < process_count (plan_of s)
  get_owner key is = read_within (Get p key) is refl

  pub get_now_owner : (key : ℕ) → kind (plan_of s) y ≡ Some (GetNow p key) → p < process_count (plan_of s)
  get_now_owner key is = read_within (GetNow p key) is refl
