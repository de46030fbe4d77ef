-- The names of calls are those of the scripts.
use Rattle.std.proofs.Common.{◌≡◌, inl, inr, ⊎_elim, ℕ, zero, suc, ◌+◌, ◌-◌, ◌<◌, ◌≤◌, List, [], ◌∷◌, ◌++◌, Bool, true, Option, Some, map, length, refl, sym, ap, ◌∙◌, subst, arith, eq-eqb}
use Rattle.std.specs.Prelude.{slice_get, if◌then◌else◌}
use Rattle.std.proofs.lemmas.Bool.{true≢false, cases_lt, cond_both, eqb-true}
use Rattle.wire_runs.specs.Plan.{Event, Kind, Call, kinds_of, set_of, kind, kind_at, kinds, event_count}
use Rattle.wire_runs.specs.Plan.{CallPut, CallGet, CallGetNow, CallPublish, CallLookup, CallLookupWait, CallUnpublish, CallFixed}
use Rattle.wire_runs.specs.Plan as plan
use Rattle.wire_types.specs.declared.Call.{Call as Written}
use Rattle.wire_types.specs.declared.Call.TheVariants.{Put, Commit, Fence, Get, GetNow, Publish, Lookup, LookupWait, Unpublish, UnpublishAll}
use Rattle.wire_types.specs.declared.Reply.{Reply}
use Rattle.wire_scripts.specs.Scripts.{Scripts, IsSound, name_in, calls_in, set_at}
use Rattle.wire_scripts.specs.Apart.{AreDistinct}
use Rattle.wire_scripts.specs.Planned.{plan_of, planned_call}
use Rattle.wire_runs.specs.Names.{calls_name}
use Rattle.wire_runs.proofs.Lists.{slice_get-append_left, slice_get-append_right}
use Rattle.wire_scripts.proofs.PlannedCalls.{events_are}
use Rattle.wire_plan.specs.Index.{is_plain_call}
use Rattle.wire_plan.proofs.Planning.{events_first}
use Rattle.wire_plan.proofs.Published.{published_at}
use Rattle.wire_races.proofs.NameRaces.{plain_or_not}
use Rattle.wire_findings.specs.Standings.{AreNamesOf}

get_late : {A : Type 0} (xs ys : List A) (k : ℕ) → length xs ≤ k → slice_get (xs ++ ys) k ≡ slice_get ys (k - length xs)
get_late xs ys k le = let same : k ≡ length xs + (k - length xs) = omega (arith, le) in ap (slice_get (xs ++ ys)) same ∙ slice_get-append_right xs ys (k - length xs)

module _ (s : Scripts) (name : ℕ) (x : Event) where
  abbrev on_it : Option Kind → Bool
  on_it o = is_plain_call name o

  the_one : (e : Kind) (i : ℕ) → on_it (slice_get (e ∷ []) i) ≡ true → on_it (Some e) ≡ true
  the_one e zero h = h
  the_one e (suc i) h = absurd (true≢false (sym h))

  unless_named : (reserved : Bool) (reply : Reply) (call : Call) (e : Kind) (i : ℕ) → kinds_of (call ∷ []) ≡ e ∷ [] →
      on_it (slice_get (kinds_of ((if reserved then CallFixed reply else call) ∷ [])) i) ≡ true → on_it (Some e) ≡ true
  unless_named reserved reply call e i is =
      cond_both reserved (CallFixed reply) call (λ c. on_it (slice_get (kinds_of (c ∷ [])) i) ≡ true → on_it (Some e) ≡ true)
      (λ t h. absurd (true≢false (sym (the_one (plan.Fixed reply) i h))))
      (λ f h. the_one e i (subst (λ es. on_it (slice_get es i) ≡ true) is h))

  written_name : (call : Written) (i : ℕ) → on_it (slice_get (kinds_of (planned_call s call ∷ [])) i) ≡ true → name_in call ≡ Some name
  written_name (Put scope key value) i h = absurd (true≢false (sym (unless_named _ _ (CallPut key scope) (plan.Put key scope) i refl h)))
  written_name Commit i h = absurd (true≢false (sym (the_one plan.Commit i h)))
  written_name (Fence set collect) zero h = absurd (true≢false (sym h))
  written_name (Fence set collect) (suc i) h = absurd (true≢false (sym (the_one (plan.Leave (set_of (set_at s.sets set))) i h)))
  written_name (Get owner key) i h = absurd (true≢false (sym (unless_named _ _ (CallGet owner.number key) (plan.Get owner.number key) i refl h)))
  written_name (GetNow owner key) i h = absurd (true≢false (sym (unless_named _ _ (CallGetNow owner.number key) (plan.GetNow owner.number key) i refl h)))
  written_name (Publish n value) i h = ap Some (eqb-true n name (unless_named _ _ (CallPublish n) (plan.Publish n) i refl h))
  written_name (Lookup n) i h = ap Some (eqb-true n name (unless_named _ _ (CallLookup n) (plan.Lookup n) i refl h))
  written_name (LookupWait n) i h = ap Some (eqb-true n name (unless_named _ _ (CallLookupWait n) (plan.LookupWait n) i refl h))
  written_name (Unpublish n) i h = ap Some (eqb-true n name (unless_named _ _ (CallUnpublish n) (plan.Unpublish n) i refl h))
  written_name UnpublishAll i h = absurd (true≢false (sym (the_one plan.UnpublishAll i h)))

  written_call : (calls : List Written) (i : ℕ) → on_it (slice_get (kinds_of (map (planned_call s) calls)) i) ≡ true → (c : ℕ) × (call : Written) × (slice_get calls c ≡ Some call)
      × (name_in call ≡ Some name)
  written_call [] i h = absurd (true≢false (sym h))
  written_call (call ∷ calls) i h =
      let parts = events_first (planned_call s call) (map (planned_call s) calls) in
      let split = subst (λ es. on_it (slice_get es i) ≡ true) parts h in
      let first = kinds_of (planned_call s call ∷ []) in
      let others = kinds_of (map (planned_call s) calls) in
      elim (cases_lt i (length first)) [
        | inl lt ↦ (0, call, refl, written_name call i (subst (λ o. on_it o ≡ true) (slice_get-append_left first others i lt) split))
        | inr le ↦
            let w = written_call calls (i - length first) (subst (λ o. on_it o ≡ true) (get_late first others i le) split) in
            (suc w.0, w.1, w.2, w.3)
      ]

  plain_within : IsSound s → on_it (kind (plan_of s) x) ≡ true → name < length s.names
  unfolding kind_at kinds
  plain_within sound h =
      let es = events_are s x.proc in
      let w = written_call (calls_in (slice_get s.processes x.proc)) x.at (subst (λ l. on_it (slice_get l x.at) ≡ true) es h) in
      sound.names x.proc w.0 name w.1 w.2 w.3

-- a call that takes away all names is on those that its script publishes
pub named_within : (s : Scripts) (name : ℕ) (x : Event) → IsSound s → calls_name (plan_of s) name x (kind (plan_of s) x) ≡ true → name < length s.names
named_within s name x sound h = elim (plain_or_not (plan_of s) name x (kind (plan_of s) x) h) [
  | inl plain ↦ plain_within s name x sound plain
  | inr sweeps ↦
      (let w = published_at (plan_of s) x.proc name (event_count (plan_of s) x.proc) (sym (ap (calls_name (plan_of s) name x) sweeps) ∙ h) in
      plain_within s name (record { proc = x.proc; at = w.0 }) sound (ap (is_plain_call name) w.2 ∙ eq-eqb name name refl))
]

-- the names of scripts are those of the findings of their plan
pub names_of : (s : Scripts) → IsSound s → AreDistinct s.names → AreNamesOf (plan_of s) s.names
names_of s sound apart = record {
  apart = apart;
  within = λ x y name r. ⊎_elim (λ h. named_within s name y sound h.y_calls) (λ h. named_within s name x sound h.y_calls) r.1;
}
