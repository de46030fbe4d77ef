-- Races on a name of calls on it alone with calls that take away all names of their processes.
use Rattle.std.proofs.Common.{◌≡◌, ◌≢◌, ◌∙◌, inl, inr, ⊎_elim, ap, refl, sym, subst, ℕ, ◌+◌, ◌<◌, ◌≤◌, List, [], ◌∷◌, ◌++◌, length, true, false, Some, arith}
use Rattle.std.specs.Prelude.{slice_get, option_map}
use Rattle.wire_types.specs.declared.Proc.{Proc}
use Rattle.wire_scripts.specs.Scripts.{numbers_of}
use Rattle.std.proofs.lemmas.Bool.{cases_Bool, cases_eq}
use Rattle.std.proofs.lemmas.Option.{same_Some, slice_get_within, slice_get-map}
use Rattle.wire_runs.specs.Plan.{Plan, Event, UnpublishAll, kind, event_count}
use Rattle.wire_runs.specs.Names.{publishes, writes_name, calls_name}
use Rattle.wire_runs.specs.Order.{Live}
use Rattle.wire_runs.specs.Findings.{Finding, IsFound}
use Rattle.wire_plan.specs.Index.{is_plain_call, AreNameCalls, ArePublishes, AreSweeps}
use Rattle.wire_plan.proofs.Published.{published_at, publisher}
use Rattle.wire_runs.proofs.Lists.{not_in_empty, slice_get_push_cases, slice_get_push_kept, slice_get_push_last}
use Rattle.wire_runs.proofs.Diamond.{writes_calls}
use Rattle.wire_runs.proofs.Members.{in_index, index_in, in_left, in_right, in_parts}
use Rattle.wire_findings.specs.declared.finding.Finding.{Finding as Told}
use Rattle.wire_races.specs.Adding.{AddsFindings}
use Rattle.wire_races.specs.NameRaces.{IsRaceOn, IsPlainRaceOn, IsNameRaceWith, IsStretch, AreRivals, AreFacing, IsOneOf, AreSweepers}
use Rattle.wire_races.specs.NameRaces.{IsSweptRace, IsSweptAmong, IsSweptRaceOn}
use Rattle.wire_races.proofs.Growing.{adds_both}
use Rattle.wire_races.proofs.NameRaces.{between, between_lower, between_higher, between_others, plain_or_not, caller_in, low_calls, high_calls}
use Rattle.wire_races.proofs.NameRaces.{race_lower, unordered_between, only_one}

module _ (plan : Plan) (name : ℕ) where
  -- a call that takes away all names of a process that publishes the name can change it
  pub sweep_writes : (z : Event) → kind plan z ≡ Some UnpublishAll → publishes plan z.proc name (event_count plan z.proc) ≡ true → writes_name plan name z (kind plan z) ≡ true
  sweep_writes z is published = ap (writes_name plan name z) is ∙ published

  -- and one that is a call on the name is of such a process
  pub sweep_publishes : (z : Event) → kind plan z ≡ Some UnpublishAll → calls_name plan name z (kind plan z) ≡ true → publishes plan z.proc name (event_count plan z.proc) ≡ true
  sweep_publishes z is calls = sym (ap (calls_name plan name z) is) ∙ calls

  by_number : (z : Event) (p : ℕ) → z.proc ≡ p → publishes plan p name (event_count plan p) ≡ true → publishes plan z.proc name (event_count plan z.proc) ≡ true
  by_number z p same h = subst (λ q. publishes plan q name (event_count plan q) ≡ true) (sym same) h

  -- calls of another process than that of x
  module _ (x : Event) (p : ℕ) (calls : List Event) (are : AreFacing plan x p calls) where
    pub facing_rivals : publishes plan p name (event_count plan p) ≡ true → AreRivals plan name x calls
    facing_rivals published = record {
      calls_on = record {
        each = λ k z e. let o = are.only k z e in writes_calls plan name z (kind plan z) (sweep_writes z o.1 (by_number z p o.0 published));
        rising = are.rising;
      };
      others = λ k z e. (are.only k z e).2;
      change = λ k z e. let o = are.only k z e in inr (sweep_writes z o.1 (by_number z p o.0 published));
    }

    pub facing_stretch : IsStretch calls
    facing_stretch = (p, λ k z e. (are.only k z e).0)

    -- the races of x with these too
    pub swept_more : (done : List ℕ) (old now new : List Told) → AddsFindings plan old now (IsSweptRace plan name x done) → AddsFindings plan now new (IsNameRaceWith plan name x calls) →
        AddsFindings plan old new (IsSweptRace plan name x (done ++ p ∷ []))
    swept_more done old now new =
        adds_both plan old now new (IsSweptRace plan name x done) (IsNameRaceWith plan name x calls) (IsSweptRace plan name x (done ++ p ∷ []))
        (λ f r. record { y = r.y; sweeps = r.sweeps; there = (r.there.0, slice_get_push_kept done p r.there.0 r.y.proc r.there.1); is = r.is; found = r.found })
        (λ f r.
        let w = in_index calls r.y r.there in
        let o = are.only w.0 r.y w.1 in
        record { y = r.y; sweeps = o.1; there = (length done, slice_get_push_last done p ∙ ap Some (sym o.0)); is = r.is; found = r.found })
        (λ f r. elim (slice_get_push_cases done p r.there.0 r.y.proc r.there.1) [
          | inl h ↦ inl (record { y = r.y; sweeps = r.sweeps; there = (r.there.0, h); is = r.is; found = r.found })
          | inr e ↦ (
              let w = are.all r.y (sym e.1, r.sweeps, between_others plan x r.y name (subst (IsFound plan) r.is r.found)) in
              inr (record { y = r.y; there = index_in calls r.y w.0 w.1; is = r.is; found = r.found }))
        ])

  pub none_swept : (x : Event) (f : Finding) → IsSweptRace plan name x [] f → ⊥
  none_swept x f r = not_in_empty r.there.0 r.y.proc r.there.1

  pub swept_live : (x : Event) (ps : List ℕ) (f : Finding) → IsSweptRace plan name x ps f → Live plan x
  swept_live x ps f r = (unordered_between plan x r.y name (subst (IsFound plan) r.is r.found)).live_x

  -- the races of one call more
  pub among_swept : (ps : List ℕ) (done : List Event) (x : Event) (old now new : List Told) → AddsFindings plan old now (IsSweptAmong plan name done ps) → AddsFindings plan now new (IsSweptRace plan name x ps) →
      AddsFindings plan old new (IsSweptAmong plan name (done ++ x ∷ []) ps)
  among_swept ps done x old now new =
      adds_both plan old now new (IsSweptAmong plan name done ps) (IsSweptRace plan name x ps) (IsSweptAmong plan name (done ++ x ∷ []) ps)
      (λ f r. (r.0, in_left done (x ∷ []) r.0 r.1, r.2))
      (λ f r. (x, in_right done (x ∷ []) x (inl refl), r))
      (λ f r. elim (in_parts done (x ∷ []) r.0 r.1) [
        | inl i ↦ inl (r.0, i, r.2)
        | inr i ↦ inr (subst (λ v. IsSweptRace plan name v ps f) (only_one x r.0 i) r.2)
      ])

  -- as a race on the name
  as_race : (x : Event) (ps : List ℕ) (f : Finding) → is_plain_call name (kind plan x) ≡ true → IsSweptRace plan name x ps f → IsSweptRaceOn plan name f
  as_race x ps f plain r =
      subst (IsSweptRaceOn plan name) (sym r.is) (between x r.y name (λ g. IsFound plan g → IsSweptRaceOn plan name g)
      (λ low found. record { x = x; y = r.y; is = refl; found = found; sorts = inl (plain, r.sweeps) })
      (λ le found. record { x = r.y; y = x; is = refl; found = found; sorts = inr (r.sweeps, plain) }) (subst (IsFound plan) r.is r.found))

  -- the races of all calls on the name alone
  module _ (calls : List Event) (ps : List ℕ) (are : AreNameCalls plan name calls) (sweepers : AreSweepers plan name ps) where
    pub among_on : (f : Finding) → IsSweptAmong plan name calls ps f → IsSweptRaceOn plan name f
    among_on f r = let w = in_index calls r.0 r.1 in as_race r.0 ps f (are.only w.0 r.0 w.1) r.2

    pub on_among : (f : Finding) → IsSweptRaceOn plan name f → IsSweptAmong plan name calls ps f
    on_among f r =
        let found = subst (IsFound plan) r.is r.found in
        let lt = race_lower plan r.x r.y name found in
        elim r.sorts [
          | inl h ↦ (
            r.x,
            caller_in plan name calls are r.x h.0,
            record {
              y = r.y;
              sweeps = h.1;
              there = sweepers.all r.y h.1 (sweep_publishes r.y h.1 (high_calls plan r.x r.y name found));
              is = r.is ∙ sym (between_lower r.x r.y name lt);
              found = r.found;
            },
          )
          | inr h ↦ (
            r.y,
            caller_in plan name calls are r.y h.1,
            record {
              y = r.x;
              sweeps = h.0;
              there = sweepers.all r.x h.0 (sweep_publishes r.x h.0 (low_calls plan r.x r.y name found));
              is = r.is ∙ sym (between_higher r.y r.x name lt);
              found = r.found;
            },
          )
        ]

  -- all races on the name but those of two such calls
  pub both_sorts : (old now new : List Told) → AddsFindings plan old now (IsPlainRaceOn plan name) → AddsFindings plan now new (IsSweptRaceOn plan name) → AddsFindings plan old new (IsRaceOn plan name)
  both_sorts old now new =
      adds_both plan old now new (IsPlainRaceOn plan name) (IsSweptRaceOn plan name) (IsRaceOn plan name)
      (λ f r. record { x = r.x; y = r.y; is = r.is; found = r.found; plain = inl r.plain_x })
      (λ f r. record { x = r.x; y = r.y; is = r.is; found = r.found; plain = ⊎_elim (λ h. inl h.0) (λ h. inr h.1) r.sorts })
      (λ f r.
      let found = subst (IsFound plan) r.is r.found in
      elim r.plain [
        | inl plain ↦ elim (plain_or_not plan name r.y (kind plan r.y) (high_calls plan r.x r.y name found)) [
          | inl also ↦ inl (record { x = r.x; y = r.y; is = r.is; found = r.found; plain_x = plain; plain_y = also })
          | inr sweeps ↦ inr (record { x = r.x; y = r.y; is = r.is; found = r.found; sorts = inl (plain, sweeps) })
        ]
        | inr plain ↦ elim (plain_or_not plan name r.x (kind plan r.x) (low_calls plan r.x r.y name found)) [
          | inl also ↦ inl (record { x = r.x; y = r.y; is = r.is; found = r.found; plain_x = also; plain_y = plain })
          | inr sweeps ↦ inr (record { x = r.x; y = r.y; is = r.is; found = r.found; sorts = inr (sweeps, plain) })
        ]
      ])

  -- the processes of the first n publishes that can take away all their names
  pub record AreSweepersTo (publishes_ : List Event) (n : ℕ) (ps : List ℕ) : Type 0 where
    pub each : (k p : ℕ) → slice_get ps k ≡ Some p → publishes plan p name (event_count plan p) ≡ true
    pub all : (j : ℕ) (x z : Event) → j < n → slice_get publishes_ j ≡ Some x → z.proc ≡ x.proc → kind plan z ≡ Some UnpublishAll → IsOneOf x.proc ps

  module _ (publishes_ : List Event) (are : ArePublishes plan name publishes_) where
    pub sweepers_same : (n : ℕ) (ps : List ℕ) (x : Event) → slice_get publishes_ n ≡ Some x → ((z : Event) → z.proc ≡ x.proc → kind plan z ≡ Some UnpublishAll → IsOneOf x.proc ps) →
        AreSweepersTo publishes_ n ps → AreSweepersTo publishes_ (n + 1) ps
    sweepers_same n ps x at there old = record {
      each = old.each;
      all = λ j y z lt is same sweeps. elim (cases_eq j n) [
        | inl e ↦ (let one = same_Some x y (sym at ∙ ap (slice_get publishes_) (sym e) ∙ is) in
            subst (λ (v : Event). IsOneOf v.proc ps) one (there z (same ∙ ap (λ (v : Event). v.proc) (sym one)) sweeps))
        | inr ne ↦ old.all j y z (omega (arith, lt, ne)) is same sweeps
      ];
    }

    pub sweepers_more : (n : ℕ) (ps : List ℕ) (x : Event) → slice_get publishes_ n ≡ Some x → AreSweepersTo publishes_ n ps → AreSweepersTo publishes_ (n + 1) (ps ++ x.proc ∷ [])
    sweepers_more n ps x at old = record {
      each = λ k p e. elim (slice_get_push_cases ps x.proc k p e) [
        | inl h ↦ old.each k p h
        | inr h ↦ subst (λ q. publishes plan q name (event_count plan q) ≡ true) h.1 (publisher plan x name (are.only n x at))
      ];
      all = λ j y z lt is same sweeps. elim (cases_eq j n) [
        | inl e ↦ (let one = same_Some x y (sym at ∙ ap (slice_get publishes_) (sym e) ∙ is) in (length ps, slice_get_push_last ps x.proc ∙ ap (λ (v : Event). Some v.proc) one))
        | inr ne ↦ (let w = old.all j y z (omega (arith, lt, ne)) is same sweeps in (w.0, slice_get_push_kept ps x.proc w.0 y.proc w.1))
      ];
    }

    pub sweepers_all : (n : ℕ) (ps : List ℕ) → length publishes_ ≤ n → AreSweepersTo publishes_ n ps → AreSweepers plan name ps
    sweepers_all n ps end to = record {
      each = to.each;
      all = λ z sweeps published.
          let w = published_at plan z.proc name (event_count plan z.proc) published in
          let x : Event = record { proc = z.proc; at = w.0 } in
          let found = are.all x w.2 in
          let lt = slice_get_within publishes_ found.0 x found.1 in
          to.all found.0 x z (omega (arith, lt, end)) found.1 refl sweeps;
    }

-- where no publish of the name is of the process, it doesn't publish the name
pub none_publishes : (plan : Plan) (name p : ℕ) (publishes_ : List Event) → ArePublishes plan name publishes_ →
    ((k : ℕ) (z : Event) → k < length publishes_ → slice_get publishes_ k ≡ Some z → z.proc ≡ p → ⊥) → publishes plan p name (event_count plan p) ≡ false
none_publishes plan name p publishes_ are never = elim (cases_Bool (publishes plan p name (event_count plan p))) [
  | inl t ↦
      let w = published_at plan p name (event_count plan p) t in
      let found = are.all (record { proc = p; at = w.0 }) w.2 in
      absurd (never found.0 _ (slice_get_within publishes_ found.0 _ found.1) found.1 refl)
  | inr f ↦ f
]

-- a process that can take away all its names is one of these
abbrev pub IsKnown : Plan → ℕ → List Proc → Type 0
IsKnown plan p procs = (z : Event) → z.proc ≡ p → kind plan z ≡ Some UnpublishAll → IsOneOf p (numbers_of procs)

-- the calls of another process that take away all its names, and none where it is the same
pub facing_all : (plan : Plan) (x : Event) (p : ℕ) (places : List Event) → x.proc ≢ p → AreSweeps plan p places → AreFacing plan x p places
facing_all plan x p places other are = record {
  only = λ k z e. let o = are.only k z e in (o.0, o.1, λ same. other (same ∙ o.0));
  all = λ z h. are.all z (h.0, h.1);
  rising = are.rising;
}

pub facing_none : (plan : Plan) (x : Event) (p : ℕ) → x.proc ≡ p → AreFacing plan x p []
facing_none plan x p same = record {
  only = λ k z e. absurd (not_in_empty k z e);
  all = λ z h. absurd (h.2 (same ∙ sym h.0));
  rising = λ k l y z lt e f. absurd (not_in_empty k y e);
}

-- the number of one of these
pub last_number : (procs : List Proc) (k : ℕ) (d : Proc) (p : ℕ) → slice_get procs k ≡ Some d → d.number ≡ p → IsOneOf p (numbers_of procs)
last_number procs k d p is same = (k, slice_get-map (λ (q : Proc). q.number) procs k ∙ ap (option_map (λ (q : Proc). q.number)) is ∙ ap Some same)
