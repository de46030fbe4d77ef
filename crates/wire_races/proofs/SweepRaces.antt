-- Races between sweeps, the calls that take away all names of their processes.
use Rattle.std.proofs.Common.{◌≡◌, ◌∙◌, ◌↔◌, inl, inr, ap, refl, sym, subst, ℕ, suc, ◌<◌, List, [], ◌∷◌, ◌++◌, map, length, true}
use Rattle.std.proofs.Common.{Option, Some, None, arith, eqb-true, eq-eqb}
use Rattle.std.specs.Prelude.{slice_get, IsPermutation}
use Rattle.std.specs.List.{Contains}
use Rattle.std.proofs.lemmas.Bool.{cases_eq, or_cases, or_left, or_right, true≢false}
use Rattle.std.proofs.lemmas.Option.{same_Some, none-some}
use Rattle.std.proofs.lemmas.List.Elements.{Contains-append_left, Contains-append_right, Contains-append_cases, Contains-push, Contains-push_cases}
use Rattle.std.proofs.lemmas.List.Sorted.{Contains-permutation, IsPermutation-sym}
use Rattle.wire_runs.specs.Plan.{Plan, Event, Kind, Publish, UnpublishAll, kind, kind_at, event_count, process_count, event_of}
use Rattle.wire_types.specs.declared.place.Event.{Event as CodeEvent}
use Rattle.wire_plan.specs.Kinds.{kind_of}
use Rattle.wire_plan.specs.declared.Kind.{Kind as CodeKind}
use Rattle.wire_plan.specs.declared.Kind.TheVariants as code
use Rattle.wire_runs.specs.Names.{is_publish, publishes}
use Rattle.wire_runs.specs.Order.{Live}
use Rattle.wire_runs.specs.Fate.{IsIn}
use Rattle.wire_runs.specs.Findings.{Finding, NameRace, IsFound}
use Rattle.wire_runs.proofs.Basics.{process_within}
use Rattle.wire_runs.proofs.Lists.{not_in_empty, slice_get_push_cases, slice_get_push_kept, slice_get_push_last}
use Rattle.wire_runs.proofs.Diamond.{writes_calls}
use Rattle.wire_runs.proofs.Members.{in_index, index_in, in_left, in_right, in_parts}
use Rattle.wire_plan.specs.Index.{AreSweeps}
use Rattle.wire_findings.specs.declared.finding.Finding.{Finding as Told}
use Rattle.wire_races.specs.declared.sweep_races.Share.{Share}
use Rattle.wire_races.specs.Adding.{AddsFindings}
use Rattle.wire_races.specs.NameRaces.{IsNameRaceWith, AllRace, AreThoseUnordered, IsStretch, IsOneOf, AreSweepers}
use Rattle.wire_races.specs.SweepRaces.{IsSweepRaceOf, IsSweepRaceBelow, IsSweepRace, ArePublished, AddsShares, AreShares, AreShared, AreSharesOf}
use Rattle.wire_races.specs.SweepRaces.{IsRaceOnOne, IsSweepRaceWith, IsSharedRace}
use Rattle.wire_races.proofs.Growing.{adds_both, adds_same}
use Rattle.wire_races.proofs.NameRaces.{between_lower, race_lower, race_unordered, low_calls, high_calls, all_race, only_one}
use Rattle.wire_races.proofs.Swept.{sweep_writes, sweep_publishes, facing_all, facing_rivals}

pub none_contained : {A : Type 0} (x : A) → Contains [] x → ⊥
none_contained x h = let lt = h.1 in omega (arith, lt)

-- whether an event publishes a name, by its kind in the code
pub publishes_it : (name n : ℕ) (o : Option Kind) → o ≡ Some (Publish n) → (is_publish name o ≡ true) ↔ (Some n ≡ Some name)
publishes_it name n o is =
    subst (λ k. (is_publish name k ≡ true) ↔ (Some n ≡ Some name)) (sym is) ((λ t. ap Some (eqb-true n name t)), (λ e. eq-eqb n name (same_Some n name e)))

pub publishes_none : (name : ℕ) (sets : List (List ℕ)) (k : CodeKind) (o : Option Kind) → o ≡ Some (kind_of sets k) → ((n : ℕ) → k ≡ code.Publish n → ⊥) →
    (is_publish name o ≡ true) ↔ (None ≡ Some name)
publishes_none name sets k o is never = ((λ t. absurd (no_publish k never (subst (λ v. is_publish name v ≡ true) is t))), (λ e. absurd (none-some name e)))
  where
    no_publish : (k : CodeKind) → ((n : ℕ) → k ≡ code.Publish n → ⊥) → is_publish name (Some (kind_of sets k)) ≡ true → ⊥
    no_publish (code.Publish n) never t = never n refl
    no_publish (code.Put scope key) never t = true≢false (sym t)
    no_publish code.Commit never t = true≢false (sym t)
    no_publish (code.Arrive set collect) never t = true≢false (sym t)
    no_publish (code.Leave set) never t = true≢false (sym t)
    no_publish (code.Get owner key) never t = true≢false (sym t)
    no_publish (code.GetNow owner key) never t = true≢false (sym t)
    no_publish (code.Lookup n) never t = true≢false (sym t)
    no_publish (code.LookupWait n) never t = true≢false (sym t)
    no_publish (code.Unpublish n) never t = true≢false (sym t)
    no_publish code.UnpublishAll never t = true≢false (sym t)
    no_publish (code.Fixed reply) never t = true≢false (sym t)

-- the names that p's first n events publish
abbrev pub ArePublishedBelow : Plan → ℕ → ℕ → List ℕ → Type 0
ArePublishedBelow plan p n names = (name : ℕ) → Contains names name ↔ (publishes plan p name n ≡ true)

-- the name that p's event number n publishes, if it is a publish
abbrev pub IsPublished : Plan → ℕ → ℕ → Option ℕ → Type 0
IsPublished plan p n found = (name : ℕ) → (is_publish name (kind_at plan p n) ≡ true) ↔ (found ≡ Some name)

module _ (plan : Plan) (p : ℕ) where
  pub none_published : ArePublishedBelow plan p 0 []
  none_published name = ((λ h. absurd (none_contained name h)), (λ h. absurd (true≢false (sym h))))

  pub one_published : (n m name : ℕ) (names : List ℕ) → m ≡ suc n → IsPublished plan p n (Some name) →
      ArePublishedBelow plan p n names → ArePublishedBelow plan p m (names ++ name ∷ [])
  one_published n m name names next is old other =
      subst (λ k. Contains (names ++ name ∷ []) other ↔ (publishes plan p other k ≡ true)) (sym next) (
        (λ h. elim (Contains-push_cases names name other h) [
          | inl was ↦ or_right (is_publish other (kind_at plan p n)) (publishes plan p other n) ((old other).0 was)
          | inr e ↦ or_left (is_publish other (kind_at plan p n)) (publishes plan p other n) ((is other).1 (ap Some e))
        ]),
        (λ h. elim (or_cases (is_publish other (kind_at plan p n)) (publishes plan p other n) h) [
          | inl here ↦ subst (λ k. Contains (names ++ name ∷ []) k) (same_Some name other ((is other).0 here)) (Contains-push names name)
          | inr was ↦ Contains-append_left names (name ∷ []) other ((old other).1 was)
        ]),
      )

  pub no_published : (n m : ℕ) (names : List ℕ) → m ≡ suc n → IsPublished plan p n None → ArePublishedBelow plan p n names → ArePublishedBelow plan p m names
  no_published n m names next is old other =
      subst (λ k. Contains names other ↔ (publishes plan p other k ≡ true)) (sym next) (
        (λ h. or_right (is_publish other (kind_at plan p n)) (publishes plan p other n) ((old other).0 h)),
        (λ h. elim (or_cases (is_publish other (kind_at plan p n)) (publishes plan p other n) h) [
          | inl here ↦ absurd (none-some other ((is other).0 here))
          | inr was ↦ (old other).1 was
        ]),
      )

-- the shares in one name
module _ (p name : ℕ) where
  pub no_shares : (shares : List Share) → AddsShares p name [] shares shares
  no_shares shares = record {
    kept = λ s h. h;
    all = λ q is lt. absurd (not_in_empty is.0 q is.1);
    only = λ s h. inl h;
  }

  -- a process that is higher
  pub one_share : (qs : List ℕ) (q : ℕ) (all : List ℕ) (old now : List Share) (s : Share) → all ≡ qs ++ q ∷ [] → s.proc.number ≡ q → s.name ≡ name → p < q →
      AddsShares p name qs old now → AddsShares p name all old (now ++ s ∷ [])
  one_share qs q all old now s is of_it named lt a = record {
    kept = λ t h. Contains-append_left now (s ∷ []) t (a.kept t h);
    all = λ r one above. elim (slice_get_push_cases qs q one.0 r (subst (λ l. slice_get l one.0 ≡ Some r) is one.1)) [
      | inl was ↦ (let w = a.all r (one.0, was) above in (w.0, Contains-append_left now (s ∷ []) w.0 w.1, w.2, w.3))
      | inr e ↦ (s, Contains-push now s, of_it ∙ e.1, named)
    ];
    only = λ t h. elim (Contains-push_cases now s t h) [
      | inl was ↦ elim (a.only t was) [
        | inl first ↦ inl first
        | inr here ↦ inr (here.0, here.1, (here.2.0, subst (λ l. slice_get l here.2.0 ≡ Some t.proc.number) (sym is) (slice_get_push_kept qs q here.2.0 t.proc.number here.2.1)))
      ]
      | inr e ↦ inr (subst (λ (v : Share). (v.name ≡ name) × (p < v.proc.number) × IsOneOf v.proc.number all) e (
        named,
        subst (λ r. p < r) (sym of_it) lt,
        subst (λ r. IsOneOf r all) (sym of_it) (length qs, subst (λ l. slice_get l (length qs) ≡ Some q) (sym is) (slice_get_push_last qs q)),
      ))
    ];
  }

  -- and one that isn't
  pub same_shares : (qs : List ℕ) (q : ℕ) (old now : List Share) → (p < q → ⊥) → AddsShares p name qs old now → AddsShares p name (qs ++ q ∷ []) old now
  same_shares qs q old now never a = record {
    kept = a.kept;
    all = λ r is above. elim (slice_get_push_cases qs q is.0 r is.1) [
      | inl was ↦ a.all r (is.0, was) above
      | inr e ↦ absurd (never (subst (λ v. p < v) (sym e.1) above))
    ];
    only = λ t h. elim (a.only t h) [
      | inl first ↦ inl first
      | inr here ↦ inr (here.0, here.1, (here.2.0, slice_get_push_kept qs q here.2.0 t.proc.number here.2.1))
    ];
  }

-- the shares in all names of a process
module _ (plan : Plan) (p : ℕ) where
  pub none_shared : AreShares plan p [] []
  none_shared = record {
    each = λ s h. absurd (none_contained s h);
    all = λ z name is lt published h. absurd (none_contained name h);
  }

  pub name_shared : (names : List ℕ) (name : ℕ) (qs : List ℕ) (now new : List Share) → AreSweepers plan name qs → AddsShares p name qs now new → AreShares plan p names now →
      AreShares plan p (names ++ name ∷ []) new
  name_shared names name qs now new sweepers a are = record {
    each = λ s h. elim (a.only s h) [
      | inl was ↦ (let e = are.each s was in (Contains-append_left names (name ∷ []) s.name e.0, e.1, e.2))
      | inr here ↦ (
          let there = here.2 in (
            subst (λ n. Contains (names ++ name ∷ []) n) (sym here.0) (Contains-push names name),
            here.1,
            subst (λ n. publishes plan s.proc.number n (event_count plan s.proc.number) ≡ true) (sym here.0) (sweepers.each there.0 s.proc.number there.1),
          ))
    ];
    all = λ z other is lt published h. elim (Contains-push_cases names name other h) [
      | inl was ↦ (let w = are.all z other is lt published was in (w.0, a.kept w.0 w.1, w.2, w.3))
      | inr e ↦ (
          let w = a.all z.proc (sweepers.all z is (subst (λ n. publishes plan z.proc n (event_count plan z.proc) ≡ true) (sym e) published)) lt in
          (w.0, w.1, w.2, w.3 ∙ e))
    ];
  }

  -- in another order
  pub moved_shares : (names : List ℕ) (xs ys : List Share) → IsPermutation xs ys → AreShares plan p names xs → AreShares plan p names ys
  moved_shares names xs ys moved are = record {
    each = λ s h. are.each s (Contains-permutation ys xs s (IsPermutation-sym xs ys moved) h);
    all = λ z name is lt published h.
        let w = are.all z name is lt published h in
        (w.0, Contains-permutation xs ys w.0 moved w.1, w.2, w.3);
  }

  -- where the names are those of p, p publishes them too
  pub both_publish : (names : List ℕ) (shares : List Share) → ArePublished plan p names → AreShares plan p names shares → AreShared plan p shares
  both_publish names shares published are s h = let e = are.each s h in (e.1, (published s.name).0 e.0, e.2)

-- the races of one sweep with those of a higher process
module _ (plan : Plan) (x : Event) where
  pub none_on_none : (calls : List Event) (f : Finding) → IsRaceOnOne plan x calls [] f → ⊥
  none_on_none calls f r = none_contained r.0 r.1

  -- those on one name more
  pub one_name_more : (calls : List Event) (done : List Share) (s : Share) (old now new : List Told) → AddsFindings plan old now (IsRaceOnOne plan x calls done) →
      AddsFindings plan now new (IsNameRaceWith plan s.name x calls) → AddsFindings plan old new (IsRaceOnOne plan x calls (done ++ s ∷ []))
  one_name_more calls done s old now new =
      adds_both plan old now new (IsRaceOnOne plan x calls done) (IsNameRaceWith plan s.name x calls) (IsRaceOnOne plan x calls (done ++ s ∷ []))
      (λ f r. (r.0, Contains-append_left done (s ∷ []) r.0 r.1, r.2))
      (λ f r. (s, Contains-push done s, r))
      (λ f r. elim (Contains-push_cases done s r.0 r.1) [
        | inl was ↦ inl (r.0, was, r.2)
        | inr e ↦ inr (subst (λ (t : Share). IsNameRaceWith plan t.name x calls f) (sym e) r.2)
      ])

  pub sweep_live : (shares : List Share) (f : Finding) → IsSweepRaceWith plan x shares f → Live plan x
  sweep_live shares f r = (race_unordered plan x r.y r.s.name (subst (IsFound plan) r.is r.found)).live_x

  module _ (q : ℕ) (run those : List Event) (shares : List Share) (sweeps : AreSweeps plan q run) (shared : AreShared plan x.proc shares) (of_it : AreSharesOf q shares)
      (are : AreThoseUnordered plan x run those) where
    -- each of those races with x on each of the names
    pub all_race_on : kind plan x ≡ Some UnpublishAll → (s : Share) → Contains shares s → AllRace plan s.name x those
    all_race_on is s h =
        let both = shared s h in
        let same = of_it s h in
        let lt = both.0 in
        let others = facing_all plan x q run (λ e. omega (arith, lt, e, same)) sweeps in
        let published = subst (λ r. publishes plan r s.name (event_count plan r) ≡ true) same both.2 in
        all_race plan s.name x run those are (writes_calls plan s.name x (kind plan x) (sweep_writes plan s.name x is both.1))
        (facing_rivals plan s.name x q run others published)

    pub with_sweeps : (f : Finding) → IsRaceOnOne plan x those shares f → IsSweepRaceWith plan x shares f
    with_sweeps f r =
        let s = r.0 in
        let w = r.2 in
        let i = in_index run w.y ((are w.y).0 w.there).0 in
        let o = sweeps.only i.0 w.y i.1 in
        let same = of_it s r.1 in
        let at = o.0 in
        let lt = (shared s r.1).0 in
        record { y = w.y; s = s; there = r.1; of_it = at ∙ sym same; sweeps = o.1; is = w.is ∙ between_lower x w.y s.name (omega (arith, lt, at, same)); found = w.found }

    pub on_one : (f : Finding) → IsSweepRaceWith plan x shares f → IsRaceOnOne plan x those shares f
    on_one f r =
        let found = subst (IsFound plan) r.is r.found in
        let i = sweeps.all r.y (r.of_it ∙ of_it r.s r.there, r.sweeps) in
        let is = r.is ∙ sym (between_lower x r.y r.s.name (race_lower plan x r.y r.s.name found)) in
        let there = (are r.y).1 (index_in run r.y i.0 i.1, race_unordered plan x r.y r.s.name found) in
        (r.s, r.there, record { y = r.y; there = there; is = is; found = r.found })

    pub none_on : those ≡ [] → (f : Finding) → IsSweepRaceWith plan x shares f → ⊥
    none_on empty f r = let o = on_one f r in subst (IsIn o.2.y) empty o.2.there

-- the sweeps of a process are of one process
pub swept_stretch : (plan : Plan) (q : ℕ) (run : List Event) → AreSweeps plan q run → IsStretch run
swept_stretch plan q run are = (q, λ k z e. (are.only k z e).0)

pub nothing_in : (those : List CodeEvent) → length those ≡ 0 → map event_of those ≡ []
nothing_in [] none = refl
nothing_in (x ∷ xs) none = absurd (omega (arith, none))

-- a race of one of these sweeps with one of the process of a share
abbrev pub IsRaceOfOne : Plan → List Event → List Share → Finding → Type 0
IsRaceOfOne plan done shares f = (x : Event) × IsIn x done × IsSweepRaceWith plan x shares f

-- one more of the same process
pub one_of_it : (q : ℕ) (done : List Share) (s : Share) → s.proc.number ≡ q → AreSharesOf q done → AreSharesOf q (done ++ s ∷ [])
one_of_it q done s same are t h = elim (Contains-push_cases done s t h) [ inl was ↦ are t was | inr e ↦ subst (λ (v : Share). v.proc.number ≡ q) e same ]

module _ (plan : Plan) where
  -- those of one sweep more
  pub one_sweep_more : (shares : List Share) (done : List Event) (x : Event) (old now new : List Told) → AddsFindings plan old now (IsRaceOfOne plan done shares) →
      AddsFindings plan now new (IsSweepRaceWith plan x shares) → AddsFindings plan old new (IsRaceOfOne plan (done ++ x ∷ []) shares)
  one_sweep_more shares done x old now new =
      adds_both plan old now new (IsRaceOfOne plan done shares) (IsSweepRaceWith plan x shares) (IsRaceOfOne plan (done ++ x ∷ []) shares)
      (λ f r. (r.0, in_left done (x ∷ []) r.0 r.1, r.2))
      (λ f r. (x, in_right done (x ∷ []) x (inl refl), r))
      (λ f r. elim (in_parts done (x ∷ []) r.0 r.1) [
        | inl i ↦ inl (r.0, i, r.2)
        | inr i ↦ inr (subst (λ v. IsSweepRaceWith plan v shares f) (only_one x r.0 i) r.2)
      ])

  -- those of all sweeps of a process
  pub all_sweeps : (p : ℕ) (sweeps : List Event) (shares : List Share) → AreSweeps plan p sweeps → (old new : List Told) → AddsFindings plan old new (IsRaceOfOne plan sweeps shares) →
      AddsFindings plan old new (IsSharedRace plan p shares)
  all_sweeps p sweeps shares are old new =
      adds_same plan old new (IsRaceOfOne plan sweeps shares) (IsSharedRace plan p shares)
      (λ f r. let w = in_index sweeps r.0 r.1 in let o = are.only w.0 r.0 w.1 in (r.0, o.1, o.0, r.2))
      (λ f r. let w = are.all r.0 (r.2, r.1) in (r.0, index_in sweeps r.0 w.0 w.1, r.3))

  widened : (x : Event) (xs ys : List Share) → ((s : Share) → Contains xs s → Contains ys s) → (f : Finding) → IsSweepRaceWith plan x xs f → IsSweepRaceWith plan x ys f
  widened x xs ys wider f r = record { y = r.y; s = r.s; there = wider r.s r.there; of_it = r.of_it; sweeps = r.sweeps; is = r.is; found = r.found }

  pub none_of_none : (p : ℕ) (f : Finding) → IsSharedRace plan p [] f → ⊥
  none_of_none p f r = none_contained r.3.s r.3.there

  -- those with the processes of more shares
  pub stretch_more : (p : ℕ) (done stretch : List Share) (old now new : List Told) → AddsFindings plan old now (IsSharedRace plan p done) → AddsFindings plan now new (IsSharedRace plan p stretch) →
      AddsFindings plan old new (IsSharedRace plan p (done ++ stretch))
  stretch_more p done stretch old now new =
      adds_both plan old now new (IsSharedRace plan p done) (IsSharedRace plan p stretch) (IsSharedRace plan p (done ++ stretch))
      (λ f r. (r.0, r.1, r.2, widened r.0 done (done ++ stretch) (λ s h. Contains-append_left done stretch s h) f r.3))
      (λ f r. (r.0, r.1, r.2, widened r.0 stretch (done ++ stretch) (λ s h. Contains-append_right done stretch s h) f r.3))
      (λ f r. elim (Contains-append_cases done stretch r.3.s r.3.there) [
        | inl h ↦ inl (r.0, r.1, r.2, record { y = r.3.y; s = r.3.s; there = h; of_it = r.3.of_it; sweeps = r.3.sweeps; is = r.3.is; found = r.3.found })
        | inr h ↦ inr (r.0, r.1, r.2, record { y = r.3.y; s = r.3.s; there = h; of_it = r.3.of_it; sweeps = r.3.sweeps; is = r.3.is; found = r.3.found })
      ])

  -- some of the shares
  pub some_shared : (p : ℕ) (done rest : List Share) → AreShared plan p (done ++ rest) → AreShared plan p rest
  some_shared p done rest are s h = are s (Contains-append_right done rest s h)

  pub first_shared : (p : ℕ) (stretch others : List Share) → AreShared plan p (stretch ++ others) → AreShared plan p stretch
  first_shared p stretch others are s h = are s (Contains-append_left stretch others s h)

  -- where p has no sweep there is none
  pub none_of_it : (p : ℕ) (sweeps : List Event) → AreSweeps plan p sweeps → ((k : ℕ) (z : Event) → slice_get sweeps k ≡ Some z → ⊥) → (f : Finding) → IsSweepRaceOf plan p f → ⊥
  none_of_it p sweeps are none f r = let w = are.all r.x (r.of_it, r.sweeps_x) in none w.0 r.x w.1

  -- all shares are looked at
  module _ (p : ℕ) (names : List ℕ) (shares : List Share) (published : ArePublished plan p names) (are : AreShares plan p names shares) where
    as_sweeps : (f : Finding) → IsSharedRace plan p shares f → IsSweepRaceOf plan p f
    as_sweeps f r = record { x = r.0; y = r.3.y; name = r.3.s.name; is = r.3.is; found = r.3.found; of_it = r.2; sweeps_x = r.1; sweeps_y = r.3.sweeps }

    as_shared : (f : Finding) → IsSweepRaceOf plan p f → IsSharedRace plan p shares f
    as_shared f r =
        let found = subst (IsFound plan) r.is r.found in
        let low = sweep_publishes plan r.name r.x r.sweeps_x (low_calls plan r.x r.y r.name found) in
        let high = sweep_publishes plan r.name r.y r.sweeps_y (high_calls plan r.x r.y r.name found) in
        let here = (published r.name).1 (subst (λ q. publishes plan q r.name (event_count plan q) ≡ true) r.of_it low) in
        let w = are.all r.y r.name r.sweeps_y (subst (λ q. q < r.y.proc) r.of_it (race_lower plan r.x r.y r.name found)) high here in (
          r.x,
          r.sweeps_x,
          r.of_it,
          record { y = r.y; s = w.0; there = w.1; of_it = sym w.2; sweeps = r.sweeps_y; is = r.is ∙ ap (NameRace r.x r.y) (sym w.3); found = r.found },
        )

    pub all_shared : (old new : List Told) → AddsFindings plan old new (IsSharedRace plan p shares) → AddsFindings plan old new (IsSweepRaceOf plan p)
    all_shared old new = adds_same plan old new (IsSharedRace plan p shares) (IsSweepRaceOf plan p) as_sweeps as_shared

  -- those of one process more
  pub one_process_more : (n m : ℕ) → m ≡ suc n → (old now new : List Told) → AddsFindings plan old now (IsSweepRaceBelow plan n) → AddsFindings plan now new (IsSweepRaceOf plan n) →
      AddsFindings plan old new (IsSweepRaceBelow plan m)
  one_process_more n m next old now new =
      adds_both plan old now new (IsSweepRaceBelow plan n) (IsSweepRaceOf plan n) (IsSweepRaceBelow plan m)
      (λ f r. let lt = r.1 in (r.0, omega (arith, lt, next), r.2))
      (λ f r. (n, omega (arith, next), r))
      (λ f r. elim (cases_eq r.0 n) [
        | inl same ↦ inr (subst (λ p. IsSweepRaceOf plan p f) same r.2)
        | inr other ↦ inl (let lt = r.1 in (r.0, omega (arith, lt, next, other), r.2))
      ])

  pub none_below : (f : Finding) → IsSweepRaceBelow plan 0 f → ⊥
  none_below f r = let lt = r.1 in omega (arith, lt)

  -- those of all processes
  pub every_process : (n : ℕ) → n ≡ process_count plan → (old new : List Told) → AddsFindings plan old new (IsSweepRaceBelow plan n) → AddsFindings plan old new (IsSweepRace plan)
  every_process n all old new =
      adds_same plan old new (IsSweepRaceBelow plan n) (IsSweepRace plan)
      (λ f r. (r.0, r.2))
      (λ f r.
      let lt = process_within plan r.1.x.proc r.1.x.at UnpublishAll r.1.sweeps_x in
      let same = r.1.of_it in
      (r.0, omega (arith, lt, same, all), r.1))
