-- Which events come in the plain run of a settled plan.
use Rattle.std.proofs.Common.{◌≡◌, ◌≢◌, ◌∙◌, ap, refl, sym, subst, ℕ, zero, suc, ◌+◌, ◌<◌, ◌≤◌, true, List, [], ◌∷◌, ◌++◌, map, length, Option, Some, None, is_some, ◌⊎◌, inl, inr, ⊎_elim, arith, eq-eqb}
use Rattle.std.specs.Prelude.{◌↔◌}
use Rattle.std.proofs.lemmas.Bool.{cond-true, cases_lt, cases_eq, true≢false}
use Rattle.std.proofs.lemmas.Option.{same_Some}
use Rattle.wire_types.specs.declared.place.Event.{Event as CodeEvent}
use Rattle.wire_runs.specs.Plan.{Plan, Event, Kind, Leave, Get, LookupWait, event_of, kind, event_count, process_count}
use Rattle.wire_runs.specs.Puts.{own}
use Rattle.wire_runs.specs.Sight.{held}
use Rattle.wire_runs.specs.State.{next_event, IsDone}
use Rattle.wire_runs.specs.Step.{may_do, reply, is_seen, IsReachable}
use Rattle.wire_runs.specs.PlainRun.{plain_run}
use Rattle.wire_runs.specs.Order.{Edge, Follows, Live, live, may_come, Before, edge, further}
use Rattle.wire_runs.specs.Races.{IsSettled}
use Rattle.wire_runs.specs.Fate.{Waits, HasFate, dead, told}
use Rattle.wire_runs.specs.Laws.{plain_end, HappensBefore}
use Rattle.wire_runs.proofs.Due.{Sound, chain_in, closed_cut, live_may, live_source, reachable_sound, place_path}
use Rattle.wire_runs.proofs.Fates.{live_event, get_fate, says_not_waits, fates_tell, runs_are_sound}
use Rattle.wire_runs.proofs.HaveFates.{have_fates}
use Rattle.wire_runs.proofs.Histories.{joined, same_process}
use Rattle.wire_runs.proofs.PlainRun.{plain_runs}
use Rattle.wire_runs.proofs.Basics.{process_within}
use Rattle.wire_runs.proofs.Lists.{slice_get-map_kept, slice_get-map_back, slice_get_push_kept, slice_get_push_last, slice_get_push_cases}
use Rattle.wire_plan.specs.Kinds.{kind_of}
use Rattle.wire_plan.specs.declared.kind.Kind.{Kind as CodeKind}
use Rattle.wire_plan.specs.declared.kind.Kind.TheVariants as code
use Rattle.wire_fates.proofs.Fates.{leave_may}
use Rattle.wire_anywhere.specs.Answered.{IsStuck, AreStuckTo, AreStuck, IsAfterStuck}

seen : (o : Option ℕ) → is_some o ≡ true → is_seen (held o) ≡ true
seen None h = h
seen (Some v) h = refl

none_some : (k : Kind) → None ≡ Some k → ⊥
none_some k e = true≢false (sym (ap is_some e))

module _ (plan : Plan) (settled : IsSettled plan) where
  -- no live event but a lookup-wait has the fate to wait
  pub only_lookups_wait : (y : Event) → Live plan y → ((name : ℕ) → kind plan y ≡ Some (LookupWait name) → ⊥) → HasFate plan y Waits → ⊥
  only_lookups_wait y l other (dead no_ e) = no_ l
  only_lookups_wait y l other (told m fate_of all past is_past e) = says_not_waits _ (sym (e ∙ cond-true _ _ _ (may (kind plan y) refl)))
    where
      may : (o : Option Kind) → kind plan y ≡ o → may_do plan past y o ≡ true
      may None e = absurd (let v = live_event plan y l in none_some v.0 (sym e ∙ v.1))
      may (Some (Get owner key)) is = elim (cases_eq y.proc owner) [
        | inl same ↦
            (let b = eq-eqb y.proc owner same in
            let some : is_some (own plan owner key y.at) ≡ true = sym (cond-true _ _ _ b) ∙ subst (λ o. may_come plan y o ≡ true) is (live_may l) in
            ap is_seen (cond-true _ _ _ b) ∙ seen (own plan owner key y.at) some)
        | inr ne ↦ absurd (says_not_waits _ (sym (get_fate plan settled y Waits l owner key is ne (told m fate_of all past is_past e))))
      ]
      may (Some (Leave members)) is = leave_may plan y fate_of past members l is_past is
      may (Some (LookupWait name)) is = absurd (other name is)
      may (Some _) is = refl

  pub end_reached : IsReachable plan (plain_end plan)
  end_reached = (plain_run plan, (plain_runs plan).is_run, refl)

  end_sound : Sound plan (plain_end plan)
  end_sound = reachable_sound plan (plain_end plan) end_reached

  pub end_within : (p : ℕ) → (plain_end plan).done p ≤ event_count plan p
  end_within = end_sound.within

  pub done_live : (x : Event) → IsDone (plain_end plan) x → Live plan x
  done_live x d = end_sound.live_done x d

  -- nothing that comes is stuck, or after what is stuck
  done_not_after : (x w : Event) → IsDone (plain_end plan) x → IsStuck plan w → (w ≡ x) ⊎ Before plan w x → ⊥
  done_not_after x w d stuck h =
      let cut = runs_are_sound plan (plain_end plan) settled end_reached in
      elim h [
        | inl e ↦ cut.comes x d (subst (λ v. HasFate plan v Waits) e stuck.waits)
        | inr b ↦ cut.comes w (chain_in (closed_cut end_sound) b d) stuck.waits
      ]

  -- an event whose sources have come is done, or the next of its process
  at_next : (y : Event) → ((x : Event) → Edge plan x y → IsDone (plain_end plan) x) → (plain_end plan).done y.proc ≤ y.at → y.at ≡ (plain_end plan).done y.proc
  at_next y sources ge = go y.at refl
    where
      go : (n : ℕ) → y.at ≡ n → y.at ≡ (plain_end plan).done y.proc
      go zero e = omega (arith, ge, e)
      go (suc i) e = let d = sources (record { proc = y.proc; at = i }) (Follows refl (sym e)) in omega (arith, ge, e, d)

  module _ (marks : HappensBefore plan) where
    -- nothing that is stuck is y, or before it
    abbrev Free : Event → Type 0
    Free y = (w : Event) → IsStuck plan w → (w ≡ y) ⊎ Before plan w y → ⊥

    source_free : (x y : Event) → Live plan y → Edge plan x y → Free y → Free x
    source_free x y l e free w stuck h = elim h [
      | inl same ↦ free w stuck (inr (subst (λ v. Before plan v y) (sym same) (edge (live_source l e) e l)))
      | inr b ↦ free w stuck (inr (further b e l))
    ]

    if_sources : (y : Event) → Live plan y → Free y → ((x : Event) → Edge plan x y → IsDone (plain_end plan) x) → IsDone (plain_end plan) y
    if_sources y l free sources = elim (cases_lt y.at ((plain_end plan).done y.proc)) [
      | inl lt ↦ lt
      | inr ge ↦ absurd (
          let next : y ≡ next_event (plain_end plan) y.proc = place_path y y.proc ((plain_end plan).done y.proc) refl (at_next y sources ge) in
          let f = have_fates plan settled marks y in
          let comes : f.0 ≢ Waits = λ w. free y (record { alive = l; waits = subst (λ v. HasFate plan y v) w f.1 }) (inl refl) in
          let on = ((fates_tell plan (plain_end plan) settled end_reached).enabled y.proc f.0 (subst (λ v. HasFate plan v f.0) next f.1)).1
          ((λ x e. sources x (subst (λ v. Edge plan x v) (sym next) e)), comes) in
          true≢false (sym on ∙ (plain_runs plan).ends y.proc))
    ]

    -- all other live events come
    free_comes : {y : Event} → Live plan y → Free y → IsDone (plain_end plan) y
    free_comes {y} (live may from) free = if_sources y (live may from) free (λ x e. free_comes (from x e) (source_free x y (live may from) e free))

    module _ (stuck : List Event) (are : AreStuck plan stuck) (x : Event) where
      after_first : (w : Event) → IsStuck plan w → (w ≡ x) ⊎ Before plan w x → IsAfterStuck plan stuck x
      after_first w s h =
          let f = are.all w s in
          let y = f.1 in (
            f.0,
            y,
            f.2,
            elim (cases_eq y.at w.at) [
              | inl same ↦ (let e : w ≡ y = λ t. record { proc = sym f.3 t; at = sym same t } in subst (λ v. (v ≡ x) ⊎ Before plan v x) e h)
              | inr ne ↦
                  (let le = f.4 in
                  let b = same_process plan y w s.alive f.3 (omega (arith, le, ne)) in
                  inr (⊎_elim (λ (e : w ≡ x). subst (λ v. Before plan y v) e b) (λ (c : Before plan w x). joined b c) h))
            ],
          )

      pub comes_exactly : (Live plan x × (IsAfterStuck plan stuck x → ⊥)) ↔ IsDone (plain_end plan) x
      comes_exactly = (
        (λ h. free_comes h.0 (λ w s a. h.1 (after_first w s a))),
        (λ d. (end_sound.live_done x d, (λ a. done_not_after x a.1 d (are.only a.0 a.1 a.2) a.3))),
      )

-- only a lookup-wait is told as one
lookup_back : (sets : List (List ℕ)) (k : CodeKind) (name : ℕ) → kind_of sets k ≡ LookupWait name → k ≡ code.LookupWait name
lookup_back sets (code.Put scope key) name e = cc
lookup_back sets code.Commit name e = cc
lookup_back sets (code.Arrive set collect) name e = cc
lookup_back sets (code.Leave set) name e = cc
lookup_back sets (code.Get owner key) name e = cc
lookup_back sets (code.GetNow owner key) name e = cc
lookup_back sets (code.Publish n) name e = cc
lookup_back sets (code.Lookup n) name e = cc
lookup_back sets (code.LookupWait n) name e = cc
lookup_back sets (code.Unpublish n) name e = cc
lookup_back sets code.UnpublishAll name e = cc
lookup_back sets (code.Fixed reply) name e = cc

-- so what isn't one doesn't wait
pub never_stuck : (plan : Plan) → IsSettled plan → (y : Event) (sets : List (List ℕ)) (k : CodeKind) → kind plan y ≡ Some (kind_of sets k) → ((name : ℕ) → k ≡ code.LookupWait name → ⊥) →
    IsStuck plan y → ⊥
never_stuck plan settled y sets k is other s =
    only_lookups_wait plan settled y s.alive (λ name e. other name (lookup_back sets k name (same_Some _ _ (sym is ∙ e)))) s.waits

module _ (plan : Plan) (n : ℕ) (xs : List CodeEvent) (are : AreStuckTo plan n (map event_of xs)) where
  -- a process that is never stuck
  pub no_more : ((at : ℕ) → ¬ (IsStuck plan (record { proc = n; at = at }))) → AreStuckTo plan (n + 1) (map event_of xs)
  no_more none = record {
    only = are.only;
    all = λ x lt s. elim (cases_lt x.proc n) [
      | inl low ↦ are.all x low s
      | inr ge ↦ absurd (none x.at (let e : x.proc ≡ n = omega (arith, lt, ge) in subst (IsStuck plan) (λ t. record { proc = e t; at = x.at }) s))
    ];
  }

  -- one that is
  pub one_stuck : (e : CodeEvent) → e.proc.number ≡ n → IsStuck plan (event_of e) → ((at : ℕ) → at < e.at → ¬ (IsStuck plan (record { proc = n; at = at }))) →
      AreStuckTo plan (n + 1) (map event_of (xs ++ e ∷ []))
  one_stuck e its stuck first = record {
    only = λ k x is. (
        let v = slice_get-map_back event_of (xs ++ e ∷ []) k x is in
        elim (slice_get_push_cases xs e k v.0 v.1) [
          | inl old ↦ are.only k x (slice_get-map_kept event_of xs k v.0 old ∙ ap Some v.2)
          | inr last ↦ subst (IsStuck plan) (ap event_of last.1 ∙ v.2) stuck
        ]);
    all = λ x lt s. elim (cases_lt x.proc n) [
      | inl low ↦
          (let f = are.all x low s in
          let v = slice_get-map_back event_of xs f.0 f.1 f.2 in
          (f.0, f.1, slice_get-map_kept event_of (xs ++ e ∷ []) f.0 v.0 (slice_get_push_kept xs e f.0 v.0 v.1) ∙ ap Some v.2, f.3, f.4))
      | inr ge ↦
          (let same : x.proc ≡ n = omega (arith, lt, ge) in (
            length xs,
            event_of e,
            slice_get-map_kept event_of (xs ++ e ∷ []) (length xs) e (slice_get_push_last xs e),
            its ∙ sym same,
            elim (cases_lt x.at e.at) [
              | inl low ↦ absurd (first x.at low (subst (IsStuck plan) (λ t. record { proc = same t; at = x.at }) s))
              | inr up ↦ up
            ],
          ))
    ];
  }

-- those of all processes
pub all_stuck : (plan : Plan) (n : ℕ) (stuck : List Event) → process_count plan ≤ n → AreStuckTo plan n stuck → AreStuck plan stuck
all_stuck plan n stuck end are = record {
  only = are.only;
  all = λ x s. (
      let v = live_event plan x s.alive in
      let lt = process_within plan x.proc x.at v.0 v.1 in
      are.all x (omega (arith, lt, end)) s);
}
