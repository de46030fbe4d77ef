-- A process that isn't enabled stays so while what its next event awaits doesn't come.
use Rattle.std.proofs.Common.{◌≡◌, ◌∙◌, ap, sym, refl, subst, ℕ, zero, suc, ◌<◌, ◌≤◌, List, [], ◌∷◌, length, map, true, false, cond, ◌==◌, Option, Some, None, is_some, inl, inr, arith}
use Rattle.std.specs.Prelude.{option_map, replicate, slice_set, slice_index_or}
use Rattle.std.proofs.lemmas.Bool.{true≢false, cases_eq, cases_lt, cases_Bool, cond_both, eq-eqb, eqb-true}
use Rattle.std.proofs.lemmas.Option.{same_Some}
use Rattle.std.proofs.lemmas.List.{length-map, length-set, length-replicate, get_or-set_same, get_or-set_other, get_or_past}
use Rattle.wire_types.specs.declared.Proc.{Proc}
use Rattle.wire_runs.specs.Plan.{Plan, Kind, Put, Commit, Arrive, Leave, Get, GetNow, Publish, Lookup, LookupWait, Unpublish, UnpublishAll, Fixed, Event, kind, kind_at, process_count, same_node}
use Rattle.wire_runs.specs.Puts.{own, stored}
use Rattle.wire_runs.specs.Fences.{arrivals, is_complete}
use Rattle.wire_runs.specs.State.{State, next_event}
use Rattle.wire_runs.specs.Sight.{held, served}
use Rattle.wire_runs.specs.Step.{is_seen, may_do, is_enabled, is_publisher, name_after, step}
use Rattle.wire_runs.proofs.Due.{done_same, done_other, place_path}
use Rattle.wire_scripts.specs.Scripts.{Scripts}
use Rattle.wire_scripts.specs.Planned.{plan_of}
use Rattle.wire_fence.specs.declared.FenceId.{FenceId}
use Rattle.wire_fence.specs.FenceTable.{FenceTable}
use Rattle.wire_fence.specs.Arrivals.{TellsMissing, missing_at}
use Rattle.wire_fence.proofs.Missing.{complete_is}
use Rattle.wire_plan.specs.Meetings.{IsMet}
use Rattle.wire_core.specs.Met.{ArrivesAt, after_arrival}
use Rattle.wire_core.specs.Waiting.{is_known_wait, is_same_thing, after, coming, Awaits, AreNotesTrue, IsFirst, AreUnknown}
use Rattle.wire_runs.specs.PlainRun.{or_else, lowest}
use Rattle.wire_core.specs.declared.waits.Awaited.{Awaited}
use Rattle.wire_core.specs.declared.waits.Awaited.TheVariants as wait
use Rattle.wire_core.proofs.Meet.{complete_at, leave_enabled}

-- what an event leaves as it was
stored_still : (plan : Plan) (p key n : ℕ) (o : Option Kind) → kind_at plan p n ≡ o → (o ≡ Some Commit → ⊥) → stored plan p key (suc n) ≡ stored plan p key n
stored_still plan p key n (Some Commit) is other = absurd (other refl)
stored_still plan p key n (Some (Put k scope)) is other = rw is refl
stored_still plan p key n (Some (Arrive members collect)) is other = rw is refl
stored_still plan p key n (Some (Leave members)) is other = rw is refl
stored_still plan p key n (Some (Get owner k)) is other = rw is refl
stored_still plan p key n (Some (GetNow owner k)) is other = rw is refl
stored_still plan p key n (Some (Publish name)) is other = rw is refl
stored_still plan p key n (Some (Lookup name)) is other = rw is refl
stored_still plan p key n (Some (LookupWait name)) is other = rw is refl
stored_still plan p key n (Some (Unpublish name)) is other = rw is refl
stored_still plan p key n (Some UnpublishAll) is other = rw is refl
stored_still plan p key n (Some (Fixed reply)) is other = rw is refl
stored_still plan p key n None is other = rw is refl

-- nothing is published under a name but by its publish
unnamed_still : (before : Option Event) (x : Event) (name : ℕ) (o : Option Kind) → (o ≡ Some (Publish name) → ⊥) → is_some before ≡ false → is_some (name_after before x o name) ≡ false
unnamed_still before x name (Some (Publish n)) other none =
    cond_both (n == name) _ before (λ b. is_some b ≡ false) (λ same. absurd (other (ap (λ m. Some (Publish m)) (eqb-true n name same)))) (λ _. none)
unnamed_still before x name (Some (Unpublish n)) other none =
    cond_both (n == name) _ before (λ b. is_some b ≡ false) (λ _. cond_both (is_publisher x.proc before) None before (λ b. is_some b ≡ false) (λ _. refl) (λ _. none)) (λ _. none)
unnamed_still before x name (Some UnpublishAll) other none = cond_both (is_publisher x.proc before) None before (λ b. is_some b ≡ false) (λ _. refl) (λ _. none)
unnamed_still before x name _ other none = none

-- what doesn't come with an event
module _ (s : Scripts) (table : FenceTable) (x : Event) (p : Proc) (missing : List ℕ) (e : Kind) (is : kind (plan_of s) x ≡ Some e) where
  no_commit : (fence : Option FenceId) (owner : Proc) → ArrivesAt s table x (option_map (λ f. f.number) fence) → is_same_thing (coming p fence missing e) (wait.Commit owner) ≡ false →
      owner.number ≡ p.number → Some e ≡ Some Commit → ⊥
  no_commit None owner arrives apart same commit =
      let e_is : e ≡ Commit = same_Some _ _ commit in
      true≢false (sym (eq-eqb p.number owner.number (sym same)) ∙ ap (λ k. is_same_thing (coming p None missing k) (wait.Commit owner)) (sym e_is) ∙ apart)
  no_commit (Some fence) owner (met, (members, collect, arrive)) apart same commit =
      let both : Some Commit ≡ Some (Arrive members collect) = sym commit ∙ sym is ∙ arrive in cc

  no_publish : (fence : Option FenceId) (name : ℕ) → ArrivesAt s table x (option_map (λ f. f.number) fence) → is_same_thing (coming p fence missing e) (wait.Publish name) ≡ false →
      Some e ≡ Some (Publish name) → ⊥
  no_publish None name arrives apart publish =
      let e_is : e ≡ Publish name = same_Some _ _ publish in
      true≢false (sym (eq-eqb name name refl) ∙ ap (λ k. is_same_thing (coming p None missing k) (wait.Publish name)) (sym e_is) ∙ apart)
  no_publish (Some fence) name (met, (members, collect, arrive)) apart publish =
      let both : Some (Publish name) ≡ Some (Arrive members collect) = sym publish ∙ sym is ∙ arrive in cc

  -- a fence that isn't complete, unless its completion comes
  missing_still : (before : List ℕ) (came : Option FenceId) (fence : FenceId) → missing ≡ after_arrival (option_map (λ f. f.number) came) before →
      is_same_thing (coming p came missing e) (wait.Fence fence) ≡ false → (missing_at before fence.number == 0) ≡ false → (missing_at missing fence.number == 0) ≡ false
  missing_still before None fence now apart some = ap (λ xs. missing_at xs fence.number == 0) now ∙ some
  missing_still before (Some came) fence now apart some = elim (cases_eq fence.number came.number) [
    | inl same ↦ ap (λ n. missing_at missing n == 0) same ∙ cond_both (missing_at missing came.number == 0) (wait.Fence came) wait.Unknown (λ w. is_same_thing w (wait.Fence fence) ≡ false →
        (missing_at missing came.number == 0) ≡ false)
        (λ zero_left h. absurd (true≢false (sym (eq-eqb came.number fence.number (sym same)) ∙ h)))
        (λ left _. left)
        apart
    | inr other ↦ ap (λ xs. missing_at xs fence.number == 0) now ∙ ap (λ n. n == 0) (get_or-set_other before came.number fence.number _ 0 other) ∙ some
  ]

-- whether the fence of an event is complete
met_complete : (s : Scripts) (table : FenceTable) (cut : ℕ → ℕ) (missing : List ℕ) (x : Event) (number : ℕ) → IsMet s table x number → TellsMissing s cut table missing →
    (missing_at missing number == 0) ≡ complete_at (plan_of s) cut x
met_complete s table cut missing x number met tells =
    complete_is s cut table missing number met.fence tells met.there
    ∙ ap (λ j. is_complete (plan_of s) cut met.fence.members j) (sym met.nth)
    ∙ ap (λ ms. is_complete (plan_of s) cut ms (arrivals (plan_of s) x.proc ms (suc x.at))) met.members

-- another's event leaves the next event of a process as it is
next_same : (plan : Plan) (state : State) (p q : ℕ) → (q ≡ p → ⊥) → next_event (step plan state p) q ≡ next_event state q
next_same plan state p q ne = place_path (next_event (step plan state p) q) q (state.done q) refl (done_other plan state p q ne)

-- p's event
module _ (s : Scripts) (table : FenceTable) (state : State) (missing : List ℕ) (p : Proc) (fence : Option FenceId) (e : Kind)
    (is : kind_at (plan_of s) p.number (state.done p.number) ≡ Some e)
    (arrives : ArrivesAt s table (next_event state p.number) (option_map (λ f. f.number) fence))
    (tells : TellsMissing s state.done table missing)
    (tells_then : TellsMissing s (step (plan_of s) state p.number).done table (after_arrival (option_map (λ f. f.number) fence) missing)) where
  abbrev then : State
  then = step (plan_of s) state p.number

  abbrev left : List ℕ
  left = after_arrival (option_map (λ f. f.number) fence) missing

  -- what p has stored
  stored_same : (owner : Proc) (key : ℕ) → is_same_thing (coming p fence left e) (wait.Commit owner) ≡ false →
      stored (plan_of s) owner.number key (then.done owner.number) ≡ stored (plan_of s) owner.number key (state.done owner.number)
  stored_same owner key apart = elim (cases_eq owner.number p.number) [
    | inl same ↦
        ap (λ o. stored (plan_of s) o key (then.done o)) same
        ∙ ap (stored (plan_of s) p.number key) (done_same (plan_of s) state p.number)
        ∙ stored_still (plan_of s) p.number key (state.done p.number) (Some e) is (no_commit s table (next_event state p.number) p left e is fence owner arrives apart same)
        ∙ ap (λ o. stored (plan_of s) o key (state.done o)) (sym same)
    | inr other ↦ ap (stored (plan_of s) owner.number key) (done_other (plan_of s) state p.number owner.number other)
  ]

  -- the next event of q, which isn't possible
  still : (q : ℕ) (w : Awaited) → Awaits s table (next_event state q) w → (q ≡ p.number → ⊥) → is_same_thing (coming p fence left e) w ≡ false → is_enabled (plan_of s) state q ≡ false →
      is_enabled (plan_of s) then q ≡ false
  still q wait.Unknown awaits ne apart off = absurd awaits
  still q wait.Nothing awaits ne apart off = ap (λ y. may_do (plan_of s) then y (kind (plan_of s) y)) (next_same (plan_of s) state p.number q ne) ∙ awaits then state ∙ off
  still q (wait.Publish name) awaits ne apart off =
      let before : is_some (state.names name) ≡ false = ap (may_do (plan_of s) state (next_event state q)) (sym awaits) ∙ off in
      ap (λ y. may_do (plan_of s) then y (kind (plan_of s) y)) (next_same (plan_of s) state p.number q ne)
      ∙ ap (may_do (plan_of s) then (next_event state q)) awaits
      ∙ ap (λ o. is_some (name_after (state.names name) (next_event state p.number) o name)) is
      ∙ unnamed_still (state.names name) (next_event state p.number) name (Some e) (no_publish s table (next_event state p.number) p left e is fence name arrives apart) before
  still q (wait.Commit owner) (key, awaits) ne apart off =
      let before = ap (may_do (plan_of s) state (next_event state q)) (sym awaits) ∙ off in
      ap (λ y. may_do (plan_of s) then y (kind (plan_of s) y)) (next_same (plan_of s) state p.number q ne)
      ∙ ap (may_do (plan_of s) then (next_event state q)) awaits
      ∙ ap (λ o. is_seen (cond (q == owner.number) (held (own (plan_of s) owner.number key (state.done q))) (served (plan_of s) owner.number (same_node (plan_of s) owner.number q) o)))
      (stored_same owner key apart)
      ∙ before
  still q (wait.Fence f) (met, (members, awaits)) ne apart off =
      let same = next_same (plan_of s) state p.number q ne in
      let before = met_complete s table state.done missing (next_event state q) f.number met tells ∙ leave_enabled (plan_of s) state q members awaits ∙ off in
      let after_it = missing_still s table (next_event state p.number) p left e is missing fence f refl apart before in
      let met_then : IsMet s table (next_event then q) f.number = subst (λ y. IsMet s table y f.number) (sym same) met in
      let awaits_then : kind (plan_of s) (next_event then q) ≡ Some (Leave members) = subst (λ y. kind (plan_of s) y ≡ Some (Leave members)) (sym same) awaits in
      sym (leave_enabled (plan_of s) then q members awaits_then)
      ∙ sym (met_complete s table then.done left (next_event then q) f.number met_then tells_then)
      ∙ after_it

map_at : (f : Awaited → Awaited) → f wait.Unknown ≡ wait.Unknown → (notes : List Awaited) (i : ℕ) → slice_index_or (map f notes) i wait.Unknown ≡ f (slice_index_or notes i wait.Unknown)
map_at f none [] i = sym none
map_at f none (w ∷ notes) zero = refl
map_at f none (w ∷ notes) (suc i) = map_at f none notes i

unknown_after : (comes : Awaited) → after comes wait.Unknown ≡ wait.Unknown
unknown_after comes = cond_both (is_same_thing comes wait.Unknown) wait.Unknown wait.Unknown (λ w. w ≡ wait.Unknown) (λ _. refl) (λ _. refl)

-- the notes after p's event, of which those are forgotten that await what it brings, and p's own
pub noted_step : (s : Scripts) (table : FenceTable) (state : State) (missing : List ℕ) (p : Proc) (fence : Option FenceId) (e : Kind) (notes : List Awaited) →
    kind_at (plan_of s) p.number (state.done p.number) ≡ Some e → ArrivesAt s table (next_event state p.number) (option_map (λ f. f.number) fence) → TellsMissing s state.done table missing →
    TellsMissing s (step (plan_of s) state p.number).done table (after_arrival (option_map (λ f. f.number) fence) missing) → p.number < process_count (plan_of s) → AreNotesTrue s table state notes →
    AreNotesTrue s table (step (plan_of s) state p.number) (slice_set (map (after (coming p fence (after_arrival (option_map (λ f. f.number) fence) missing) e)) notes) p.number wait.Unknown)
noted_step s table state missing p fence e notes is arrives tells tells_then within noted =
    let comes = coming p fence (after_arrival (option_map (λ f. f.number) fence) missing) e in
    let woken = map (after comes) notes in
    record {
      count = length-set woken p.number wait.Unknown ∙ length-map notes (after comes) ∙ noted.count;
      each = λ q known. elim (cases_eq q p.number) [
        | inl same ↦
            let count = noted.count in
            let long = length-map notes (after comes) in
            let here = ap (λ n. slice_index_or (slice_set woken p.number wait.Unknown) n wait.Unknown) same
            ∙ get_or-set_same woken p.number wait.Unknown wait.Unknown (omega (arith, count, long, within)) in
            absurd (true≢false (sym known ∙ ap is_known_wait here))
        | inr other ↦
            let w = slice_index_or notes q wait.Unknown in
            let here = get_or-set_other woken p.number q wait.Unknown wait.Unknown other ∙ map_at (after comes) (unknown_after comes) notes q in
            elim (cases_Bool (is_same_thing comes w)) [
              | inl t ↦ absurd (true≢false (sym known ∙ ap is_known_wait (here ∙ ap (λ b. cond b wait.Unknown w) t)))
              | inr f ↦
                  let same : slice_index_or (slice_set woken p.number wait.Unknown) q wait.Unknown ≡ w = here ∙ ap (λ b. cond b wait.Unknown w) f in
                  let before = noted.each q (ap is_known_wait (sym same) ∙ known) in (
                    still s table state missing p fence e is arrives tells tells_then q w before.1 other f before.0,
                    subst (λ v. Awaits s table (next_event (step (plan_of s) state p.number) q) v) (sym same)
                        (subst (λ y. Awaits s table y w) (sym (next_same (plan_of s) state p.number q other)) before.1),
                  )
            ]
      ];
    }

-- nothing is noted at the start
pub noted_first : (s : Scripts) (table : FenceTable) (state : State) (n : ℕ) → n ≡ process_count (plan_of s) → AreNotesTrue s table state (replicate n wait.Unknown)
noted_first s table state n count = record {
  count = length-replicate n wait.Unknown ∙ count;
  each = λ p known. absurd (true≢false (sym known ∙ ap is_known_wait (nothing n p)));
}
  where
    nothing : (n p : ℕ) → slice_index_or (replicate n wait.Unknown) p wait.Unknown ≡ wait.Unknown
    nothing zero p = refl
    nothing (suc n) zero = refl
    nothing (suc n) (suc p) = nothing n p

-- one more note
pub noted_more : (s : Scripts) (table : FenceTable) (state : State) (notes : List Awaited) (p : ℕ) (w : Awaited) → AreNotesTrue s table state notes → p < process_count (plan_of s) →
    is_enabled (plan_of s) state p ≡ false → Awaits s table (next_event state p) w → AreNotesTrue s table state (slice_set notes p w)
noted_more s table state notes p w noted within off awaits = record {
  count = length-set notes p w ∙ noted.count;
  each = λ q known. elim (cases_eq q p) [
    | inl same ↦
        let count = noted.count in
        let here = ap (λ n. slice_index_or (slice_set notes p w) n wait.Unknown) same ∙ get_or-set_same notes p w wait.Unknown (omega (arith, count, within)) in (
          ap (λ n. is_enabled (plan_of s) state n) same ∙ off,
          subst (λ v. Awaits s table (next_event state q) v) (sym here) (subst (λ n. Awaits s table (next_event state n) w) (sym same) awaits),
        )
    | inr other ↦
        let here = get_or-set_other notes p q w wait.Unknown other in
        subst (λ v. is_known_wait v ≡ true → (is_enabled (plan_of s) state q ≡ false) × Awaits s table (next_event state q) v) (sym here) (noted.each q) known
  ];
}

-- notes that what comes leaves as they are
unknown_only : (w : Awaited) → is_known_wait w ≡ false → w ≡ wait.Unknown
unknown_only wait.Unknown none = refl
unknown_only (wait.Commit p) none = absurd (true≢false none)
unknown_only (wait.Fence f) none = absurd (true≢false none)
unknown_only (wait.Publish name) none = absurd (true≢false none)
unknown_only wait.Nothing none = absurd (true≢false none)

pub nothing_comes : (comes : Awaited) (notes : List Awaited) → is_known_wait comes ≡ false → notes ≡ map (after comes) notes
nothing_comes comes notes none = go notes ∙ ap (λ w. map (after w) notes) (sym (unknown_only comes none))
  where
    go : (notes : List Awaited) → notes ≡ map (after wait.Unknown) notes
    go [] = refl
    go (w ∷ notes) = ap (λ ws. w ∷ ws) (go notes)

pub nothing_noted : (comes : Awaited) (notes : List Awaited) → AreUnknown notes → notes ≡ map (after comes) notes
nothing_noted comes [] none = refl
nothing_noted comes (w ∷ notes) none =
    ap (λ v. v ∷ notes) (unknown_only w (none 0) ∙ sym (unknown_after comes) ∙ ap (after comes) (sym (unknown_only w (none 0))))
    ∙ ap (λ ws. after comes w ∷ ws) (nothing_noted comes notes (λ p. none (suc p)))

-- of the first processes something is known, so none of them is enabled
known_within : (notes : List Awaited) (n : ℕ) → ((p : ℕ) → p < n → is_known_wait (slice_index_or notes p wait.Unknown) ≡ true) → n ≤ length notes
known_within notes n below = elim (cases_lt (length notes) n) [
  | inl past ↦ absurd (true≢false (sym (below (length notes) past) ∙ ap is_known_wait (get_or_past notes (length notes) wait.Unknown (omega arith))))
  | inr le ↦ le
]

pub first_within : (s : Scripts) (table : FenceTable) (state : State) (notes : List Awaited) (n : ℕ) → AreNotesTrue s table state notes → IsFirst notes n → n ≤ process_count (plan_of s)
first_within s table state notes n noted first = let le = known_within notes n first.below in let count = noted.count in omega (arith, le, count)

pub none_before : (s : Scripts) (table : FenceTable) (state : State) (notes : List Awaited) (n : ℕ) → AreNotesTrue s table state notes → IsFirst notes n → lowest (plan_of s) state n ≡ None
none_before s table state notes n noted first = go n (λ p lt. first.below p lt)
  where
    go : (m : ℕ) → ((p : ℕ) → p < m → is_known_wait (slice_index_or notes p wait.Unknown) ≡ true) → lowest (plan_of s) state m ≡ None
    go zero below = refl
    go (suc m) below =
        ap (λ o. or_else o (cond (is_enabled (plan_of s) state m) (Some m) None)) (go m (λ p lt. below p (omega (arith, lt))))
        ∙ ap (λ b. cond b (Some m) None) (noted.each m (below m (omega arith))).0
