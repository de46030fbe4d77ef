-- The gets of a key, as the events are looked at one after the other.
use Rattle.std.proofs.Common.{◌≡◌, ◌≢◌, ◌∙◌, ap, sym, refl, subst, ℕ, suc, ◌≤◌, List, [], ◌∷◌, ◌++◌, Some, None, true, false, length, map, ◌==◌, arith, inl, inr, eqb-true}
use Rattle.std.proofs.lemmas.Bool.{cases_eq, cases_Bool, and_parts, true≢false}
use Rattle.std.proofs.lemmas.Option.{same_Some, none-some}
use Rattle.std.specs.Map.{lookup}
use Rattle.wire_runs.specs.Plan.{Plan, Event, Kind, Get, kind_at, event_count, process_count, node_of, event_of}
use Rattle.wire_types.specs.declared.Event.{Event as CodeEvent}
use Rattle.wire_runs.specs.EventLists.{AreAll}
use Rattle.wire_anywhere.specs.declared.gets.GetTable.{GetTable}
use Rattle.std.specs.Prelude.{slice_get}
use Rattle.wire_runs.specs.Races.{GetBringsAway}
use Rattle.wire_plan.specs.Index.{AreGetDeliveries}
use Rattle.wire_anywhere.specs.Gets.{IsKeptGet, AreKeptGets, AreCarrying, is_same, events_in, gets_under, AreGetLists, AreGetsTo}
use Rattle.wire_runs.proofs.Basics.{event_within, process_within}
use Rattle.wire_runs.proofs.EventLists.{all_same, all_of_none}
use Rattle.wire_plan.proofs.Grown.{place, Earlier, none_yet, one_more, one_other, whole_process, whole_plan}

-- other owners or keys
abbrev pub IsOther : ℕ × ℕ → ℕ × ℕ → Type 0
IsOther a b = a ≢ b

pub differs : (a b : ℕ × ℕ) → a ≢ b → is_same a b ≡ false
differs a b ne = elim (cases_Bool (is_same a b)) [
  | inl t ↦
      (let p = and_parts _ _ t in
      let e = eqb-true _ _ p.0 in
      let f = eqb-true _ _ p.1 in
      absurd (ne (λ i. (e i, f i))))
  | inr f ↦ f
]

-- an empty table
pub empty_under : (table : GetTable) → table.lists.entries ≡ [] → (asked : ℕ × ℕ) → gets_under table asked ≡ []
empty_under table none asked = ap (λ es. events_in (lookup (is_same asked) es)) none

abbrev asked_by : Kind → ℕ × ℕ
asked_by (Get owner key) = (owner, key)
asked_by _ = (0, 0)

module _ (plan : Plan) where
  -- a get stands last in its list
  pub get_added : (q i p key : ℕ) (old new : GetTable) → plan.keep ≡ true → kind_at plan q i ≡ Some (Get p key) →
      gets_under new (p, key) ≡ gets_under old (p, key) ++ place q i ∷ [] → ((other : ℕ × ℕ) → (p, key) ≢ other → gets_under new other ≡ gets_under old other) →
      AreGetsTo plan q i old → AreGetsTo plan q (suc i) new
  get_added q i p key old new keeps is here others are = λ o k. elim (cases_eq p o) [
    | inr ne ↦ other o k (λ e. ne (ap (λ (t : ℕ × ℕ). t.0) e))
    | inl a ↦ elim (cases_eq key k) [
      | inr ne ↦ other o k (λ e. ne (ap (λ (t : ℕ × ℕ). t.1) e))
      | inl b ↦ same o k a b
    ]
  ]
    where
      other : (o k : ℕ) → IsOther (p, key) (o, k) → AreAll (Earlier (IsKeptGet plan o k) q (suc i)) (gets_under new (o, k))
      other o k ne = subst (AreAll (Earlier (IsKeptGet plan o k) q (suc i))) (sym (others (o, k) ne)) (one_other (IsKeptGet plan o k) q i (gets_under old (o, k))
          (λ h. ne (
          let asks = ap asked_by (same_Some _ _ (sym is ∙ h.is)) in
          let owner = ap (λ (t : ℕ × ℕ). t.0) asks in
          let its_key = ap (λ (t : ℕ × ℕ). t.1) asks in
          λ t. (owner t, its_key t))) (are o k))

      same : (o k : ℕ) → p ≡ o → key ≡ k → AreAll (Earlier (IsKeptGet plan o k) q (suc i)) (gets_under new (o, k))
      same o k a b =
          subst (λ (t : ℕ × ℕ). AreAll (Earlier (IsKeptGet plan t.0 t.1) q (suc i)) (gets_under new (t.0, t.1))) (λ t. (a t, b t))
          (subst (AreAll (Earlier (IsKeptGet plan p key) q (suc i))) (sym here)
          (one_more (IsKeptGet plan p key) q i (gets_under old (p, key)) (record { keeps = keeps; is = is }) (are p key)))

  -- an event that is no get
  pub nothing_added : (q i : ℕ) (table : GetTable) → ((p key : ℕ) → kind_at plan q i ≡ Some (Get p key) → ⊥) → AreGetsTo plan q i table → AreGetsTo plan q (suc i) table
  nothing_added q i table never are = λ p key. one_other (IsKeptGet plan p key) q i (gets_under table (p, key)) (λ h. never p key h.is) (are p key)

  -- all events of a process, and of all processes
  pub process_added : (q n : ℕ) (table : GetTable) → event_count plan q ≤ n → AreGetsTo plan q n table → AreGetsTo plan (suc q) 0 table
  process_added q n table le are = λ p key. whole_process (IsKeptGet plan p key) q n (gets_under table (p, key))
      (λ i h. let lt = event_within plan q i _ h.is in omega (arith, lt, le)) (are p key)

  pub plan_added : (n : ℕ) (table : GetTable) → process_count plan ≤ n → AreGetsTo plan n 0 table → AreGetLists plan table
  plan_added n table le are = λ p key. whole_plan (IsKeptGet plan p key) n (gets_under table (p, key))
      (λ x h. let lt = process_within plan x.proc x.at _ h.is in omega (arith, lt, le)) (are p key)

  -- an empty table
  pub none_added : (table : GetTable) → ((asked : ℕ × ℕ) → gets_under table asked ≡ []) → AreGetsTo plan 0 0 table
  none_added table none = λ p key. subst (AreAll (Earlier (IsKeptGet plan p key) 0 0)) (sym (none (p, key))) (none_yet (IsKeptGet plan p key))

  pub none_kept : (table : GetTable) → plan.keep ≡ false → ((asked : ℕ × ℕ) → gets_under table asked ≡ []) → AreGetLists plan table
  none_kept table off none = λ p key. subst (AreKeptGets plan p key) (sym (none (p, key))) (all_of_none (IsKeptGet plan p key) (λ x h. true≢false (sym h.keeps ∙ off)))

module _ (plan : Plan) (p key : ℕ) (places : List Event) (are : AreKeptGets plan p key places) where
  -- without a get there is none that brings it away
  pub none_at_all : ((k : ℕ) (z : Event) → slice_get places k ≡ Some z → ⊥) → AreCarrying plan p key places
  none_at_all none = all_same (IsKeptGet plan p key) (GetBringsAway plan p key) places
      (λ z h. absurd (let at = are.all z h in none at.0 z at.1)) (λ z b. record { keeps = b.keeps; is = b.is }) are

  module _ (first : Event) (is : slice_get places 0 ≡ Some first) where
    -- where the first get brings nothing to its node, none does to any
    pub none_carrying : AreGetDeliveries plan p key (node_of plan first.proc) [] → AreCarrying plan p key []
    none_carrying none = all_of_none (GetBringsAway plan p key)
        (λ z b.
        let kept = are.only 0 first is in
        let at = none.all first (record { away = record { keeps = b.keeps; is = kept.is; put = b.put; committed = b.committed; admitted = b.admitted }; there = refl }) in
        none-some first at.1)

    -- else all do
    pub all_carrying : (there : List Event) → (there ≡ [] → ⊥) → AreGetDeliveries plan p key (node_of plan first.proc) there → AreCarrying plan p key places
    all_carrying [] some some_there = absurd (some refl)
    all_carrying (g ∷ there) some some_there =
        let away = (some_there.only 0 g refl).away in
        all_same (IsKeptGet plan p key) (GetBringsAway plan p key) places
        (λ z h. record { keeps = h.keeps; is = h.is; put = away.put; committed = away.committed; admitted = away.admitted })
        (λ z b. record { keeps = b.keeps; is = b.is }) are

-- without a first event there is none
pub none_first : (gets : List CodeEvent) → None ≡ slice_get gets 0 → (k : ℕ) (z : Event) → slice_get (map event_of gets) k ≡ Some z → ⊥
none_first [] none k z at = none-some z at
none_first (g ∷ gets) none k z at = none-some g none

pub no_events : (gets : List CodeEvent) → (length gets == 0) ≡ true → map event_of gets ≡ []
no_events [] e = refl
no_events (g ∷ gets) e = let none = eqb-true (length (g ∷ gets)) 0 e in absurd (omega (arith, none))

pub some_events : (gets : List CodeEvent) → (length gets == 0) ≡ false → map event_of gets ≡ [] → ⊥
some_events [] e none = true≢false e
some_events (g ∷ gets) e none = cc
