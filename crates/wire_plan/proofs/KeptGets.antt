-- The gets that bring a key to a node, as the events are looked at one after the other.
use Rattle.std.proofs.Common.{◌≡◌, ◌≢◌, ◌∙◌, ap, sym, refl, subst, Bool, ℕ, suc, ◌≤◌, List, [], ◌∷◌, ◌++◌, Some, true, false, arith, inl, inr, eqb-true}
use Rattle.std.proofs.lemmas.Bool.{cases_eq, cases_Bool, and_parts, true≢false}
use Rattle.std.proofs.lemmas.Option.{same_Some}
use Rattle.std.specs.Map.{lookup}
use Rattle.wire_runs.specs.Plan.{Plan, Event, Kind, Get, kind_at, event_count, process_count, node_of}
use Rattle.wire_runs.specs.EventLists.{AreAll}
use Rattle.wire_plan.specs.declared.gets.GetTable.{GetTable}
use Rattle.wire_plan.specs.declared.kind.Kind.{Kind as CodeKind}
use Rattle.wire_plan.specs.declared.kind.Kind.TheVariants as code
use Rattle.wire_types.specs.declared.Proc.{Proc}
use Rattle.wire_plan.specs.Kinds.{kind_of}
use Rattle.wire_runs.specs.Races.{GetDelivers}
use Rattle.wire_plan.specs.Index.{AreGetDeliveries, IsSent}
use Rattle.wire_plan.specs.Gets.{IsKeptGet, AreKeptGets, is_same, events_in, gets_under, AreGetLists, AreGetsTo}
use Rattle.wire_runs.proofs.Basics.{event_within, process_within}
use Rattle.wire_runs.proofs.EventLists.{all_same, all_of_none}
use Rattle.wire_plan.proofs.Grown.{place, Earlier, none_yet, one_more, one_other, whole_process, whole_plan}

-- other owners, keys or nodes
abbrev pub IsOther : ℕ × ℕ × ℕ → ℕ × ℕ × ℕ → Type 0
IsOther a b = a ≢ b

pub differs : (a b : ℕ × ℕ × ℕ) → a ≢ b → is_same a b ≡ false
differs a b ne = elim (cases_Bool (is_same a b)) [
  | inl t ↦
      (let p = and_parts _ _ t in
      let q = and_parts _ _ p.0 in
      let e = eqb-true _ _ q.0 in
      let f = eqb-true _ _ q.1 in
      let g = eqb-true _ _ p.1 in
      absurd (ne (λ i. (e i, f i, g i))))
  | inr f ↦ f
]

-- an empty table
pub empty_under : (table : GetTable) → table.lists.entries ≡ [] → (asked : ℕ × ℕ × ℕ) → gets_under table asked ≡ []
empty_under table none asked = ap (λ es. events_in (lookup (is_same asked) es)) none

-- of a key that is put once, all gets that are kept deliver it, if it is for others; and none if it isn't
pub kept_deliver : (plan : Plan) (p key node : ℕ) (places : List Event) → IsSent plan p key (event_count plan p) → AreKeptGets plan p key node places → AreGetDeliveries plan p key node places
kept_deliver plan p key node places sent are = all_same (IsKeptGet plan p key node) (GetDelivers plan p key node) places
    (λ z k. record { away = record { keeps = k.keeps; is = k.is; put = sent.put; committed = sent.committed; admitted = sent.admitted }; there = k.there })
    (λ z d. record { keeps = d.away.keeps; is = d.away.is; there = d.there }) are

pub none_deliver : (plan : Plan) (p key node : ℕ) → (IsSent plan p key (event_count plan p) → ⊥) → AreGetDeliveries plan p key node []
none_deliver plan p key node never = all_of_none (GetDelivers plan p key node) (λ z d. never (record { put = d.away.put; committed = d.away.committed; admitted = d.away.admitted }))

abbrev asked_by : Kind → ℕ × ℕ
asked_by (Get owner key) = (owner, key)
asked_by _ = (0, 0)

module _ (plan : Plan) where
  -- a get stands last in its list
  pub get_added : (q i p key node : ℕ) (old new : GetTable) → plan.keep ≡ true → kind_at plan q i ≡ Some (Get p key) → node_of plan q ≡ node →
      gets_under new (p, key, node) ≡ gets_under old (p, key, node) ++ place q i ∷ [] → ((other : ℕ × ℕ × ℕ) → (p, key, node) ≢ other → gets_under new other ≡ gets_under old other) →
      AreGetsTo plan q i old → AreGetsTo plan q (suc i) new
  get_added q i p key node old new keeps is there here others are = λ o k n. elim (cases_eq p o) [
    | inr ne ↦ other o k n (λ e. ne (ap (λ (t : ℕ × ℕ × ℕ). t.0) e))
    | inl a ↦ elim (cases_eq key k) [
      | inr ne ↦ other o k n (λ e. ne (ap (λ (t : ℕ × ℕ × ℕ). t.1) e))
      | inl b ↦ elim (cases_eq node n) [
        | inr ne ↦ other o k n (λ e. ne (ap (λ (t : ℕ × ℕ × ℕ). t.2) e))
        | inl c ↦ same o k n a b c
      ]
    ]
  ]
    where
      other : (o k n : ℕ) → IsOther (p, key, node) (o, k, n) → AreAll (Earlier (IsKeptGet plan o k n) q (suc i)) (gets_under new (o, k, n))
      other o k n ne = subst (AreAll (Earlier (IsKeptGet plan o k n) q (suc i))) (sym (others (o, k, n) ne)) (one_other (IsKeptGet plan o k n) q i (gets_under old (o, k, n))
          (λ h. ne (
          let asks = ap asked_by (same_Some _ _ (sym is ∙ h.is)) in
          let owner = ap (λ (t : ℕ × ℕ). t.0) asks in
          let its_key = ap (λ (t : ℕ × ℕ). t.1) asks in
          let its_node = sym there ∙ h.there in
          λ t. (owner t, its_key t, its_node t))) (are o k n))

      same : (o k n : ℕ) → p ≡ o → key ≡ k → node ≡ n → AreAll (Earlier (IsKeptGet plan o k n) q (suc i)) (gets_under new (o, k, n))
      same o k n a b c =
          subst (λ (t : ℕ × ℕ × ℕ). AreAll (Earlier (IsKeptGet plan t.0 t.1 t.2) q (suc i)) (gets_under new (t.0, t.1, t.2))) (λ t. (a t, b t, c t))
          (subst (AreAll (Earlier (IsKeptGet plan p key node) q (suc i))) (sym here)
          (one_more (IsKeptGet plan p key node) q i (gets_under old (p, key, node)) (record { keeps = keeps; is = is; there = there }) (are p key node)))

  -- an event that is no get
  pub nothing_added : (q i : ℕ) (table : GetTable) → ((p key : ℕ) → kind_at plan q i ≡ Some (Get p key) → ⊥) → AreGetsTo plan q i table → AreGetsTo plan q (suc i) table
  nothing_added q i table never are = λ p key node. one_other (IsKeptGet plan p key node) q i (gets_under table (p, key, node)) (λ h. never p key h.is) (are p key node)

  -- all events of a process, and of all processes
  pub process_added : (q n : ℕ) (table : GetTable) → event_count plan q ≤ n → AreGetsTo plan q n table → AreGetsTo plan (suc q) 0 table
  process_added q n table le are = λ p key node. whole_process (IsKeptGet plan p key node) q n (gets_under table (p, key, node))
      (λ i h. let lt = event_within plan q i _ h.is in omega (arith, lt, le)) (are p key node)

  pub plan_added : (n : ℕ) (table : GetTable) → process_count plan ≤ n → AreGetsTo plan n 0 table → AreGetLists plan table
  plan_added n table le are = λ p key node. whole_plan (IsKeptGet plan p key node) n (gets_under table (p, key, node))
      (λ x h. let lt = process_within plan x.proc x.at _ h.is in omega (arith, lt, le)) (are p key node)

  -- an empty table
  pub none_added : (table : GetTable) → ((asked : ℕ × ℕ × ℕ) → gets_under table asked ≡ []) → AreGetsTo plan 0 0 table
  none_added table none = λ p key node. subst (AreAll (Earlier (IsKeptGet plan p key node) 0 0)) (sym (none (p, key, node))) (none_yet (IsKeptGet plan p key node))

  pub none_kept : (table : GetTable) → plan.keep ≡ false → ((asked : ℕ × ℕ × ℕ) → gets_under table asked ≡ []) → AreGetLists plan table
  none_kept table off none = λ p key node. subst (AreKeptGets plan p key node) (sym (none (p, key, node))) (all_of_none (IsKeptGet plan p key node) (λ x h. true≢false (sym h.keeps ∙ off)))

abbrev is_get : Kind → Bool
is_get (Get owner key) = true
is_get _ = false

-- an event of another kind is no get
pub no_get : (sets : List (List ℕ)) (k : CodeKind) → ((owner : Proc) (key : ℕ) → k ≡ code.Get owner key → ⊥) → (owner key : ℕ) → kind_of sets k ≡ Get owner key → ⊥
no_get sets (code.Get owner key) never p k is = never owner key refl
no_get sets (code.Put scope key) never p k is = true≢false (sym (ap is_get is))
no_get sets code.Commit never p k is = true≢false (sym (ap is_get is))
no_get sets (code.Arrive set collect) never p k is = true≢false (sym (ap is_get is))
no_get sets (code.Leave set) never p k is = true≢false (sym (ap is_get is))
no_get sets (code.GetNow owner key) never p k is = true≢false (sym (ap is_get is))
no_get sets (code.Publish name) never p k is = true≢false (sym (ap is_get is))
no_get sets (code.Lookup name) never p k is = true≢false (sym (ap is_get is))
no_get sets (code.LookupWait name) never p k is = true≢false (sym (ap is_get is))
no_get sets (code.Unpublish name) never p k is = true≢false (sym (ap is_get is))
no_get sets code.UnpublishAll never p k is = true≢false (sym (ap is_get is))
no_get sets (code.Fixed reply) never p k is = true≢false (sym (ap is_get is))
