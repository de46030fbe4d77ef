-- The gets that come to be made, as the events are looked at one after the other.
use Rattle.std.proofs.Common.{◌≡◌, ◌≢◌, ◌∙◌, ap, sym, subst, ℕ, suc, ◌<◌, ◌≤◌, List, [], ◌∷◌, ◌++◌, Bool, Some, None, true, false, arith, inl, inr, eqb-true}
use Rattle.std.specs.Prelude.{slice_get, cond}
use Rattle.std.specs.HashMap.{get}
use Rattle.std.proofs.lemmas.Bool.{cases_eq, cases_lt, cases_Bool, and_parts}
use Rattle.std.proofs.lemmas.Option.{same_Some}
use Rattle.std.specs.Map.{lookup}
use Rattle.wire_runs.specs.Plan.{Plan, Event, Kind, Get, kind, kind_at, event_count, process_count}
use Rattle.wire_runs.specs.Puts.{stored}
use Rattle.wire_runs.specs.Order.{Stores}
use Rattle.wire_runs.specs.EventLists.{AreAll}
use Rattle.wire_runs.proofs.Lists.{slice_get_push_cases, not_in_empty}
use Rattle.wire_runs.proofs.Basics.{event_within, process_within}
use Rattle.wire_plan.proofs.Grown.{place, Earlier, none_yet, one_more, one_other, whole_process, whole_plan}
use Rattle.wire_library_laws.specs.Portable.{IsAsked}
use Rattle.wire_portable.specs.declared.gets.GetTable.{GetTable}
use Rattle.wire_portable.specs.Gets.{place_in, IsOpenGet, is_same, is_same_phase, events_in, gets_under, number_or_all, first_under, AreGetsTo, AreGetLists, AreUnreadIn, AreUnreadBeside, AreFirst, IsGetTable, AreOpenGets}
use Rattle.wire_portable.specs.Phases.{phase_of, reads}
use Rattle.wire_portable.proofs.Keys.{missing_before}

abbrev pub IsOther : ℕ × ℕ → ℕ × ℕ → Type 0
IsOther a b = a ≢ b

pub differs : (a b : ℕ × ℕ) → a ≢ b → is_same a b ≡ false
differs a b ne = elim (cases_Bool (is_same a b)) [
  | inl t ↦
      (let p = and_parts _ _ t in
      let e = eqb-true _ _ p.0 in
      let f = eqb-true _ _ p.1 in
      absurd (ne (λ i. (e i, f i))))
  | inr f ↦ f
]

-- an empty table
pub empty_under : (table : GetTable) → table.lists.entries ≡ [] → (asked : ℕ × ℕ) → gets_under table asked ≡ []
empty_under table none asked = ap (λ es. events_in (lookup (is_same asked) es)) none

abbrev owner_of : Kind → ℕ
owner_of (Get owner key) = owner
owner_of _ = 0

abbrev key_of : Kind → ℕ
key_of (Get owner key) = key
key_of _ = 0

module _ (together : Bool) (plan : Plan) where
  -- a get stands last in its list
  pub get_added : (q i p n key : ℕ) (old new : GetTable) → kind_at plan q i ≡ Some (Get p key) → (q ≡ p → ⊥) → IsAsked plan (place q i) → place_in together plan q ≡ n →
      gets_under new (p, n) ≡ gets_under old (p, n) ++ place q i ∷ [] → ((other : ℕ × ℕ) → (p, n) ≢ other → gets_under new other ≡ gets_under old other) →
      AreGetsTo together plan q i old → AreGetsTo together plan q (suc i) new
  get_added q i p n key old new is differ asked there here others are = λ o m. elim (cases_eq p o) [
    | inr ne ↦ other o m (λ e. ne (ap (λ (t : ℕ × ℕ). t.0) e))
    | inl a ↦ elim (cases_eq n m) [
      | inr ne ↦ other o m (λ e. ne (ap (λ (t : ℕ × ℕ). t.1) e))
      | inl b ↦ same o m a b
    ]
  ]
    where
      other : (o m : ℕ) → IsOther (p, n) (o, m) → AreAll (Earlier (IsOpenGet together plan o m) q (suc i)) (gets_under new (o, m))
      other o m ne = subst (AreAll (Earlier (IsOpenGet together plan o m) q (suc i))) (sym (others (o, m) ne)) (one_other (IsOpenGet together plan o m) q i (gets_under old (o, m))
          (λ h. ne (
          let owner = ap owner_of (same_Some _ _ (sym is ∙ h.is)) in
          let its_place = sym there ∙ h.there in
          λ t. (owner t, its_place t))) (are o m))

      same : (o m : ℕ) → p ≡ o → n ≡ m → AreAll (Earlier (IsOpenGet together plan o m) q (suc i)) (gets_under new (o, m))
      same o m a b =
          subst (λ (t : ℕ × ℕ). AreAll (Earlier (IsOpenGet together plan t.0 t.1) q (suc i)) (gets_under new (t.0, t.1))) (λ t. (a t, b t))
          (subst (AreAll (Earlier (IsOpenGet together plan p n) q (suc i))) (sym here)
          (one_more (IsOpenGet together plan p n) q i (gets_under old (p, n)) (record { key = key; is = is; other = differ; asked = asked; there = there }) (are p n)))

  -- a get of an own key is no such get
  pub own_get : (owner key : ℕ) (z : Event) (p n : ℕ) → kind plan z ≡ Some (Get owner key) → owner ≡ z.proc → IsOpenGet together plan p n z → ⊥
  own_get owner key z p n is own h = h.other (sym own ∙ ap owner_of (same_Some _ _ (sym is ∙ h.is)))

  -- an event that is no such get
  pub nothing_added : (q i : ℕ) (table : GetTable) → ((p n : ℕ) → IsOpenGet together plan p n (place q i) → ⊥) → AreGetsTo together plan q i table → AreGetsTo together plan q (suc i) table
  nothing_added q i table never are = λ p n. one_other (IsOpenGet together plan p n) q i (gets_under table (p, n)) (never p n) (are p n)

  -- all events of a process, and of all processes
  pub process_added : (q n : ℕ) (table : GetTable) → event_count plan q ≤ n → AreGetsTo together plan q n table → AreGetsTo together plan (suc q) 0 table
  process_added q n table le are = λ p m. whole_process (IsOpenGet together plan p m) q n (gets_under table (p, m))
      (λ i h. let lt = event_within plan q i _ h.is in omega (arith, lt, le)) (are p m)

  pub plan_added : (n : ℕ) (table : GetTable) → process_count plan ≤ n → AreGetsTo together plan n 0 table → AreGetLists together plan table
  plan_added n table le are = λ p m. whole_plan (IsOpenGet together plan p m) n (gets_under table (p, m))
      (λ x h. let lt = process_within plan x.proc x.at _ h.is in omega (arith, lt, le)) (are p m)

  -- an empty table
  pub none_added : (table : GetTable) → ((asked : ℕ × ℕ) → gets_under table asked ≡ []) → AreGetsTo together plan 0 0 table
  none_added table none = λ p n. subst (AreAll (Earlier (IsOpenGet together plan p n) 0 0)) (sym (none (p, n))) (none_yet (IsOpenGet together plan p n))

-- a list with one more get, of a key that isn't there before it either
pub still_first : (plan : Plan) (rows : List (List ℕ)) (p n f key : ℕ) (z : Event) (old lower new : GetTable) → kind plan z ≡ Some (Get p key) → phase_of rows z ≡ f →
    stored plan p key (first_under lower (p, n, f)) ≡ None → ((other : ℕ × ℕ × ℕ) → first_under lower other ≤ first_under old other) → lower.lists ≡ old.lists → new.firsts ≡ lower.firsts →
    gets_under new (p, n) ≡ gets_under lower (p, n) ++ z ∷ [] → ((other : ℕ × ℕ) → (p, n) ≢ other → gets_under new other ≡ gets_under lower other) →
    AreFirst plan rows old → AreFirst plan rows new
still_first plan rows p n f key z old lower new is its_phase none less same firsts here others are = λ o m e. elim (cases_eq p o) [
  | inr ne ↦ other o m e (λ t. ne (ap (λ (t : ℕ × ℕ). t.0) t))
  | inl a ↦ elim (cases_eq n m) [
    | inr ne ↦ other o m e (λ t. ne (ap (λ (t : ℕ × ℕ). t.1) t))
    | inl b ↦ subst (λ (t : ℕ × ℕ). AreUnreadIn plan rows e t.0 (first_under new (t.0, t.1, e)) (gets_under new (t.0, t.1))) (λ t. (a t, b t)) (mine e)
  ]
]
  where
    same_lists : (o m : ℕ) → gets_under lower (o, m) ≡ gets_under old (o, m)
    same_lists o m = ap (λ lists. events_in (get is_same lists (o, m))) same

    same_first : (o m e : ℕ) → first_under new (o, m, e) ≡ first_under lower (o, m, e)
    same_first o m e = ap (λ table. number_or_all (get is_same_phase table (o, m, e))) firsts

    earlier : (o m e : ℕ) → AreUnreadIn plan rows e o (first_under new (o, m, e)) (gets_under lower (o, m))
    earlier o m e k h other_key at there its = missing_before plan o other_key (first_under new (o, m, e)) (first_under old (o, m, e))
        (let le = less (o, m, e) in let s = same_first o m e in omega (arith, le, s)) (are o m e k h other_key (subst (λ hs. slice_get hs k ≡ Some h) (same_lists o m) at) there its)

    other : (o m e : ℕ) → IsOther (p, n) (o, m) → AreUnreadIn plan rows e o (first_under new (o, m, e)) (gets_under new (o, m))
    other o m e ne = subst (AreUnreadIn plan rows e o (first_under new (o, m, e))) (sym (others (o, m) ne)) (earlier o m e)

    its_key : (e other_key : ℕ) → phase_of rows z ≡ e → kind plan z ≡ Some (Get p other_key) → stored plan p other_key (first_under new (p, n, e)) ≡ None
    its_key e other_key there its = subst (λ i. stored plan p other_key (first_under new (p, n, i)) ≡ None) (sym its_phase ∙ there)
        (subst (λ i. stored plan p other_key i ≡ None) (sym (same_first p n f)) (subst (λ k. stored plan p k (first_under lower (p, n, f)) ≡ None) (ap key_of (same_Some _ _ (sym is ∙ its))) none))

    mine : (e : ℕ) → AreUnreadIn plan rows e p (first_under new (p, n, e)) (gets_under new (p, n))
    mine e = subst (AreUnreadIn plan rows e p (first_under new (p, n, e))) (sym here) (λ k h other_key at there its. elim (slice_get_push_cases (gets_under lower (p, n)) z k h at) [
      | inl low ↦ earlier p n e k h other_key low there its
      | inr s ↦ its_key e other_key (subst (λ y. phase_of rows y ≡ e) (sym s.1) there) (subst (λ y. kind plan y ≡ Some (Get p other_key)) (sym s.1) its)
    ])

-- no get is listed in an empty table
pub none_first : (plan : Plan) (rows : List (List ℕ)) (table : GetTable) → ((asked : ℕ × ℕ) → gets_under table asked ≡ []) → AreFirst plan rows table
none_first plan rows table none p n f = subst (AreUnreadIn plan rows f p (first_under table (p, n, f))) (sym (none (p, n))) (λ k z key at there is. absurd (not_in_empty k z at))

same_phase : (a b : ℕ × ℕ × ℕ) → is_same_phase a b ≡ true → a ≡ b
same_phase a b t =
    (let p = and_parts _ _ t in
    let q = and_parts _ _ p.0 in
    let e = eqb-true _ _ q.0 in
    let f = eqb-true _ _ q.1 in
    let g = eqb-true _ _ p.1 in
    λ i. (e i, f i, g i))

-- the number of a list is lowered, and others aren't raised
pub lowered : (listed other : ℕ × ℕ × ℕ) (at : ℕ) (old new : GetTable) → at < first_under old listed →
    ((q : ℕ × ℕ × ℕ) → get is_same_phase new.firsts q ≡ cond (is_same_phase listed q) (Some at) (get is_same_phase old.firsts q)) → first_under new other ≤ first_under old other
lowered listed other at old new lt updates = elim (cases_Bool (is_same_phase listed other)) [
  | inl t ↦
      (let e : first_under new other ≡ at = ap number_or_all (updates other ∙ ap (λ b. cond b (Some at) (get is_same_phase old.firsts other)) t) in
      let s : first_under old listed ≡ first_under old other = ap (first_under old) (same_phase listed other t) in
      omega (arith, e, s, lt))
  | inr f ↦
      (let e : first_under new other ≡ first_under old other = ap number_or_all (updates other ∙ ap (λ b. cond b (Some at) (get is_same_phase old.firsts other)) f) in
      omega (arith, e))
]

-- a table with the same lists
pub gets_kept : (together : Bool) (plan : Plan) (q i : ℕ) (old new : GetTable) → new.lists ≡ old.lists → AreGetsTo together plan q i old → AreGetsTo together plan q i new
gets_kept together plan q i old new same are = λ p n. subst (AreAll (Earlier (IsOpenGet together plan p n) q i)) (sym (ap (λ lists. events_in (get is_same lists (p, n))) same)) (are p n)

-- a key isn't there before the commit that stores it
pub unread_below : (plan : Plan) (p key n : ℕ) (x : Event) → x.proc ≡ p → Stores plan x key → n ≤ x.at → stored plan p key n ≡ None
unread_below plan p key n x its stores le = missing_before plan p key n x.at le (subst (λ q. stored plan q key x.at ≡ None) its stores.nothing_before)

-- the gets of a list are parted from a get, but those of its phase
pub unread_beside : (plan : Plan) (p n first key : ℕ) (g : Event) (table : GetTable) (together : Bool) → IsGetTable together plan table → kind plan g ≡ Some (Get p key) → IsAsked plan g →
    first ≡ first_under table (p, n, phase_of table.phases.now g) → (places : List Event) → AreOpenGets together plan p n places → AreUnreadBeside plan p first g places
unread_beside plan p n first key g table together held is asked e places are k z other at its = elim (cases_eq (phase_of table.phases.now z) (phase_of table.phases.now g)) [
  | inl same ↦ inl (subst (λ f. stored plan p other f ≡ None) (sym e) (held.firsts p n (phase_of table.phases.now g) listed.0 z other listed.1 same its))
  | inr ne ↦ inr (elim (cases_lt (phase_of table.phases.now g) (phase_of table.phases.now z)) [
    | inl later ↦ inl (held.phases p other g z (reads key is) its mine.asked later)
    | inr ge ↦ inr (held.phases p key z g (reads other its) is asked (omega (arith, ge, ne)))
  ])
]
  where
    mine : IsOpenGet together plan p n z
    mine = are.only k z at

    listed : (i : ℕ) × (slice_get (gets_under table (p, n)) i ≡ Some z)
    listed = (held.lists p n).all z mine
