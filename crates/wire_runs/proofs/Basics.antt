-- Laws of the definitions, one process at a time.
use Rattle.std.proofs.Common.{◌≡◌, ℕ, zero, suc, ◌<◌, ◌≤◌, List, [], ◌∷◌, length, Bool, true, ◌==◌, Option, Some, is_some, inl, inr, refl, sym, ap, ◌∙◌, subst, arith, eq-eqb, ne_eqb, eqb-true, None}
use Rattle.std.proofs.lemmas.Bool.{cond-true, cond-false, cond_both, cases_eq, cases_lt, or_cases, and_parts, true≢false}
use Rattle.std.specs.List.{list_all}
use Rattle.wire_runs.specs.Plan.{Plan, Kind, Put, Commit, Arrive, kind_at, event_count, process_count, process_kinds, kinds, update, Event, kind}
use Rattle.std.specs.Prelude.{bytes_eq as same_members}
use Rattle.std.proofs.lemmas.Slice.Eq.{bytes_eq-Decides}
use Rattle.wire_runs.specs.Puts.{own_with, own, stored_with, stored}
use Rattle.wire_runs.specs.Fences.{arrivals_with, arrivals, is_member}
use Rattle.std.proofs.lemmas.Option.{slice_get_past, slice_get_within}
use Rattle.wire_runs.specs.Order.{Stores}

pub update_same : {A : Type 0} (f : ℕ → A) (p : ℕ) (v : A) → update f p v p ≡ v
update_same f p v = cond-true _ _ _ (eq-eqb p p refl)

pub update_other : {A : Type 0} (f : ℕ → A) (p : ℕ) (v : A) (q : ℕ) → (q ≡ p → ⊥) → update f p v q ≡ f q
update_other f p v q ne = cond-false _ _ _ (ne_eqb q p ne)

-- what each step keeps, many steps keep
pub kept_on : (f : ℕ → Bool) → ((n : ℕ) → f n ≡ true → f (suc n) ≡ true) → (n m : ℕ) → n ≤ m → f n ≡ true → f m ≡ true
kept_on f up n zero le h = let e : n ≡ 0 = omega arith in subst (λ k. f k ≡ true) e h
kept_on f up n (suc m) le h = elim (cases_eq n (suc m)) [ inl e ↦ subst (λ k. f k ≡ true) e h | inr ne ↦ up m (kept_on f up n m (omega arith) h) ]

pub rises : (f : ℕ → ℕ) → ((n : ℕ) → f n ≤ f (suc n)) → (n m : ℕ) → n ≤ m → f n ≤ f m
rises f up n zero le = let e : n ≡ 0 = omega arith in subst (λ k. f k ≤ f 0) (sym e) (omega arith)
rises f up n (suc m) le = elim (cases_eq n (suc m)) [ inl e ↦ subst (λ k. f k ≤ f (suc m)) (sym e) (omega arith) | inr ne ↦ omega (arith, rises f up n m (omega arith), up m) ]

pub list_all_at_member : (f : ℕ → Bool) (xs : List ℕ) (m : ℕ) → list_all f xs ≡ true → is_member xs m ≡ true → f m ≡ true
list_all_at_member f [] m h i = absurd (true≢false (sym i))
list_all_at_member f (x ∷ xs) m h i =
    let b = and_parts _ _ h in
    elim (or_cases (x == m) _ i) [ inl e ↦ subst (λ k. f k ≡ true) (eqb-true x m e) b.0 | inr r ↦ list_all_at_member f xs m b.1 r ]

pub event_within : (plan : Plan) (p i : ℕ) (e : Kind) → kind_at plan p i ≡ Some e → i < event_count plan p
unfolding kind_at event_count
event_within plan p i e h = slice_get_within (kinds plan p) i e h

-- past its last event a process has none
pub event_past : (plan : Plan) (p n : ℕ) → event_count plan p ≤ n → kind_at plan p n ≡ None
unfolding kind_at event_count
event_past plan p n past = slice_get_past (kinds plan p) n past

pub own_with_kept : (key n : ℕ) (before : Option ℕ) (e : Option Kind) → is_some before ≡ true → is_some (own_with key n before e) ≡ true
own_with_kept key n before (Some (Put k scope)) h = cond_both (k == key) (Some n) before (λ o. is_some o ≡ true) (λ _. refl) (λ _. h)
own_with_kept key n before _ h = h

stored_with_own : (key n : ℕ) (o s : Option ℕ) (e : Option Kind) → (is_some s ≡ true → is_some o ≡ true) → is_some (stored_with o s e) ≡ true → is_some (own_with key n o e) ≡ true
stored_with_own key n o s (Some Commit) ih h = h
stored_with_own key n o s (Some (Put k scope)) ih h = own_with_kept key n o (Some (Put k scope)) (ih h)
stored_with_own key n o s _ ih h = ih h

-- what is stored was put
pub stored_own : (plan : Plan) (p key n : ℕ) → is_some (stored plan p key n) ≡ true → is_some (own plan p key n) ≡ true
stored_own plan p key zero h = h
stored_own plan p key (suc n) h = stored_with_own key n _ _ (kind_at plan p n) (stored_own plan p key n) h

stored_with_kept : (o s : Option ℕ) (e : Option Kind) → (is_some s ≡ true → is_some o ≡ true) → is_some s ≡ true → is_some (stored_with o s e) ≡ true
stored_with_kept o s (Some Commit) ih h = ih h
stored_with_kept o s _ ih h = h

stored_anew : (committed before : Option ℕ) (o : Option Kind) → before ≡ None → is_some (stored_with committed before o) ≡ true → o ≡ Some Commit
stored_anew committed before (Some Commit) b h = refl
stored_anew committed before _ b h = absurd (true≢false (sym h ∙ ap is_some b))

-- what stores a key is a commit
pub stores_commit : (plan : Plan) (x : Event) (key : ℕ) → Stores plan x key → kind plan x ≡ Some Commit
stores_commit plan x key s = stored_anew (own plan x.proc key x.at) (stored plan x.proc key x.at) (kind plan x) s.nothing_before s.something_after

-- a key that is stored stays stored
pub stored_stays : (plan : Plan) (p key n m : ℕ) → n ≤ m → is_some (stored plan p key n) ≡ true → is_some (stored plan p key m) ≡ true
stored_stays plan p key = kept_on (λ n. is_some (stored plan p key n)) (λ n. stored_with_kept _ _ (kind_at plan p n) (stored_own plan p key n))

arrivals_with_up : (members : List ℕ) (n : ℕ) (e : Option Kind) → n ≤ arrivals_with members n e
arrivals_with_up members n (Some (Arrive others collect)) = cond_both (same_members others members) (suc n) n (λ m. n ≤ m) (λ _. omega arith) (λ _. omega arith)
arrivals_with_up members n _ = omega arith

pub arrivals_rise : (plan : Plan) (p : ℕ) (members : List ℕ) (n m : ℕ) → n ≤ m → arrivals plan p members n ≤ arrivals plan p members m
arrivals_rise plan p members = rises (arrivals plan p members) (λ n. arrivals_with_up members _ (kind_at plan p n))

-- an arrival counts
pub arrivals_step : (plan : Plan) (p : ℕ) (members : List ℕ) (collect : Bool) (n : ℕ) → kind_at plan p n ≡ Some (Arrive members collect) →
    arrivals plan p members (suc n) ≡ suc (arrivals plan p members n)
arrivals_step plan p members collect n is =
    ap (arrivals_with members (arrivals plan p members n)) is ∙ cond-true _ _ _ ((bytes_eq-Decides members members).1 refl)

-- a process that has an event is one of the plan's
pub process_within : (plan : Plan) (p i : ℕ) (e : Kind) → kind_at plan p i ≡ Some e → p < process_count plan
unfolding event_count kinds kind_at
process_within plan p i e h = elim (cases_lt p (process_count plan)) [
  | inl lt ↦ lt
  | inr ge ↦ absurd (let lt = event_within plan p i e h in let none = ap (λ o. length (process_kinds o)) (slice_get_past plan.processes p ge) in omega (arith, lt, none))
]
