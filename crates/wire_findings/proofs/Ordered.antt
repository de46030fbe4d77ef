-- The order of the standings is that of the findings.
use Rattle.std.proofs.Common.{◌≡◌, ◌∙◌, ap, sym, refl, subst, ℕ, zero, suc, ◌<◌, Bool, true, false, List, [], ◌∷◌, length, take, ◌⊎◌, ◌↔◌, inl, inr, ⊎_elim, Contains, arith}
use Rattle.std.proofs.lemmas.Bool.{cond_both}
use Rattle.std.proofs.lemmas.List.Sorted.{Contains-permutation, IsPermutation-sym}
use Rattle.std.proofs.lemmas.List.Kept.{IsStrictlySortedBy-dedup}
use Rattle.std.specs.Cmp.{IsTotalOrder, ranked, nat_cmp_total, bool_cmp_total, on_total, then_total}
use Rattle.std.specs.Cmp.Lexicographic.{slice_cmp}
use Rattle.std.proofs.lemmas.Cmp.{nat_list_cmp_total}
use Rattle.std.specs.List.{AllByRecursion, dedup, dedup_from}
use Rattle.std.specs.List.Sorted.{IsPermutation, IsStrictlySortedBy}
use Rattle.std.specs.List.Sorted as order
use Rattle.std.specs.declared.cmp.Ordering.{Ordering}
use Rattle.std.specs.declared.cmp.Ordering.TheVariants.{Less, Equal, Greater}
use Rattle.std.specs.Ordering.{ordering_then, ordering_index, nat_cmp, bool_cmp, eq_by_cmp, is_eq, is_lt}
use Rattle.wire_runs.specs.Plan.{Plan, kinds_of}
use Rattle.wire_types.specs.declared.CallAt.{CallAt}
use Rattle.wire_types.specs.declared.Proc.{Proc}
use Rattle.wire_runs.specs.EventLists.{IsLower}
use Rattle.wire_runs.specs.Ends.{calls_of, first_event}
use Rattle.wire_runs.specs.Findings.{Finding, IsPairLower, IsSooner, IsFound, IsSorted}
use Rattle.wire_runs.proofs.EventLists.{lower_not_same}
use Rattle.wire_findings.specs.declared.finding.Finding.{Finding as Told}
use Rattle.wire_findings.specs.declared.finding.Finding.TheVariants.{Rewrite, KeyRace, NameRace}
use Rattle.wire_findings.specs.declared.found.Standing.{Standing}
use Rattle.wire_scripts.specs.Scripts.{text_at}
use Rattle.wire_findings.specs.Findings.{shown, all_shown, lower_name}
use Rattle.wire_findings.specs.Collected.{TellsFinding, AreFound}
use Rattle.wire_findings.specs.Standings.{standing, race_name, call_cmp, standing_cmp, told_cmp, AreNamesOf}
use Rattle.wire_findings.proofs.Told.{IsLike, found_like, low_call, high_call, shown_low, shown_high, one_first, never_both, one_standing}
use Rattle.wire_findings.proofs.OneList.{rising}

call_total : IsTotalOrder call_cmp
call_total = then_total (on_total (λ (v : CallAt). v.proc.number) nat_cmp_total) (on_total (λ (v : CallAt). v.call) nat_cmp_total)

standing_total : IsTotalOrder standing_cmp
standing_total = then_total (on_total (λ (p : Standing). p.is_race) bool_cmp_total) (then_total (on_total (λ (p : Standing). p.by) call_total) (on_total (λ (p : Standing). p.then) call_total))

pub told_total : (names : List (List ℕ)) → IsTotalOrder (told_cmp names)
told_total names = then_total (on_total standing standing_total) (on_total (race_name names) nat_list_cmp_total)

equal_both : (r s : Ordering) → ordering_then r s ≡ Equal → (r ≡ Equal) × (s ≡ Equal)
equal_both Less s e = let d = ap ordering_index e in absurd (omega (arith, d))
equal_both Equal s e = (refl, e)
equal_both Greater s e = let d = ap ordering_index e in absurd (omega (arith, d))

less_either : (r s : Ordering) → ordering_then r s ≡ Less → (r ≡ Less) ⊎ ((r ≡ Equal) × (s ≡ Less))
less_either Less s e = inl refl
less_either Equal s e = inr (refl, e)
less_either Greater s e = let d = ap ordering_index e in absurd (omega (arith, d))

never_less : (s : Ordering) (t : Ordering) → ordering_then (ordering_then Greater s) t ≡ Less → ⊥
never_less s t e = let d = ap ordering_index e in omega (arith, d)

number_one : (m n : ℕ) → nat_cmp m n ≡ Equal → m ≡ n
number_one m n e = ranked m n Equal (sym e)

number_less : (m n : ℕ) → nat_cmp m n ≡ Less → m < n
number_less m n e = ranked m n Less (sym e)

bool_one : (a b : Bool) → bool_cmp a b ≡ Equal → a ≡ b
bool_one false false e = refl
bool_one true true e = refl
bool_one false true e = let d = ap ordering_index e in absurd (omega (arith, d))
bool_one true false e = let d = ap ordering_index e in absurd (omega (arith, d))

call_one : (v w : CallAt) → call_cmp v w ≡ Equal → v ≡ w
call_one v w e =
    let both = equal_both (nat_cmp v.proc.number w.proc.number) (nat_cmp v.call w.call) e in
    let p = number_one v.proc.number w.proc.number both.0 in
    let n = number_one v.call w.call both.1 in
    λ t. record { proc = record { number = p t }; call = n t }

standing_same : (a b : Standing) → standing_cmp a b ≡ Equal → a ≡ b
standing_same a b e =
    let kinds = equal_both (bool_cmp a.is_race b.is_race) (ordering_then (call_cmp a.by b.by) (call_cmp a.then b.then)) e in
    let calls = equal_both (call_cmp a.by b.by) (call_cmp a.then b.then) kinds.1 in
    let k = bool_one a.is_race b.is_race kinds.0 in
    let v = call_one a.by b.by calls.0 in
    let w = call_one a.then b.then calls.1 in
    λ t. record { is_race = k t; by = v t; then = w t }

-- of the calls of a plan the lower has the lower event
call_lower : (plan : Plan) (v w : CallAt) → v.call < length (calls_of plan v.proc.number) → call_cmp v w ≡ Less → IsLower (first_event plan v) (first_event plan w)
call_lower plan v w within e = elim (less_either (nat_cmp v.proc.number w.proc.number) (nat_cmp v.call w.call) e) [
  | inl l ↦ inl (number_less v.proc.number w.proc.number l)
  | inr l ↦ (
      let p = number_one v.proc.number w.proc.number l.0 in
      let start = rising (calls_of plan v.proc.number) v.call w.call (number_less v.call w.call l.1) within in
      inr (p, subst (λ (q : ℕ). length (kinds_of (take v.call (calls_of plan v.proc.number))) < length (kinds_of (take w.call (calls_of plan q)))) p start))
]

module _ (plan : Plan) (names : List (List ℕ)) (of : AreNamesOf plan names) where
  pair_lower : (f g : Told) → IsLike plan (shown plan f) → ordering_then (call_cmp (low_call f) (low_call g)) (call_cmp (high_call f) (high_call g)) ≡ Less →
      IsPairLower (first_event plan (low_call f)) (first_event plan (high_call f)) (first_event plan (low_call g)) (first_event plan (high_call g))
  pair_lower f g a e = elim (less_either (call_cmp (low_call f) (low_call g)) (call_cmp (high_call f) (high_call g)) e) [
    | inl l ↦ inl (call_lower plan (low_call f) (low_call g) (shown_low plan f f refl a) l)
    | inr l ↦ inr (ap (first_event plan) (call_one (low_call f) (low_call g) l.0), call_lower plan (high_call f) (high_call g) (shown_high plan f f refl a) l.1)
  ]

  -- rewrites stand by the later put: it has one first put
  rewrite_lower : (v w x y : CallAt) → IsLike plan (shown plan (Rewrite v w)) → IsLike plan (shown plan (Rewrite x y)) → ordering_then (call_cmp w y) (call_cmp v x) ≡ Less →
      IsLower (first_event plan w) (first_event plan y)
  rewrite_lower v w x y a b e = elim (less_either (call_cmp w y) (call_cmp v x) e) [
    | inl l ↦ call_lower plan w y (shown_high plan (Rewrite v w) (Rewrite v w) refl a) l
    | inr l ↦ (
        let later = call_one w y l.0 in
        let there = subst (λ c. IsLike plan (shown plan (Rewrite x c))) (sym later) b in
        absurd (lower_not_same (first_event plan v) (first_event plan x) (call_lower plan v x (shown_low plan (Rewrite v w) (Rewrite v w) refl a) l.1)
        (sym (one_first plan (first_event plan v) (first_event plan x) (first_event plan w) a there))))
  ]

  -- without a name, one stands before another by their standings alone
  unnamed_less : (r : Ordering) → ordering_then r Equal ≡ Less → r ≡ Less
  unnamed_less Less e = refl
  unnamed_less Equal e = e
  unnamed_less Greater e = let d = ap ordering_index e in absurd (omega (arith, d))

  by_name : (v w x y : CallAt) (m n : ℕ) → IsLike plan (shown plan (NameRace v w m)) → told_cmp names (NameRace v w m) (NameRace x y n) ≡ Less →
      IsSooner (lower_name names) (shown plan (NameRace v w m)) (shown plan (NameRace x y n))
  by_name v w x y m n a e = elim (less_either (standing_cmp (standing (NameRace v w m)) (standing (NameRace x y n))) (slice_cmp nat_cmp (text_at names m) (text_at names n)) e) [
    | inl l ↦ inl (pair_lower (NameRace v w m) (NameRace x y n) a l)
    | inr l ↦ (
        let one = standing_same (standing (NameRace v w m)) (standing (NameRace x y n)) l.0 in
        inr (ap (λ (p : Standing). first_event plan p.by) one, ap (λ (p : Standing). first_event plan p.then) one, ap is_lt l.1))
  ]

  key_first : (v w x y : CallAt) (p : Proc) (k n : ℕ) → IsLike plan (shown plan (KeyRace v w p k)) → IsLike plan (shown plan (NameRace x y n)) →
      told_cmp names (KeyRace v w p k) (NameRace x y n) ≡ Less → IsPairLower (first_event plan v) (first_event plan w) (first_event plan x) (first_event plan y)
  key_first v w x y p k n a b e = elim (less_either (standing_cmp (standing (KeyRace v w p k)) (standing (NameRace x y n))) (slice_cmp nat_cmp [] (text_at names n)) e) [
    | inl l ↦ pair_lower (KeyRace v w p k) (NameRace x y n) a l
    | inr l ↦ never_both plan v w x y p k n (standing_same (standing (KeyRace v w p k)) (standing (NameRace x y n)) l.0) a b
  ]

  name_first : (v w x y : CallAt) (p : Proc) (k n : ℕ) → IsLike plan (shown plan (NameRace v w n)) → IsLike plan (shown plan (KeyRace x y p k)) →
      told_cmp names (NameRace v w n) (KeyRace x y p k) ≡ Less → IsPairLower (first_event plan v) (first_event plan w) (first_event plan x) (first_event plan y)
  name_first v w x y p k n a b e = elim (less_either (standing_cmp (standing (NameRace v w n)) (standing (KeyRace x y p k))) (slice_cmp nat_cmp (text_at names n) []) e) [
    | inl l ↦ pair_lower (NameRace v w n) (KeyRace x y p k) a l
    | inr l ↦ never_both plan x y v w p k n (sym (standing_same (standing (NameRace v w n)) (standing (KeyRace x y p k)) l.0)) b a
  ]

  pub sooner : (f g : Told) → IsLike plan (shown plan f) → IsLike plan (shown plan g) → told_cmp names f g ≡ Less → IsSooner (lower_name names) (shown plan f) (shown plan g)
  sooner (Rewrite v w) (Rewrite x y) a b e = rewrite_lower v w x y a b (unnamed_less (standing_cmp (standing (Rewrite v w)) (standing (Rewrite x y))) e)
  sooner (Rewrite v w) (KeyRace x y q l) a b e = tt
  sooner (Rewrite v w) (NameRace x y m) a b e = tt
  sooner (KeyRace v w p k) (Rewrite x y) a b e = absurd (never_less (ordering_then (call_cmp v y) (call_cmp w x)) Equal e)
  sooner (NameRace v w n) (Rewrite x y) a b e = absurd (never_less (ordering_then (call_cmp v y) (call_cmp w x)) (slice_cmp nat_cmp (text_at names n) []) e)
  sooner (KeyRace v w p k) (KeyRace x y q l) a b e = pair_lower (KeyRace v w p k) (KeyRace x y q l) a (unnamed_less (standing_cmp (standing (KeyRace v w p k)) (standing (KeyRace x y q l))) e)
  sooner (KeyRace v w p k) (NameRace x y m) a b e = key_first v w x y p k m a b e
  sooner (NameRace v w n) (KeyRace x y q l) a b e = name_first v w x y q l n a b e
  sooner (NameRace v w n) (NameRace x y m) a b e = by_name v w x y n m a e

  first_sooner : (f : Told) (fs : List Told) → IsFound plan (shown plan f) → AreFound plan fs → AllByRecursion (λ g. told_cmp names f g ≡ Less) fs → (g : Finding) → TellsFinding plan fs g →
      IsSooner (lower_name names) (shown plan f) g
  first_sooner f [] a found all g h = absurd h
  first_sooner f (x ∷ fs) a found all g (inl is) =
      subst (λ t. IsSooner (lower_name names) (shown plan f) t) (sym is) (sooner f x (found_like plan (shown plan f) a) (found_like plan (shown plan x) (found (shown plan x) (inl refl))) all.0)
  first_sooner f (x ∷ fs) a found all g (inr h) = first_sooner f fs a (λ t i. found t (inr i)) all.1 g h

  all_sorted : (fs : List Told) → AreFound plan fs → IsStrictlySortedBy (told_cmp names) fs → IsSorted (lower_name names) (all_shown plan fs)
  unfolding IsStrictlySortedBy
  all_sorted [] found s = tt
  all_sorted (f ∷ fs) found s = (
    first_sooner f fs (found (shown plan f) (inl refl)) (λ t i. found t (inr i)) s.0,
    all_sorted fs (λ t i. found t (inr i)) s.1,
  )

-- whether two findings have one place in the list
abbrev pub same_place : List (List ℕ) → Told → Told → Bool
same_place names = eq_by_cmp (told_cmp names)

text_one : (xs ys : List ℕ) → slice_cmp nat_cmp xs ys ≡ Equal → xs ≡ ys
text_one [] [] e = refl
text_one [] (y ∷ ys) e = let d = ap ordering_index e in absurd (omega (arith, d))
text_one (x ∷ xs) [] e = let d = ap ordering_index e in absurd (omega (arith, d))
text_one (x ∷ xs) (y ∷ ys) e =
    let both = equal_both (nat_cmp x y) (slice_cmp nat_cmp xs ys) e in
    let first = number_one x y both.0 in
    let rest = text_one xs ys both.1 in
    λ t. first t ∷ rest t

equal_is : (r : Ordering) → is_eq r ≡ true → r ≡ Equal
equal_is Less e = cc
equal_is Equal e = refl
equal_is Greater e = cc

module _ (plan : Plan) (names : List (List ℕ)) (of : AreNamesOf plan names) where
  pub one_there : (x k : Told) → same_place names x k ≡ true → IsLike plan (shown plan x) → IsLike plan (shown plan k) → shown plan x ≡ shown plan k
  one_there x k e a b =
      let both = equal_both (standing_cmp (standing x) (standing k)) (slice_cmp nat_cmp (race_name names x) (race_name names k)) (equal_is (told_cmp names x k) e) in
      one_standing plan names of x k (standing_same (standing x) (standing k) both.0) (text_one (race_name names x) (race_name names k) both.1) a b

  -- what is told once is told as before
  kept : (k : Told) (xs : List Told) (f : Finding) → AreFound plan (k ∷ xs) → TellsFinding plan (k ∷ xs) f → TellsFinding plan (dedup_from (same_place names) k xs) f
  kept k [] f found h = h
  kept k (x ∷ xs) f found h =
      let rest : AreFound plan (x ∷ xs) = λ g i. found g (inr i) in
      let without : AreFound plan (k ∷ xs) = λ g i. found g (⊎_elim (λ e. inl e) (λ j. inr (inr j)) i) in
      cond_both (same_place names x k) (dedup_from (same_place names) k xs) (k ∷ dedup_from (same_place names) x xs) (λ l. TellsFinding plan l f)
      (λ t. kept k xs f without (elim h [
        | inl e ↦ inl e
        | inr i ↦ elim i [
          | inl e ↦ inl (e ∙ one_there x k t (found_like plan (shown plan x) (found (shown plan x) (inr (inl refl)))) (found_like plan (shown plan k) (found (shown plan k) (inl refl))))
          | inr j ↦ inr j
        ]
      ]))
      (λ n. elim h [ inl e ↦ inl e | inr i ↦ inr (kept x xs f rest i) ])

  were : (k : Told) (xs : List Told) (f : Finding) → TellsFinding plan (dedup_from (same_place names) k xs) f → TellsFinding plan (k ∷ xs) f
  were k [] f = λ h. h
  were k (x ∷ xs) f =
      cond_both (same_place names x k) (dedup_from (same_place names) k xs) (k ∷ dedup_from (same_place names) x xs) (λ l. TellsFinding plan l f → TellsFinding plan (k ∷ x ∷ xs) f)
      (λ t h. ⊎_elim (λ e. inl e) (λ i. inr (inr i)) (were k xs f h))
      (λ n h. elim h [ inl e ↦ inl e | inr i ↦ inr (were x xs f i) ])

  once : (xs : List Told) (f : Finding) → AreFound plan xs → TellsFinding plan (dedup (same_place names) xs) f ↔ TellsFinding plan xs f
  once [] f found = ((λ h. h), (λ h. h))
  once (x ∷ xs) f found = ((λ h. were x xs f h), (λ h. kept x xs f found h))

  told_at : (xs : List Told) (f : Finding) → TellsFinding plan xs f → (t : Told) × Contains xs t × (f ≡ shown plan t)
  told_at [] f h = absurd h
  told_at (x ∷ xs) f (inl e) = (x, (0, omega arith, refl), e)
  told_at (x ∷ xs) f (inr h) = let w = told_at xs f h in let lt = w.1.1 in (w.0, (suc w.1.0, omega (arith, lt), w.1.2), w.2)

  at_told : (xs : List Told) (t : Told) → Contains xs t → TellsFinding plan xs (shown plan t)
  at_told [] t (k, lt, is) = omega (arith, lt)
  at_told (x ∷ xs) t (zero, lt, is) = inl (ap (shown plan) (sym is))
  at_told (x ∷ xs) t (suc k, lt, is) = inr (at_told xs t (k, omega (arith, lt), is))

  moved : (xs ys : List Told) (f : Finding) → IsPermutation xs ys → TellsFinding plan xs f → TellsFinding plan ys f
  moved xs ys f p h = let w = told_at xs f h in subst (λ g. TellsFinding plan ys g) (sym w.2) (at_told ys w.0 (Contains-permutation xs ys w.0 p w.1))

  module _ (xs ys zs : List Told) (p : IsPermutation xs ys) (is : zs ≡ dedup (same_place names) ys) (found : AreFound plan xs) where
    sorted_found : AreFound plan ys
    sorted_found f h = found f (moved ys xs f (IsPermutation-sym xs ys p) h)

    -- the list tells what was met
    pub list_tells : (f : Finding) → TellsFinding plan zs f ↔ TellsFinding plan xs f
    list_tells f = (
      (λ h. moved ys xs f (IsPermutation-sym xs ys p) ((once ys f sorted_found).0 (subst (λ l. TellsFinding plan l f) is h))),
      (λ h. subst (λ l. TellsFinding plan l f) (sym is) ((once ys f sorted_found).1 (moved xs ys f p h))),
    )

    -- in the order of findings
    pub list_sorted : order.IsSorted (told_cmp names) ys → IsSorted (lower_name names) (all_shown plan zs)
    list_sorted up =
        all_sorted plan names of zs (λ f h. found f ((list_tells f).0 h))
        (subst (λ l. IsStrictlySortedBy (told_cmp names) l) (sym is) (IsStrictlySortedBy-dedup (told_total names) (λ x y. refl) ys up))
