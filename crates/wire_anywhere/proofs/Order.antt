-- The order of the list.
use Rattle.std.proofs.Common.{◌≡◌, ◌∙◌, ap, sym, refl, subst, ℕ, zero, suc, Bool, true, List, [], ◌∷◌, ◌↔◌, inl, inr, ⊎_elim, Contains, Option, Some, None, arith}
use Rattle.std.proofs.lemmas.Bool.{cond_both}
use Rattle.std.proofs.lemmas.List.Sorted.{Contains-permutation, IsPermutation-sym, ranks_by}
use Rattle.std.proofs.lemmas.List.Kept.{IsStrictlySortedBy-dedup}
use Rattle.std.specs.Cmp.{IsTotalOrder, IsStrictWeakOrder, on_total}
use Rattle.std.specs.List.{AllByRecursion, dedup, dedup_from}
use Rattle.std.specs.List.Sorted.{IsPermutation, IsStrictlySortedBy}
use Rattle.std.specs.List.Sorted as order
use Rattle.std.specs.declared.cmp.Ordering.TheVariants.{Less}
use Rattle.std.specs.Ordering.{eq_by_cmp, is_lt}
use Rattle.wire_runs.specs.Plan.{Plan, Event, Commit, Arrive, Get, GetNow, kind}
use Rattle.wire_runs.specs.Races.{Delivery, ByFence, ByGet, IsOf}
use Rattle.wire_runs.specs.Findings.{Rewrite, KeyRace, NameRace, IsSooner}
use Rattle.wire_runs.specs.Placings.{Carries}
use Rattle.wire_runs.specs.FindingsAnywhere.{PlacementFinding, OnAll, OnPair, finding_of, IsKeyRaceOn, IsFoundSomewhere, IsPlacedSorted}
use Rattle.wire_runs.proofs.Basics.{stores_commit}
use Rattle.wire_runs.proofs.FindingsAnywhere.{one_pair}
use Rattle.wire_findings.specs.Findings.{shown, lower_name}
use Rattle.wire_findings.specs.Standings.{AreNamesOf}
use Rattle.wire_findings.proofs.Calls.{Starts}
use Rattle.wire_findings.proofs.Told.{IsLike, told, by_events}
use Rattle.wire_findings.proofs.Ordered.{told_total, sooner, one_there}
use Rattle.wire_anywhere.specs.declared.placed.PlacedFinding.{PlacedFinding}
use Rattle.wire_anywhere.specs.declared.placed.Pair.{Pair}
use Rattle.wire_anywhere.specs.Anywhere.{placed_on, placed_shown, all_placed}
use Rattle.wire_anywhere.specs.Adding.{TellsPlacementFinding, AreSomewhere}
use Rattle.wire_anywhere.specs.Order.{placed_cmp}
use Rattle.wire_anywhere.proofs.Races.{race_open}

pub finding_placed : (plan : Plan) (t : PlacedFinding) → finding_of (placed_shown plan t) ≡ shown plan t.finding
finding_placed plan t = go t.on
  where
    go : (o : Option Pair) → finding_of (placed_on (shown plan t.finding) o) ≡ shown plan t.finding
    go None = refl
    go (Some pair) = refl

-- the event that races with a get-now
record RacesWith (plan : Plan) (x : Event) : Type 0 where
  starts : Starts plan x
  low : (y : Event) (owner key : ℕ) → kind plan y ≡ Some (GetNow owner key) → told x y (kind plan x) (kind plan y) ≡ KeyRace x y owner key

commit_races : (plan : Plan) (x : Event) → kind plan x ≡ Some Commit → RacesWith plan x
commit_races plan x is = record { starts = record { what = Commit; is = is; first = refl }; low = λ y owner key asks. by_events plan x y _ _ _ is asks refl }

delivery_races : (plan : Plan) (p key m : ℕ) (d : Delivery) (x : Event) → Carries plan p key m d → IsOf plan d x → RacesWith plan x
delivery_races plan p key m (ByFence members j) x c a =
    record { starts = record { what = Arrive members a.collect; is = a.is; first = refl }; low = λ y owner other asks. by_events plan x y _ _ _ a.is asks refl }
delivery_races plan p key m (ByGet z) x c e =
    let is : kind plan x ≡ Some (Get p key) = ap (kind plan) e ∙ c.brings_away.is in
    record { starts = record { what = Get p key; is = is; first = refl }; low = λ y owner other asks. by_events plan x y _ _ _ is asks refl }

source_races : (plan : Plan) (x y : Event) (owner key a b : ℕ) → IsKeyRaceOn plan x y owner key a b → RacesWith plan x
source_races plan x y owner key a b (inl r) = commit_races plan x (stores_commit plan x key r.1.stores)
source_races plan x y owner key a b (inr r) = delivery_races plan owner key r.0 r.1.far.delivery x r.1.far.carries r.1.far.of_it

get_starts : (plan : Plan) (y : Event) (owner key : ℕ) → kind plan y ≡ Some (GetNow owner key) → Starts plan y
get_starts plan y owner key is = record { what = GetNow owner key; is = is; first = refl }

-- what is found on some placing is what the list takes for granted
like : (plan : Plan) (f : PlacementFinding) → IsFoundSomewhere plan f → IsLike plan (finding_of f)
like plan (OnAll (Rewrite x y)) h = h
like plan (OnAll (KeyRace x y owner key)) h = absurd h
like plan (OnAll (NameRace x y name)) h = h
like plan (OnPair (Rewrite x y) a b) h = absurd h
like plan (OnPair (NameRace x y name) a b) h = absurd h
like plan (OnPair (KeyRace x y owner key) a b) (low, inl r) =
    let s = source_races plan x y owner key a b r in
    let asks = (race_open plan x y owner key a b r).is in
    record { low_starts = s.starts; high_starts = get_starts plan y owner key asks; tells = s.low y owner key asks }
like plan (OnPair (KeyRace x y owner key) a b) (low, inr r) =
    let s = source_races plan y x owner key a b r in
    let asks = (race_open plan y x owner key a b r).is in
    record { low_starts = get_starts plan x owner key asks; high_starts = s.starts; tells = by_events plan x y _ _ _ asks refl refl }

pub told_like : (plan : Plan) (t : PlacedFinding) → IsFoundSomewhere plan (placed_shown plan t) → IsLike plan (shown plan t.finding)
told_like plan t h = subst (IsLike plan) (finding_placed plan t) (like plan (placed_shown plan t) h)

pub placed_total : (names : List (List ℕ)) → IsTotalOrder (placed_cmp names)
placed_total names = on_total (λ (t : PlacedFinding). t.finding) (told_total names)

-- the test by which findings are sorted is an order
pub placed_rank : (names : List (List ℕ)) → IsStrictWeakOrder (λ x y. is_lt (placed_cmp names x y))
placed_rank names = ranks_by (told_total names) (λ (t : PlacedFinding). t.finding)

-- whether two findings have one place in the list
abbrev pub same_placed : List (List ℕ) → PlacedFinding → PlacedFinding → Bool
same_placed names = eq_by_cmp (placed_cmp names)

module _ (plan : Plan) (names : List (List ℕ)) (of : AreNamesOf plan names) where
  -- those that have one are one
  one_placed : (x k : PlacedFinding) → same_placed names x k ≡ true → IsFoundSomewhere plan (placed_shown plan x) → IsFoundSomewhere plan (placed_shown plan k) →
      placed_shown plan x ≡ placed_shown plan k
  one_placed x k e a b =
      one_pair plan (placed_shown plan x) (placed_shown plan k) a b
      (finding_placed plan x ∙ one_there plan names of x.finding k.finding e (told_like plan x a) (told_like plan k b) ∙ sym (finding_placed plan k))

  -- what is told once is told as before
  kept : (k : PlacedFinding) (xs : List PlacedFinding) (f : PlacementFinding) → AreSomewhere plan (k ∷ xs) → TellsPlacementFinding plan (k ∷ xs) f → TellsPlacementFinding plan (dedup_from (same_placed names) k xs) f
  kept k [] f found h = h
  kept k (x ∷ xs) f found h =
      let rest : AreSomewhere plan (x ∷ xs) = λ g i. found g (inr i) in
      let without : AreSomewhere plan (k ∷ xs) = λ g i. found g (⊎_elim (λ e. inl e) (λ j. inr (inr j)) i) in
      cond_both (same_placed names x k) (dedup_from (same_placed names) k xs) (k ∷ dedup_from (same_placed names) x xs) (λ l. TellsPlacementFinding plan l f)
      (λ t. kept k xs f without (elim h [
        | inl e ↦ inl e
        | inr i ↦ elim i [
          | inl e ↦ inl (e ∙ one_placed x k t (found (placed_shown plan x) (inr (inl refl))) (found (placed_shown plan k) (inl refl)))
          | inr j ↦ inr j
        ]
      ]))
      (λ n. elim h [ inl e ↦ inl e | inr i ↦ inr (kept x xs f rest i) ])

  were : (k : PlacedFinding) (xs : List PlacedFinding) (f : PlacementFinding) → TellsPlacementFinding plan (dedup_from (same_placed names) k xs) f → TellsPlacementFinding plan (k ∷ xs) f
  were k [] f = λ h. h
  were k (x ∷ xs) f =
      cond_both (same_placed names x k) (dedup_from (same_placed names) k xs) (k ∷ dedup_from (same_placed names) x xs) (λ l. TellsPlacementFinding plan l f → TellsPlacementFinding plan (k ∷ x ∷ xs) f)
      (λ t h. ⊎_elim (λ e. inl e) (λ i. inr (inr i)) (were k xs f h))
      (λ n h. elim h [ inl e ↦ inl e | inr i ↦ inr (were x xs f i) ])

  once : (xs : List PlacedFinding) (f : PlacementFinding) → AreSomewhere plan xs → TellsPlacementFinding plan (dedup (same_placed names) xs) f ↔ TellsPlacementFinding plan xs f
  once [] f found = ((λ h. h), (λ h. h))
  once (x ∷ xs) f found = ((λ h. were x xs f h), (λ h. kept x xs f found h))

  told_at : (xs : List PlacedFinding) (f : PlacementFinding) → TellsPlacementFinding plan xs f → (t : PlacedFinding) × Contains xs t × (f ≡ placed_shown plan t)
  told_at [] f h = absurd h
  told_at (x ∷ xs) f (inl e) = (x, (0, omega arith, refl), e)
  told_at (x ∷ xs) f (inr h) = let w = told_at xs f h in let lt = w.1.1 in (w.0, (suc w.1.0, omega (arith, lt), w.1.2), w.2)

  at_told : (xs : List PlacedFinding) (t : PlacedFinding) → Contains xs t → TellsPlacementFinding plan xs (placed_shown plan t)
  at_told [] t (k, lt, is) = omega (arith, lt)
  at_told (x ∷ xs) t (zero, lt, is) = inl (ap (placed_shown plan) (sym is))
  at_told (x ∷ xs) t (suc k, lt, is) = inr (at_told xs t (k, omega (arith, lt), is))

  moved : (xs ys : List PlacedFinding) (f : PlacementFinding) → IsPermutation xs ys → TellsPlacementFinding plan xs f → TellsPlacementFinding plan ys f
  moved xs ys f p h = let w = told_at xs f h in subst (λ g. TellsPlacementFinding plan ys g) (sym w.2) (at_told ys w.0 (Contains-permutation xs ys w.0 p w.1))

  first_sooner : (t : PlacedFinding) (ts : List PlacedFinding) → IsFoundSomewhere plan (placed_shown plan t) → AreSomewhere plan ts → AllByRecursion (λ g. placed_cmp names t g ≡ Less) ts → (g : PlacementFinding) →
      TellsPlacementFinding plan ts g → IsSooner (lower_name names) (finding_of (placed_shown plan t)) (finding_of g)
  first_sooner t [] a found all g h = absurd h
  first_sooner t (x ∷ ts) a found all g (inl is) =
      let here = sooner plan names of t.finding x.finding (told_like plan t a) (told_like plan x (found (placed_shown plan x) (inl refl))) all.0 in
      subst (λ v. IsSooner (lower_name names) v (finding_of g)) (sym (finding_placed plan t))
      (subst (λ v. IsSooner (lower_name names) (shown plan t.finding) v) (sym (ap finding_of is ∙ finding_placed plan x)) here)
  first_sooner t (x ∷ ts) a found all g (inr h) = first_sooner t ts a (λ f i. found f (inr i)) all.1 g h

  all_sorted : (ts : List PlacedFinding) → AreSomewhere plan ts → IsStrictlySortedBy (placed_cmp names) ts → IsPlacedSorted (lower_name names) (all_placed plan ts)
  unfolding IsStrictlySortedBy
  all_sorted [] found s = tt
  all_sorted (t ∷ ts) found s = (
    first_sooner t ts (found (placed_shown plan t) (inl refl)) (λ f i. found f (inr i)) s.0,
    all_sorted ts (λ f i. found f (inr i)) s.1,
  )

  module _ (xs ys zs : List PlacedFinding) (p : IsPermutation xs ys) (is : zs ≡ dedup (same_placed names) ys) (found : AreSomewhere plan xs) where
    sorted_found : AreSomewhere plan ys
    sorted_found f h = found f (moved ys xs f (IsPermutation-sym xs ys p) h)

    -- the list tells what was met
    pub list_tells : (f : PlacementFinding) → TellsPlacementFinding plan zs f ↔ TellsPlacementFinding plan xs f
    list_tells f = (
      (λ h. moved ys xs f (IsPermutation-sym xs ys p) ((once ys f sorted_found).0 (subst (λ l. TellsPlacementFinding plan l f) is h))),
      (λ h. subst (λ l. TellsPlacementFinding plan l f) (sym is) ((once ys f sorted_found).1 (moved xs ys f p h))),
    )

    -- in the order of findings
    pub list_sorted : order.IsSorted (placed_cmp names) ys → IsPlacedSorted (lower_name names) (all_placed plan zs)
    list_sorted up =
        all_sorted zs (λ f h. found f ((list_tells f).0 h))
        (subst (λ l. IsStrictlySortedBy (placed_cmp names) l) (sym is) (IsStrictlySortedBy-dedup (placed_total names) (λ x y. refl) ys up))
