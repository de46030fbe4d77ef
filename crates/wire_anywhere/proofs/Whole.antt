-- The whole list, and its laws.
use Rattle.std.proofs.Common.{◌≡◌, ◌∙◌, ap, sym, refl, subst, ℕ, List, [], ◌∷◌, ◌↔◌, ◌⊎◌, inl, inr, Option, Some, None}
use Rattle.wire_runs.specs.Plan.{Plan, Event}
use Rattle.wire_runs.specs.Races.{IsSettled}
use Rattle.wire_runs.specs.Findings.{Finding, Rewrite, KeyRace, NameRace, IsFound}
use Rattle.wire_runs.specs.Placings.{IsPlacing}
use Rattle.wire_runs.specs.FindingsAnywhere.{PlacementFinding, OnAll, OnPair, finding_of, IsFoundSomewhere, IsPlacedSorted, IsFindingsAnywhere}
use Rattle.wire_runs.proofs.Anywhere.{settled_anywhere}
use Rattle.wire_runs.proofs.FindingsAnywhere.{findings_anywhere, one_list_anywhere}
use Rattle.wire_scripts.specs.Scripts.{Scripts}
use Rattle.wire_scripts.specs.Planned.{plan_of}
use Rattle.wire_findings.specs.declared.finding.Finding.{Finding as Told}
use Rattle.wire_findings.specs.Findings.{shown, lower_name}
use Rattle.wire_findings.proofs.OneList.{same_told, one_way}
use Rattle.wire_races.specs.FindingKinds.{IsOfRewrite, IsOfName, ArePlaceless}
use Rattle.wire_anywhere.specs.declared.placed.PlacedFinding.{PlacedFinding}
use Rattle.wire_anywhere.specs.declared.placed.Pair.{Pair}
use Rattle.wire_anywhere.specs.Anywhere.{placed_on, placed_shown, all_placed, AreFoundAnywhere}
use Rattle.wire_anywhere.specs.Adding.{TellsPlacementFinding, AreSomewhere, AddsPlacementFindings, IsOnAll}
use Rattle.wire_anywhere.specs.Races.{IsShownBy, IsShown}
use Rattle.wire_anywhere.proofs.Order.{finding_placed, told_like}

-- a race of a get-now is found on its pair
pub shown_somewhere : (plan : Plan) (y : Event) (f : PlacementFinding) → IsShownBy plan y f → IsFoundSomewhere plan f
shown_somewhere plan y f t = subst (IsFoundSomewhere plan) (sym t.is) (elim t.race [
  | inl low ↦ subst (λ g. IsFoundSomewhere plan (OnPair g t.lower t.higher)) (sym low.1) (low.0, inl t.on_pair)
  | inr high ↦ subst (λ g. IsFoundSomewhere plan (OnPair g t.lower t.higher)) (sym high.1) (high.0, inr t.on_pair)
])

-- of what is met each is found on some placing, and all that is
module _ (plan : Plan) (placeless : List Told) (none mid found : List PlacedFinding) (empty : none ≡ []) (are : ArePlaceless plan placeless) (first : AddsPlacementFindings plan none mid (IsOnAll plan placeless))
    (then : AddsPlacementFindings plan mid found (IsShown plan)) where
  on_all : (g : Finding) → (IsOfRewrite g ⊎ IsOfName g) × IsFound plan g → IsFoundSomewhere plan (OnAll g)
  on_all g (inl put, h) = subst (λ v. IsFoundSomewhere plan (OnAll v)) (sym put.2) (subst (IsFound plan) put.2 h)
  on_all g (inr named, h) = subst (λ v. IsFoundSomewhere plan (OnAll v)) (sym named.3) (subst (IsFound plan) named.3 h)

  pub all_somewhere : AreSomewhere plan found
  all_somewhere f h = elim (then.only f h) [
    | inr s ↦ shown_somewhere plan s.0 f s.1
    | inl before ↦ elim (first.only f before) [
      | inl was ↦ absurd (subst (λ l. TellsPlacementFinding plan l f) empty was)
      | inr o ↦ subst (IsFoundSomewhere plan) (sym o.1) (on_all o.0 ((are o.0).0 o.2))
    ]
  ]

  met : (g : Finding) → (IsOfRewrite g ⊎ IsOfName g) × IsFound plan g → TellsPlacementFinding plan found (OnAll g)
  met g k = then.kept (OnAll g) (first.all (OnAll g) (g, refl, (are g).1 k))

  pub all_met : (f : PlacementFinding) → IsFoundSomewhere plan f → TellsPlacementFinding plan found f
  all_met (OnAll (Rewrite x y)) h = met (Rewrite x y) (inl (x, y, refl), h)
  all_met (OnAll (KeyRace x y owner key)) h = absurd h
  all_met (OnAll (NameRace x y name)) h = met (NameRace x y name) (inr (x, y, name, refl), h)
  all_met (OnPair (Rewrite x y) a b) h = absurd h
  all_met (OnPair (NameRace x y name) a b) h = absurd h
  all_met (OnPair (KeyRace x y owner key) a b) (low, inl r) = then.all (OnPair (KeyRace x y owner key) a b)
      (y, record { source = x; owner = owner; key = key; lower = a; higher = b; finding = KeyRace x y owner key; on_pair = r; race = inl (low, refl); is = refl })
  all_met (OnPair (KeyRace x y owner key) a b) (low, inr r) = then.all (OnPair (KeyRace x y owner key) a b)
      (x, record { source = y; owner = owner; key = key; lower = a; higher = b; finding = KeyRace x y owner key; on_pair = r; race = inr (low, refl); is = refl })

-- put in order it is the list
pub whole_list : (s : Scripts) (found list : List PlacedFinding) → AreSomewhere (plan_of s) found → ((f : PlacementFinding) → IsFoundSomewhere (plan_of s) f → TellsPlacementFinding (plan_of s) found f) →
    ((f : PlacementFinding) → TellsPlacementFinding (plan_of s) list f ↔ TellsPlacementFinding (plan_of s) found f) → IsPlacedSorted (lower_name s.names) (all_placed (plan_of s) list) → AreFoundAnywhere s list
whole_list s found list only all same sorted = record { those = λ f. ((λ h. only f ((same f).0 h)), (λ h. (same f).1 (all f h))); sorted = sorted }

none_there : (plan : Plan) (found : List PlacedFinding) → ((f : PlacementFinding) → TellsPlacementFinding plan found f → ⊥) → found ≡ []
none_there plan [] never = refl
none_there plan (x ∷ xs) never = absurd (never (placed_shown plan x) (inl refl))

pub none_found : (s : Scripts) (found : List PlacedFinding) → AreFoundAnywhere s found → (found ≡ []) ↔ ((other : Plan) → IsPlacing (plan_of s) other → IsSettled other)
none_found s found are =
    let plan = plan_of s in
    let none = (findings_anywhere plan (lower_name s.names)).none in (
      (λ e. (settled_anywhere plan).everywhere.0 (none.0 (subst (λ l. IsFindingsAnywhere plan (lower_name s.names) (all_placed plan l)) e are))),
      (λ settled.
          let empty = none.1 ((settled_anywhere plan).everywhere.1 settled) in
          none_there plan found (λ f h. (empty.those f).1 ((are.those f).0 h))),
    )

abbrev pair_in : PlacementFinding → Option (ℕ × ℕ)
pair_in (OnAll f) = None
pair_in (OnPair f a b) = Some (a, b)

-- what is shown tells the finding and its pair
same_on : (f g : Finding) (o p : Option Pair) → placed_on f o ≡ placed_on g p → o ≡ p
same_on f g None None e = refl
same_on f g None (Some q) e = cc
same_on f g (Some q) None e = cc
same_on f g (Some q) (Some r) e =
    let lower : q.lower.number ≡ r.lower.number = cc in
    let higher : q.higher.number ≡ r.higher.number = cc in
    λ i. Some (record { lower = record { number = lower i }; higher = record { number = higher i } })

same_placed : (plan : Plan) (x y : PlacedFinding) → IsFoundSomewhere plan (placed_shown plan x) → IsFoundSomewhere plan (placed_shown plan y) → placed_shown plan x ≡ placed_shown plan y → x ≡ y
same_placed plan x y a b e =
    let shown_same = sym (finding_placed plan x) ∙ ap finding_of e ∙ finding_placed plan y in
    let f = same_told plan x.finding y.finding (told_like plan x a) (told_like plan y b) shown_same in
    let o = same_on (shown plan x.finding) (shown plan y.finding) x.on y.on e in
    λ i. record { finding = f i; on = o i }

same_list : (plan : Plan) (xs ys : List PlacedFinding) → AreSomewhere plan xs → AreSomewhere plan ys → all_placed plan xs ≡ all_placed plan ys → xs ≡ ys
same_list plan [] [] a b e = refl
same_list plan [] (y ∷ ys) a b e = cc
same_list plan (x ∷ xs) [] a b e = cc
same_list plan (x ∷ xs) (y ∷ ys) a b e =
    let first : placed_shown plan x ≡ placed_shown plan y = cc in
    let rest : all_placed plan xs ≡ all_placed plan ys = cc in
    let heads = same_placed plan x y (a (placed_shown plan x) (inl refl)) (b (placed_shown plan y) (inl refl)) first in
    let tails = same_list plan xs ys (λ f h. a f (inr h)) (λ f h. b f (inr h)) rest in
    cc (heads, tails)

pub one_found : (s : Scripts) (xs ys : List PlacedFinding) → AreFoundAnywhere s xs → AreFoundAnywhere s ys → xs ≡ ys
one_found s xs ys a b =
    let plan = plan_of s in
    same_list plan xs ys (λ f. (a.those f).0) (λ f. (b.those f).0)
    (one_list_anywhere plan (lower_name s.names) (all_placed plan xs) (all_placed plan ys) (one_way s.names) a b)
