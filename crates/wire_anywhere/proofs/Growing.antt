-- How the list of what is found grows.
use Rattle.std.proofs.Common.{◌≡◌, ◌∙◌, ap, sym, refl, subst, ◌⊎◌, inl, inr, ⊎_elim, ℕ, zero, suc, ◌≤◌, List, [], ◌∷◌, ◌++◌, length, take, Some, None, slice_get, arith}
use Rattle.std.proofs.lemmas.Bool.{cases_eq}
use Rattle.std.proofs.lemmas.List.{map-append}
use Rattle.std.proofs.lemmas.Option.{same_Some, none-some}
use Rattle.wire_runs.specs.Plan.{Plan, Event}
use Rattle.wire_runs.specs.FindingsAnywhere.{PlacementFinding, OnAll, HasPlacementFinding}
use Rattle.wire_findings.specs.declared.finding.Finding.{Finding as Told}
use Rattle.wire_findings.specs.Findings.{shown}
use Rattle.wire_findings.proofs.Adding.{tells_old, tells_piece, tells_either}
use Rattle.wire_anywhere.specs.declared.placed.PlacedFinding.{PlacedFinding}
use Rattle.wire_anywhere.specs.Anywhere.{placed_shown, all_placed}
use Rattle.wire_anywhere.specs.Adding.{TellsPlacementFinding, AddsPlacementFindings, ToldIn, IsOnAll}

has_front : (xs ys : List PlacementFinding) (f : PlacementFinding) → HasPlacementFinding xs f → HasPlacementFinding (xs ++ ys) f
has_front [] ys f h = absurd h
has_front (x ∷ xs) ys f (inl e) = inl e
has_front (x ∷ xs) ys f (inr h) = inr (has_front xs ys f h)

has_back : (xs ys : List PlacementFinding) (f : PlacementFinding) → HasPlacementFinding ys f → HasPlacementFinding (xs ++ ys) f
has_back [] ys f h = h
has_back (x ∷ xs) ys f h = inr (has_back xs ys f h)

has_either : (xs ys : List PlacementFinding) (f : PlacementFinding) → HasPlacementFinding (xs ++ ys) f → HasPlacementFinding xs f ⊎ HasPlacementFinding ys f
has_either [] ys f h = inr h
has_either (x ∷ xs) ys f (inl e) = inl (inl e)
has_either (x ∷ xs) ys f (inr h) = ⊎_elim (λ a. inl (inr a)) (λ b. inr b) (has_either xs ys f h)

-- a piece is put behind the others
module _ (plan : Plan) (old new piece : List PlacedFinding) (is : new ≡ old ++ piece) where
  parts : all_placed plan new ≡ all_placed plan old ++ all_placed plan piece
  parts = ap (all_placed plan) is ∙ map-append (placed_shown plan) old piece

  pub appended : AddsPlacementFindings plan old new (TellsPlacementFinding plan piece)
  appended = record {
    kept = λ f h. subst (λ l. HasPlacementFinding l f) (sym parts) (has_front (all_placed plan old) (all_placed plan piece) f h);
    all = λ f h. subst (λ l. HasPlacementFinding l f) (sym parts) (has_back (all_placed plan old) (all_placed plan piece) f h);
    only = λ f h. has_either (all_placed plan old) (all_placed plan piece) f (subst (λ l. HasPlacementFinding l f) parts h);
  }

-- nothing is there to add
pub adds_none : (plan : Plan) (found : List PlacedFinding) (those : PlacementFinding → Type 0) → ((f : PlacementFinding) → those f → ⊥) → AddsPlacementFindings plan found found those
adds_none plan found those never = record { kept = λ f h. h; all = λ f t. absurd (never f t); only = λ f h. inl h }

-- the same are told in other words
pub adds_same : (plan : Plan) (old new : List PlacedFinding) (a b : PlacementFinding → Type 0) → ((f : PlacementFinding) → a f → b f) → ((f : PlacementFinding) → b f → a f) → AddsPlacementFindings plan old new a → AddsPlacementFindings plan old new b
adds_same plan old new a b there back h = record {
  kept = h.kept;
  all = λ f t. h.all f (back f t);
  only = λ f n. ⊎_elim (λ was. inl was) (λ t. inr (there f t)) (h.only f n);
}

-- the one finding is added
pub adds_one : (plan : Plan) (old new : List PlacedFinding) (t : PlacedFinding) (those : PlacementFinding → Type 0) → new ≡ old ++ t ∷ [] → those (placed_shown plan t) →
    ((f : PlacementFinding) → those f → f ≡ placed_shown plan t) → AddsPlacementFindings plan old new those
adds_one plan old new t those is here one =
    adds_same plan old new (TellsPlacementFinding plan (t ∷ [])) those
    (λ f h. elim h [ inl e ↦ subst those (sym e) here | inr never ↦ absurd never ])
    (λ f h. inl (one f h))
    (appended plan old new (t ∷ []) is)

-- first these, then those
pub adds_both : (plan : Plan) (old mid new : List PlacedFinding) (a b c : PlacementFinding → Type 0) → ((f : PlacementFinding) → a f → c f) → ((f : PlacementFinding) → b f → c f) → ((f : PlacementFinding) → c f → a f ⊎ b f) →
    AddsPlacementFindings plan old mid a → AddsPlacementFindings plan mid new b → AddsPlacementFindings plan old new c
adds_both plan old mid new a b c first second either x y = record {
  kept = λ f h. y.kept f (x.kept f h);
  all = λ f t. ⊎_elim (λ s. y.kept f (x.all f s)) (λ s. y.all f s) (either f t);
  only = λ f n. elim (y.only f n) [
    | inl before ↦ elim (x.only f before) [ inl was ↦ inl was | inr s ↦ inr (first f s) ]
    | inr s ↦ inr (second f s)
  ];
}

-- no event so far
pub no_event : (plan : Plan) (tells : Event → PlacementFinding → Type 0) (found : List PlacedFinding) (p : ℕ) → AddsPlacementFindings plan found found (ToldIn tells p 0)
no_event plan tells found p = adds_none plan found (ToldIn tells p 0) (λ f t. let lt = t.3 in omega (arith, lt))

-- one event more
pub one_event : (plan : Plan) (tells : Event → PlacementFinding → Type 0) (old mid new : List PlacedFinding) (p n m : ℕ) → m ≡ suc n → AddsPlacementFindings plan old mid (ToldIn tells p n) →
    AddsPlacementFindings plan mid new (tells (record { proc = p; at = n })) → AddsPlacementFindings plan old new (ToldIn tells p m)
one_event plan tells old mid new p n m one first second =
    adds_both plan old mid new (ToldIn tells p n) (tells (record { proc = p; at = n })) (ToldIn tells p m)
    (λ f t. let lt = t.3 in (t.0, t.1, t.2, omega (arith, lt, one)))
    (λ f t. (record { proc = p; at = n }, t, refl, omega (arith, one)))
    (λ f t. elim (cases_eq t.0.at n) [
      | inl same ↦ let q = t.2 in inr (subst (λ y. tells y f) (λ i. record { proc = q i; at = same i }) t.1)
      | inr other ↦ let lt = t.3 in inl (t.0, t.1, t.2, omega (arith, lt, one, other))
    ])
    first second

-- one more of a list
take_more : (xs : List Told) (n : ℕ) (x : Told) → slice_get xs n ≡ Some x → take (suc n) xs ≡ take n xs ++ x ∷ []
take_more [] n x is = absurd (none-some x is)
take_more (y ∷ xs) zero x is = ap (λ z. z ∷ []) (same_Some y x is)
take_more (y ∷ xs) (suc n) x is = ap (λ l. y ∷ l) (take_more xs n x is)

take_whole : (xs : List Told) (n : ℕ) → length xs ≤ n → take n xs ≡ xs
take_whole [] zero le = refl
take_whole [] (suc n) le = refl
take_whole (y ∷ xs) zero le = absurd (omega (arith, le))
take_whole (y ∷ xs) (suc n) le = ap (λ l. y ∷ l) (take_whole xs n (omega (arith, le)))

module _ (plan : Plan) (list : List Told) where
  -- no finding so far
  pub none_on_all : (found : List PlacedFinding) → AddsPlacementFindings plan found found (IsOnAll plan (take 0 list))
  none_on_all found = adds_none plan found (IsOnAll plan (take 0 list)) (λ f t. t.2)

  -- one finding of every placing more
  pub one_on_all : (old mid new : List PlacedFinding) (n next : ℕ) (t : Told) → next ≡ suc n → slice_get list n ≡ Some t → new ≡ mid ++ (record { finding = t; on = None }) ∷ [] →
      AddsPlacementFindings plan old mid (IsOnAll plan (take n list)) → AddsPlacementFindings plan old new (IsOnAll plan (take next list))
  one_on_all old mid new n next t one at is first =
      let more : take next list ≡ take n list ++ t ∷ [] = ap (λ k. take k list) one ∙ take_more list n t at in
      adds_both plan old mid new (IsOnAll plan (take n list)) (TellsPlacementFinding plan (record { finding = t; on = None } ∷ [])) (IsOnAll plan (take next list))
      (λ f o. (o.0, o.1, tells_old plan (take n list) (take next list) (t ∷ []) more o.0 o.2))
      (λ f h. elim h [ inl e ↦ (shown plan t, e, tells_piece plan (take n list) (take next list) (t ∷ []) more (shown plan t) (inl refl)) | inr never ↦ absurd never ])
      (λ f o. elim (tells_either plan (take n list) (take next list) (t ∷ []) more o.0 o.2) [
        | inl was ↦ inl (o.0, o.1, was)
        | inr it ↦ elim it [ inl e ↦ inr (inl (o.1 ∙ ap OnAll e)) | inr never ↦ absurd never ]
      ])
      first (appended plan mid new (record { finding = t; on = None } ∷ []) is)

  pub all_on_all : (old new : List PlacedFinding) (n : ℕ) → length list ≤ n → AddsPlacementFindings plan old new (IsOnAll plan (take n list)) → AddsPlacementFindings plan old new (IsOnAll plan list)
  all_on_all old new n le h = subst (λ l. AddsPlacementFindings plan old new (IsOnAll plan l)) (take_whole list n le) h
