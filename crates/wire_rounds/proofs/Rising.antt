-- What a pass takes of one deque rises.
use Rattle.std.proofs.Common.{◌≡◌, ℕ, zero, suc, ◌+◌, ◌<◌, ◌≤◌, ◌%◌, ◌==◌, Bool, true, false, if◌then◌else◌, List, [], ◌∷◌, ◌++◌, length, drop, sym, ap, subst, ⊎_elim, arith, append-nil}
use mathlib.Core.Option.{some, some-ne-none}
use lib.ListN.{get_elem?}
use Rattle.wire_rounds.specs.declared.rule.Piece.{Piece}
use Rattle.wire_rounds.specs.declared.rule.DequeView.{DequeView}
use Rattle.wire_rounds.specs.Views.{Takes, AllBelow, IsRising, TookRising}
use Rattle.wire_rounds.specs.Shares.{piece, deal_of, share_of, DealRises}
use Rattle.wire_rounds.proofs.Rows.{get_snoc, get_within}

below_snoc : (n : ℕ) (xs : List Piece) (x : Piece) → AllBelow n xs → x.rank.number < n → AllBelow n (xs ++ x ∷ [])
below_snoc n xs x h less i y at = ⊎_elim (λ old. h i y old) (λ (is : (i ≡ length xs) × (x ≡ y)). subst (λ (z : Piece). z.rank.number < n) is.1 less) (get_snoc xs x y i at)

below_more : (n m : ℕ) (xs : List Piece) → n ≤ m → AllBelow n xs → AllBelow m xs
below_more n m xs le h i x at = let l = h i x at in omega arith

rising_snoc : (xs : List Piece) (x : Piece) → IsRising xs → AllBelow x.rank.number xs → IsRising (xs ++ x ∷ [])
rising_snoc xs x h below i j y z less a b =
    ⊎_elim (λ old'. ⊎_elim (λ old. h i j y z less old old')
    (λ (is : (i ≡ length xs) × (x ≡ y)). let w = get_within xs j z old' in absurd (omega (arith, is.0))) (get_snoc xs x y i a))
    (λ (is' : (j ≡ length xs) × (x ≡ z)).
    ⊎_elim (λ old. subst (λ (u : Piece). y.rank.number < u.rank.number) is'.1 (below i y old))
    (λ (is : (i ≡ length xs) × (x ≡ y)). absurd (omega (arith, is.0, is'.0))) (get_snoc xs x y i a)) (get_snoc xs x z j b)

share_step : (b : Bool) (xs : List Piece) (x : Piece) → IsRising xs → AllBelow x.rank.number xs → IsRising (xs ++ (if b then x ∷ [] else []))
    × AllBelow (x.rank.number + 1) (xs ++ (if b then x ∷ [] else []))
share_step true xs x rises below = (rising_snoc xs x rises below, below_snoc (x.rank.number + 1) xs x (below_more x.rank.number (x.rank.number + 1) xs (omega arith) below) (omega arith))
share_step false xs x rises below =
    subst (λ l. IsRising l × AllBelow (x.rank.number + 1) l) (sym (append-nil xs)) (rises, below_more x.rank.number (x.rank.number + 1) xs (omega arith) below)

share_both : (worker workers round n : ℕ) → IsRising (share_of worker workers round n) × AllBelow n (share_of worker workers round n)
share_both worker workers round zero = ((λ i j x y less a b. absurd (some-ne-none x (sym a))), λ i x a. absurd (some-ne-none x (sym a)))
share_both worker workers round (suc n) =
    let old = share_both worker workers round n in
    let new = share_step ((n % workers) == worker) (share_of worker workers round n) (piece n round) old.0 old.1 in
    (new.0, below_more (n + 1) (suc n) _ (omega arith) new.1)

pub share_rises : (worker workers round n : ℕ) → IsRising (share_of worker workers round n)
share_rises worker workers round n = (share_both worker workers round n).0

deal_both : (round n : ℕ) → IsRising (deal_of round n) × AllBelow n (deal_of round n)
deal_both round zero = ((λ i j x y less a b. absurd (some-ne-none x (sym a))), λ i x a. absurd (some-ne-none x (sym a)))
deal_both round (suc n) =
    let old = deal_both round n in
    (rising_snoc (deal_of round n) (piece n round) old.0 old.1, below_snoc (suc n) (deal_of round n) (piece n round) (below_more n (suc n) (deal_of round n) (omega arith) old.1) (omega arith))

pub deal_rises : DealRises
deal_rises round n = (deal_both round n).0

first_of : (xs : List Piece) (k : ℕ) (x : Piece) (after : List Piece) → drop k xs ≡ x ∷ after → get_elem? xs k ≡ some x
first_of [] zero x after e = ap (λ (l : List Piece). get_elem? l 0) e
first_of [] (suc k) x after e = ap (λ (l : List Piece). get_elem? l 0) e
first_of (y ∷ xs) zero x after e = ap (λ (l : List Piece). get_elem? l 0) e
first_of (y ∷ xs) (suc k) x after e = first_of xs k x after e

pub rises_nothing : (v : DequeView) → v.taken ≡ [] → TookRising v
rises_nothing v none =
    subst (λ l. IsRising l × ((place : ℕ) (x : Piece) → v.below ≤ place → get_elem? v.dealt place ≡ some x → AllBelow x.rank.number l)) (sym none)
    ((λ i j x y less a b. absurd (some-ne-none x (sym a))), λ place x past at i y a. absurd (some-ne-none y (sym a)))

pub rises_more : (v w : DequeView) (x : Piece) → Takes v (x ∷ []) w → IsRising v.dealt → TookRising v → TookRising w
rises_more v w x t dealt h =
    let here : get_elem? v.dealt t.0 ≡ some x = first_of v.dealt t.0 x t.1 t.3 in
    let past = t.2 in
    subst TookRising (sym t.5) (
      rising_snoc v.taken x h.0 (h.1 t.0 x past here),
      λ place y later at. below_snoc y.rank.number v.taken x (h.1 place y (omega arith) at) (dealt t.0 place x y (omega arith) here at),
    )
