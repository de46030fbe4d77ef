-- The rule of a deque, and what each step does to it. Only private contracts cite this.
use Rattle.std.specs.Prelude.{◌≡◌, ℕ, ◌+◌, ◌<◌, ◌≤◌, List, [], ◌∷◌, ◌++◌, length, drop}
use mathlib.Core.Option.{some}
use lib.ListN.{get_elem?}
use Rattle.wire_rounds.specs.declared.rule.Piece.{Piece}
use Rattle.wire_rounds.specs.declared.rule.DequeView.{DequeView}
use Rattle.wire_rounds.specs.Views.{deque_view, all_parts}

-- the weights of the pieces, added up
abbrev pub weigh : (Piece → ℕ) → List Piece → ℕ
weigh h [] = 0
weigh h (x ∷ xs) = h x + weigh h xs

-- f of each pass, added up
abbrev pub total : (DequeView → ℕ) → List DequeView → ℕ
total f [] = 0
total f (v ∷ vs) = f v + total f vs

-- A pass took nothing past the first `left` pieces, which left the deque. One with no part took nothing at all, and any
-- other knows what was dealt. The same holds of a pass at every port, so the port isn't used: it stands here because a
-- fact about all passes is a family over their ports.
abbrev pub Knows : List Piece → ℕ → ℕ → DequeView → Type 0
Knows dealt left port v = (v.below ≤ left) × (v.parts ≡ 0 → v.taken ≡ []) × (0 < v.parts → v.dealt ≡ dealt)

-- The rule. What was dealt is what left the deque and then what it holds. What left is what the passes took: the same
-- pieces, since both weigh the same whatever the weights are.
abbrev pub Dealt : List Piece → List DequeView → Type 0
Dealt items views =
    (dealt : List Piece) × (gone : List Piece) × (dealt ≡ gone ++ items)
    × (total (λ v. v.parts) views ≡ all_parts)
    × ((h : Piece → ℕ) → total (λ v. weigh h v.taken) views ≡ weigh h gone)
    × ((port : ℕ) (v : DequeView) → get_elem? views port ≡ some v → Knows dealt (length gone) port v)

-- a push: the dealer knows the pieces that it adds
abbrev pub Puts : DequeView → List Piece → DequeView → Type 0
Puts v xs w = w ≡ deque_view v.parts v.below (v.dealt ++ xs) v.taken

-- an empty deque: a pass with all parts took all that was dealt
abbrev pub TookAll : DequeView → Type 0
TookAll v = v.parts ≡ all_parts → (h : Piece → ℕ) → weigh h v.taken ≡ weigh h v.dealt

-- a join: one pass has what both had
abbrev pub joined : DequeView → DequeView → DequeView
joined v w = deque_view (v.parts + w.parts) v.below v.dealt (v.taken ++ w.taken)

-- what was dealt, without as many pieces from its front as the pass took
abbrev pub left_of : DequeView → List Piece
left_of v = drop (length v.taken) v.dealt

-- If the pass has all parts, what is left joins the list. Together with what the pass took before, it is all that was
-- dealt.
abbrev pub IsDrained : DequeView → List Piece → List Piece → Type 0
IsDrained v before after =
    v.parts ≡ all_parts
    → (after ≡ before ++ left_of v) × ((h : Piece → ℕ) → weigh h v.taken + weigh h (left_of v) ≡ weigh h v.dealt)
