-- What the passes of a round took, and what is left of it.
use Rattle.std.specs.Prelude.{◌≡◌, ℕ, zero, suc, ◌+◌, ◌≤◌, List, [], ◌∷◌, ◌++◌, length, map, drop}
use Rattle.wire_rounds.specs.declared.rule.Piece.{Piece}
use Rattle.wire_rounds.specs.declared.rule.DequeView.{DequeView}
use Rattle.wire_rounds.specs.declared.round.StealRound.{StealRound}
use Rattle.wire_rounds.specs.declared.round.Pass.{Pass}
use Rattle.wire_rounds.specs.Rounds.{ranks_of, workers_of, share_at, own_view, permit_views, IsPassOf}

-- what these views took, one after the other
abbrev pub all_of : List DequeView → List Piece
all_of [] = []
all_of (v ∷ vs) = v.taken ++ all_of vs

-- all that one pass took: of its own deque, and then of each deque as a thief
abbrev pub taken_by : Pass → List Piece
taken_by p = (own_view p).taken ++ all_of (permit_views p)

-- it has taken as many pieces as before
abbrev pub TookNoMore : Pass → Pass → Type 0
TookNoMore old new = length (taken_by new) ≡ length (taken_by old)

-- it has taken one piece more than before
abbrev pub TookOneMore : Pass → Pass → Type 0
TookOneMore old new = length (taken_by new) ≡ length (taken_by old) + 1

-- no pass of a round has taken more pieces than the round has
abbrev pub TakesAreBounded : Type 0
TakesAreBounded = (r : StealRound) (p : Pass) → IsPassOf r p → length (taken_by p) ≤ ranks_of r

-- all that the passes took, pass by pass
abbrev pub taken_by_all : List Pass → List Piece
taken_by_all [] = []
taken_by_all (p ∷ ps) = taken_by p ++ taken_by_all ps

-- what was taken of deque k
abbrev pub taken_at : ℕ → List DequeView → List Piece
taken_at k [] = []
taken_at zero (v ∷ vs) = v.taken
taken_at (suc k) (v ∷ vs) = taken_at k vs

-- what the passes stole of deque k
abbrev pub stolen : ℕ → List Pass → List Piece
stolen k [] = []
stolen k (p ∷ ps) = taken_at k (permit_views p) ++ stolen k ps

-- all that was taken of deque k: by its own worker, and by thieves
abbrev pub taken_from : ℕ → List Pass → List Piece
taken_from k ps = taken_at k (map (λ (p : Pass). own_view p) ps) ++ stolen k ps

-- What is left of deque k. Every take is at the front, so it is the end of what was dealt.
abbrev pub rest_of : StealRound → ℕ → List Pass → List Piece
rest_of r k ps = drop (length (taken_from k ps)) (share_at r k)

-- what is left of the first n deques, deque by deque
abbrev pub rest_to : StealRound → ℕ → List Pass → List Piece
rest_to r zero ps = []
rest_to r (suc n) ps = rest_to r n ps ++ rest_of r n ps

abbrev pub rest_of_all : StealRound → List Pass → List Piece
rest_of_all r ps = rest_to r (workers_of r) ps
