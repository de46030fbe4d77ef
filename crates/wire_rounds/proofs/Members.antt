-- What is taken or left is pieces of the round.
use Rattle.std.proofs.Common.{◌≡◌, ℕ, zero, suc, ◌%◌, ◌<◌, ◌==◌, Bool, true, false, if◌then◌else◌, List, [], ◌∷◌, Option, Some, None, MatchOption, IfSome, refl, sym, subst, arith}
use Rattle.std.specs.List.{All}
use Rattle.std.proofs.lemmas.List.Elements.{All-nil, All-append, All-drop, All-from_recursion}
use Rattle.wire_rounds.specs.declared.rule.Piece.{Piece}
use Rattle.wire_rounds.specs.declared.rule.DequeView.{DequeView}
use Rattle.wire_rounds.specs.declared.round.StealRound.{StealRound}
use Rattle.wire_rounds.specs.declared.round.Pass.{Pass}
use Rattle.wire_rounds.specs.declared.round.Take.{Take}
use Rattle.wire_rounds.specs.declared.round.Take.TheVariants.{Got, Empty, Again}
use Rattle.wire_rounds.specs.Views.{Takes}
use Rattle.wire_rounds.specs.Rules.{TookAll}
use Rattle.wire_rounds.specs.Shares.{piece, share_of}
use Rattle.wire_rounds.specs.Rounds.{IsPieceOf, MatchTake, IfGot, workers_of, share_at}
use Rattle.wire_rounds.specs.Taken.{rest_to}

-- a piece of this round, of a process below number n
abbrev IsBelow : ℕ → ℕ → Piece → Type 0
IsBelow round n x = (x.round ≡ round) × (x.rank.number < n)

more : (round n : ℕ) (xs : List Piece) → All (IsBelow round n) xs → All (IsBelow round (suc n)) xs
more round n xs all k d within = let h = all k d within in (h.0, omega (arith, h.1))

last : (b : Bool) (round n : ℕ) → All (IsBelow round (suc n)) (if b then piece n round ∷ [] else [])
last true round n = All-from_recursion (IsBelow round (suc n)) (piece n round ∷ []) ((refl, omega arith), tt)
last false round n = All-nil (IsBelow round (suc n))

share_below : (worker workers round n : ℕ) → All (IsBelow round n) (share_of worker workers round n)
share_below worker workers round zero = All-nil (IsBelow round zero)
share_below worker workers round (suc n) =
    All-append (IsBelow round (suc n)) (share_of worker workers round n) (if (n % workers) == worker then piece n round ∷ [] else [])
    (more round n (share_of worker workers round n) (share_below worker workers round n)) (last ((n % workers) == worker) round n)

share_pieces : (r : StealRound) (k : ℕ) → All (IsPieceOf r) (share_at r k)
share_pieces r k = share_below k (workers_of r) r.round r.ranks

-- what a pass takes of a deque of the round
took_piece : (r : StealRound) (k : ℕ) (v w : DequeView) (x : Piece) → v.dealt ≡ share_at r k → Takes v (x ∷ []) w → IsPieceOf r x
took_piece r k v w x dealt t =
    let all : All (IsPieceOf r) v.dealt = subst (All (IsPieceOf r)) (sym dealt) (share_pieces r k) in
    let front : All (IsPieceOf r) (x ∷ t.1) = subst (All (IsPieceOf r)) t.3 (All-drop (IsPieceOf r) t.0 v.dealt all) in
    front 0 x (omega arith)

pub own_piece : (r : StealRound) (k : ℕ) (o : Option Piece) (v w : DequeView) → v.dealt ≡ share_at r k → MatchOption o ((w ≡ v) × TookAll v) (λ x. Takes v (x ∷ []) w) → IfSome o (IsPieceOf r)
own_piece r k None v w dealt h = tt
own_piece r k (Some x) v w dealt h = took_piece r k v w x dealt h

pub permit_piece : (r : StealRound) (k : ℕ) (o : Take) (v w : DequeView) → v.dealt ≡ share_at r k → MatchTake o (λ x. Takes v (x ∷ []) w) (w ≡ v) → IfGot o (IsPieceOf r)
permit_piece r k (Got x) v w dealt h = took_piece r k v w x dealt h
permit_piece r k Empty v w dealt h = tt
permit_piece r k Again v w dealt h = tt

-- what is left of the first n deques
pub rest_pieces : (r : StealRound) (n : ℕ) (ps : List Pass) → All (IsPieceOf r) (rest_to r n ps)
rest_pieces r zero ps = All-nil (IsPieceOf r)
rest_pieces r (suc n) ps = All-append (IsPieceOf r) _ _ (rest_pieces r n ps) (All-drop (IsPieceOf r) _ (share_at r n) (share_pieces r n))
