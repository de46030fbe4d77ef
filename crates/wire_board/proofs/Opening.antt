-- The seats of a new board are of it, and at place 0. Lanes are made of them, the last one first.
use Rattle.std.proofs.Common.{◌≡◌, ℕ, zero, suc, List, [], ◌∷◌, ◌++◌, All, length, map, refl, sym, ap, ◌∙◌, subst, append-nil, append_assoc}
use mathlib.Core.List.{reverse}
use Rattle.std.proofs.lemmas.List.{map-append, reverse-append}
use Rattle.std.proofs.lemmas.List.Elements.{All-nil, All-cons}
use Rattle.wire_board.specs.Cuts.{procs_of}
use Rattle.wire_board.specs.Seats.{BoardIs, SeatIs, place_of, opening_seat, seats_from, opening_seats}
use Rattle.wire_board.proofs.Cuts.{zero_at}
use Rattle.wire_board.specs.Lanes.{LaneIs, new_lane}

abbrev pub IsNew : BoardIs → SeatIs → Type 0
IsNew board seat = (seat.board ≡ board) × (place_of seat ≡ 0)

new_from : (board : BoardIs) (r n : ℕ) → All (IsNew board) (seats_from board r n)
new_from board r zero = All-nil (IsNew board)
new_from board r (suc n) = All-cons (IsNew board) (opening_seat board r) (seats_from board (suc r) n) (refl, zero_at (procs_of board.plan) r) (new_from board (suc r) n)

pub new_seats : (board : BoardIs) (seats : List SeatIs) → seats ≡ opening_seats board → All (IsNew board) seats
new_seats board seats is = subst (All (IsNew board)) (sym is) (new_from board 0 (procs_of board.plan))

count_from : (board : BoardIs) (r n : ℕ) → length (seats_from board r n) ≡ n
count_from board r zero = refl
count_from board r (suc n) = ap suc (count_from board (suc r) n)

pub seat_count : (board : BoardIs) (seats : List SeatIs) → seats ≡ opening_seats board → length seats ≡ procs_of board.plan
seat_count board seats is = ap length is ∙ count_from board 0 (procs_of board.plan)

-- a lane is made of the last seat that is left
pub lanes_more : (seats rest : List SeatIs) (seat : SeatIs) (lanes new : List LaneIs) (lane : LaneIs) (all : List LaneIs) → seats ≡ rest ++ seat ∷ [] → new ≡ lanes ++ lane ∷ [] → (lane.seat ≡ seat)
    × (lane.trail ≡ []) → map new_lane seats ++ reverse lanes ≡ all
    → map new_lane rest ++ reverse new ≡ all
lanes_more seats rest seat lanes new lane all is more made so_far =
    let same : lane ≡ new_lane seat = λ i. record { seat = made.0 i; trail = made.1 i } in
    let turned : reverse new ≡ lane ∷ reverse lanes = ap reverse more ∙ reverse-append lanes (lane ∷ []) in
    ap (λ (xs : List LaneIs). map new_lane rest ++ xs) (turned ∙ ap (λ (x : LaneIs). x ∷ reverse lanes) same)
    ∙ (sym (append_assoc (map new_lane rest) (new_lane seat ∷ []) (reverse lanes))
    ∙ (ap (λ (xs : List LaneIs). xs ++ reverse lanes) (sym (map-append new_lane rest (seat ∷ [])) ∙ ap (map new_lane) (sym is)) ∙ so_far))

pub lanes_none : (all : List SeatIs) (lanes : List LaneIs) → lanes ≡ [] → map new_lane all ++ reverse lanes ≡ map new_lane all
lanes_none all lanes none = ap (λ (xs : List LaneIs). map new_lane all ++ reverse xs) none ∙ append-nil (map new_lane all)

pub lanes_all : (seats : List SeatIs) (lanes all : List LaneIs) → seats ≡ [] → map new_lane seats ++ reverse lanes ≡ all → reverse lanes ≡ all
lanes_all seats lanes all none so_far = ap (λ (xs : List SeatIs). map new_lane xs ++ reverse lanes) (sym none) ∙ so_far
