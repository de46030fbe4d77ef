-- One seat for each rank is cut off the first seat.
use Rattle.std.proofs.Common.{◌≡◌, ℕ, suc, ◌+◌, ◌-◌, ◌<◌, List, [], ◌∷◌, ◌++◌, take, drop, replicate, sym, ap, ◌∙◌, append_assoc, arith}
use Rattle.wire_scripts.specs.Scripts.{Scripts}
use Rattle.wire_board.specs.declared.hold.Hold.{Hold}
use Rattle.wire_board.specs.Cuts.{procs_of}
use Rattle.wire_board.specs.Positions.{hold, holds_from}
use Rattle.wire_board.specs.Seats.{BoardIs, SeatIs, opening_seat, seats_from}

pub from_cut : (plan : Scripts) (r n : ℕ) → r < n → holds_from plan r (n - r) ≡ hold plan r (replicate (procs_of plan) 0) ∷ holds_from plan (r + 1) (n - (r + 1))
from_cut plan r n h =
    let one : n - r ≡ suc (n - (r + 1)) = omega arith in
    let two : suc r ≡ r + 1 = omega arith in
    ap (holds_from plan r) one ∙ ap (λ (k : ℕ). hold plan r (replicate (procs_of plan) 0) ∷ holds_from plan k (n - (r + 1))) two

pub drop_from : (plan : Scripts) (r n : ℕ) → r < n → drop 1 (holds_from plan r (n - r)) ≡ holds_from plan (r + 1) (n - (r + 1))
drop_from plan r n h = ap (drop 1) (from_cut plan r n h)

pub take_from : (plan : Scripts) (r n : ℕ) → r < n → take 1 (holds_from plan r (n - r)) ≡ hold plan r (replicate (procs_of plan) 0) ∷ []
take_from plan r n h = ap (take 1) (from_cut plan r n h)

seats_cut : (board : BoardIs) (r n : ℕ) → r < n → seats_from board r (n - r) ≡ opening_seat board r ∷ seats_from board (r + 1) (n - (r + 1))
seats_cut board r n h =
    let one : n - r ≡ suc (n - (r + 1)) = omega arith in
    let two : suc r ≡ r + 1 = omega arith in
    ap (seats_from board r) one ∙ ap (λ (k : ℕ). opening_seat board r ∷ seats_from board k (n - (r + 1))) two

pub dealt_more : (board : BoardIs) (r n : ℕ) (xs all : List SeatIs) (s : SeatIs) → r < n → xs ++ seats_from board r (n - r) ≡ all → s ≡ opening_seat board r
    → (xs ++ s ∷ []) ++ seats_from board (r + 1) (n - (r + 1)) ≡ all
dealt_more board r n xs all s lt e is =
    append_assoc xs (s ∷ []) (seats_from board (r + 1) (n - (r + 1)))
    ∙ (ap (λ (t : List SeatIs). xs ++ t) (ap (λ (x : SeatIs). x ∷ seats_from board (r + 1) (n - (r + 1))) is ∙ sym (seats_cut board r n lt)) ∙ e)

-- one more seat is joined, in front
pub bundled_more : (xs : List Hold) (h : Hold) (v w all : List Hold) → w ≡ h ∷ [] → (xs ++ h ∷ []) ++ v ≡ all → xs ++ (w ++ v) ≡ all
bundled_more xs h v w all is e = ap (λ (u : List Hold). xs ++ (u ++ v)) is ∙ (sym (append_assoc xs (h ∷ []) v) ∙ e)
