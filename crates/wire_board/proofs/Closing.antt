-- What is known of the words once the table is closed.
use Rattle.std.proofs.Common.{◌≡◌, ℕ, zero, suc, ◌+◌, List, [], ◌∷◌, ◌++◌, All, map, take, sym, ap, add-one}
use Rattle.std.proofs.lemmas.List.Elements.{All-nil, All-cons}
use mathlib.Core.Option.{some, some-ne-none, some-injective}
use lib.ListN.{get_elem?}
use Rattle.wire_scripts.specs.Scripts.{Scripts}
use Rattle.wire_board.specs.Seats.{SeatIs, hold_of, IsTrueOf}
use Rattle.wire_board.specs.Positions.{HoldFits, Each}

pub all_true : (plan : Scripts) (words : List ℕ) (seats : List SeatIs) → Each (HoldFits plan words) (map hold_of seats) → All (IsTrueOf words) seats
all_true plan words [] e = All-nil (IsTrueOf words)
all_true plan words (s ∷ ss) e = All-cons (IsTrueOf words) s ss (sym e.0.place, e.0.below) (all_true plan words ss e.1)

take_at : (xs : List ℕ) (i x : ℕ) → get_elem? xs i ≡ some x → take (suc i) xs ≡ take i xs ++ x ∷ []
take_at [] i x e = absurd (some-ne-none x (sym e))
take_at (y ∷ ys) zero x e = ap (λ (n : ℕ). n ∷ []) (some-injective y x e)
take_at (y ∷ ys) (suc i) x e = ap (λ (l : List ℕ). y ∷ l) (take_at ys i x e)

pub take_one_more : (xs : List ℕ) (i x : ℕ) → get_elem? xs i ≡ some x → take (i + 1) xs ≡ take i xs ++ x ∷ []
take_one_more xs i x e = rw add-one (take_at xs i x e)
