-- What a pass knows of one deque, and what it means that it takes a piece.
use Rattle.std.specs.Prelude.{◌≡◌, ℕ, ◌+◌, ◌<◌, ◌≤◌, ◌^◌, List, ◌++◌, length, drop}
use mathlib.Core.Option.{some}
use lib.ListN.{get_elem?}
use Rattle.wire_rounds.specs.declared.rule.Piece.{Piece}
use Rattle.wire_rounds.specs.declared.rule.DequeView.{DequeView}

abbrev pub deque_view : ℕ → ℕ → List Piece → List Piece → DequeView
deque_view parts below dealt taken = record { parts = parts; below = below; dealt = dealt; taken = taken }

-- The right to know all that was taken of a deque has so many parts. A pass that has them all is the only one that
-- could have taken anything since it got them.
abbrev pub all_parts : ℕ
all_parts = 2 ^ 64

-- The pass takes pieces that stand in what was dealt from a place on. The place isn't before the end of what it took
-- last. If the pass has all parts, it took as many pieces as stand before the place.
abbrev pub Takes : DequeView → List Piece → DequeView → Type 0
Takes v xs w =
    (place : ℕ) × (after : List Piece)
    × (v.below ≤ place) × (drop place v.dealt ≡ xs ++ after) × (place + length xs ≤ length v.dealt)
    × (w ≡ deque_view v.parts (place + length xs) v.dealt (v.taken ++ xs))
    × (v.parts ≡ all_parts → place ≡ length v.taken)

-- each is the piece of a process below number n
abbrev pub AllBelow : ℕ → List Piece → Type 0
AllBelow n xs = (i : ℕ) (x : Piece) → get_elem? xs i ≡ some x → x.rank.number < n

-- the pieces rise by process
abbrev pub IsRising : List Piece → Type 0
IsRising xs = (i j : ℕ) (x y : Piece) → i < j → get_elem? xs i ≡ some x → get_elem? xs j ≡ some y → x.rank.number < y.rank.number

-- the pass took no more pieces than left the deque until its last take, and these are no more than were dealt
abbrev pub TookWithin : DequeView → Type 0
TookWithin v = (length v.taken ≤ v.below) × (v.below ≤ length v.dealt)

-- what the pass took rises, and is below all that it may still take
abbrev pub TookRising : DequeView → Type 0
TookRising v =
    IsRising v.taken
    × ((place : ℕ) (x : Piece) → v.below ≤ place → get_elem? v.dealt place ≡ some x → AllBelow x.rank.number v.taken)
