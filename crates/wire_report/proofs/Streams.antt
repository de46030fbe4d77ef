-- A text that is written in chunks, from one line to the next.
use Rattle.std.proofs.Common.{◌≡◌, ◌∙◌, ap, sym, refl, subst, ℕ, ◌+◌, ◌*◌, ◌^◌, ◌<◌, ◌≤◌, List, [], ◌++◌, take, length, ◌⊎◌, inl, inr, Option, append_assoc, append-nil, length-append, arith, drop, take_all}
use Rattle.std.proofs.Common.{Result, Ok, Err, OnOk, OnErr, suc, zero, ◌∷◌, Some, None, slice_get}
use Rattle.std.proofs.lemmas.Option.{same_Some, slice_get_within}
use Rattle.std.specs.Result.{IsOk}
use Rattle.std.proofs.lemmas.List.{take-append-le, take-append-drop}
use Rattle.std.proofs.lemmas.Grind.{flat_map-append}
use Rattle.std.specs.List.{flat_map}
use Rattle.std.specs.Io.KnownBytes.{Appends}
use Rattle.wire_types.specs.Front.{BreaksAfter}
use Rattle.wire_words.specs.declared.Chunk.{Chunk}
use Rattle.wire_words.specs.Chunks.{IsOnItsWay, StaysOnItsWay}

-- nothing of a text without bytes went out
pub starts : (now : Option (List ℕ)) (chunk : Chunk) → Appends now now [] → chunk.waiting.items ≡ [] → chunk.gone ≡ 0 → IsOnItsWay now now chunk []
starts now chunk none empty count = record { front = []; went = none; counted = count; whole = sym empty }

-- more waits
pub more_waits : (start now : Option (List ℕ)) (before after : Chunk) (text more : List ℕ) → IsOnItsWay start now before text → after.gone ≡ before.gone → after.waiting.items ≡ before.waiting.items
    ++ more → IsOnItsWay start now after (text ++ more)
more_waits start now before after text more way same appended = record {
  front = way.front;
  went = way.went;
  counted = same ∙ way.counted;
  whole = ap (λ t. t ++ more) way.whole ∙ append_assoc way.front before.waiting.items more ∙ ap (λ t. way.front ++ t) (sym appended);
}

-- what is counted and what waits is as much as the text
pub counts : (start now : Option (List ℕ)) (chunk : Chunk) (text : List ℕ) → IsOnItsWay start now chunk text → chunk.gone + length chunk.waiting.items ≡ length text
counts start now chunk text way = omega (arith, way.counted, ap length way.whole, length-append way.front chunk.waiting.items)

-- where nothing waits, all of the text went out
pub all_out : (start now : Option (List ℕ)) (chunk : Chunk) (text : List ℕ) → IsOnItsWay start now chunk text → chunk.waiting.items ≡ [] → Appends start now text
all_out start now chunk text way empty =
    subst (λ t. Appends start now t) (sym (way.whole ∙ ap (λ t. way.front ++ t) empty ∙ append-nil way.front)) way.went

-- what breaks off within a text breaks off within a longer one
pub breaks_within : (start now : Option (List ℕ)) (text more : List ℕ) (n : ℕ) → BreaksAfter start now text n → BreaksAfter start now (text ++ more) n
breaks_within start now text more n breaks =
    let within : n ≤ length text = omega (arith, breaks.0) in
    let less : n < length (text ++ more) = omega (arith, breaks.0, length-append text more) in
    (less, subst (λ t. Appends start now t) (sym (take-append-le n text more within)) breaks.1)

-- what breaks off within the lines of the first breaks off within those of all
pub breaks_early : {X : Type 0} (start now : Option (List ℕ)) (f : X → List ℕ) (xs : List X) (i n : ℕ) → BreaksAfter start now (flat_map f (take i xs)) n → BreaksAfter start now (flat_map f xs) n
breaks_early start now f xs i n breaks =
    let all : flat_map f (take i xs) ++ flat_map f (drop i xs) ≡ flat_map f xs = sym (flat_map-append f (take i xs) (drop i xs)) ∙ (λ k. flat_map f (take-append-drop i xs k)) in
    subst (λ t. BreaksAfter start now t n) all (breaks_within start now (flat_map f (take i xs)) (flat_map f (drop i xs)) n breaks)

-- the lines of one more
next_line : {X : Type 0} (f : X → List ℕ) (xs : List X) (i : ℕ) (x : X) → slice_get xs i ≡ Some x → flat_map f (take (suc i) xs) ≡ flat_map f (take i xs) ++ f x
next_line f [] i x is = let within = slice_get_within [] i x is in absurd (omega (arith, within))
next_line f (y ∷ ys) zero x is = append-nil (f y) ∙ ap f (same_Some y x is)
next_line f (y ∷ ys) (suc i) x is = ap (λ t. f y ++ t) (next_line f ys i x is) ∙ sym (append_assoc (f y) (flat_map f (take i ys)) (f x))

pub one_more_line : {X : Type 0} (f : X → List ℕ) (xs : List X) (i : ℕ) (x : X) → slice_get xs i ≡ Some x → flat_map f (take (i + 1) xs) ≡ flat_map f (take i xs) ++ f x
one_more_line f xs i x is = let next : i + 1 ≡ suc i = omega arith in ap (λ k. flat_map f (take k xs)) next ∙ next_line f xs i x is

-- lines as short as there is room are so with one more
pub one_more_short : (room count lines last : ℕ) → lines ≤ room * count → last ≤ room → lines + last ≤ room * (count + 1)
one_more_short room count lines last short one = grind arith

-- what fails only where there is no room doesn't fail where there is
pub has_room : {A E : Type 0} (r : Result A E) (capacity there wanted room : ℕ) → OnErr r (capacity < there + wanted) → there + room ≤ capacity → wanted ≤ room → IsOk r
has_room (Ok x) capacity there wanted room full free fits = refl
has_room (Err e) capacity there wanted room full free fits = absurd (omega arith)

-- and what fails only where one of two has none
pub has_both_rooms : {A E : Type 0} (r : Result A E) (capacity there kept wanted room : ℕ) → OnErr r ((capacity < there + wanted) ⊎ (kept < wanted)) → there + room ≤ capacity → room ≤ kept →
    wanted ≤ room → IsOk r
has_both_rooms (Ok x) capacity there kept wanted room full free too fits = refl
has_both_rooms (Err e) capacity there kept wanted room full free too fits = elim full [ inl here ↦ absurd (omega arith) | inr there ↦ absurd (omega arith) ]

-- one line more is counted
pub still_counted : (room count lines last : ℕ) → room * (count + 1) < 2 ^ 64 → lines ≤ room * count → last ≤ room → lines + last < 2 ^ 64
still_counted room count lines last fits short one = grind arith

-- a text that was all there went out
pub all_sent : {A E : Type 0} (r : Result A E) (start old new : Option (List ℕ)) (before after : Chunk) (text : List ℕ) → IsOnItsWay start old before text →
    OnOk r (StaysOnItsWay old new before after) → OnOk r (after.waiting.items ≡ []) → OnOk r (Appends start new text)
all_sent (Ok x) start old new before after text way stays empty = all_out start new after text (stays start text way) empty
all_sent (Err e) start old new before after text way stays empty = tt

-- nothing is appended yet
pub nothing_yet : (now : Option (List ℕ)) → Appends now now []
nothing_yet None = tt
nothing_yet (Some xs) = sym (append-nil xs)

lines_fit : (room count lines n : ℕ) → room * (count + 1) < 2 ^ 64 → lines ≤ room * n → n < count → lines < 2 ^ 64
lines_fit room count lines n fits short less = grind arith

-- the lines before the last are counted
pub counted_so_far : (start now : Option (List ℕ)) (chunk : Chunk) (text : List ℕ) (room count n : ℕ) → IsOnItsWay start now chunk text → room * (count + 1) < 2 ^ 64 → length text ≤ room * n →
    n < count → chunk.gone + length chunk.waiting.items < 2 ^ 64
counted_so_far start now chunk text room count n way fits short less = omega (arith, counts start now chunk text way, lines_fit room count (length text) n fits short less)

-- behind the last element, all lines are there
pub all_lines_of : {X : Type 0} (f : X → List ℕ) (xs : List X) (i : ℕ) → length xs ≤ i → flat_map f (take i xs) ≡ flat_map f xs
all_lines_of f xs i past = ap (flat_map f) (take_all i xs past)

-- and they are as short as there is room
pub all_short : {X : Type 0} (f : X → List ℕ) (xs : List X) (room i : ℕ) → length xs ≤ i → i ≤ length xs → length (flat_map f (take i xs)) ≤ room * i → length (flat_map f xs) ≤ room * length xs
all_short f xs room i past within short =
    let same : i ≡ length xs = omega arith in
    subst (λ k. length (flat_map f xs) ≤ room * k) same (subst (λ t. length t ≤ room * i) (all_lines_of f xs i past) short)

lines_all_fit : (room count lines : ℕ) → room * (count + 1) < 2 ^ 64 → lines ≤ room * count → lines < 2 ^ 64
lines_all_fit room count lines fits short = grind arith

-- all lines are counted
pub all_counted : (start now : Option (List ℕ)) (chunk : Chunk) (text : List ℕ) (room count : ℕ) → IsOnItsWay start now chunk text → room * (count + 1) < 2 ^ 64 → length text ≤ room * count →
    chunk.gone + length chunk.waiting.items < 2 ^ 64
all_counted start now chunk text room count way fits short = omega (arith, counts start now chunk text way, lines_all_fit room count (length text) fits short)
