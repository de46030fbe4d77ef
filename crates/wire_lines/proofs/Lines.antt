-- A text that is cut where a line ends, and how many lines a text has.
use Rattle.std.proofs.Common.{◌≡◌, sym, refl, ℕ, suc, ◌+◌, ◌<◌, ◌≤◌, List, [], ◌∷◌, ◌++◌, Bool, true, false, cond, Option, Some, None, take, drop, map, length, arith, ap, subst, ◌∙◌, ◌-◌, append_assoc, append-nil, length-append, length-drop, length-take, take-append-drop}
use Rattle.std.proofs.Math.Seq.{take-append_seam, drop-append_seam, take-length, drop-length}
use Rattle.std.proofs.lemmas.List.{take_all, map-append, length-map}
use Rattle.std.proofs.lemmas.List.Recursion.{is_count_by}
use Rattle.std.proofs.lemmas.Bool.{ne_eqb}
use Rattle.std.specs.Prelude.{◌==◌, count_by, position, slice_get}
use Rattle.std.specs.Str.Lines.{strip_carriage_return}
use Rattle.std.specs.List.{onto_first}
use Rattle.wire_lines.specs.Text.{pieces_of, lines_of}
use Rattle.wire_lines.proofs.Pieces.{feed, bytes_at}

-- a byte in front of some pieces stands in the first of these
onto_both : (b : ℕ) (ps qs : List (List ℕ)) → 0 < length ps → onto_first b (ps ++ qs) ≡ onto_first b ps ++ qs
onto_both b [] qs some = absurd (omega (arith, some))
onto_both b (p ∷ ps) qs some = refl

some_onto : (b : ℕ) (ps : List (List ℕ)) → 0 < length (onto_first b ps)
some_onto b [] = omega arith
some_onto b (p ∷ ps) = omega arith

-- a text that isn't empty has a piece
some_piece : (b : ℕ) (bs : List ℕ) → 0 < length (pieces_of (b ∷ bs))
some_piece b bs = elim (b == 10) as (λ t. 0 < length (cond t ([] ∷ pieces_of bs) (onto_first b (pieces_of bs)))) [
  | true ↦ omega arith
  | false ↦ some_onto b (pieces_of bs)
]

some_ended : (xs : List ℕ) → 0 < length (pieces_of (xs ++ 10 ∷ []))
some_ended [] = omega arith
some_ended (b ∷ xs) = some_piece b (xs ++ 10 ∷ [])

-- a text that is cut behind a line feed
pub pieces_both : (xs ys : List ℕ) → pieces_of (xs ++ 10 ∷ ys) ≡ pieces_of (xs ++ 10 ∷ []) ++ pieces_of ys
pieces_both [] ys = refl
pieces_both (b ∷ xs) ys =
    let both = pieces_both xs ys in
    elim (b == 10) as (λ t. cond t ([] ∷ pieces_of (xs ++ 10 ∷ ys)) (onto_first b (pieces_of (xs ++ 10 ∷ ys)))
    ≡ cond t ([] ∷ pieces_of (xs ++ 10 ∷ [])) (onto_first b (pieces_of (xs ++ 10 ∷ []))) ++ pieces_of ys) [
      | true ↦ rw both refl
      | false ↦ rw both (onto_both b (pieces_of (xs ++ 10 ∷ [])) (pieces_of ys) (some_ended xs))
    ]

lines_both : (xs ys : List ℕ) → lines_of (xs ++ 10 ∷ ys) ≡ lines_of (xs ++ 10 ∷ []) ++ lines_of ys
lines_both xs ys = ap (map strip_carriage_return) (pieces_both xs ys) ∙ map-append strip_carriage_return (pieces_of (xs ++ 10 ∷ [])) (pieces_of ys)

-- what is cut off, by what follows it
pub cut_front : (bs front piece rest : List ℕ) → bs ≡ front ++ (piece ++ 10 ∷ rest)
    → lines_of bs ≡ lines_of (take (length bs - length rest) bs) ++ lines_of (drop (length bs - length rest) bs)
cut_front bs front piece rest whole =
    let xs : List ℕ = (front ++ piece) ++ 10 ∷ [] in
    let inner : bs ≡ (front ++ piece) ++ 10 ∷ rest = whole ∙ sym (append_assoc front piece (10 ∷ rest)) in
    let joined : bs ≡ xs ++ rest = inner ∙ sym (append_assoc (front ++ piece) (10 ∷ []) rest) in
    let at : length bs - length rest ≡ length xs = omega (arith, length-append xs rest, ap length joined) in
    let first : take (length bs - length rest) bs ≡ xs = rw (at, joined) (take-append_seam xs rest) in
    let second : drop (length bs - length rest) bs ≡ rest = rw (at, joined) (drop-append_seam xs rest) in
    rw (first, second) (ap lines_of inner ∙ lines_both (front ++ piece) rest)

-- a text that is cut behind the first line feed from a place on
pub cut_behind : (bs : List ℕ) (at more : ℕ) → at < length bs → Some more ≡ position feed (take (length bs - at) (drop at bs))
    → lines_of bs ≡ lines_of (take (at + more + 1) bs) ++ lines_of (drop (at + more + 1) bs)
cut_behind bs at more within there =
    let back : List ℕ = take (length bs - at) (drop at bs) in
    let tail : List ℕ = take (length back - (more + 1)) (drop (more + 1) back) in
    let all : back ≡ drop at bs = take_all (length bs - at) (drop at bs) (omega (arith, length-drop at bs)) in
    let split : back ≡ take more back ++ 10 ∷ tail = bytes_at back more there in
    let whole : bs ≡ take at bs ++ (take more back ++ 10 ∷ tail) = sym (take-append-drop at bs) ∙ ap (λ l. take at bs ++ l) (sym all ∙ split) in
    let size = ap length split in
    let sum = length-append (take more back) (10 ∷ tail) in
    let total = ap length whole in
    let sums = length-append (take at bs) (take more back ++ 10 ∷ tail) in
    let place : length bs - length tail ≡ at + more + 1 = omega (arith, size, sum, total, sums, within, length-take at bs, length-take more back) in
    subst (λ n. lines_of bs ≡ lines_of (take n bs) ++ lines_of (drop n bs)) place (cut_front bs (take at bs) (take more back) tail whole)

-- a text that is cut at its end
pub cut_end : (bs : List ℕ) → lines_of bs ≡ lines_of (take (length bs) bs) ++ lines_of (drop (length bs) bs)
cut_end bs = rw (take-length bs, drop-length bs) (sym (append-nil (lines_of bs)))

-- how many lines stand behind the last line feed
abbrev pub unfinished : Option ℕ → ℕ
unfinished None = 0
unfinished (Some b) = cond (b == 10) 0 1

pub open_end : (b : ℕ) → (b ≡ 10 → ⊥) → unfinished (Some b) ≡ 1
open_end b other = rw (ne_eqb b 10 other) refl

pub closed_end : (b : ℕ) → b ≡ 10 → unfinished (Some b) ≡ 0
closed_end b e = rw e refl

length_onto : (b : ℕ) (ps : List (List ℕ)) → 0 < length ps → length (onto_first b ps) ≡ length ps
length_onto b [] some = absurd (omega (arith, some))
length_onto b (p ∷ ps) some = refl

-- the last byte of a text
abbrev last_of : ℕ → List ℕ → ℕ
last_of d [] = d
last_of d (b ∷ bs) = last_of b bs

last_got : (b : ℕ) (bs : List ℕ) → slice_get (b ∷ bs) (length (b ∷ bs) - 1) ≡ Some (last_of b bs)
last_got b [] =
    let at : length (b ∷ []) - 1 ≡ 0 = omega arith in
    subst (λ i. slice_get (b ∷ []) i ≡ Some b) (sym at) refl
last_got b (c ∷ bs) =
    let at : length (b ∷ c ∷ bs) - 1 ≡ suc (length (c ∷ bs) - 1) = omega arith in
    subst (λ i. slice_get (b ∷ c ∷ bs) i ≡ Some (last_of c bs)) (sym at) (last_got c bs)

abbrev feeds : List ℕ → ℕ
feeds [] = 0
feeds (b ∷ bs) = cond (feed b) (1 + feeds bs) (feeds bs)

-- a text of one byte, and one more byte in front of a text, by whether it is a line feed
alone : (b : ℕ) (t : Bool) → length (cond t ([] ∷ []) ((b ∷ []) ∷ [])) ≡ cond t (1 + 0) 0 + cond t 0 1
alone b true = omega arith
alone b false = omega arith

one_more : (b n m : ℕ) (ps : List (List ℕ)) (t : Bool) → 0 < length ps → length ps ≡ n + m → length (cond t ([] ∷ ps) (onto_first b ps)) ≡ cond t (1 + n) n + m
one_more b n m ps true some e = omega (arith, e)
one_more b n m ps false some e = length_onto b ps some ∙ e

-- the pieces are the line feeds, and one that none ends
counted_from : (b : ℕ) (bs : List ℕ) → length (pieces_of (b ∷ bs)) ≡ feeds (b ∷ bs) + cond (last_of b bs == 10) 0 1
counted_from b [] = alone b (b == 10)
counted_from b (c ∷ bs) = one_more b _ _ (pieces_of (c ∷ bs)) (b == 10) (some_piece c bs) (counted_from c bs)

counted_feeds : (bs : List ℕ) → length (pieces_of bs) ≡ feeds bs + unfinished (slice_get bs (length bs - 1))
counted_feeds [] = omega arith
counted_feeds (b ∷ bs) = rw (last_got b bs) (counted_from b bs)

pub counted : (bs : List ℕ) → length (pieces_of bs) ≡ count_by feed bs + unfinished (slice_get bs (length bs - 1))
counted bs = let same : feeds bs ≡ count_by feed bs = is_count_by feeds feed refl (λ b rest. refl) bs in omega (arith, counted_feeds bs, same)

-- no text has more lines than bytes
few_more : (b n : ℕ) (ps : List (List ℕ)) (t : Bool) → length ps ≤ n → length (cond t ([] ∷ ps) (onto_first b ps)) ≤ suc n
few_more b n ps true le = omega (arith, le)
few_more b n [] false le = omega arith
few_more b n (p ∷ ps) false le = omega (arith, le)

few_pieces : (bs : List ℕ) → length (pieces_of bs) ≤ length bs
few_pieces [] = omega arith
few_pieces (b ∷ bs) = few_more b (length bs) (pieces_of bs) (b == 10) (few_pieces bs)

pub few_lines : (bs : List ℕ) → length (lines_of bs) ≤ length bs
few_lines bs = let same = length-map (pieces_of bs) strip_carriage_return in omega (arith, same, few_pieces bs)
