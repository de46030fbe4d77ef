-- The pieces of a text, one by one.
use Rattle.std.proofs.Common.{◌≡◌, sym, refl, ℕ, suc, ◌+◌, ◌<◌, List, [], ◌∷◌, ◌++◌, Bool, true, false, cond, Some, None, take, drop, length, arith, ◌-◌, ◌≤◌, length-drop, length-take}
use borrow.Author.Tests.{ltb-true, ltb-false}
use Rattle.std.proofs.lemmas.List.{take_all}
use Rattle.std.proofs.lemmas.List.Folds.{length-prefix_len}
use Rattle.std.specs.Prelude.{◌==◌, not, nat_lt, position}
use Rattle.std.specs.List.{position_or_len, before_first, after_first, onto_first}
use Rattle.wire_lines.specs.Text.{pieces_of}
use Rattle.wire_lines.proofs.Colon.{cut_parts}

abbrev pub feed : ℕ → Bool
feed b = b == 10

-- one byte more in front of a text of which the first piece is known
onto_piece : (b n : ℕ) (bs : List ℕ) → pieces_of bs ≡ take n bs ∷ pieces_of (drop (n + 1) bs) → onto_first b (pieces_of bs) ≡ take (1 + n) (b ∷ bs) ∷ pieces_of (drop (1 + n + 1) (b ∷ bs))
onto_piece b n bs e =
    let one : 1 + n ≡ suc n = omega arith in
    let two : 1 + n + 1 ≡ suc (n + 1) = omega arith in
    rw (two, one, e) refl

-- a text with a line feed: what stands before the first, and the pieces of what stands after it
pub pieces_first : (bs : List ℕ) → position_or_len feed bs < length bs → pieces_of bs ≡ before_first feed bs ∷ pieces_of (after_first feed bs)
pieces_first [] = λ h. absurd (omega arith)
pieces_first (b ∷ bs) =
    elim (b == 10) as (λ t. cond (not t) (1 + position_or_len feed bs) 0 < length (b ∷ bs) →
    cond t ([] ∷ pieces_of bs) (onto_first b (pieces_of bs)) ≡ take (cond (not t) (1 + position_or_len feed bs) 0) (b ∷ bs) ∷ pieces_of
    (drop (cond (not t) (1 + position_or_len feed bs) 0 + 1) (b ∷ bs))) [
      | true ↦ λ h. refl
      | false ↦ λ h. onto_piece b (position_or_len feed bs) bs (pieces_first bs (omega arith))
    ]

-- one byte in front of a text that is one piece or none
onto_last : (b : ℕ) (bs : List ℕ) → (0 < length bs → pieces_of bs ≡ bs ∷ []) → onto_first b (pieces_of bs) ≡ (b ∷ bs) ∷ []
onto_last b [] h = refl
onto_last b (c ∷ bs) h = rw (h (omega arith)) refl

-- a text with no line feed is one piece
pub pieces_last : (bs : List ℕ) → 0 < length bs → position_or_len feed bs ≡ length bs → pieces_of bs ≡ bs ∷ []
pieces_last [] = λ h e. absurd (omega arith)
pieces_last (b ∷ bs) = λ h.
    elim (b == 10) as (λ t. cond (not t) (1 + position_or_len feed bs) 0 ≡ length (b ∷ bs) → cond t ([] ∷ pieces_of bs) (onto_first b (pieces_of bs)) ≡ (b ∷ bs) ∷ []) [
      | true ↦ λ e. absurd (omega arith)
      | false ↦ λ e. onto_last b bs (λ some. pieces_last bs some (omega arith))
    ]

-- a first place that is found
found : (bs : List ℕ) (t : Bool) (i : ℕ) → t ≡ nat_lt (position_or_len feed bs) (length bs) → Some i ≡ cond t (Some (position_or_len feed bs)) None → (i ≡ position_or_len feed bs)
    × (position_or_len feed bs < length bs)
found bs true i e s = (let same : i ≡ position_or_len feed bs = cc in same, ltb-true _ _ (sym e))
found bs false i e s = cc

not_found : (bs : List ℕ) (t : Bool) → t ≡ nat_lt (position_or_len feed bs) (length bs) → None ≡ cond t (Some (position_or_len feed bs)) None → length bs ≤ position_or_len feed bs
not_found bs true e s = cc
not_found bs false e s = ltb-false _ _ (sym e)

-- what is cut off at the first line feed
pub cut_at : (bs : List ℕ) (i : ℕ) → Some i ≡ position feed bs → pieces_of bs ≡ take i bs ∷ pieces_of (take (length bs - (i + 1)) (drop (i + 1) bs))
cut_at bs i e =
    let h = found bs _ i refl e in
    let all : take (length bs - (i + 1)) (drop (i + 1) bs) ≡ drop (i + 1) bs = take_all _ _ (omega (arith, length-drop (i + 1) bs)) in
    rw (all, h.0) (pieces_first bs h.1)

-- the bytes that are cut off
pub bytes_at : (bs : List ℕ) (i : ℕ) → Some i ≡ position feed bs → bs ≡ take i bs ++ 10 ∷ take (length bs - (i + 1)) (drop (i + 1) bs)
bytes_at bs i e =
    let h = found bs _ i refl e in
    let all : take (length bs - (i + 1)) (drop (i + 1) bs) ≡ drop (i + 1) bs = take_all _ _ (omega (arith, length-drop (i + 1) bs)) in
    rw (all, h.0) (cut_parts 10 bs h.1)

-- a text in which none is found
pub cut_none : (bs : List ℕ) → 0 < length bs → None ≡ position feed bs → pieces_of bs ≡ bs ∷ []
cut_none bs some e = pieces_last bs some (let long = not_found bs _ refl e in omega (arith, length-prefix_len (λ x. not (feed x)) bs, length-take (position_or_len feed bs) bs))
