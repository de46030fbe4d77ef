-- A line that is cut at its first blank, and the words of both parts.
use Rattle.std.proofs.Common.{◌≡◌, ◌∙◌, ap, sym, refl, ℕ, ◌+◌, ◌-◌, ◌<◌, ◌≤◌, List, [], ◌∷◌, ◌++◌, Bool, true, false, cond, Some, None, take, drop, length, arith, length-drop}
use borrow.Author.Tests.{ltb-true, ltb-false}
use Rattle.std.proofs.lemmas.List.{take_all}
use Rattle.std.proofs.lemmas.List.Splits.{slice_split_first}
use Rattle.std.specs.Prelude.{◌==◌, not, nat_lt, position, filter}
use Rattle.std.specs.List.{position_or_len, before_first, after_first, slice_split, onto_first}
use Rattle.wire_lines.specs.Text.{is_blank, words_of}

-- the parts that aren't empty
abbrev pub kept : List (List ℕ) → List (List ℕ)
kept = filter (λ w. not (length w == 0))

-- a text without a blank is one part
split_last : (bs : List ℕ) → length bs ≤ position_or_len is_blank bs → slice_split is_blank bs ≡ bs ∷ []
split_last [] = λ h. refl
split_last (b ∷ bs) =
    elim (is_blank b) as (λ t. length (b ∷ bs) ≤ cond (not t) (1 + position_or_len is_blank bs) 0
    → cond t ([] ∷ slice_split is_blank bs) (onto_first b (slice_split is_blank bs)) ≡ (b ∷ bs) ∷ []) [
      | true ↦ λ h. absurd (omega arith)
      | false ↦ λ h. ap (onto_first b) (split_last bs (omega arith))
    ]

kept_first : (w : List ℕ) (ws : List (List ℕ)) → kept (w ∷ ws) ≡ kept (w ∷ []) ++ kept ws
kept_first w ws = elim (not (length w == 0)) as (λ t. cond t (w ∷ kept ws) (kept ws) ≡ cond t (w ∷ []) [] ++ kept ws) [
  | true ↦ refl
  | false ↦ refl
]

found : (bs : List ℕ) (t : Bool) (i : ℕ) → t ≡ nat_lt (position_or_len is_blank bs) (length bs) → Some i ≡ cond t (Some (position_or_len is_blank bs)) None
    → (i ≡ position_or_len is_blank bs) × (position_or_len is_blank bs < length bs)
found bs true i e s = (let same : i ≡ position_or_len is_blank bs = cc in same, ltb-true _ _ (sym e))
found bs false i e s = cc

not_found : (bs : List ℕ) (t : Bool) → t ≡ nat_lt (position_or_len is_blank bs) (length bs) → None ≡ cond t (Some (position_or_len is_blank bs)) None
    → length bs ≤ position_or_len is_blank bs
not_found bs true e s = cc
not_found bs false e s = ltb-false _ _ (sym e)

-- a text with a blank
pub words_at : (bs : List ℕ) (i : ℕ) → Some i ≡ position is_blank bs
    → words_of bs ≡ kept (take i bs ∷ []) ++ words_of (take (length bs - (i + 1)) (drop (i + 1) bs))
words_at bs i e =
    let h = found bs _ i refl e in
    let all : take (length bs - (i + 1)) (drop (i + 1) bs) ≡ drop (i + 1) bs = take_all _ _ (omega (arith, length-drop (i + 1) bs)) in
    rw (all, h.0) (ap kept (slice_split_first is_blank bs 0 h.1) ∙ kept_first (before_first is_blank bs) (slice_split is_blank (after_first is_blank bs)))

-- a text without one
pub words_none : (bs : List ℕ) → None ≡ position is_blank bs → words_of bs ≡ kept (bs ∷ []) ++ words_of []
words_none bs e = ap kept (split_last bs (not_found bs _ refl e)) ∙ kept_first bs ([] ∷ [])
