-- A line that begins as no fence, note or line of another kind does is a call without a set.
use Rattle.std.proofs.Common.{◌≡◌, ℕ, zero, suc, ◌<◌, List, [], ◌∷◌, Bool, true, false, None, refl, sym, ap, ◌∙◌, subst, length, ◌-◌, ◌==◌, ◌||◌, ◌⊎◌, inl, inr, ◌≤◌, arith, get_or, if◌then◌else◌, take, filter, not, eqb-true, ne_eqb}
use Rattle.std.proofs.lemmas.Bool.{cond-true, cond_both, not_from_false, true≢false}
use Rattle.std.proofs.lemmas.List.Splits.{slice_split-cons_no}
use Rattle.std.specs.Prelude.{slice_index}
use Rattle.std.specs.List.{slice_split, onto_first}
use Rattle.std.specs.Str.Lines.{strip_carriage_return}
use Rattle.wire_lines.specs.Text.{is_blank, words_of}
use Rattle.wire_spelling.specs.Spelling.{Call, said_of, said_with}
use Rattle.wire_spelling.specs.Spelled.{BeginsPlainCall}

is_word : (b : ℕ) (word : List ℕ) → not (length (b ∷ word) == 0) ≡ true
is_word b word = not_from_false (length (b ∷ word) == 0) (ne_eqb (length (b ∷ word)) 0 (λ e. omega (arith, e)))

module _ (b : ℕ) (plain : (w : List ℕ) (ws : List (List ℕ)) → said_with (b ∷ w) ws ≡ Call None) (full : is_blank b ≡ false) (kept : (b == 13) ≡ false) where
  first : (part : List ℕ) (parts : List (List ℕ)) → said_of (filter (λ w. not (length w == 0)) ((b ∷ part) ∷ parts)) ≡ Call None
  first part parts =
      let others = filter (λ w. not (length w == 0)) parts in
      ap said_of (cond-true (not (length (b ∷ part) == 0)) ((b ∷ part) ∷ others) others (is_word b part)) ∙ plain part others

  in_parts : (parts : List (List ℕ)) → said_of (filter (λ w. not (length w == 0)) (onto_first b parts)) ≡ Call None
  in_parts [] = first [] []
  in_parts (part ∷ parts) = first part parts

  unstripped : (bs : List ℕ) → said_of (words_of (b ∷ bs)) ≡ Call None
  unstripped bs = ap (λ parts. said_of (filter (λ w. not (length w == 0)) parts)) (slice_split-cons_no is_blank b bs full) ∙ in_parts (slice_split is_blank bs)

  -- the byte at a place behind the first may be dropped, with what follows it
  cut : (n c : ℕ) (cs : List ℕ) → 0 < n → said_of (words_of (if slice_index (b ∷ c ∷ cs) n == 13 then take n (b ∷ c ∷ cs) else b ∷ c ∷ cs)) ≡ Call None
  cut zero c cs some = absurd (omega (arith, some))
  cut (suc n) c cs some =
      cond_both (slice_index (b ∷ c ∷ cs) (suc n) == 13) (b ∷ take n (c ∷ cs)) (b ∷ c ∷ cs) (λ l. said_of (words_of l) ≡ Call None)
      (λ t. unstripped (take n (c ∷ cs))) (λ f. unstripped (c ∷ cs))

  stripped : BeginsPlainCall b
  stripped [] = cond_both (b == 13) [] (b ∷ []) (λ l. said_of (words_of l) ≡ Call None) (λ t. absurd (true≢false (sym t ∙ kept))) (λ f. unstripped [])
  stripped (c ∷ cs) = cut (length (b ∷ c ∷ cs) - 1) c cs (omega arith)

one_of : (x y : Bool) → (x || y) ≡ true → (x ≡ true) ⊎ (y ≡ true)
one_of true y t = inl refl
one_of false y t = inr t

at_byte : (b n : ℕ) → (b == n) ≡ true → BeginsPlainCall n → BeginsPlainCall b
at_byte b n e plain = subst BeginsPlainCall (sym (eqb-true b n e)) plain

-- so it is of a line that begins with `c`, `g`, `l`, `p` or `u`
pub plain_call : (b : ℕ) → ((b == 99) || ((b == 103) || ((b == 108) || ((b == 112) || (b == 117))))) ≡ true → BeginsPlainCall b
plain_call b t = elim (one_of (b == 99) _ t) [
  | inl e ↦ at_byte b 99 e (stripped 99 (λ w ws. refl) refl refl)
  | inr t ↦ elim (one_of (b == 103) _ t) [
    | inl e ↦ at_byte b 103 e (stripped 103 (λ w ws. refl) refl refl)
    | inr t ↦ elim (one_of (b == 108) _ t) [
      | inl e ↦ at_byte b 108 e (stripped 108 (λ w ws. refl) refl refl)
      | inr t ↦ elim (one_of (b == 112) _ t) [
        | inl e ↦ at_byte b 112 e (stripped 112 (λ w ws. refl) refl refl)
        | inr e ↦ at_byte b 117 e (stripped 117 (λ w ws. refl) refl refl)
      ]
    ]
  ]
]

-- so it is of a line by its first byte
pub plain_from : (line : List ℕ) → 1 ≤ length line → BeginsPlainCall (get_or line 0 0) → said_of (words_of (strip_carriage_return line)) ≡ Call None
plain_from [] some t = absurd (omega (arith, some))
plain_from (b ∷ bs) some t = t bs
