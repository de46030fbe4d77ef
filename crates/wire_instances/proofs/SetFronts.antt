-- The front of the word of a set, from that of its items with a comma after each.
use Rattle.std.proofs.Common.{◌≡◌, ◌≤◌, ◌<◌, ◌+◌, ◌-◌, ◌∙◌, ap, sym, refl, ℕ, List, [], ◌∷◌, ◌++◌, take, take_all, length, map, get_or, length-append}
use Rattle.std.proofs.Common.{append-nil, arith, inl, inr, Option, Some, None, Result, Ok, Err, OnOk}
use Rattle.std.specs.Prelude.{IsSome, option_to_list}
use Rattle.std.specs.List.{join_with_byte}
use Rattle.std.proofs.lemmas.Bool.{cases_lt}
use Rattle.std.proofs.lemmas.List.{take-append-le, take-take, take_more, length-take, length-take-le}
use Rattle.wire_types.specs.Said.{Item, spelled_item}
use Rattle.wire_scripts.specs.Canonical.{items_text}
use Rattle.wire_scripts.proofs.Listed.{without_last}
use Rattle.wire_instances.specs.Written.{AgreeOn, rest_text}
use Rattle.wire_instances.proofs.Fronts.{same_behind, same_grow}

-- a text without its last byte
split_last : (text : List ℕ) → 0 < length text → text ≡ take (length text - 1) text ++ get_or text (length text - 1) 0 ∷ []
split_last text some =
    let back : length text - 1 + 1 ≡ length text = omega (arith, some) in
    sym (take_all (length text) text (omega arith)) ∙ ap (λ k. take k text) (sym back) ∙ take_more text (length text - 1) 0 (omega (arith, some))

-- the last byte of the items is a comma that the word doesn't have
word_of : (items : List Item) → 0 < length (items_text items)
    → take (length (items_text items) - 1) (items_text items) ≡ join_with_byte 44 (map spelled_item items)
word_of items some =
    without_last items (items_text items) (take (length (items_text items) - 1) (items_text items)) (Some
    (get_or (items_text items) (length (items_text items) - 1) 0)) refl
    (split_last (items_text items) some) (λ h. refl)

-- so many bytes, of which at most one is taken from the end
kept : (n : ℕ) (old word : List ℕ) (last : Option ℕ) → n < length old → old ≡ word ++ option_to_list last → take n word ≡ take n old
kept n old word None long is = ap (take n) (sym (is ∙ append-nil word))
kept n old word (Some b) long is =
    let more : length old ≡ length word + 1 = ap length is ∙ length-append word (b ∷ []) in
    sym (take-append-le n word (b ∷ []) (omega (arith, more, long))) ∙ ap (take n) (sym is)

pub front_of_set : (n : ℕ) (items : List Item) (old word : List ℕ) (last : Option ℕ) → AgreeOn (n + 1) old (items_text items)
    → old ≡ word ++ option_to_list last
    → (0 < length old → IsSome last) → AgreeOn n word (join_with_byte 44 (map spelled_item items))
front_of_set n items old word last same is some =
    let text = items_text items in
    let both = ap length same in
    let of_text = length-take (n + 1) text in
    elim (cases_lt n (length old)) [
      | inl long ↦
          let all : n < length text = omega (arith, both, of_text, length-take-le (n + 1) old (omega (arith, long))) in
          kept n old word last long is
          ∙ sym (take-take n (n + 1) old (omega arith)) ∙ ap (take n) same ∙ take-take n (n + 1) text (omega arith)
          ∙ sym (ap (take n) (sym (word_of items (omega (arith, all)))) ∙ take-take n (length text - 1) text (omega (arith, all)))
      | inr short ↦
          let whole = take_all (n + 1) old (omega (arith, short)) in
          let within : length text ≤ n + 1 = omega (arith, both, of_text, ap length whole, short) in
          ap (take n) (without_last items old word last (sym whole ∙ same ∙ take_all (n + 1) text within) is some)
    ]

-- a word with that front as the first of the last words of a line
same_word : (n : ℕ) (old word whole : List ℕ) (words : List (List ℕ)) → AgreeOn n word whole
    → AgreeOn n (old ++ rest_text (word ∷ words)) (old ++ rest_text (whole ∷ words))
same_word n old word whole words same = same_behind n old _ _ (same_behind n (32 ∷ []) _ _ (same_grow n word whole _ same))

pub set_written : {A E : Type 0} (r : Result A E) (n : ℕ) (old new word shown whole : List ℕ) (words : List (List ℕ)) → shown ≡ word → AgreeOn n word whole
    → OnOk r (new ≡ old ++ rest_text (shown ∷ words)) → OnOk r (AgreeOn n new (old ++ rest_text (whole ∷ words)))
set_written (Ok x) n old new word shown whole words is same wrote =
    ap (take n) (wrote ∙ ap (λ w. old ++ rest_text (w ∷ words)) is) ∙ same_word n old word whole words same
set_written (Err e) n old new word shown whole words is same wrote = tt
