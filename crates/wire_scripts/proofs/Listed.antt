-- The items of a set: with a comma after each, and with commas between them.
use Rattle.std.proofs.Common.{◌≡◌, ◌∙◌, ap, sym, refl, ℕ, ◌<◌, List, [], ◌∷◌, ◌++◌, Option, Some, None, Bool, true, false, true≢false, not, length, map, flat_map, append_assoc, append-nil, arith}
use Rattle.std.proofs.Common.{length-append}
use Rattle.std.specs.Prelude.{IsSome, option_to_list}
use Rattle.std.specs.List.{join_with_byte}
use Rattle.std.proofs.lemmas.List.{same_from_push}
use Rattle.std.proofs.lemmas.Grind.{flat_map-append}
use Rattle.wire_types.specs.Said.{Item, spelled_item}
use Rattle.wire_scripts.specs.Scripts.{Scripts}
use Rattle.wire_scripts.specs.Canonical.{process_at, is_whole, process_items, member_items, items_text}

-- two lists of items are written one after the other
texts_append : (xs ys : List Item) → items_text (xs ++ ys) ≡ items_text xs ++ items_text ys
texts_append xs ys = flat_map-append (λ i. spelled_item i ++ 44 ∷ []) xs ys

-- a comma after each item is one between each two and one at the end
comma_last : (i : Item) (is : List Item) → items_text (i ∷ is) ≡ join_with_byte 44 (map spelled_item (i ∷ is)) ++ 44 ∷ []
comma_last i [] = append-nil (spelled_item i ++ 44 ∷ [])
comma_last i (j ∷ js) =
    ap (λ t. (spelled_item i ++ 44 ∷ []) ++ t) (comma_last j js)
    ∙ append_assoc (spelled_item i) (44 ∷ []) (join_with_byte 44 (map spelled_item (j ∷ js)) ++ 44 ∷ [])
    ∙ sym (append_assoc (spelled_item i) (44 ∷ join_with_byte 44 (map spelled_item (j ∷ js))) (44 ∷ []))

-- without the last byte there are commas between the items only
pub without_last : (items : List Item) (old word : List ℕ) (last : Option ℕ) → old ≡ items_text items → old ≡ word ++ option_to_list last → (0 < length old → IsSome last)
    → word ≡ join_with_byte 44 (map spelled_item items)
without_last [] old word None e f some = sym (append-nil word) ∙ sym f ∙ e
without_last [] old word (Some b) e f some = let n = ap length (sym f ∙ e) in absurd (omega (arith, n, length-append word (b ∷ [])))
without_last (i ∷ is) old word None e f some =
    let n = ap length (e ∙ comma_last i is) in
    absurd (true≢false (sym (some (omega (arith, n, length-append (join_with_byte 44 (map spelled_item (i ∷ is))) (44 ∷ []))))))
without_last (i ∷ is) old word (Some b) e f some =
    (same_from_push word (join_with_byte 44 (map spelled_item (i ∷ is))) b 44 (sym f ∙ e ∙ comma_last i is)).0

-- one more process of a set is written
pub one_more : (s : Scripts) (set rest : List ℕ) (p : ℕ) (old new all : List ℕ) (broken : Bool) → broken ≡ not (is_whole s.processes set (process_at s p).job)
    → new ≡ old ++ items_text (process_items s (not broken) p)
    → old ++ items_text (flat_map (member_items s set) (p ∷ rest)) ≡ all
    → new ++ items_text (flat_map (member_items s set) rest) ≡ all
one_more s set rest p old new all broken is e h =
    ap (λ t. t ++ items_text (flat_map (member_items s set) rest)) e
    ∙ append_assoc old (items_text (process_items s (not broken) p)) (items_text (flat_map (member_items s set) rest))
    ∙ ap (λ t. old ++ (items_text (process_items s t p) ++ items_text (flat_map (member_items s set) rest))) (ap not is ∙ twice (is_whole s.processes set (process_at s p).job))
    ∙ ap (λ t. old ++ t) (sym (texts_append (member_items s set p) (flat_map (member_items s set) rest)))
    ∙ h
  where
    twice : (b : Bool) → not (not b) ≡ b
    twice true = refl
    twice false = refl
