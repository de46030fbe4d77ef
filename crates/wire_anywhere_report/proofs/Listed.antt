-- The lines and the texts of the first of a list, and of one more.
use Rattle.std.proofs.Common.{◌≡◌, ◌∙◌, ap, sym, ℕ, suc, ◌+◌, ◌<◌, ◌≤◌, List, [], ◌∷◌, ◌++◌, length, map, take, drop, drop-cons, get_or, add-one, Some, Vec, Global, append_assoc, arith}
use Rattle.std.specs.Prelude.{slice_get}
use Rattle.std.specs.List.{flat_map}
use Rattle.std.proofs.lemmas.List.{map-append}
use Rattle.wire_runs.proofs.Lists.{take_get}
use Rattle.wire_report.proofs.Streams.{one_more_line, all_lines_of}

-- the line of one more is written
pub next_line : {X : Type 0} (f : X → List ℕ) (xs : List X) (i : ℕ) (x : X) (start old new : List ℕ) → slice_get xs i ≡ Some x → old ≡ start ++ flat_map f (take i xs) → new ≡ old ++ f x →
    new ≡ start ++ flat_map f (take (i + 1) xs)
next_line f xs i x start old new there before written =
    written ∙ ap (λ t. t ++ f x) before ∙ append_assoc start (flat_map f (take i xs)) (f x) ∙ ap (λ t. start ++ t) (sym (one_more_line f xs i x there))

-- the lines of all are written
pub all_lines : {X : Type 0} (f : X → List ℕ) (xs : List X) (i : ℕ) (start now : List ℕ) → length xs ≤ i → now ≡ start ++ flat_map f (take i xs) → now ≡ start ++ flat_map f xs
all_lines f xs i start now past before = before ∙ ap (λ t. start ++ t) (all_lines_of f xs i past)

-- the text of one more is made
pub next_text : {X : Type 0} (f : X → List ℕ) (xs : List X) (i : ℕ) (x : X) (texts later : List (Vec ℕ Global)) (text : Vec ℕ Global) → slice_get xs i ≡ Some x →
    map (λ t. t.items) texts ≡ map f (take i xs) → later ≡ texts ++ text ∷ [] → text.items ≡ f x → map (λ t. t.items) later ≡ map f (take (i + 1) xs)
next_text f xs i x texts later text there so_far at is =
    let more : suc i ≡ i + 1 = omega arith in
    ap (map (λ t. t.items)) at ∙ map-append (λ t. t.items) texts (text ∷ []) ∙ (λ k. so_far k ++ is k ∷ []) ∙ sym (map-append f (take i xs) (x ∷ [])) ∙ ap (map f) (sym (take_get xs i x there))
    ∙ ap (λ n. map f (take n xs)) more

-- the elements from one place on: the one that stands there, and those behind it
opened : {X : Type 0} (xs : List X) (i : ℕ) (none : X) → i < length xs → drop i xs ≡ get_or xs i none ∷ drop (i + 1) xs
opened xs i none there = drop-cons xs i none there ∙ ap (λ m. get_or xs i none ∷ drop m xs) (sym (add-one i))

-- one more text, and those that are left
pub one_text_more : {X : Type 0} (f : X → List ℕ) (xs : List X) (i : ℕ) (none : X) (texts later : List (Vec ℕ Global)) (text : Vec ℕ Global) (all : List (List ℕ)) → i < length xs →
    map (λ t. t.items) texts ++ map f (drop i xs) ≡ all → later ≡ texts ++ text ∷ [] → text.items ≡ f (get_or xs i none) → map (λ t. t.items) later ++ map f (drop (i + 1) xs) ≡ all
one_text_more f xs i none texts later text all there so_far at is =
    let made = map (λ t. t.items) texts in
    let rest = map f (drop (i + 1) xs) in
    ap (λ l. map (λ t. t.items) l ++ rest) at ∙ ap (λ l. l ++ rest) (map-append (λ t. t.items) texts (text ∷ [])) ∙ append_assoc made (text.items ∷ []) rest ∙ (λ k. made ++ is k ∷ rest)
    ∙ ap (λ l. made ++ map f l) (sym (opened xs i none there)) ∙ so_far
