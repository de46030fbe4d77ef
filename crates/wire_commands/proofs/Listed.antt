-- The texts of the first of a list, and of one more.
use Rattle.std.proofs.Common.{◌≡◌, ◌∙◌, ap, sym, ℕ, suc, ◌+◌, List, [], ◌∷◌, ◌++◌, map, take}
use Rattle.std.proofs.Common.{Some, Vec, Global, arith, ◌<◌, length, drop, drop-cons, get_or, add-one, append_assoc}
use Rattle.std.specs.Prelude.{slice_get}
use Rattle.std.proofs.lemmas.List.{map-append}
use Rattle.wire_runs.proofs.Lists.{take_get}

pub one_more_text : {X : Type 0} (f : X → List ℕ) (xs : List X) (i : ℕ) (x : X) (texts later : List (Vec ℕ Global)) (text : Vec ℕ Global) → slice_get xs i ≡ Some x →
    map (λ t. t.items) texts ≡ map f (take i xs) → later ≡ texts ++ text ∷ [] → text.items ≡ f x → map (λ t. t.items) later ≡ map f (take (i + 1) xs)
one_more_text f xs i x texts later text there so_far at is =
    let more : suc i ≡ i + 1 = omega arith in
    ap (map (λ t. t.items)) at ∙ map-append (λ t. t.items) texts (text ∷ []) ∙ (λ k. so_far k ++ is k ∷ []) ∙ sym (map-append f (take i xs) (x ∷ [])) ∙ ap (map f) (sym (take_get xs i x there))
    ∙ ap (λ n. map f (take n xs)) more

-- the elements from one place on: the one that stands there, and those behind it
opened : {X : Type 0} (xs : List X) (i : ℕ) (none : X) → i < length xs → drop i xs ≡ get_or xs i none ∷ drop (i + 1) xs
opened xs i none there = drop-cons xs i none there ∙ ap (λ m. get_or xs i none ∷ drop m xs) (sym (add-one i))

-- one more line, and those that are left
pub one_more_line : {X : Type 0} (lines : List X → List ℕ) (f : X → List ℕ) (xs : List X) (i : ℕ) (none : X) (whole now next : List ℕ) →
    ((x : X) (later : List X) → lines (x ∷ later) ≡ f x ++ lines later) → i < length xs → whole ≡ now ++ lines (drop i xs) →
    next ≡ now ++ f (get_or xs i none) → whole ≡ next ++ lines (drop (i + 1) xs)
one_more_line lines f xs i none whole now next each there so_far is =
    let x = get_or xs i none in
    let rest = drop (i + 1) xs in
    so_far ∙ ap (λ l. now ++ l) (ap lines (opened xs i none there) ∙ each x rest) ∙ sym (append_assoc now (f x) (lines rest)) ∙ ap (λ t. t ++ lines rest) (sym is)

-- one more text, and those that are left
pub one_text_more : {X : Type 0} (f : X → List ℕ) (xs : List X) (i : ℕ) (none : X) (texts later : List (Vec ℕ Global)) (text : Vec ℕ Global) (all : List (List ℕ)) → i < length xs →
    map (λ t. t.items) texts ++ map f (drop i xs) ≡ all → later ≡ texts ++ text ∷ [] → text.items ≡ f (get_or xs i none) → map (λ t. t.items) later ++ map f (drop (i + 1) xs) ≡ all
one_text_more f xs i none texts later text all there so_far at is =
    let made = map (λ t. t.items) texts in
    let rest = map f (drop (i + 1) xs) in
    ap (λ l. map (λ t. t.items) l ++ rest) at ∙ ap (λ l. l ++ rest) (map-append (λ t. t.items) texts (text ∷ [])) ∙ append_assoc made (text.items ∷ []) rest ∙ (λ k. made ++ is k ∷ rest)
    ∙ ap (λ l. made ++ map f l) (sym (opened xs i none there)) ∙ so_far
