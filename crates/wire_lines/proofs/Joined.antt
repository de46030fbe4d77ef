-- Items joined by commas.
use Rattle.std.proofs.Common.{◌≡◌, ◌∙◌, ap, sym, subst, refl, ℕ, ◌+◌, ◌<◌, ◌^◌, List, [], ◌∷◌, ◌++◌, Bool, true, false, cond, length, map, decimal, arith, true≢false, rules, zero, suc, get_or, take}
use Rattle.std.proofs.Common.{◌*◌, ◌-◌, codes}
use Rattle.std.specs.Prelude.{◌==◌, not, ◌&&◌, ◌||◌}
use Rattle.std.specs.List.{list_all, slice_split, onto_first, join_with_byte}
use Rattle.std.specs.Str.{all_ascii_digits}
use Rattle.std.specs.Char.{is_ascii_digit}
use Rattle.std.proofs.lemmas.Fmt.{digits_decimal}
use Rattle.std.proofs.lemmas.Str.Parse.{numerals_by_fold, IsNumeralModel}
use Rattle.std.proofs.lemmas.List.Folds.{list_all-append}
use Rattle.std.proofs.lemmas.List.Splits.{join_with_byte-slice_split, length-slice_split}
use Rattle.std.proofs.lemmas.Grind.{common_steps}
use Rattle.std.specs.Borrow.{Bor}
use Rattle.wire_types.specs.Said.{is_name, is_name_byte, is_word_byte}
use Rattle.wire_lines.proofs.Colon.{plain, names_plain, cut_once, and_left, and_right}
use Rattle.wire_types.specs.Said.{Item, One, Every, Set, Own, Listed, spelled_item, IsLawfulItem, AreLawful, spelled_set, IsLawfulSet}
use Rattle.wire_types.specs.Texts.{texts_of}

abbrev pub no_comma : ℕ → Bool
no_comma b = not (b == 44)

abbrev pub comma : ℕ → Bool
comma b = b == 44

split_none : (xs : List ℕ) → list_all no_comma xs ≡ true → slice_split comma xs ≡ xs ∷ []
split_none [] h = refl
split_none (x ∷ xs) h =
    elim (x == 44) as (λ t. (not t && list_all no_comma xs) ≡ true → cond t ([] ∷ slice_split comma xs) (onto_first x (slice_split comma xs)) ≡ (x ∷ xs) ∷ []) [
      | true ↦ λ e. absurd (true≢false (sym e))
      | false ↦ λ e. ap (onto_first x) (split_none xs e)
    ] h

split_front : (xs ys : List ℕ) → list_all no_comma xs ≡ true → slice_split comma (xs ++ 44 ∷ ys) ≡ xs ∷ slice_split comma ys
split_front [] ys h = refl
split_front (x ∷ xs) ys h =
    elim (x == 44) as (λ t. (not t && list_all no_comma xs) ≡ true →
    cond t ([] ∷ slice_split comma (xs ++ 44 ∷ ys)) (onto_first x (slice_split comma (xs ++ 44 ∷ ys))) ≡ (x ∷ xs) ∷ slice_split comma ys) [
      | true ↦ λ e. absurd (true≢false (sym e))
      | false ↦ λ e. ap (onto_first x) (split_front xs ys e)
    ] h

abbrev pub AllPlain : List (List ℕ) → Type 0
AllPlain [] = Unit {0}
AllPlain (w ∷ ws) = (list_all no_comma w ≡ true) × AllPlain ws

-- words without commas, joined by commas, are cut into these words
pub cut_joined : (w : List ℕ) (ws : List (List ℕ)) → AllPlain (w ∷ ws) → slice_split comma (join_with_byte 44 (w ∷ ws)) ≡ w ∷ ws
cut_joined w [] h = split_none w h.0
cut_joined w (v ∷ vs) h = split_front w (join_with_byte 44 (v ∷ vs)) h.0 ∙ ap (λ t. w ∷ t) (cut_joined v vs h.1)

-- a word that is cut at its first colon and is no item
pub no_item : (word job rest : List ℕ) → word ≡ job ++ 58 ∷ rest → list_all plain job ≡ true
    → (is_name job ≡ true → rest ≡ 42 ∷ [] → ⊥) → (is_name job ≡ true → (n : ℕ) → n < 10 ^ 9 → rest ≡ decimal n → ⊥)
    → (i : Item) → IsLawfulItem i → word ≡ spelled_item i → ⊥
no_item word job rest is first star rank (One j r) lawful e =
    let p = cut_once job rest j (decimal r) first (names_plain j (and_right _ _ lawful.0)) (sym is ∙ e) in
    rank (subst (λ x. is_name x ≡ true) (sym p.0) lawful.0) r lawful.1 p.1
no_item word job rest is first star rank (Every j) lawful e =
    let p = cut_once job rest j (42 ∷ []) first (names_plain j (and_right _ _ lawful)) (sym is ∙ e) in
    star (subst (λ x. is_name x ≡ true) (sym p.0) lawful) p.1

pub no_colon_item : (word : List ℕ) → ((a b : List ℕ) → word ≡ a ++ 58 ∷ b → ⊥) → (i : Item) → IsLawfulItem i → word ≡ spelled_item i → ⊥
no_colon_item word none (One j r) lawful e = none j (decimal r) e
no_colon_item word none (Every j) lawful e = none j (42 ∷ []) e

abbrev read_on : ℕ → List ℕ → ℕ
read_on n [] = n
read_on n (c ∷ cs) = read_on (10 * n + (c - 48)) cs

own : IsNumeralModel (λ ds. all_ascii_digits ds ≡ true) (read_on 0)
own = numerals_by_fold _ (search rules) read_on (search rules)

digit_plain : (b : ℕ) → is_ascii_digit b ≡ true → no_comma b ≡ true
digit_plain b =
    elim (b == 44) as (λ t. (b == 44) ≡ t → is_ascii_digit b ≡ true → not t ≡ true) [
      | true ↦ λ e h. search (rules, e)
      | false ↦ λ e h. refl
    ] refl

digits_plain : (xs : List ℕ) → all_ascii_digits xs ≡ true → list_all no_comma xs ≡ true
digits_plain [] h = refl
digits_plain (x ∷ xs) h =
    let head : no_comma x ≡ true = digit_plain x (and_left _ _ h) in
    let rest : list_all no_comma xs ≡ true = digits_plain xs (and_right _ _ h) in
    rw (head, rest) refl

pub decimal_digits : (n : ℕ) → n < 10 ^ 9 → all_ascii_digits (decimal n) ≡ true
decimal_digits n h = digits_decimal own n (omega arith)

decimal_plain : (n : ℕ) → n < 10 ^ 9 → list_all no_comma (decimal n) ≡ true
decimal_plain n h = digits_plain (decimal n) (decimal_digits n h)

name_byte_plain : (b : ℕ) → is_name_byte b ≡ true → no_comma b ≡ true
name_byte_plain b =
    elim (b == 44) as (λ t. (is_word_byte b && not (b == 58 || t || b == 35 || b == 42)) ≡ true → not t ≡ true) [
      | true ↦ λ e. comma_in (is_word_byte b) (b == 58) e
      | false ↦ λ e. refl
    ]
  where
    comma_in : (w c : Bool) → (w && not (c || true || b == 35 || b == 42)) ≡ true → false ≡ true
    comma_in true true e = e
    comma_in true false e = e
    comma_in false c e = e

pub name_plain : (xs : List ℕ) → list_all is_name_byte xs ≡ true → list_all no_comma xs ≡ true
name_plain [] h = refl
name_plain (x ∷ xs) h =
    let head : no_comma x ≡ true = name_byte_plain x (and_left _ _ h) in
    let rest : list_all no_comma xs ≡ true = name_plain xs (and_right _ _ h) in
    rw (head, rest) refl

item_plain : (i : Item) → IsLawfulItem i → list_all no_comma (spelled_item i) ≡ true
item_plain (One j r) h =
    let front : list_all no_comma j ≡ true = name_plain j (and_right _ _ h.0) in
    let back : list_all no_comma (decimal r) ≡ true = decimal_plain r h.1 in
    list_all-append no_comma j (58 ∷ decimal r) ∙ rw (front, back) refl
item_plain (Every j) h =
    let front : list_all no_comma j ≡ true = name_plain j (and_right _ _ h) in
    list_all-append no_comma j (58 ∷ 42 ∷ []) ∙ rw front refl

items_plain : (is : List Item) → AreLawful is → AllPlain (map spelled_item is)
items_plain [] h = tt
items_plain (i ∷ is) h = (item_plain i h.0, items_plain is h.1)

-- a word that lists items is cut into them
pub cut_items : (is : List Item) → 0 < length is → AreLawful is → slice_split comma (join_with_byte 44 (map spelled_item is)) ≡ map spelled_item is
cut_items [] some h = absurd (omega arith)
cut_items (i ∷ is) some h = cut_joined (spelled_item i) (map spelled_item is) (items_plain (i ∷ is) h)

-- one part that is no item
pub no_items : (ps : List (Bor (List ℕ))) (i : ℕ) (d : Bor (List ℕ)) → i < length ps → ((x : Item) → IsLawfulItem x → (get_or ps i d).now ≡ spelled_item x → ⊥)
    → (is : List Item) → AreLawful is → texts_of ps ≡ map spelled_item is → ⊥
no_items [] i d h none is l e = absurd (omega arith)
no_items (p ∷ ps) i d h none [] l e = cc
no_items (p ∷ ps) zero d h none (x ∷ xs) l e = let first : p.now ≡ spelled_item x = cc in none x l.0 first
no_items (p ∷ ps) (suc i) d h none (x ∷ xs) l e =
    let rest : texts_of ps ≡ map spelled_item xs = cc in
    no_items ps i d (omega arith) none xs l.1 rest

pub lawful_push : (is : List Item) (i : Item) → AreLawful is → IsLawfulItem i → AreLawful (is ++ i ∷ [])
lawful_push [] i l h = (h, tt)
lawful_push (x ∷ xs) i l h = (l.0, lawful_push xs i l.1 h)

-- a word that isn't `all`, and of which the parts aren't items
pub no_set : (word : List ℕ) → (word ≡ codes "all" → ⊥) → ((is : List Item) → AreLawful is → slice_split comma word ≡ map spelled_item is → ⊥)
    → (s : Set) → IsLawfulSet s → word ≡ spelled_set s → ⊥
no_set word all none Own h e = all e
no_set word all none (Listed is) h e = none is h.1 (ap (slice_split comma) e ∙ cut_items is h.0 h.1)

-- a word of which the parts are items
pub joined : (word : List ℕ) (is : List Item) → slice_split comma word ≡ map spelled_item is → word ≡ join_with_byte 44 (map spelled_item is)
joined word is e = sym (join_with_byte-slice_split 44 word) ∙ ap (join_with_byte 44) e

pub some_items : (word : List ℕ) (is : List Item) → slice_split comma word ≡ map spelled_item is → 0 < length is
some_items word [] e = let l = length-slice_split comma word in let z : length (slice_split comma word) ≡ 0 = ap length e in omega arith
some_items word (i ∷ is) e = omega arith

pub lawful_more : {A : Type 0} (f : A → Item) (xs : List A) (x : A) → AreLawful (map f xs) → IsLawfulItem (f x) → AreLawful (map f (xs ++ x ∷ []))
lawful_more f [] x l h = (h, tt)
lawful_more f (y ∷ ys) x l h = (l.0, lawful_more f ys x l.1 h)

pub spelt_more : {A B C : Type 0} (f : A → C) (h : C → List ℕ) (g : B → List ℕ) (out : List A) (xs : List B) (i : ℕ) (x : A) (d : B) → i < length xs
    → map h (map f out) ≡ map g (take i xs) → g (get_or xs i d) ≡ h (f x) → map h (map f (out ++ x ∷ [])) ≡ map g (take (i + 1) xs)
spelt_more f h g out xs i x d lt e last = grind (arith, common_steps)
