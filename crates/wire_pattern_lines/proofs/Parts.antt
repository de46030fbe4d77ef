-- Words that list parts with commas between them.
use Rattle.std.proofs.Common.{◌≡◌, ◌∙◌, ap, sym, refl, ℕ, zero, suc, ◌<◌, List, [], ◌∷◌, ◌++◌, Bool, true, length, map, arith, get_or, codes}
use Rattle.std.specs.List.{list_all, slice_split, join_with_byte}
use Rattle.std.specs.Borrow.{Bor}
use Rattle.std.proofs.lemmas.List.Splits.{join_with_byte-slice_split, length-slice_split}
use Rattle.std.proofs.lemmas.List.Folds.{list_all-append}
use Rattle.wire_types.specs.Texts.{texts_of}
use Rattle.wire_lines.proofs.Colon.{and_left, and_right}
use Rattle.wire_lines.proofs.Joined.{no_comma, comma, AllPlain, name_plain, cut_joined}
use Rattle.wire_pattern_lines.specs.Said.{Proc, Caller, Each, Named, spelled_proc, is_lawful_proc, Item, One, Every, spelled_item, is_lawful_item}
use Rattle.wire_pattern_lines.specs.Said.{Set, Own, Listed, spelled_set, is_lawful_set}

module _ {X : Type 0} (spelled : X → List ℕ) (lawful : X → Bool) where
  -- one part that is none
  pub no_parts : (ps : List (Bor (List ℕ))) (i : ℕ) (d : Bor (List ℕ)) → i < length ps → ((x : X) → lawful x ≡ true → (get_or ps i d).now ≡ spelled x → ⊥)
      → (xs : List X) → list_all lawful xs ≡ true → texts_of ps ≡ map spelled xs → ⊥
  no_parts [] i d h none xs l e = absurd (omega arith)
  no_parts (p ∷ ps) i d h none [] l e = cc
  no_parts (p ∷ ps) zero d h none (x ∷ xs) l e = let first : p.now ≡ spelled x = cc in none x (and_left _ _ l) first
  no_parts (p ∷ ps) (suc i) d h none (x ∷ xs) l e =
      let rest : texts_of ps ≡ map spelled xs = cc in
      no_parts ps i d (omega arith) none xs (and_right _ _ l) rest

  pub lawful_more : {A : Type 0} (f : A → X) (xs : List A) (x : A) → list_all lawful (map f xs) ≡ true → lawful (f x) ≡ true → list_all lawful (map f (xs ++ x ∷ [])) ≡ true
  lawful_more f [] x l h = rw h refl
  lawful_more f (y ∷ ys) x l h =
      let first : lawful (f y) ≡ true = and_left _ _ l in
      let others : list_all lawful (map f (ys ++ x ∷ [])) ≡ true = lawful_more f ys x (and_right _ _ l) h in
      rw (first, others) refl

  module _ (plain : (x : X) → lawful x ≡ true → list_all no_comma (spelled x) ≡ true) where
    all_plain : (xs : List X) → list_all lawful xs ≡ true → AllPlain (map spelled xs)
    all_plain [] h = tt
    all_plain (x ∷ xs) h = (plain x (and_left _ _ h), all_plain xs (and_right _ _ h))

    -- a word that lists parts is cut into them
    pub cut_list : (xs : List X) → 0 < length xs → list_all lawful xs ≡ true → slice_split comma (join_with_byte 44 (map spelled xs)) ≡ map spelled xs
    cut_list [] some h = absurd (omega arith)
    cut_list (x ∷ xs) some h = cut_joined (spelled x) (map spelled xs) (all_plain (x ∷ xs) h)

    pub no_list : (word : List ℕ) → ((xs : List X) → list_all lawful xs ≡ true → slice_split comma word ≡ map spelled xs → ⊥)
        → (xs : List X) → 0 < length xs → list_all lawful xs ≡ true → word ≡ join_with_byte 44 (map spelled xs) → ⊥
    no_list word none xs some h e = none xs h (ap (slice_split comma) e ∙ cut_list xs some h)

  -- a word that is cut into parts lists them
  pub joined : (word : List ℕ) (xs : List X) → map spelled xs ≡ slice_split comma word → word ≡ join_with_byte 44 (map spelled xs)
  joined word xs e = sym (join_with_byte-slice_split 44 word) ∙ ap (join_with_byte 44) (sym e)

  pub some_parts : (word : List ℕ) (xs : List X) → map spelled xs ≡ slice_split comma word → 0 < length xs
  some_parts word [] e = let l = length-slice_split comma word in let z : length (slice_split comma word) ≡ 0 = ap length (sym e) in omega arith
  some_parts word (x ∷ xs) e = omega arith

pub some_mapped : {A B : Type 0} (f : A → B) (xs : List A) → 0 < length (map f xs) → 0 < length xs
some_mapped f [] h = h
some_mapped f (x ∷ xs) h = omega arith

pub length_mapped : {A B : Type 0} (f : A → B) (xs : List A) → 0 < length xs → 0 < length (map f xs)
length_mapped f [] h = h
length_mapped f (x ∷ xs) h = omega arith

pub proc_plain : (p : Proc) → is_lawful_proc p ≡ true → list_all no_comma (spelled_proc p) ≡ true
proc_plain Caller h = refl
proc_plain Each h = refl
proc_plain (Named role) h = name_plain role (and_right _ _ (and_left _ _ (and_left _ _ h)))

pub item_plain : (i : Item) → is_lawful_item i ≡ true → list_all no_comma (spelled_item i) ≡ true
item_plain (One p) h = proc_plain p h
item_plain (Every job) h =
    let front : list_all no_comma job ≡ true = name_plain job (and_right _ _ (and_left _ _ h)) in
    list_all-append no_comma job (codes ":*") ∙ rw front refl

-- a word that isn't `all`, and of which the parts aren't items
pub no_set : (word : List ℕ) → (word ≡ codes "all" → ⊥) → ((is : List Item) → list_all is_lawful_item is ≡ true → slice_split comma word ≡ map spelled_item is → ⊥)
    → (s : Set) → is_lawful_set s ≡ true → word ≡ spelled_set s → ⊥
no_set word all none Own h e = all e
no_set word all none (Listed []) h e = cc
no_set word all none (Listed (i ∷ is)) h e = no_list spelled_item is_lawful_item item_plain word none (i ∷ is) (omega arith) h e

-- items that are there are a lawful set
pub lawful_set : (is : List Item) → 0 < length is → list_all is_lawful_item is ≡ true → is_lawful_set (Listed is) ≡ true
lawful_set [] some h = absurd (omega arith)
lawful_set (i ∷ is) some h = h
