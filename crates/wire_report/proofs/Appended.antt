-- Texts that are appended piece by piece, and the room for them.
use Rattle.std.proofs.Common.{◌≡◌, ◌∙◌, ap, sym, ℕ, ◌+◌, ◌<◌, ◌≤◌, List, [], ◌∷◌, ◌++◌, ◌⊎◌, inl, inr, append_assoc, append-nil, length, length-append, arith, flat_map, map, drop, drop-cons, get_or, add-one, cond, is_ok}
use Rattle.std.proofs.Common.{Result, Ok, Err, OnOk, OnErr, Vec, Global, vec_len, vec_capacity}
use Rattle.std.proofs.lemmas.List.{map_push}

-- one piece more
pub then_more : (start one new a b : List ℕ) → one ≡ start ++ a → new ≡ one ++ b → new ≡ start ++ (a ++ b)
then_more start one new a b first second = second ∙ ap (λ t. t ++ b) first ∙ append_assoc start a b

-- the last piece, by a function that may fail
pub last_more : {A E : Type 0} (r : Result A E) (start one new a b text : List ℕ) → one ≡ start ++ a → OnOk r (new ≡ one ++ b) → a ++ b ≡ text → OnOk r (new ≡ start ++ text)
last_more (Ok x) start one new a b text first second same = then_more start one new a b first second ∙ ap (λ t. start ++ t) same
last_more (Err e) start one new a b text first second same = tt

-- the last piece, which is copied
pub last_slice : {A E : Type 0} (r : Result A E) (start one new a b text : List ℕ) → one ≡ start ++ a → new ≡ cond (is_ok r) (one ++ b) one → a ++ b ≡ text → OnOk r (new ≡ start ++ text)
last_slice (Ok x) start one new a b text first second same = then_more start one new a b first second ∙ ap (λ t. start ++ t) same
last_slice (Err e) start one new a b text first second same = tt

-- the last two pieces, by a function that may fail
pub last_two : {A E : Type 0} (r : Result A E) (start one new a b c text : List ℕ) → one ≡ start ++ a → OnOk r (new ≡ one ++ b ++ c) → a ++ b ++ c ≡ text → OnOk r (new ≡ start ++ text)
last_two (Ok x) start one new a b c text first second same =
    second ∙ ap (λ t. t ++ b ++ c) first ∙ ap (λ t. t ++ c) (append_assoc start a b) ∙ append_assoc start (a ++ b) c ∙ ap (λ t. start ++ t) same
last_two (Err e) start one new a b c text first second same = tt

-- what has no room for the first piece has none for both
pub no_room_at_first : {A E : Type 0} (r : Result A E) (capacity : ℕ) (start a b text : List ℕ) → capacity < length start + length a → a ++ b ≡ text →
    OnErr r (capacity < length start + length text)
no_room_at_first (Ok x) capacity start a b text full same = tt
no_room_at_first (Err e) capacity start a b text full same = omega (arith, full, length-append a b, ap length same)

-- and so has what has none for the second, behind the first
pub no_room_at_last : {A E : Type 0} (r : Result A E) (capacity grown : ℕ) (start one a b text : List ℕ) → one ≡ start ++ a → capacity ≤ grown → OnErr r (grown < length one + length b) →
    a ++ b ≡ text → OnErr r (capacity < length start + length text)
no_room_at_last (Ok x) capacity grown start one a b text first more full same = tt
no_room_at_last (Err e) capacity grown start one a b text first more full same = omega (arith, full, more, ap length first, length-append start a, length-append a b, ap length same)

-- the same, where one of two may have no room for the first piece
pub either_has_none : {A E : Type 0} (r : Result A E) (capacity kept : ℕ) (start a b text : List ℕ) → (capacity < length start + length a) ⊎ (kept < length a) → a ++ b ≡ text →
    OnErr r ((capacity < length start + length text) ⊎ (kept < length text))
either_has_none (Ok x) capacity kept start a b text full same = tt
either_has_none (Err e) capacity kept start a b text full same =
    elim full [ inl here ↦ inl (omega (arith, here, length-append a b, ap length same)) | inr there ↦ inr (omega (arith, there, length-append a b, ap length same)) ]

-- and where the first has none for what follows
pub first_has_none : {A E : Type 0} (r : Result A E) (P Q : Type 0) → OnErr r P → OnErr r (P ⊎ Q)
first_has_none (Ok x) P Q full = tt
first_has_none (Err e) P Q full = inl full

opened : {X : Type 0} (xs : List X) (i : ℕ) (d : X) → i < length xs → drop i xs ≡ get_or xs i d ∷ drop (i + 1) xs
opened xs i d there = drop-cons xs i d there ∙ ap (λ m. get_or xs i d ∷ drop m xs) (sym (add-one i))

-- the text of one more element is written
pub next_text : {X : Type 0} (f : X → List ℕ) (xs : List X) (i : ℕ) (d : X) (old new all : List ℕ) → i < length xs → all ≡ old ++ flat_map f (drop i xs) → new ≡ old ++ f (get_or xs i d) →
    all ≡ new ++ flat_map f (drop (i + 1) xs)
next_text f xs i d old new all there before written =
    before ∙ ap (λ ys. old ++ flat_map f ys) (opened xs i d there) ∙ sym (append_assoc old (f (get_or xs i d)) (flat_map f (drop (i + 1) xs)))
    ∙ sym (ap (λ t. t ++ flat_map f (drop (i + 1) xs)) written)

-- the same of what a function gives for it
pub next_mapped : {X M : Type 0} (f : M → List ℕ) (g : X → M) (xs : List X) (i : ℕ) (d : X) (old new all : List ℕ) → i < length xs → all ≡ old ++ flat_map f (map g (drop i xs)) →
    new ≡ old ++ f (g (get_or xs i d)) → all ≡ new ++ flat_map f (map g (drop (i + 1) xs))
next_mapped f g xs i d old new all there before written =
    before ∙ ap (λ ys. old ++ flat_map f (map g ys)) (opened xs i d there) ∙ sym (append_assoc old (f (g (get_or xs i d))) (flat_map f (map g (drop (i + 1) xs))))
    ∙ sym (ap (λ t. t ++ flat_map f (map g (drop (i + 1) xs))) written)

-- one more element is made
pub next_made : {X M Y : Type 0} (f : M → Y) (g : X → M) (xs : List X) (i : ℕ) (d : X) (old new all : List Y) (made : Y) → i < length xs → old ++ map f (map g (drop i xs)) ≡ all →
    made ≡ f (g (get_or xs i d)) → new ≡ old ++ made ∷ [] → new ++ map f (map g (drop (i + 1) xs)) ≡ all
next_made f g xs i d old new all made there before is pushed =
    ap (λ t. t ++ map f (map g (drop (i + 1) xs))) pushed ∙ append_assoc old (made ∷ []) (map f (map g (drop (i + 1) xs)))
    ∙ ap (λ y. old ++ y ∷ map f (map g (drop (i + 1) xs))) is
    ∙ sym (ap (λ ys. old ++ map f (map g ys)) (opened xs i d there))
    ∙ before

-- the words of one more element are made, from no words
pub next_words : {X W : Type 0} (text : W → List ℕ) (f : X → List ℕ) (xs : List X) (i : ℕ) (d : X) (old new : List W) (made : W) (empty : List ℕ) (all : List (List ℕ)) → i < length xs →
    map text old ++ map f (drop i xs) ≡ all → empty ≡ [] → text made ≡ empty ++ f (get_or xs i d) → new ≡ old ++ made ∷ [] → map text new ++ map f (drop (i + 1) xs) ≡ all
next_words text f xs i d old new made empty all there before none is pushed =
    ap (λ ws. map text ws ++ map f (drop (i + 1) xs)) pushed ∙ ap (λ t. t ++ map f (drop (i + 1) xs)) (map_push text old made)
    ∙ append_assoc (map text old) (text made ∷ []) (map f (drop (i + 1) xs))
    ∙ ap (λ y. map text old ++ y ∷ map f (drop (i + 1) xs)) (is ∙ ap (λ t. t ++ f (get_or xs i d)) none)
    ∙ sym (ap (λ ys. map text old ++ map f ys) (opened xs i d there))
    ∙ before

-- what has no room for a piece that is copied has none for more
pub no_room_for_slice : {A E : Type 0} (r : Result A E) (v : Vec ℕ Global) (a b text : List ℕ) → vec_capacity v < vec_len v + length a → a ++ b ≡ text →
    OnErr r (vec_capacity v < length v.items + length text)
no_room_for_slice (Ok x) v a b text full same = tt
no_room_for_slice (Err e) v a b text full same = omega (arith, full, v.ok.0, length-append a b, ap length same)

-- what has no room for the second of three pieces has none for all
pub no_room_early : {A E : Type 0} (r : Result A E) (capacity grown : ℕ) (start one a b c text : List ℕ) → one ≡ start ++ a → capacity ≤ grown → grown < length one + length b →
    (a ++ b) ++ c ≡ text → OnErr r (capacity < length start + length text)
no_room_early (Ok x) capacity grown start one a b c text first more full same = tt
no_room_early (Err e) capacity grown start one a b c text first more full same =
    omega (arith, full, more, ap length first, length-append start a, length-append a b, length-append (a ++ b) c, ap length same)

-- the same, where the second is copied
pub no_room_early_slice : {A E : Type 0} (r : Result A E) (capacity : ℕ) (v : Vec ℕ Global) (start a b c text : List ℕ) → v.items ≡ start ++ a → capacity ≤ vec_capacity v →
    vec_capacity v < vec_len v + length b → (a ++ b) ++ c ≡ text → OnErr r (capacity < length start + length text)
no_room_early_slice (Ok x) capacity v start a b c text first more full same = tt
no_room_early_slice (Err e) capacity v start a b c text first more full same =
    omega (arith, full, more, v.ok.0, ap length first, length-append start a, length-append a b, length-append (a ++ b) c, ap length same)

-- and where it is the last
pub no_room_for_last_slice : {A E : Type 0} (r : Result A E) (capacity : ℕ) (v : Vec ℕ Global) (start a b text : List ℕ) → v.items ≡ start ++ a → capacity ≤ vec_capacity v →
    OnErr r (vec_capacity v < vec_len v + length b) → a ++ b ≡ text → OnErr r (capacity < length start + length text)
no_room_for_last_slice (Ok x) capacity v start a b text first more full same = tt
no_room_for_last_slice (Err e) capacity v start a b text first more full same =
    omega (arith, full, more, v.ok.0, ap length first, length-append start a, length-append a b, ap length same)

-- where nothing is left, all is written
pub none_left : {Y : Type 0} (old rest all : List Y) → rest ≡ [] → old ++ rest ≡ all → old ≡ all
none_left old rest all none before = sym (append-nil old) ∙ ap (λ t. old ++ t) (sym none) ∙ before
