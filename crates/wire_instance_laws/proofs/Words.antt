-- Words with processes in brackets: which are reserved, and that no two have one text.
use Rattle.std.proofs.Common.{◌≡◌, ap, sym, subst, refl, ℕ, List, [], ◌∷◌, ◌++◌, map, take, length, codes, Bool, true, false, arith, true≢false}
use Rattle.std.specs.Prelude.{◌==◌, ◌&&◌, ◌||◌, not}
use Rattle.std.specs.List.{list_all, join_with_byte}
use Rattle.std.specs.Str.{bytes_eq}
use Rattle.wire_types.specs.Said as said
use Rattle.wire_types.specs.Said.{begins_with, is_reserved, is_word, is_key, spelled_item, spelled_set, AreLawful, Calls, first_word, other_words, IsLawfulLine}
use Rattle.wire_lines.proofs.Colon.{and_left, and_right}
use Rattle.wire_lines.proofs.SaysOnce.{says_once}
use Rattle.wire_pattern.specs.Instances.{indexed_text}
use Rattle.wire_pattern.specs.Lawful.{is_plain_byte, is_base}

-- a text without a bracket begins with no more where one follows
begins_plain : (front base rest : List ℕ) → list_all (λ b. not (b == 91)) front ≡ true → begins_with front (base ++ 91 ∷ rest) ≡ begins_with front base
begins_plain [] base rest h = refl
begins_plain (f ∷ fs) [] rest h = first f (bytes_eq fs (take (length fs) rest)) (and_left _ _ h)
  where
    first : (f : ℕ) (b : Bool) → not (f == 91) ≡ true → ((f == 91) && b) ≡ false
    first f b = elim (f == 91) as (λ t. not t ≡ true → (t && b) ≡ false) [ true ↦ λ e. absurd (true≢false (sym e)) | false ↦ λ e. refl ]
begins_plain (f ∷ fs) (b ∷ bs) rest h = ap (λ t. (f == b) && t) (begins_plain fs bs rest (and_right (not (f == 91)) _ h))

pub reserved_is : (base : List ℕ) (texts : List (List ℕ)) → is_reserved (indexed_text base texts) ≡ is_reserved base
unfolding is_reserved
reserved_is base [] = refl
reserved_is base (t ∷ ts) =
    let rest = join_with_byte 44 (t ∷ ts) ++ 93 ∷ [] in
    λ i. begins_plain (codes "pmix") base rest refl i || begins_plain (codes "PMIX_") base rest refl i

-- two cuts at a first bracket are one
no_plain_bracket : (z : ℕ) → 91 ≡ z → is_plain_byte z ≡ true → ⊥
no_plain_bracket z e h = let bad : is_plain_byte 91 ≡ true = subst (λ n. is_plain_byte n ≡ true) (sym e) h in cc

bracket_once : (xs ys zs ws : List ℕ) → list_all is_plain_byte xs ≡ true → list_all is_plain_byte zs ≡ true → xs ++ 91 ∷ ys ≡ zs ++ 91 ∷ ws → (xs ≡ zs) × (ys ≡ ws)
bracket_once [] ys [] ws p q e = (refl, cc)
bracket_once [] ys (z ∷ zs) ws p q e = absurd (no_plain_bracket z (cc) (and_left _ _ q))
bracket_once (x ∷ xs) ys [] ws p q e = absurd (no_plain_bracket x (cc) (and_left _ _ p))
bracket_once (x ∷ xs) ys (z ∷ zs) ws p q e =
    let heads : x ≡ z = cc in
    let tails : xs ++ 91 ∷ ys ≡ zs ++ 91 ∷ ws = cc in
    let rest = bracket_once xs ys zs ws (and_right (is_plain_byte x) _ p) (and_right (is_plain_byte z) _ q) tails in
    let front : xs ≡ zs = rest.0 in
    let more : x ∷ xs ≡ z ∷ zs = cc in
    (more, rest.1)

-- a text without brackets has none
no_bracket : (base xs ys : List ℕ) → list_all is_plain_byte base ≡ true → base ≡ xs ++ 91 ∷ ys → ⊥
no_bracket [] [] ys h e = cc
no_bracket [] (x ∷ xs) ys h e = cc
no_bracket (b ∷ bs) [] ys h e = no_plain_bracket b (let f : 91 ≡ b = cc in f) (and_left _ _ h)
no_bracket (b ∷ bs) (x ∷ xs) ys h e = no_bracket bs xs ys (and_right (is_plain_byte b) _ h) (let f : bs ≡ xs ++ 91 ∷ ys = cc in f)

same_end : (xs ys : List ℕ) → xs ++ 93 ∷ [] ≡ ys ++ 93 ∷ [] → xs ≡ ys
same_end [] [] e = refl
same_end [] (y ∷ []) e = absurd (cc)
same_end [] (y ∷ z ∷ ys) e = absurd (cc)
same_end (x ∷ []) [] e = absurd (cc)
same_end (x ∷ z ∷ xs) [] e = absurd (cc)
same_end (x ∷ xs) (y ∷ ys) e =
    let heads : x ≡ y = cc in
    let tails : xs ++ 93 ∷ [] ≡ ys ++ 93 ∷ [] = cc in
    let rest = same_end xs ys tails in
    cc

plain_base : (base : List ℕ) → is_base base ≡ true → list_all is_plain_byte base ≡ true
plain_base base h = and_right (is_key base) _ h

-- lists of processes are told apart by their text: they are the sets of fences
joined_once : (a b : said.Item) (is js : List said.Item) → AreLawful (a ∷ is) → AreLawful (b ∷ js) → join_with_byte 44 (map spelled_item (a ∷ is)) ≡ join_with_byte 44 (map spelled_item (b ∷ js))
    → a ∷ is ≡ b ∷ js
joined_once a b is js la lb e =
    let one : said.Said = Calls (said.Fence (said.Listed (a ∷ is)) false) in
    let two : said.Said = Calls (said.Fence (said.Listed (b ∷ js)) false) in
    let words : first_word one ∷ other_words one ≡ first_word two ∷ other_words two = ap (λ w. first_word one ∷ (w ∷ [])) e in
    let same : one ≡ two = says_once (first_word one ∷ other_words one) one two (refl, (omega arith, la)) (words, (omega arith, lb)) in
    cc

pub indexed_once : (base other : List ℕ) (is js : List said.Item) → is_base base ≡ true → is_base other ≡ true → AreLawful is → AreLawful js
    → indexed_text base (map spelled_item is) ≡ indexed_text other (map spelled_item js) → (base ≡ other) × (is ≡ js)
indexed_once base other [] [] h k la lb e = (e, refl)
indexed_once base other [] (j ∷ js) h k la lb e = absurd (no_bracket base other _ (plain_base base h) e)
indexed_once base other (i ∷ is) [] h k la lb e = absurd (no_bracket other base _ (plain_base other k) (sym e))
indexed_once base other (i ∷ is) (j ∷ js) h k la lb e =
    let cut = bracket_once base _ other _ (plain_base base h) (plain_base other k) e in
    (cut.0, joined_once i j is js la lb (same_end _ _ cut.1))
