-- Lines are written one process, or one call, after the other.
use Rattle.std.proofs.Common.{◌≡◌, ◌∙◌, ap, sym, ℕ, ◌+◌, ◌<◌, List, [], ◌∷◌, ◌++◌, Bool, true, false, cond, length, map, filter, flat_map, drop, drop-cons, get_or, add-one, append_assoc, append-nil}
use Rattle.std.proofs.lemmas.Grind.{flat_map-append}
use Rattle.wire_types.specs.Said as said
use Rattle.wire_scripts.specs.Canonical.{line_text}

opened : {A : Type 0} (xs : List A) (n : ℕ) (x : A) → n < length xs → x ≡ get_or xs n x → drop n xs ≡ x ∷ drop (n + 1) xs
opened xs n x there is = drop-cons xs n x there ∙ ap (λ m. get_or xs n x ∷ drop m xs) (sym (add-one n)) ∙ ap (λ y. y ∷ drop (n + 1) xs) (sym is)

-- what was written before, what is written now, and what is left
moved : (old now : List ℕ) (written left : List said.Said) (all : List ℕ) → now ≡ old ++ flat_map line_text written → old ++ flat_map line_text (written ++ left) ≡ all
    → now ++ flat_map line_text left ≡ all
moved old now written left all more h =
    ap (λ t. t ++ flat_map line_text left) more
    ∙ append_assoc old (flat_map line_text written) (flat_map line_text left)
    ∙ ap (λ t. old ++ t) (sym (flat_map-append line_text written left))
    ∙ h

-- a line before others is written
pub first_line : (line : said.Said) (words old now : List ℕ) (left right : List said.Said) → now ≡ old ++ words → words ≡ line_text line → left ≡ right
    → now ++ flat_map line_text left ≡ old ++ flat_map line_text (line ∷ right)
first_line line words old now left right more is same =
    moved old now (line ∷ []) left (old ++ flat_map line_text (line ∷ right)) (more ∙ ap (λ t. old ++ t) (is ∙ sym (append-nil (line_text line))))
    (ap (λ ls. old ++ flat_map line_text (line ∷ ls)) same)

-- the line of one more element is written
pub one_line : {A : Type 0} (line : A → said.Said) (xs : List A) (n : ℕ) (d : A) (old now all : List ℕ) → n < length xs
    → now ≡ old ++ line_text (line (get_or xs n d))
    → old ++ flat_map line_text (map line (drop n xs)) ≡ all
    → now ++ flat_map line_text (map line (drop (n + 1) xs)) ≡ all
one_line line xs n d old now all there more h =
    ap (λ t. t ++ flat_map line_text (map line (drop (n + 1) xs))) more
    ∙ append_assoc old (line_text (line (get_or xs n d))) (flat_map line_text (map line (drop (n + 1) xs)))
    ∙ ap (λ ys. old ++ flat_map line_text (map line ys)) (sym (drop-cons xs n d there ∙ ap (λ m. get_or xs n d ∷ drop m xs) (sym (add-one n))))
    ∙ h

-- the lines of one more element are written, which the test chose
pub one_chosen : {A : Type 0} (test : A → Bool) (lines : A → List said.Said) (xs : List A) (n : ℕ) (x : A) (old now all : List ℕ) → n < length xs → x ≡ get_or xs n x
    → test x ≡ true
    → now ≡ old ++ flat_map line_text (lines x)
    → old ++ flat_map line_text (flat_map lines (filter test (drop n xs))) ≡ all
    → now ++ flat_map line_text (flat_map lines (filter test (drop (n + 1) xs))) ≡ all
one_chosen test lines xs n x old now all there is chosen more h =
    moved old now (lines x) (flat_map lines (filter test (drop (n + 1) xs))) all more
    (ap (λ ys. old ++ flat_map line_text (flat_map lines ys)) (sym (ap (filter test) (opened xs n x there is) ∙ ap (λ b. cond b (x ∷ filter test (drop (n + 1) xs)) (filter test (drop (n + 1) xs))) chosen)) ∙ h)

-- one more element has no lines, since the test left it out
pub one_left : {A : Type 0} (test : A → Bool) (lines : A → List said.Said) (xs : List A) (n : ℕ) (x : A) (old all : List ℕ) → n < length xs → x ≡ get_or xs n x
    → test x ≡ false
    → old ++ flat_map line_text (flat_map lines (filter test (drop n xs))) ≡ all
    → old ++ flat_map line_text (flat_map lines (filter test (drop (n + 1) xs))) ≡ all
one_left test lines xs n x old all there is other h =
    ap (λ ys. old ++ flat_map line_text (flat_map lines ys))
    (sym (ap (filter test) (opened xs n x there is) ∙ ap (λ b. cond b (x ∷ filter test (drop (n + 1) xs)) (filter test (drop (n + 1) xs))) other)) ∙ h
