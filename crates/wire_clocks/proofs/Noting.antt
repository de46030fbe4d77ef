-- Clocks stay what they are where rows and notes are added.
use Rattle.std.proofs.Common.{◌≡◌, ◌∙◌, ◌^◌, ◌/◌, ◌%◌, ◌-◌, ◌<◌, ◌≤◌, ◌==◌, ℕ, zero, suc, List, Some, None, length, max, refl, sym, ap, subst, arith, inl, inr}
use Rattle.std.specs.Prelude.{Bool, true, false, Option, ◌&&◌, nat_lt, slice_get, if◌then◌else◌}
use Rattle.std.specs.List.{list_all}
use Rattle.std.proofs.lemmas.Bool.{and_from, and_parts, cases_eq, cases_lt, cond-true, cond-false, eq-eqb, ne_eqb, eqb-true, ltb-true, lt-ltb}
use Rattle.std.proofs.lemmas.List.{get_or_past}
use Rattle.std.proofs.lemmas.List.Elements.{All-get_or, All-from_get_or}
use Rattle.std.proofs.lemmas.List.Sums.{AllPass-from_list_all, list_all-from_AllPass}
use Rattle.std.proofs.lemmas.Option.{slice_get_past}
use Rattle.wire_clocks.specs.declared.notes.Note.{Note}
use Rattle.wire_clocks.specs.Rows.{entry, numbers_in, tree_says, is_tree, IsTree, IsZero, KeepsRows}
use Rattle.wire_clocks.specs.Notes.{note_at, next_note, raised_at, number_by_note, stands_by_note, clock_number, clock_stands, is_top, KeepsNotes, IsNotedClock}
use Rattle.wire_clocks.proofs.Growing.{says_kept, tree_kept, tree_of_zeros, keeps_itself}

-- the test finds trees
pub tree_found : (rows : List (List ℕ)) → IsZero rows → (k tree : ℕ) → is_tree rows k tree ≡ true → IsTree rows k tree
unfolding is_tree IsTree
tree_found rows z zero tree e = tt
tree_found rows z (suc k) tree e =
    let numbers = numbers_in (slice_get rows tree) in
    let both = and_parts (nat_lt tree (length rows)) (list_all (is_tree rows k) numbers) e in (
      ltb-true tree (length rows) both.0,
      λ i. elim (cases_lt i (length numbers)) [
        | inl lt ↦ tree_found rows z k (entry rows tree i) (All-get_or (λ n. is_tree rows k n ≡ true) numbers i 0 lt (AllPass-from_list_all (is_tree rows k) numbers both.1))
        | inr ge ↦ subst (IsTree rows k) (sym (get_or_past numbers i 0 ge)) (tree_of_zeros rows z k)
      ],
    )

pub tree_passes : (rows : List (List ℕ)) (k tree : ℕ) → IsTree rows k tree → is_tree rows k tree ≡ true
unfolding is_tree IsTree
tree_passes rows zero tree t = refl
tree_passes rows (suc k) tree t =
    let numbers = numbers_in (slice_get rows tree) in
    and_from (nat_lt tree (length rows)) (list_all (is_tree rows k) numbers) (lt-ltb tree (length rows) t.0)
    (list_all-from_AllPass (is_tree rows k) numbers (All-from_get_or (λ n. is_tree rows k n ≡ true) numbers 0 (λ i lt. tree_passes rows k (entry rows tree i) (t.1 i))))

-- an even root is no note's
pub none_at : (notes : List Note) (root : ℕ) → root % 2 ≡ 0 → note_at notes root ≡ None
none_at notes root even = cond-true (root % 2 == 0) None (slice_get notes (root / 2)) (eq-eqb (root % 2) 0 even)

pub odd_at : (notes : List Note) (root : ℕ) → (root % 2 ≡ 0 → ⊥) → note_at notes root ≡ slice_get notes (root / 2)
odd_at notes root odd = cond-false (root % 2 == 0) None (slice_get notes (root / 2)) (ne_eqb (root % 2) 0 odd)

-- past the last note there is none
pub none_past : (notes : List Note) (root : ℕ) → length notes ≤ root / 2 → note_at notes root ≡ None
none_past notes root ge = elim (cases_eq (root % 2) 0) [ inl even ↦ none_at notes root even | inr odd ↦ odd_at notes root odd ∙ slice_get_past notes (root / 2) ge ]

absent : (note : Note) → None ≡ Some note → ⊥
absent note e = cc

-- a note that is there stays
pub note_kept : (old new : List Note) → KeepsNotes old new → (root : ℕ) (note : Note) → note_at old root ≡ Some note → note_at new root ≡ Some note
note_kept old new keeps root note is = elim (cases_eq (root % 2) 0) [
  | inl even ↦ absurd (absent note (sym (none_at old root even) ∙ is))
  | inr odd ↦ elim (cases_lt (root / 2) (length old)) [
    | inl lt ↦ odd_at new root odd ∙ keeps.same (root / 2) lt ∙ sym (odd_at old root odd) ∙ is
    | inr ge ↦ absurd (absent note (sym (none_past old root ge) ∙ is))
  ]
]

-- the top of a tree stays
pub top_even : (rows : List (List ℕ)) (height root : ℕ) → is_top rows height root ≡ true → root % 2 ≡ 0
top_even rows height root top = eqb-true (root % 2) 0 (and_parts (root % 2 == 0) (is_tree rows height (root / 2)) top).0

pub top_tree : (rows : List (List ℕ)) → IsZero rows → (height root : ℕ) → is_top rows height root ≡ true → IsTree rows height (root / 2)
top_tree rows z height root top = tree_found rows z height (root / 2) (and_parts (root % 2 == 0) (is_tree rows height (root / 2)) top).1

pub tree_top : (rows : List (List ℕ)) (height root : ℕ) → root % 2 ≡ 0 → IsTree rows height (root / 2) → is_top rows height root ≡ true
tree_top rows height root even tree = and_from (root % 2 == 0) (is_tree rows height (root / 2)) (eq-eqb (root % 2) 0 even) (tree_passes rows height (root / 2) tree)

top_kept : (old new : List (List ℕ)) → KeepsRows old new → IsZero old → (height root : ℕ) → is_top old height root ≡ true → is_top new height root ≡ true
top_kept old new keeps z height root top = tree_top new height root (top_even old height root top) (tree_kept old new keeps height (root / 2) (top_tree old z height root top))

-- a clock stays
pub stands_kept : (old new : List (List ℕ)) (ns ns' : List Note) → KeepsRows old new → KeepsNotes ns ns' → IsZero old → (height k root : ℕ) → clock_stands old ns height k root ≡ true →
    clock_stands new ns' height k root ≡ true
unfolding clock_stands
stands_kept old new ns ns' keeps keeps' z height zero root e = top_kept old new keeps z height root e
stands_kept old new ns ns' keeps keeps' z height (suc k) root e = go (note_at ns root) refl e (stands_kept old new ns ns' keeps keeps' z height k)
  where
    go : (o : Option Note) → note_at ns root ≡ o → stands_by_note o height (clock_stands old ns height k) (is_top old height root) ≡ true →
        ((r : ℕ) → clock_stands old ns height k r ≡ true → clock_stands new ns' height k r ≡ true) →
        stands_by_note (note_at ns' root) height (clock_stands new ns' height k) (is_top new height root) ≡ true
    go None is e ih = subst (λ o. stands_by_note o height (clock_stands new ns' height k) (is_top new height root) ≡ true) (sym (none_at ns' root (top_even old height root e)))
        (top_kept old new keeps z height root e)
    go (Some note) is e ih =
        let both = and_parts (nat_lt note.process (16 ^ height)) (clock_stands old ns height k note.below) e in
        subst (λ o. stands_by_note o height (clock_stands new ns' height k) (is_top new height root) ≡ true) (sym (note_kept ns ns' keeps' root note is))
        (and_from (nat_lt note.process (16 ^ height)) (clock_stands new ns' height k note.below) both.0 (ih note.below both.1))

-- and says what it said
pub number_kept : (old new : List (List ℕ)) (ns ns' : List Note) → KeepsRows old new → KeepsNotes ns ns' → IsZero old → (height q k root : ℕ) → clock_stands old ns height k root ≡ true →
    clock_number new ns' height k root q ≡ clock_number old ns height k root q
unfolding clock_stands clock_number
number_kept old new ns ns' keeps keeps' z height q zero root e = says_kept old new keeps height (root / 2) (top_tree old z height root e) q
number_kept old new ns ns' keeps keeps' z height q (suc k) root e = go (note_at ns root) refl e (number_kept old new ns ns' keeps keeps' z height q k)
  where
    go : (o : Option Note) → note_at ns root ≡ o → stands_by_note o height (clock_stands old ns height k) (is_top old height root) ≡ true →
        ((r : ℕ) → clock_stands old ns height k r ≡ true → clock_number new ns' height k r q ≡ clock_number old ns height k r q) →
        number_by_note (note_at ns' root) q (λ below. clock_number new ns' height k below q) (tree_says new height (root / 2) q)
        ≡ number_by_note o q (λ below. clock_number old ns height k below q) (tree_says old height (root / 2) q)
    go None is e ih = ap (λ o. number_by_note o q (λ below. clock_number new ns' height k below q) (tree_says new height (root / 2) q)) (none_at ns' root (top_even old height root e))
        ∙ says_kept old new keeps height (root / 2) (top_tree old z height root e) q
    go (Some note) is e ih =
        let both = and_parts (nat_lt note.process (16 ^ height)) (clock_stands old ns height k note.below) e in
        ap (λ o. number_by_note o q (λ below. clock_number new ns' height k below q) (tree_says new height (root / 2) q)) (note_kept ns ns' keeps' root note is)
        ∙ ap (raised_at note.process note.number q) (ih note.below both.1)

pub notes_stay : (notes : List Note) → KeepsNotes notes notes
notes_stay notes = record { longer = omega arith; same = λ n lt. refl }

-- the clock of a root that is no note's is its tree
pub tree_stands : (rows : List (List ℕ)) (notes : List Note) (height k root : ℕ) → note_at notes root ≡ None → clock_stands rows notes height k root ≡ is_top rows height root
unfolding clock_stands
tree_stands rows notes height zero root none = refl
tree_stands rows notes height (suc k) root none = ap (λ o. stands_by_note o height (clock_stands rows notes height k) (is_top rows height root)) none

pub tree_number : (rows : List (List ℕ)) (notes : List Note) (height k root q : ℕ) → note_at notes root ≡ None → clock_number rows notes height k root q ≡ tree_says rows height (root / 2) q
unfolding clock_number
tree_number rows notes height zero root q none = refl
tree_number rows notes height (suc k) root q none = ap (λ o. number_by_note o q (λ below. clock_number rows notes height k below q) (tree_says rows height (root / 2) q)) none

-- that of a note is the clock below it, raised
pub note_stands : (rows : List (List ℕ)) (notes : List Note) (height k root : ℕ) (note : Note) → note_at notes root ≡ Some note →
    clock_stands rows notes height (suc k) root ≡ (nat_lt note.process (16 ^ height) && clock_stands rows notes height k note.below)
unfolding clock_stands
note_stands rows notes height k root note is = ap (λ o. stands_by_note o height (clock_stands rows notes height k) (is_top rows height root)) is

pub note_number : (rows : List (List ℕ)) (notes : List Note) (height k root q : ℕ) (note : Note) → note_at notes root ≡ Some note →
    clock_number rows notes height (suc k) root q ≡ raised_at note.process note.number q (clock_number rows notes height k note.below q)
unfolding clock_number
note_number rows notes height k root q note is = ap (λ o. number_by_note o q (λ below. clock_number rows notes height k below q) (tree_says rows height (root / 2) q)) is

-- where no note is left there is a tree
pub end_stands : (rows : List (List ℕ)) (notes : List Note) (height k root : ℕ) → next_note notes k root ≡ None → clock_stands rows notes height k root ≡ is_top rows height root
unfolding clock_stands
end_stands rows notes height zero root none = refl
end_stands rows notes height (suc k) root none = tree_stands rows notes height (suc k) root none

pub end_number : (rows : List (List ℕ)) (notes : List Note) (height k root q : ℕ) → next_note notes k root ≡ None → clock_number rows notes height k root q ≡ tree_says rows height (root / 2) q
unfolding clock_number
end_number rows notes height zero root q none = refl
end_number rows notes height (suc k) root q none = tree_number rows notes height (suc k) root q none

-- and else one note less
pub next_left : (notes : List Note) (k root : ℕ) (note : Note) → next_note notes k root ≡ Some note → 0 < k
next_left notes zero root note is = absurd (absent note is)
next_left notes (suc k) root note is = omega arith

pub next_stands : (rows : List (List ℕ)) (notes : List Note) (height k root : ℕ) (note : Note) → next_note notes k root ≡ Some note →
    clock_stands rows notes height k root ≡ (nat_lt note.process (16 ^ height) && clock_stands rows notes height (k - 1) note.below)
next_stands rows notes height zero root note is = absurd (absent note is)
next_stands rows notes height (suc k) root note is =
    let e : suc k - 1 ≡ k = omega arith in
    subst (λ j. clock_stands rows notes height (suc k) root ≡ (nat_lt note.process (16 ^ height) && clock_stands rows notes height j note.below)) (sym e)
    (note_stands rows notes height k root note is)

pub next_number : (rows : List (List ℕ)) (notes : List Note) (height k root q : ℕ) (note : Note) → next_note notes k root ≡ Some note →
    clock_number rows notes height k root q ≡ raised_at note.process note.number q (clock_number rows notes height (k - 1) note.below q)
next_number rows notes height zero root q note is = absurd (absent note is)
next_number rows notes height (suc k) root q note is =
    let e : suc k - 1 ≡ k = omega arith in
    subst (λ j. clock_number rows notes height (suc k) root q ≡ raised_at note.process note.number q (clock_number rows notes height j note.below q)) (sym e)
    (note_number rows notes height k root q note is)

-- a clock below a note stands
pub before_stands : (rows : List (List ℕ)) (notes : List Note) (height k root : ℕ) (note : Note) → next_note notes k root ≡ Some note → clock_stands rows notes height k root ≡ true →
    (note.process < 16 ^ height) × (clock_stands rows notes height (k - 1) note.below ≡ true)
before_stands rows notes height k root note is stands =
    let both = and_parts (nat_lt note.process (16 ^ height)) (clock_stands rows notes height (k - 1) note.below) (sym (next_stands rows notes height k root note is) ∙ stands) in
    (ltb-true note.process (16 ^ height) both.0, both.1)

-- the greater of what a note says and what was found above it
raise_least : (here : Bool) (below number least : ℕ) → max below (if here then max least number else least) ≡ max (if here then max below number else below) least
raise_least true below number least = omega arith
raise_least false below number least = refl

pub went_down : (rows : List (List ℕ)) (notes : List Note) (height k root q least : ℕ) (note : Note) → next_note notes k root ≡ Some note →
    max (clock_number rows notes height (k - 1) note.below q) (raised_at note.process note.number q least) ≡ max (clock_number rows notes height k root q) least
went_down rows notes height k root q least note is =
    raise_least (q == note.process) (clock_number rows notes height (k - 1) note.below q) note.number least ∙ ap (λ n. max n least) (sym (next_number rows notes height k root q note is))

-- where a test finds that fewer notes stand
pub none_low : (rows : List (List ℕ)) (notes : List Note) (height k root : ℕ) → note_at notes root ≡ None → clock_stands rows notes height (suc k) root ≡ true →
    clock_stands rows notes height k root ≡ true
none_low rows notes height k root none stands = tree_stands rows notes height k root none ∙ sym (tree_stands rows notes height (suc k) root none) ∙ stands

pub some_low : (rows : List (List ℕ)) (notes : List Note) (height k root : ℕ) (note : Note) (result : Bool) → note_at notes root ≡ Some note → 0 < k →
    (clock_stands rows notes height (suc (k - 1)) note.below ≡ true → result ≡ clock_stands rows notes height (k - 1) note.below) → clock_stands rows notes height (suc k) root ≡ true →
    result ≡ clock_stands rows notes height k root
some_low rows notes height zero root note result is lt low stands = absurd (omega (arith, lt))
some_low rows notes height (suc k) root note result is lt low stands =
    let e : suc k - 1 ≡ k = omega arith in
    let low' = subst (λ j. clock_stands rows notes height (suc j) note.below ≡ true → result ≡ clock_stands rows notes height j note.below) e low in
    let both = and_parts (nat_lt note.process (16 ^ height)) (clock_stands rows notes height (suc k) note.below) (sym (note_stands rows notes height (suc k) root note is) ∙ stands) in
    low' both.1 ∙ sym (note_stands rows notes height k root note is ∙ ap (λ b. b && clock_stands rows notes height k note.below) both.0)

-- no tree has a note's root
pub none_left : (rows : List (List ℕ)) (notes : List Note) (height k root : ℕ) (note : Note) → note_at notes root ≡ Some note → k ≤ 0 → nat_lt 0 k ≡ clock_stands rows notes height k root
unfolding clock_stands
none_left rows notes height zero root note is none =
    let odd : root % 2 ≡ 0 → ⊥ = λ even. absent note (sym (none_at notes root even) ∙ is) in
    sym (ap (λ b. b && is_tree rows height (root / 2)) (ne_eqb (root % 2) 0 odd))
none_left rows notes height (suc k) root note is none = absurd (omega (arith, none))

-- one more note may stand where fewer do
pub low_number : (rows : List (List ℕ)) (notes : List Note) (height q k root : ℕ) → clock_stands rows notes height k root ≡ true →
    clock_number rows notes height (suc k) root q ≡ clock_number rows notes height k root q
unfolding clock_stands clock_number
low_number rows notes height q zero root e = ap (λ o. number_by_note o q (λ below. tree_says rows height (below / 2) q) (tree_says rows height (root / 2) q)) (none_at notes root (top_even rows height root e))
low_number rows notes height q (suc k) root e = go (note_at notes root) e (low_number rows notes height q k)
  where
    go : (o : Option Note) → stands_by_note o height (clock_stands rows notes height k) (is_top rows height root) ≡ true →
        ((r : ℕ) → clock_stands rows notes height k r ≡ true → clock_number rows notes height (suc k) r q ≡ clock_number rows notes height k r q) →
        number_by_note o q (λ below. clock_number rows notes height (suc k) below q) (tree_says rows height (root / 2) q)
        ≡ number_by_note o q (λ below. clock_number rows notes height k below q) (tree_says rows height (root / 2) q)
    go None e ih = refl
    go (Some note) e ih = ap (raised_at note.process note.number q) (ih note.below (and_parts (nat_lt note.process (16 ^ height)) (clock_stands rows notes height k note.below) e).1)

-- the clock of a note that was added
noted_at : (old new : List Note) (note : Note) (root : ℕ) → IsNotedClock old new note root → note_at new root ≡ Some note
noted_at old new note root noted = odd_at new root (λ e. omega (arith, e, noted.odd)) ∙ noted.there

pub noted_stands : (rows : List (List ℕ)) (ns ns' : List Note) (height root : ℕ) (note : Note) → IsZero rows → KeepsNotes ns ns' → IsNotedClock ns ns' note root → note.process < 16 ^ height →
    clock_stands rows ns height 15 note.below ≡ true → clock_stands rows ns' height 16 root ≡ true
noted_stands rows ns ns' height root note z keeps noted low stands =
    note_stands rows ns' height 15 root note (noted_at ns ns' note root noted)
    ∙ and_from (nat_lt note.process (16 ^ height)) (clock_stands rows ns' height 15 note.below) (lt-ltb note.process (16 ^ height) low)
    (stands_kept rows rows ns ns' (keeps_itself rows) keeps z height 15 note.below stands)

pub noted_number : (rows : List (List ℕ)) (ns ns' : List Note) (height root q : ℕ) (note : Note) → IsZero rows → KeepsNotes ns ns' → IsNotedClock ns ns' note root →
    clock_stands rows ns height 15 note.below ≡ true → clock_number rows ns' height 16 root q ≡ raised_at note.process note.number q (clock_number rows ns height 15 note.below q)
noted_number rows ns ns' height root q note z keeps noted stands =
    note_number rows ns' height 15 root q note (noted_at ns ns' note root noted)
    ∙ ap (raised_at note.process note.number q) (number_kept rows rows ns ns' (keeps_itself rows) keeps z height q 15 note.below stands)
