-- The clocks that trees of rows and notes stand for.
use Rattle.std.proofs.Common.{◌≡◌, ◌∙◌, ◌^◌, ◌/◌, ◌%◌, ◌*◌, ◌-◌, ◌<◌, ◌≤◌, ℕ, List, Some, None, length, map, max, slice_index, refl, sym, ap, subst, arith, inl, inr}
use Rattle.std.specs.Prelude.{Bool, true, false, nat_lt, slice_get, if◌then◌else◌, Result, IfOk}
use Rattle.std.specs.declared.alloc.AllocError.{AllocError}
use Rattle.std.specs.List.{range_with_len}
use Rattle.std.proofs.Math.Nat.{one-le-pow}
use Rattle.std.proofs.lemmas.Bool.{cases_lt, cond_both, ltb-true, true≢false}
use Rattle.std.proofs.lemmas.List.FromFn.{get_or-map-range_with_len, length-map-range_with_len}
use Rattle.std.proofs.lemmas.Option.{slice_get-get_or, slice_get_past}
use Rattle.std.proofs.lemmas.Result.{IfOk-weaker}
use Rattle.wire_clocks.specs.declared.notes.Note.{Note}
use Rattle.wire_clocks.specs.Rows as rows
use Rattle.wire_clocks.specs.Rows.{entry, numbers_in, tree_says, IsTree, IsZero}
use Rattle.wire_clocks.specs.Notes.{note_at, clock_number, clock_stands, is_top, IsTopOf, KeepsNotes}
use Rattle.wire_clocks.specs.ClockTrees.{Clocks, numbers_of, is_clock, says, IsRoot, Holds, HasZeros, Keeps}
use Rattle.wire_clocks.specs.Trees.{clock_at, clocks_of, AreTrees}
use Rattle.wire_clocks.proofs.Growing.{says_zero, says_down, tree_of_zeros, tree_there, zero_kept}
use Rattle.wire_clocks.proofs.Noting.{none_at, none_past, top_tree, tree_top, stands_kept, number_kept, notes_stay, tree_stands, tree_number}

-- what stands at a root, and past the last one
stands_at : (rows : List (List ℕ)) (notes : List Note) (height n : ℕ) → n < 2 * max (length rows) (length notes) →
    slice_get (map (clock_at rows notes height) (range_with_len 0 (2 * max (length rows) (length notes)))) n ≡ Some (clock_at rows notes height n)
stands_at rows notes height n lt =
    let clock = clock_at rows notes height in
    let all = 2 * max (length rows) (length notes) in
    let long = length-map-range_with_len clock 0 all in
    slice_get-get_or (map clock (range_with_len 0 all)) n (clock 0) (omega (arith, lt, long)) ∙ ap Some (get_or-map-range_with_len clock 0 all n n (clock 0) lt (omega arith))

nothing_past : (rows : List (List ℕ)) (notes : List Note) (height n : ℕ) → 2 * max (length rows) (length notes) ≤ n →
    slice_get (map (clock_at rows notes height) (range_with_len 0 (2 * max (length rows) (length notes)))) n ≡ None
nothing_past rows notes height n ge =
    let all = 2 * max (length rows) (length notes) in
    let long = length-map-range_with_len (clock_at rows notes height) 0 all in
    slice_get_past (map (clock_at rows notes height) (range_with_len 0 all)) n (omega (arith, ge, long))

-- past the last root there is neither a note nor a row
notes_end : (rows : List (List ℕ)) (notes : List Note) (n : ℕ) → 2 * max (length rows) (length notes) ≤ n → note_at notes n ≡ None
notes_end rows notes n ge = none_past notes n (omega (arith, ge))

rows_end : (rows : List (List ℕ)) (notes : List Note) (n : ℕ) → 2 * max (length rows) (length notes) ≤ n → length rows ≤ n / 2
rows_end rows notes n ge = omega (arith, ge)

-- a root is a clock's
pub clock_of_root : (rows : List (List ℕ)) (notes : List Note) (height n : ℕ) → IsRoot (clocks_of rows notes height) n → clock_stands rows notes height 16 n ≡ true
clock_of_root rows notes height n root = elim (cases_lt n (2 * max (length rows) (length notes))) [
  | inl lt ↦ sym (ap is_clock (stands_at rows notes height n lt)) ∙ root
  | inr ge ↦ absurd (true≢false (sym root ∙ ap is_clock (nothing_past rows notes height n ge)))
]

pub root_of_clock : (rows : List (List ℕ)) (notes : List Note) (height n : ℕ) → AreTrees rows height → clock_stands rows notes height 16 n ≡ true → IsRoot (clocks_of rows notes height) n
root_of_clock rows notes height n are stands = elim (cases_lt n (2 * max (length rows) (length notes))) [
  | inl lt ↦ ap is_clock (stands_at rows notes height n lt) ∙ stands
  | inr ge ↦
      let top : is_top rows height n ≡ true = sym (tree_stands rows notes height 16 n (notes_end rows notes n ge)) ∙ stands in
      let there = tree_there rows height (n / 2) are.high (top_tree rows are.zero height n top) in
      absurd (omega (arith, there, rows_end rows notes n ge))
]

-- a row that isn't there says nothing
past_says : (rows : List (List ℕ)) (height n p : ℕ) → AreTrees rows height → length rows ≤ n → tree_says rows height n p ≡ 0
past_says rows height n p are ge =
    let none : entry rows n (p / 16 ^ (height - 1)) ≡ 0 = ap (λ o. slice_index (numbers_in o) (p / 16 ^ (height - 1))) (slice_get_past rows n ge) in
    says_down rows height n p are.high ∙ ap (λ t. tree_says rows (height - 1) t (p % 16 ^ (height - 1))) none ∙ says_zero rows are.zero (height - 1) (p % 16 ^ (height - 1))

numbers_say : (rows : List (List ℕ)) (notes : List Note) (height n p : ℕ) → AreTrees rows height → p < 16 ^ height →
    slice_index (numbers_of (slice_get (map (clock_at rows notes height) (range_with_len 0 (2 * max (length rows) (length notes)))) n)) p ≡ clock_number rows notes height 16 n p
numbers_say rows notes height n p are low = elim (cases_lt n (2 * max (length rows) (length notes))) [
  | inl lt ↦ ap (λ o. slice_index (numbers_of o) p) (stands_at rows notes height n lt)
      ∙ get_or-map-range_with_len (clock_number rows notes height 16 n) 0 (16 ^ height) p p 0 low (omega arith)
  | inr ge ↦ ap (λ o. slice_index (numbers_of o) p) (nothing_past rows notes height n ge) ∙ sym (past_says rows height (n / 2) p are (rows_end rows notes n ge))
      ∙ sym (tree_number rows notes height 16 n p (notes_end rows notes n ge))
]

if_same : (b : Bool) (x y : ℕ) → (b ≡ true → x ≡ y) → (if b then x else 0) ≡ (if b then y else 0)
if_same true x y same = same refl
if_same false x y same = refl

-- what a clock says, its notes and its tree say
pub clock_says : (rows : List (List ℕ)) (notes : List Note) (height n p : ℕ) → AreTrees rows height →
    says (clocks_of rows notes height) n p ≡ (if nat_lt p (16 ^ height) then clock_number rows notes height 16 n p else 0)
clock_says rows notes height n p are =
    if_same (nat_lt p (16 ^ height)) (slice_index (numbers_of (slice_get (map (clock_at rows notes height) (range_with_len 0 (2 * max (length rows) (length notes)))) n)) p)
    (clock_number rows notes height 16 n p) (λ t. numbers_say rows notes height n p are (ltb-true p (16 ^ height) t))

-- the clock of a tree
pub top_says : (rows : List (List ℕ)) (notes : List Note) (height tree n p : ℕ) → AreTrees rows height → IsTopOf tree n →
    says (clocks_of rows notes height) n p ≡ (if nat_lt p (16 ^ height) then tree_says rows height tree p else 0)
top_says rows notes height tree n p are top =
    clock_says rows notes height n p are
    ∙ ap (λ v. if nat_lt p (16 ^ height) then v else 0) (tree_number rows notes height 16 n p (none_at notes n top.even) ∙ ap (λ t. tree_says rows height t p) top.half)

pub tree_of_root : (rows : List (List ℕ)) (notes : List Note) (height n : ℕ) → AreTrees rows height → IsRoot (clocks_of rows notes height) n → n % 2 ≡ 0 → IsTree rows height (n / 2)
tree_of_root rows notes height n are root even =
    top_tree rows are.zero height n (sym (tree_stands rows notes height 16 n (none_at notes n even)) ∙ clock_of_root rows notes height n root)

pub root_of_tree : (rows : List (List ℕ)) (notes : List Note) (height tree n : ℕ) → AreTrees rows height → IsTopOf tree n → IsTree rows height tree → IsRoot (clocks_of rows notes height) n
root_of_tree rows notes height tree n are top is =
    root_of_clock rows notes height n are (tree_stands rows notes height 16 n (none_at notes n top.even) ∙ tree_top rows height n top.even (subst (IsTree rows height) (sym top.half) is))

pub zeros_stand : (rows : List (List ℕ)) (notes : List Note) (height : ℕ) → AreTrees rows height → HasZeros (clocks_of rows notes height)
zeros_stand rows notes height are =
    let top : IsTopOf 0 0 = record { even = refl; half = refl } in
    record {
      root = root_of_tree rows notes height 0 0 are top (tree_of_zeros rows are.zero height);
      zeros = λ p. top_says rows notes height 0 0 p are top ∙ cond_both (nat_lt p (16 ^ height)) (tree_says rows height 0 p) 0 (λ v. v ≡ 0) (λ _. says_zero rows are.zero height p) (λ _. refl);
    }

pub first_held : (rows : List (List ℕ)) (notes : List Note) (height : ℕ) → Holds (clocks_of rows notes height) 0
first_held rows notes height = one-le-pow height 16 (omega arith)

-- where rows and notes are added
pub trees_kept : (old new : List (List ℕ)) (height : ℕ) → AreTrees old height → rows.KeepsRows old new → AreTrees new height
trees_kept old new height are keeps = record { zero = zero_kept old new keeps are.zero; shallow = are.shallow; high = are.high }

clocks_keep : (old new : List (List ℕ)) (ns ns' : List Note) (height : ℕ) → AreTrees old height → rows.KeepsRows old new → KeepsNotes ns ns' →
    Keeps (clocks_of old ns height) (clocks_of new ns' height)
clocks_keep old new ns ns' height are keeps keeps' =
    let are' = trees_kept old new height are keeps in
    record {
      width = refl;
      roots = λ n root. root_of_clock new ns' height n are' (stands_kept old new ns ns' keeps keeps' are.zero height 16 n (clock_of_root old ns height n root));
      same = λ n root p. clock_says new ns' height n p are'
          ∙ ap (λ v. if nat_lt p (16 ^ height) then v else 0) (number_kept old new ns ns' keeps keeps' are.zero height p 16 n (clock_of_root old ns height n root))
          ∙ sym (clock_says old ns height n p are);
    }

-- where the clocks are called by another name
pub tree_given : (rows : List (List ℕ)) (notes : List Note) (height n : ℕ) (clocks : Clocks) → AreTrees rows height → clocks_of rows notes height ≡ clocks → IsRoot clocks n → n % 2 ≡ 0 →
    IsTree rows height (n / 2)
tree_given rows notes height n clocks are view root even = tree_of_root rows notes height n are (subst (λ these. IsRoot these n) (sym view) root) even

pub clock_given : (rows : List (List ℕ)) (notes : List Note) (height n : ℕ) (clocks : Clocks) → clocks_of rows notes height ≡ clocks → IsRoot clocks n → clock_stands rows notes height 16 n ≡ true
clock_given rows notes height n clocks view root = clock_of_root rows notes height n (subst (λ these. IsRoot these n) (sym view) root)

pub given_keep : (old new : List (List ℕ)) (ns ns' : List Note) (height : ℕ) (clocks : Clocks) → AreTrees old height → clocks_of old ns height ≡ clocks → rows.KeepsRows old new →
    KeepsNotes ns ns' → Keeps clocks (clocks_of new ns' height)
given_keep old new ns ns' height clocks are view keeps keeps' = subst (λ these. Keeps these (clocks_of new ns' height)) view (clocks_keep old new ns ns' height are keeps keeps')

-- where rows alone are added
pub given_stay : (old new : List (List ℕ)) (notes : List Note) (height : ℕ) (clocks : Clocks) → AreTrees old height → clocks_of old notes height ≡ clocks → rows.KeepsRows old new →
    Keeps clocks (clocks_of new notes height)
given_stay old new notes height clocks are view keeps = given_keep old new notes notes height clocks are view keeps (notes_stay notes)

-- a tree that was made has a root
pub root_made : (old new : List (List ℕ)) (notes : List Note) (height tree : ℕ) (r : Result ℕ AllocError) → AreTrees old height → rows.KeepsRows old new → IsTree new height tree →
    IfOk r (IsTopOf tree) → IfOk r (λ n. IsRoot (clocks_of new notes height) n)
root_made old new notes height tree r are keeps is made = IfOk-weaker r (IsTopOf tree) (λ n. IsRoot (clocks_of new notes height) n)
    (λ n top. root_of_tree new notes height tree n (trees_kept old new height are keeps) top is) made
