-- Trees stay what they are where rows are added.
use Rattle.std.proofs.Common.{◌≡◌, ◌∙◌, ℕ, zero, suc, ◌<◌, ◌/◌, ◌%◌, ◌^◌, ◌-◌, ◌+◌, ◌*◌, List, [], ◌∷◌, ◌++◌, Some, length, slice_index, refl, sym, ap, subst, arith}
use Rattle.std.proofs.lemmas.List.{length-append}
use Rattle.std.proofs.lemmas.Nat.{pow-add, div_below, mod_below}
use Rattle.std.proofs.Math.Nat.{pow-suc, one-le-pow}
use Rattle.std.specs.Prelude.{Result, Ok, Err, IfOk, slice_get, replicate}
use Rattle.wire_clocks.specs.Rows.{entry, numbers_in, tree_says, IsTree, IsZero, KeepsRows}

pub slice_get-append_left : {A : Type 0} (xs ys : List A) (i : ℕ) → i < length xs → slice_get (xs ++ ys) i ≡ slice_get xs i
slice_get-append_left [] ys i lt = absurd (omega (arith, lt))
slice_get-append_left (x ∷ xs) ys zero lt = refl
slice_get-append_left (x ∷ xs) ys (suc i) lt = slice_get-append_left xs ys i (omega (arith, lt))

pub slice_get-append_last : {A : Type 0} (xs : List A) (v : A) (i : ℕ) → i ≡ length xs → slice_get (xs ++ v ∷ []) i ≡ Some v
slice_get-append_last [] v zero e = refl
slice_get-append_last [] v (suc i) e = absurd (omega (arith, e))
slice_get-append_last (x ∷ xs) v zero e = absurd (omega (arith, e))
slice_get-append_last (x ∷ xs) v (suc i) e = slice_get-append_last xs v i (omega (arith, e))

-- a tree says the same where rows are added
pub says_kept : (old new : List (List ℕ)) → KeepsRows old new → (k tree : ℕ) → IsTree old k tree → (p : ℕ) → tree_says new k tree p ≡ tree_says old k tree p
unfolding tree_says IsTree
says_kept old new keeps zero tree t p = refl
says_kept old new keeps (suc k) tree t p =
    ap (λ n. tree_says new k n (p % 16 ^ k)) (keeps.same tree (p / 16 ^ k) t.0) ∙ says_kept old new keeps k (entry old tree (p / 16 ^ k)) (t.1 (p / 16 ^ k)) (p % 16 ^ k)

-- and stays there
pub tree_kept : (old new : List (List ℕ)) → KeepsRows old new → (k tree : ℕ) → IsTree old k tree → IsTree new k tree
unfolding IsTree
tree_kept old new keeps zero tree t = tt
tree_kept old new keeps (suc k) tree t =
    let longer = keeps.longer in
    let here = t.0 in
    (omega arith, λ i. subst (IsTree new k) (sym (keeps.same tree i t.0)) (tree_kept old new keeps k (entry old tree i) (t.1 i)))

pub zero_kept : (old new : List (List ℕ)) → KeepsRows old new → IsZero old → IsZero new
zero_kept old new keeps z = record { there = omega (arith, keeps.longer, z.there); zeros = λ i. keeps.same 0 i z.there ∙ z.zeros i }

pub keeps_itself : (rows : List (List ℕ)) → KeepsRows rows rows
keeps_itself rows = record { longer = omega arith; same = λ n i lt. refl }

pub keeps_through : (a b c : List (List ℕ)) → KeepsRows a b → KeepsRows b c → KeepsRows a c
keeps_through a b c ab bc = record {
  longer = omega (arith, ab.longer, bc.longer);
  same = λ n i lt. bc.same n i (omega (arith, lt, ab.longer)) ∙ ab.same n i lt;
}

-- one row more
pub keeps_pushed : (rows : List (List ℕ)) (row : List ℕ) → KeepsRows rows (rows ++ row ∷ [])
keeps_pushed rows row = record {
  longer = omega (arith, length-append rows (row ∷ []));
  same = λ n i lt. ap (λ o. slice_index (numbers_in o) i) (slice_get-append_left rows (row ∷ []) n lt);
}

pub entry_pushed : (rows : List (List ℕ)) (row : List ℕ) (i : ℕ) → entry (rows ++ row ∷ []) (length rows) i ≡ slice_index row i
entry_pushed rows row i = ap (λ o. slice_index (numbers_in o) i) (slice_get-append_last rows row (length rows) refl)

-- row 0 is the tree of zeros of each height
pub says_zero : (rows : List (List ℕ)) → IsZero rows → (k p : ℕ) → tree_says rows k 0 p ≡ 0
unfolding tree_says
says_zero rows z zero p = refl
says_zero rows z (suc k) p = ap (λ n. tree_says rows k n (p % 16 ^ k)) (z.zeros (p / 16 ^ k)) ∙ says_zero rows z k (p % 16 ^ k)

pub tree_of_zeros : (rows : List (List ℕ)) → IsZero rows → (k : ℕ) → IsTree rows k 0
unfolding IsTree
tree_of_zeros rows z zero = tt
tree_of_zeros rows z (suc k) = (z.there, λ i. subst (IsTree rows k) (sym (z.zeros i)) (tree_of_zeros rows z k))

-- the tree above a level is a row
pub says_down : (rows : List (List ℕ)) (level tree p : ℕ) → 0 < level → tree_says rows level tree p ≡ tree_says rows (level - 1) (entry rows tree (p / 16 ^ (level - 1))) (p % 16 ^ (level - 1))
unfolding tree_says
says_down rows zero tree p lt = absurd (omega (arith, lt))
says_down rows (suc k) tree p lt =
    let e : suc k - 1 ≡ k = omega arith in
    subst (λ j. tree_says rows (suc k) tree p ≡ tree_says rows j (entry rows tree (p / 16 ^ j)) (p % 16 ^ j)) (sym e) refl

pub says_low : (rows : List (List ℕ)) (level tree p : ℕ) → level ≡ 0 → tree_says rows level tree p ≡ tree
unfolding tree_says
says_low rows zero tree p e = refl
says_low rows (suc k) tree p e = absurd (omega (arith, e))

-- the number of processes of a tree as a shift writes it
pub pow_four : (k : ℕ) → 2 ^ (4 * k) ≡ 16 ^ k
pow_four zero = refl
pow_four (suc k) =
    let e : 4 * suc k ≡ 4 * k + 4 = omega arith in
    ap (λ n. 2 ^ n) e ∙ pow-add 2 (4 * k) 4 ∙ ap (λ n. n * 16) (pow_four k) ∙ sym (pow-suc 16 k)

pub tree_there : (rows : List (List ℕ)) (level tree : ℕ) → 0 < level → IsTree rows level tree → tree < length rows
unfolding IsTree
tree_there rows zero tree lt t = absurd (omega (arith, lt))
tree_there rows (suc k) tree lt t = t.0

pub tree_down : (rows : List (List ℕ)) (level tree : ℕ) → 0 < level → IsTree rows level tree → (i : ℕ) → IsTree rows (level - 1) (entry rows tree i)
unfolding IsTree
tree_down rows zero tree lt t i = absurd (omega (arith, lt))
tree_down rows (suc k) tree lt t i =
    let e : suc k - 1 ≡ k = omega arith in
    subst (λ j. IsTree rows j (entry rows tree i)) (sym e) (t.1 i)

pub tree_up : (rows : List (List ℕ)) (level tree : ℕ) → 0 < level → tree < length rows → ((i : ℕ) → IsTree rows (level - 1) (entry rows tree i)) → IsTree rows level tree
unfolding IsTree
tree_up rows zero tree lt there each = tt
tree_up rows (suc k) tree lt there each =
    let e : suc k - 1 ≡ k = omega arith in
    (there, λ i. subst (λ j. IsTree rows j (entry rows tree i)) e (each i))

pub tree_low : (rows : List (List ℕ)) (level tree : ℕ) → level ≡ 0 → IsTree rows level tree
unfolding IsTree
tree_low rows zero tree e = tt
tree_low rows (suc k) tree e = absurd (omega (arith, e))

-- a row whose numbers are trees that stood before it
pub row_tree : (now new : List (List ℕ)) (level t : ℕ) (numbers : List ℕ) → KeepsRows now new → 0 < level → t < length new → ((i : ℕ) → entry new t i ≡ slice_index numbers i) →
    ((i : ℕ) → IsTree now (level - 1) (slice_index numbers i)) → IsTree new level t
row_tree now new level t numbers keeps lt there each trees =
    tree_up new level t lt there (λ i. subst (IsTree new (level - 1)) (sym (each i)) (tree_kept now new keeps (level - 1) (slice_index numbers i) (trees i)))

pub row_says : (now new : List (List ℕ)) (level t : ℕ) (numbers : List ℕ) → KeepsRows now new → 0 < level → ((i : ℕ) → entry new t i ≡ slice_index numbers i) →
    ((i : ℕ) → IsTree now (level - 1) (slice_index numbers i)) → (q : ℕ) → tree_says new level t q ≡ tree_says now (level - 1) (slice_index numbers (q / 16 ^ (level - 1))) (q % 16 ^ (level - 1))
row_says now new level t numbers keeps lt each trees q =
    let d = q / 16 ^ (level - 1) in
    says_down new level t q lt ∙ ap (λ n. tree_says new (level - 1) n (q % 16 ^ (level - 1))) (each d) ∙ says_kept now new keeps (level - 1) (slice_index numbers d) (trees d) (q % 16 ^ (level - 1))

-- the place of a process in a row, and in its subtree
pub place_low : (level p : ℕ) → 0 < level → p < 16 ^ level → p / 16 ^ (level - 1) < 16
place_low zero p lt h = absurd (omega (arith, lt))
place_low (suc k) p lt h =
    let e : suc k - 1 ≡ k = omega arith in
    let above : 0 < 16 ^ k = one-le-pow k 16 (omega arith) in
    let big : 16 ^ suc k ≡ 16 ^ k * 16 = pow-suc 16 k in
    subst (λ j. p / 16 ^ j < 16) (sym e) (div_below p (16 ^ k) 16 above (omega (arith, h, big)))

pub rest_low : (k p : ℕ) → p % 16 ^ k < 16 ^ k
rest_low k p = mod_below p (16 ^ k) (one-le-pow k 16 (omega arith))

-- two facts of an `Ok` give a third
pub both_ok : {T E : Type 0} (r : Result T E) (P Q R : T → Type 0) → ((x : T) → P x → Q x → R x) → IfOk r P → IfOk r Q → IfOk r R
both_ok (Ok x) P Q R f p q = f x p q
both_ok (Err e) P Q R f p q = tt

pub zeros : (n j : ℕ) → slice_index (replicate n 0) j ≡ 0
zeros zero j = refl
zeros (suc n) zero = refl
zeros (suc n) (suc j) = zeros n j
