-- Lists that stand one after another in one list, and where each of them begins.
use Rattle.std.proofs.Common.{◌≡◌, ◌∙◌, ap, sym, refl, ℕ, zero, suc, ◌+◌, ◌-◌, ◌≤◌, ◌<◌, List, [], ◌∷◌, ◌++◌, length, map, take, drop, get_or, None, Some, Option, inl, inr}
use Rattle.std.proofs.Common.{length-append, arith, append_assoc, take_at, drop_at, drop-drop, flat_map}
use Rattle.std.specs.Prelude.{slice_get, slice_range}
use Rattle.std.proofs.lemmas.Option.{none-some, same_Some, slice_get_cases, slice_get_past, slice_get_within}
use Rattle.std.proofs.lemmas.List.{drop_more, take-map, drop-map}
use Rattle.wire_plan.specs.Kinds.{firsts_from}

module _ {X : Type 0} (size : X → ℕ) where
  pub firsts_count : (n : ℕ) (xs : List X) → length (firsts_from size n xs) ≡ suc (length xs)
  firsts_count n [] = refl
  firsts_count n (x ∷ xs) = ap suc (firsts_count (n + size x) xs)

  first_first : (n : ℕ) (xs : List X) → slice_get (firsts_from size n xs) 0 ≡ Some n
  first_first n [] = refl
  first_first n (x ∷ xs) = refl

  -- where a first and the next one are, there is an element; and where the next one isn't, there is none
  pub no_part : (n : ℕ) (xs : List X) (p : ℕ) → length (firsts_from size n xs) ≤ suc p → slice_get xs p ≡ None
  no_part n xs p le = let count = firsts_count n xs in slice_get_past xs p (omega (arith, count, le))

  -- one more begins, behind those that have begun
  pub firsts_step : (whole old new : List ℕ) (n m : ℕ) (xs : List X) (i : ℕ) (d : X) → i < length xs → m ≡ n + size (get_or xs i d) → new ≡ old ++ n ∷ []
      → whole ≡ old ++ firsts_from size n (drop i xs) → whole ≡ new ++ firsts_from size m (drop (i + 1) xs)
  firsts_step whole old new n m xs i d lt more grown before =
      before
      ∙ ap (λ ys. old ++ firsts_from size n ys) (drop_more xs i d lt)
      ∙ ap (λ k. old ++ (n ∷ firsts_from size k (drop (i + 1) xs))) (sym more)
      ∙ sym (append_assoc old (n ∷ []) (firsts_from size m (drop (i + 1) xs)))
      ∙ ap (λ ns. ns ++ firsts_from size m (drop (i + 1) xs)) (sym grown)

module _ {X A : Type 0} (f : X → List A) where
  -- what stands between these places is the list of the p-th element, where the first list begins at n
  pub record IsPart (n : ℕ) (xs : List X) (p from to : ℕ) : Type 0 where
    pub x : X
    pub is : slice_get xs p ≡ Some x
    pub k : ℕ
    pub begins : from ≡ n + k
    pub ends : to ≡ from + length (f x)
    pub within : k + length (f x) ≤ length (flat_map f xs)
    pub cut : take (length (f x)) (drop k (flat_map f xs)) ≡ f x

  pub is_part : (size : X → ℕ) → ((x : X) → length (f x) ≡ size x) → (n : ℕ) (xs : List X) (p from to : ℕ)
      → slice_get (firsts_from size n xs) p ≡ Some from → slice_get (firsts_from size n xs) (suc p) ≡ Some to → IsPart n xs p from to
  is_part size same n [] p from to a b = absurd (none-some to b)
  is_part size same n (x ∷ xs) zero from to a b =
      let here : n ≡ from = same_Some _ _ a in
      let next : n + size x ≡ to = same_Some _ _ (sym (first_first size (n + size x) xs) ∙ b) in
      let long = same x in
      record {
        x = x;
        is = refl;
        k = 0;
        begins = omega (arith, here);
        ends = omega (arith, here, next, long);
        within = let all = length-append (f x) (flat_map f xs) in omega (arith, all);
        cut = take_at (f x) (flat_map f xs) (length (f x)) refl;
      }
  is_part size same n (x ∷ xs) (suc p) from to a b =
      let rest = is_part size same (n + size x) xs p from to a b in
      let begins = rest.begins in
      let within = rest.within in
      let long = same x in
      record {
        x = rest.x;
        is = rest.is;
        k = length (f x) + rest.k;
        begins = omega (arith, begins, long);
        ends = rest.ends;
        within = let all = length-append (f x) (flat_map f xs) in omega (arith, all, within);
        cut = ap (take (length (f rest.x))) (sym (drop-drop rest.k (length (f x)) (f x ++ flat_map f xs)) ∙ ap (drop rest.k) (drop_at (f x) (flat_map f xs) (length (f x)) refl)) ∙ rest.cut;
      }

  -- so where the first list begins at 0
  pub part_ordered : (xs : List X) (p from to : ℕ) → IsPart 0 xs p from to → from ≤ to
  part_ordered xs p from to part = let ends = part.ends in omega (arith, ends)

  pub part_within : (xs : List X) (p from to : ℕ) → IsPart 0 xs p from to → to ≤ length (flat_map f xs)
  part_within xs p from to part = let begins = part.begins in let ends = part.ends in let within = part.within in omega (arith, begins, ends, within)

  pub part_is : (xs : List X) (p from to : ℕ) (part : IsPart 0 xs p from to) → slice_range (flat_map f xs) from to ≡ f part.x
  part_is xs p from to part =
      let begins = part.begins in
      let ends = part.ends in
      let start : from ≡ part.k = omega (arith, begins) in
      let long : to - from ≡ length (f part.x) = omega (arith, ends) in
      ap (λ n. take n (drop from (flat_map f xs))) long ∙ ap (λ k. take (length (f part.x)) (drop k (flat_map f xs))) start ∙ part.cut

  -- the list of one element more, behind those before it
  pub flat_step : (whole old new : List A) (xs : List X) (i : ℕ) (d : X) → i < length xs → new ≡ old ++ f (get_or xs i d)
      → whole ≡ old ++ flat_map f (drop i xs) → whole ≡ new ++ flat_map f (drop (i + 1) xs)
  flat_step whole old new xs i d lt grown before =
      before
      ∙ ap (λ ys. old ++ flat_map f ys) (drop_more xs i d lt)
      ∙ sym (append_assoc old (f (get_or xs i d)) (flat_map f (drop (i + 1) xs)))
      ∙ ap (λ ys. ys ++ flat_map f (drop (i + 1) xs)) (sym grown)

pub slice_range-map : {A B : Type 0} (f : A → B) (xs : List A) (from to : ℕ) → map f (slice_range xs from to) ≡ slice_range (map f xs) from to
slice_range-map f xs from to = sym (take-map f (to - from) (drop from xs)) ∙ ap (take (to - from)) (sym (drop-map f from xs))
