-- Rising numbers.
use Rattle.std.proofs.Common.{◌≡◌, ◌∙◌, ap, sym, arith, add-one, append_assoc, append-nil, ℕ, suc, ◌+◌, ◌-◌, ◌≤◌, ◌<◌, List, [], ◌∷◌, ◌++◌}
use Rattle.std.specs.Prelude.{flat_map}
use Rattle.wire_cutoff_laws.specs.Sizes.{numbers_from, followed}

-- from n to most
pub numbers_next : (n most : ℕ) → n ≤ most → numbers_from n (suc most - n) ≡ n ∷ numbers_from (suc n) (suc most - suc n)
numbers_next n most le = rw e
  where
    e : suc most - n ≡ suc (suc most - suc n)
    e = omega (arith, le)

pub numbers_none : (n most : ℕ) → most < n → numbers_from n (suc most - n) ≡ []
numbers_none n most lt = rw e
  where
    e : suc most - n ≡ 0
    e = omega (arith, lt)

-- one list more, and one number fewer to come
pub one_followed : (before after whole : List (List ℕ)) (sizes : List ℕ) (n most : ℕ) → n ≤ most
    → after ≡ before ++ (sizes ++ n ∷ []) ∷ [] → before ++ followed sizes (numbers_from n (suc most - n)) ≡ whole
    → after ++ followed sizes (numbers_from (n + 1) (suc most - (n + 1))) ≡ whole
one_followed before after whole sizes n most le is was =
    rw (add-one n) (rw is (append_assoc before ((sizes ++ n ∷ []) ∷ []) (followed sizes (numbers_from (suc n) (suc most - suc n)))
    ∙ ap (λ ns. before ++ followed sizes ns) (sym (numbers_next n most le)) ∙ was))

-- the lists of numbers to come, one number less
pub one_flat : {A : Type 0} (f : ℕ → List A) (before after whole : List A) (n end : ℕ) → n < end → after ≡ before ++ f n
    → before ++ flat_map f (numbers_from n (end - n)) ≡ whole → after ++ flat_map f (numbers_from (n + 1) (end - (n + 1))) ≡ whole
one_flat f before after whole n end lt is was =
    rw (add-one n) (rw is (append_assoc before (f n) (flat_map f (numbers_from (suc n) (end - suc n))) ∙ ap (λ ns. before ++ flat_map f ns) (sym next) ∙ was))
  where
    fewer : end - n ≡ suc (end - suc n)
    fewer = omega (arith, lt)

    next : numbers_from n (end - n) ≡ n ∷ numbers_from (suc n) (end - suc n)
    next = ap (numbers_from n) fewer

pub none_flat : {A : Type 0} (f : ℕ → List A) (before whole : List A) (n end : ℕ) → end ≤ n
    → before ++ flat_map f (numbers_from n (end - n)) ≡ whole → before ≡ whole
none_flat f before whole n end le was =
    sym (append-nil before) ∙ ap (λ k. before ++ flat_map f (numbers_from n k)) (sym none) ∙ was
  where
    none : end - n ≡ 0
    none = omega (arith, le)
