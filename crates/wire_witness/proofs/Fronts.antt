-- The races among the first findings, as one more finding is met.
use Rattle.std.proofs.Common.{◌≡◌, ◌∙◌, ap, sym, refl, ℕ, zero, suc, ◌+◌, ◌<◌, ◌≤◌, Bool, true, false, List, [], ◌∷◌, ◌++◌, take, filter, length, length-append, Some, arith}
use Rattle.std.specs.Prelude.{slice_get}
use Rattle.std.proofs.lemmas.List.{append-nil}
use Rattle.std.proofs.lemmas.List.Elements.{filter-append}
use Rattle.wire_runs.proofs.Lists.{take_get}

one_more : {X : Type 0} (p : X → Bool) (xs : List X) (i : ℕ) (x : X) → slice_get xs i ≡ Some x → filter p (take (i + 1) xs) ≡ filter p (take i xs) ++ filter p (x ∷ [])
one_more p xs i x is =
    let later : i + 1 ≡ suc i = omega arith in
    ap (λ k. filter p (take k xs)) later ∙ ap (filter p) (take_get xs i x is) ∙ filter-append p (take i xs) (x ∷ [])

chosen : {X : Type 0} (p : X → Bool) (x : X) (b : Bool) → p x ≡ b → b ≡ true → filter p (x ∷ []) ≡ x ∷ []
chosen p x b is holds = let at : p x ≡ true = is ∙ holds in rw at refl

left_out : {X : Type 0} (p : X → Bool) (x : X) (b : Bool) → p x ≡ b → b ≡ false → filter p (x ∷ []) ≡ []
left_out p x b is fails = let at : p x ≡ false = is ∙ fails in rw at refl

-- with a finding that is a race there is one more
pub with_one : {X : Type 0} (p : X → Bool) (xs : List X) (i : ℕ) (x : X) (b : Bool) → slice_get xs i ≡ Some x → b ≡ p x → b ≡ true → filter p (take (i + 1) xs) ≡ filter p (take i xs) ++ x ∷ []
with_one p xs i x b there is holds = one_more p xs i x there ∙ ap (λ t. filter p (take i xs) ++ t) (chosen p x b (sym is) holds)

-- with any other there are the same
pub without : {X : Type 0} (p : X → Bool) (xs : List X) (i : ℕ) (x : X) (b : Bool) → slice_get xs i ≡ Some x → b ≡ p x → b ≡ false → filter p (take (i + 1) xs) ≡ filter p (take i xs)
without p xs i x b there is fails =
    one_more p xs i x there ∙ ap (λ t. filter p (take i xs) ++ t) (left_out p x b (sym is) fails) ∙ append-nil (filter p (take i xs))

pub counted_one : {X : Type 0} (p : X → Bool) (xs : List X) (i count : ℕ) (x : X) (b : Bool) → slice_get xs i ≡ Some x → b ≡ p x → b ≡ true → count ≡ length (filter p (take i xs)) →
    count + 1 ≡ length (filter p (take (i + 1) xs))
counted_one p xs i count x b there is holds so_far =
    let more = ap length (with_one p xs i x b there is holds) in
    let longer = length-append (filter p (take i xs)) (x ∷ []) in
    let one : length (x ∷ []) ≡ 1 = refl in
    omega (arith, so_far, more, longer, one)

-- a front that is short is all
all_there : {X : Type 0} (most : ℕ) (ys : List X) → length (take most ys) < most → take most ys ≡ ys
all_there zero ys short = absurd (omega (arith, short))
all_there (suc most) [] short = refl
all_there (suc most) (y ∷ ys) short =
    let same : length (take (suc most) (y ∷ ys)) ≡ suc (length (take most ys)) = refl in
    let less : length (take most ys) < most = omega (arith, short, same) in
    ap (λ t. y ∷ t) (all_there most ys less)

nothing : {X : Type 0} (n : ℕ) → take {A = X} n [] ≡ []
nothing zero = refl
nothing (suc n) = refl

takes_one : {X : Type 0} (most : ℕ) (ys : List X) (x : X) → length (take most ys) < most → take most (ys ++ x ∷ []) ≡ take most ys ++ x ∷ []
takes_one zero ys x short = absurd (omega (arith, short))
takes_one (suc most) [] x short = ap (λ t. x ∷ t) (nothing most)
takes_one (suc most) (y ∷ ys) x short =
    let same : length (take (suc most) (y ∷ ys)) ≡ suc (length (take most ys)) = refl in
    let less : length (take most ys) < most = omega (arith, short, same) in
    ap (λ t. y ∷ t) (takes_one most ys x less)

takes_none : {X : Type 0} (most : ℕ) (ys : List X) (x : X) → most ≤ length (take most ys) → take most (ys ++ x ∷ []) ≡ take most ys
takes_none zero ys x long = refl
takes_none (suc most) [] x long = absurd (omega (arith, long))
takes_none (suc most) (y ∷ ys) x long =
    let same : length (take (suc most) (y ∷ ys)) ≡ suc (length (take most ys)) = refl in
    let more : most ≤ length (take most ys) = omega (arith, long, same) in
    ap (λ t. y ∷ t) (takes_none most ys x more)

-- the first of those that are chosen, with one more
pub takes_race : {X : Type 0} (p : X → Bool) (most : ℕ) (xs races : List X) (i : ℕ) (x : X) (b : Bool) → slice_get xs i ≡ Some x → b ≡ p x → b ≡ true → length races < most →
    races ≡ take most (filter p (take i xs)) → races ++ x ∷ [] ≡ take most (filter p (take (i + 1) xs))
takes_race p most xs races i x b there is holds room so_far =
    let front = filter p (take i xs) in
    let short : length (take most front) < most = rw (sym so_far) room in
    ap (λ t. t ++ x ∷ []) so_far ∙ sym (takes_one most front x short) ∙ ap (take most) (sym (with_one p xs i x b there is holds))

pub is_full : {X : Type 0} (p : X → Bool) (most : ℕ) (xs races : List X) (i : ℕ) (x : X) (b : Bool) → slice_get xs i ≡ Some x → b ≡ p x → b ≡ true → most ≤ length races →
    races ≡ take most (filter p (take i xs)) → races ≡ take most (filter p (take (i + 1) xs))
is_full p most xs races i x b there is holds full so_far =
    let front = filter p (take i xs) in
    let long : most ≤ length (take most front) = rw (sym so_far) full in
    so_far ∙ sym (takes_none most front x long) ∙ ap (take most) (sym (with_one p xs i x b there is holds))

pub is_none : {X : Type 0} (p : X → Bool) (most : ℕ) (xs races : List X) (i : ℕ) (x : X) (b : Bool) → slice_get xs i ≡ Some x → b ≡ p x → b ≡ false →
    races ≡ take most (filter p (take i xs)) → races ≡ take most (filter p (take (i + 1) xs))
is_none p most xs races i x b there is fails so_far = so_far ∙ ap (take most) (sym (without p xs i x b there is fails))
