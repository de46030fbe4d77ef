-- A set names a process or a job twice exactly where two neighbours of its items in ascending order do.
use Rattle.std.proofs.Common.{◌≡◌, ◌≤◌, ◌-◌, ◌+◌, ℕ, List, [], ◌∷◌, ◌++◌, ◌⊎◌, inl, inr, Bool, true, false, ◌||◌, ◌&&◌, refl, sym, ap, ◌∙◌, subst, arith, Ordering, length, take, drop, codes}
use Rattle.std.specs.Str.{bytes_eq}
use Rattle.std.specs.Ordering.{nat_cmp, is_lt, ordering_reverse, ordering_then}
use Rattle.std.specs.declared.cmp.Ordering.TheVariants.{Less, Equal, Greater}
use Rattle.std.specs.Cmp.Lexicographic.{slice_cmp}
use Rattle.std.proofs.Math.Seq.{take-append_seam, drop-append_seam, take-append-add}
use Rattle.std.proofs.lemmas.List.{append_assoc, take-append-drop, length-append}
use Rattle.std.proofs.lemmas.Cmp.{nat_cmp_total}
use Rattle.std.proofs.lemmas.Bool.{and_parts, true≢false}
use Rattle.std.proofs.lemmas.Slice.Eq.{bytes_eq-Decides}
use Rattle.wire_types.specs.Said.{begins_with}
use Rattle.wire_spelling.specs.Spelling.{times, HasItemTwice, HasWholeJobAndMore}
use Rattle.wire_spelling.specs.Numbering.{AreAscending, has_neighbours, holds, overlap}
use Rattle.wire_spelling.proofs.ItemOrder.{least, numbers_equal, same_if, times_here, times_more, times_there}

-- an item is all processes of a job, and the other of that job, as words
pub record IsOfWhole (whole item : List ℕ) : Type 0 where
  pub job : List ℕ
  pub rank : List ℕ
  pub is : whole ≡ job ++ codes ":*"
  pub other : item ≡ job ++ (codes ":" ++ rank)

two_long : (job : List ℕ) → length (job ++ codes ":*") ≡ length job + 2
two_long job = length-append job (codes ":*")

behind_job : (job : List ℕ) → drop (length (job ++ codes ":*") - 2) (job ++ codes ":*") ≡ codes ":*"
behind_job job =
    let long = two_long job in
    let e : length (job ++ codes ":*") - 2 ≡ length job = omega (arith, long) in
    ap (λ n. drop n (job ++ codes ":*")) e ∙ drop-append_seam job (codes ":*")

before_star : (job : List ℕ) → take (length (job ++ codes ":*") - 1) (job ++ codes ":*") ≡ job ++ codes ":"
before_star job =
    let long = two_long job in
    let e : length (job ++ codes ":*") - 1 ≡ length job + 1 = omega (arith, long) in
    ap (λ n. take n (job ++ codes ":*")) e ∙ take-append-add job (codes ":*") 1

pub held : (job rank : List ℕ) → holds (job ++ codes ":*") (job ++ (codes ":" ++ rank)) ≡ true
held job rank =
    let colon = job ++ codes ":" in
    let first : bytes_eq (codes ":*") (drop (length (job ++ codes ":*") - 2) (job ++ codes ":*")) ≡ true = (bytes_eq-Decides _ _).1 (sym (behind_job job)) in
    let long : take (length colon) (job ++ (codes ":" ++ rank)) ≡ colon = ap (take (length colon)) (sym (append_assoc job (codes ":") rank)) ∙ take-append_seam colon rank in
    let begins : begins_with colon (job ++ (codes ":" ++ rank)) ≡ true = (bytes_eq-Decides _ _).1 (sym long) in
    ap (λ b. b && begins_with (take (length (job ++ codes ":*") - 1) (job ++ codes ":*")) (job ++ (codes ":" ++ rank))) first
    ∙ ap (λ front. begins_with front (job ++ (codes ":" ++ rank))) (before_star job) ∙ begins

tail_of : List ℕ → List ℕ
tail_of [] = []
tail_of (x ∷ xs) = xs

-- what is held is of the job
pub of_whole : (whole item : List ℕ) → holds whole item ≡ true → IsOfWhole whole item
of_whole whole item h =
    let both = and_parts _ _ h in
    let n = length whole in
    let job = take (n - 2) whole in
    let end : codes ":*" ≡ drop (n - 2) whole = (bytes_eq-Decides _ _).0 both.0 in
    let is : whole ≡ job ++ codes ":*" = sym (take-append-drop (n - 2) whole) ∙ ap (λ v. job ++ v) (sym end) in
    let front : take (n - 1) whole ≡ job ++ codes ":" = ap (λ v. take (length v - 1) v) is ∙ before_star job in
    let begins : take (n - 1) whole ≡ take (length (take (n - 1) whole)) item = (bytes_eq-Decides _ _).0 both.1 in
    let k = length (take (n - 1) whole) in
    record {
      job = job;
      rank = drop k item;
      is = is;
      other = sym (take-append-drop k item) ∙ ap (λ v. v ++ drop k item) (sym begins ∙ front) ∙ append_assoc job (codes ":") (drop k item);
    }

less_equal : Less ≡ Equal → ⊥
less_equal e = cc

less_greater : Less ≡ Greater → ⊥
less_greater e = cc

greater_equal : Greater ≡ Equal → ⊥
greater_equal e = cc

-- what lies between two words with one beginning has it
record Behind (front word : List ℕ) : Type 0 where
  rest : List ℕ
  is : word ≡ front ++ rest

between : (front x z y : List ℕ) → is_lt (slice_cmp nat_cmp y (front ++ x)) ≡ false → is_lt (slice_cmp nat_cmp (front ++ z) y) ≡ false → Behind front y
between [] x z y f g = record { rest = y; is = refl }
between (a ∷ front) x z [] f g = absurd (true≢false f)
between (a ∷ front) x z (b ∷ y) f g = go (nat_cmp b a) refl (nat_cmp a b) (nat_cmp_total.antisymm a b) f g (between front x z y)
  where
    go : (o : Ordering) → nat_cmp b a ≡ o → (p : Ordering) → p ≡ ordering_reverse (nat_cmp b a) →
        is_lt (ordering_then o (slice_cmp nat_cmp y (front ++ x))) ≡ false → is_lt (ordering_then p (slice_cmp nat_cmp (front ++ z) y)) ≡ false →
        (is_lt (slice_cmp nat_cmp y (front ++ x)) ≡ false → is_lt (slice_cmp nat_cmp (front ++ z) y) ≡ false → Behind front y) → Behind (a ∷ front) (b ∷ y)
    go Less e p is f g ih = absurd (true≢false f)
    go Equal e Less is f g ih = absurd (true≢false g)
    go Equal e Equal is f g ih = let below = ih f g in record { rest = below.rest; is = ap (λ v. v ∷ y) (numbers_equal b a e) ∙ ap (λ v. a ∷ v) below.is }
    go Equal e Greater is f g ih = absurd (greater_equal (is ∙ ap ordering_reverse e))
    go Greater e Less is f g ih = absurd (true≢false g)
    go Greater e Equal is f g ih = absurd (less_equal (sym (is ∙ ap ordering_reverse e)))
    go Greater e Greater is f g ih = absurd (less_greater (sym (is ∙ ap ordering_reverse e)))

-- the same of what holds items the same number of times
pub item_twice : (xs ys : List (List ℕ)) → ((item : List ℕ) → times item xs ≡ times item ys) → HasItemTwice xs → HasItemTwice ys
item_twice xs ys same h = record { item = h.item; twice = subst (λ n. 2 ≤ n) (same h.item) h.twice }

pub whole_and_more : (xs ys : List (List ℕ)) → ((item : List ℕ) → times item xs ≡ times item ys) → HasWholeJobAndMore xs → HasWholeJobAndMore ys
whole_and_more xs ys same h = record {
  job = h.job;
  rank = h.rank;
  whole = subst (λ n. 1 ≤ n) (same (h.job ++ codes ":*")) h.whole;
  more = subst (λ n. 1 ≤ n) (same (h.job ++ (codes ":" ++ h.rank))) h.more;
  apart = h.apart;
}

abbrev IsNamedTwice : List (List ℕ) → Type 0
IsNamedTwice xs = HasItemTwice xs ⊎ HasWholeJobAndMore xs

here : (item x : List ℕ) (xs : List (List ℕ)) → x ≡ item → 1 ≤ times item (x ∷ xs)
here item x xs same = let one = times_here item x xs same in omega (arith, one)

behind : (item x : List ℕ) (xs : List (List ℕ)) → 1 ≤ times item xs → 1 ≤ times item (x ∷ xs)
behind item x xs some = let more = times_more item x xs in omega (arith, more, some)

behind_twice : (item x : List ℕ) (xs : List (List ℕ)) → 2 ≤ times item xs → 2 ≤ times item (x ∷ xs)
behind_twice item x xs some = let more = times_more item x xs in omega (arith, more, some)

named_behind : (x : List ℕ) (xs : List (List ℕ)) → IsNamedTwice xs → IsNamedTwice (x ∷ xs)
named_behind x xs (inl h) = inl (record { item = h.item; twice = behind_twice h.item x xs h.twice })
named_behind x xs (inr h) = inr (record { job = h.job; rank = h.rank; whole = behind _ x xs h.whole; more = behind _ x xs h.more; apart = h.apart })

equal_twice : (x y : List ℕ) (ys : List (List ℕ)) → x ≡ y → HasItemTwice (x ∷ (y ∷ ys))
equal_twice x y ys e = record {
  item = y;
  twice =
      let one = times_here y x (y ∷ ys) e in
      let two = times_here y y ys refl in
      omega (arith, one, two);
}

-- an item that is all processes of a job, and one of that job, in whatever order
held_twice : (x y whole item : List ℕ) (ys : List (List ℕ)) → 1 ≤ times whole (x ∷ (y ∷ ys)) → 1 ≤ times item (x ∷ (y ∷ ys)) → (whole ≡ item → x ≡ y) →
    holds whole item ≡ true → IsNamedTwice (x ∷ (y ∷ ys))
held_twice x y whole item ys some more same h = go (bytes_eq of.rank (codes "*")) refl
  where
    of : IsOfWhole whole item
    of = of_whole whole item h

    go : (b : Bool) → bytes_eq of.rank (codes "*") ≡ b → IsNamedTwice (x ∷ (y ∷ ys))
    go true e =
        let is : of.rank ≡ codes "*" = (bytes_eq-Decides _ _).0 e in
        inl (equal_twice x y ys (same (of.is ∙ sym (of.other ∙ ap (λ r. of.job ++ (codes ":" ++ r)) is))))
    go false e = inr (record {
      job = of.job;
      rank = of.rank;
      whole = subst (λ v. 1 ≤ times v (x ∷ (y ∷ ys))) of.is some;
      more = subst (λ v. 1 ≤ times v (x ∷ (y ∷ ys))) of.other more;
      apart = e;
    })

-- two neighbours that name one twice
pub neighbours_named : (xs : List (List ℕ)) → has_neighbours xs ≡ true → IsNamedTwice xs
neighbours_named [] h = absurd (true≢false (sym h))
neighbours_named (x ∷ []) h = absurd (true≢false (sym h))
neighbours_named (x ∷ (y ∷ ys)) h = go (bytes_eq x y) refl (holds x y) refl (holds y x) refl h (neighbours_named (y ∷ ys))
  where
    all : List (List ℕ)
    all = x ∷ (y ∷ ys)

    go : (b : Bool) → bytes_eq x y ≡ b → (c : Bool) → holds x y ≡ c → (d : Bool) → holds y x ≡ d → ((b || (c || d)) || has_neighbours (y ∷ ys)) ≡ true →
        (has_neighbours (y ∷ ys) ≡ true → IsNamedTwice (y ∷ ys)) → IsNamedTwice (x ∷ (y ∷ ys))
    go true e c f d g h ih = inl (equal_twice x y ys ((bytes_eq-Decides x y).0 e))
    go false e true f d g h ih = held_twice x y x y ys (here x x (y ∷ ys) refl) (behind y x (y ∷ ys) (here y y ys refl)) (λ same. same) f
    go false e false f true g h ih = held_twice x y y x ys (behind y x (y ∷ ys) (here y y ys refl)) (here x x (y ∷ ys) refl) (λ same. sym same) g
    go false e false f false g h ih = named_behind x (y ∷ ys) (ih h)

first_or : (a b : Bool) → a ≡ true → (a || b) ≡ true
first_or true b h = refl
first_or false b h = absurd (true≢false (sym h))

last_or : (a b : Bool) → b ≡ true → (a || b) ≡ true
last_or true b h = refl
last_or false b h = h

-- an item that stands in order twice
pub twice_neighbours : (item : List ℕ) (xs : List (List ℕ)) → AreAscending xs → 2 ≤ times item xs → has_neighbours xs ≡ true
twice_neighbours item [] a t = absurd (omega (arith, t))
twice_neighbours item (x ∷ []) a t = absurd (go (bytes_eq x item) refl)
  where
    go : (b : Bool) → bytes_eq x item ≡ b → ⊥
    go true e = let one = times_here item x [] ((bytes_eq-Decides x item).0 e) in omega (arith, one, t)
    go false e = let none = times_there item x [] e in omega (arith, none, t)
twice_neighbours item (x ∷ (y ∷ ys)) a t = go (bytes_eq x item) refl (twice_neighbours item (y ∷ ys) a.1)
  where
    go : (b : Bool) → bytes_eq x item ≡ b → (2 ≤ times item (y ∷ ys) → has_neighbours (y ∷ ys) ≡ true) → (overlap x y || has_neighbours (y ∷ ys)) ≡ true
    go true e ih =
        let is = (bytes_eq-Decides x item).0 e in
        let one = times_here item x (y ∷ ys) is in
        let below = least y item ys a.1.0 (omega (arith, one, t)) in
        let same = same_if x y (subst (λ v. is_lt (slice_cmp nat_cmp v y) ≡ false) (sym is) below) a.0.0 in
        first_or (overlap x y) (has_neighbours (y ∷ ys)) (first_or (bytes_eq x y) (holds x y || holds y x) ((bytes_eq-Decides x y).1 same))
    go false e ih =
        let none = times_there item x (y ∷ ys) e in
        last_or (overlap x y) (has_neighbours (y ∷ ys)) (ih (omega (arith, none, t)))

-- the item of all processes, behind the colon, and that it isn't another
cancel : (front x y : List ℕ) → front ++ x ≡ front ++ y → x ≡ y
unfolding tail_of
cancel [] x y e = e
cancel (a ∷ front) x y e = cancel front x y (ap tail_of e)

colon_star : (job : List ℕ) → (job ++ codes ":") ++ codes "*" ≡ job ++ codes ":*"
colon_star job = append_assoc job (codes ":") (codes "*")

not_star : (job rank : List ℕ) → bytes_eq rank (codes "*") ≡ false → job ++ (codes ":" ++ rank) ≡ job ++ codes ":*" → ⊥
unfolding tail_of
not_star job rank apart e = true≢false (sym ((bytes_eq-Decides rank (codes "*")).1 (ap tail_of (cancel job _ _ e))) ∙ apart)

-- all processes of a job, and another item of that job, in order
pub whole_neighbours : (job rank : List ℕ) (xs : List (List ℕ)) → AreAscending xs → 1 ≤ times (job ++ codes ":*") xs →
    1 ≤ times (job ++ (codes ":" ++ rank)) xs → bytes_eq rank (codes "*") ≡ false → has_neighbours xs ≡ true
whole_neighbours job rank [] a some more apart = absurd (omega (arith, some))
whole_neighbours job rank (x ∷ []) a some more apart = absurd (go (bytes_eq x (job ++ codes ":*")) refl (bytes_eq x (job ++ (codes ":" ++ rank))) refl)
  where
    go : (b : Bool) → bytes_eq x (job ++ codes ":*") ≡ b → (c : Bool) → bytes_eq x (job ++ (codes ":" ++ rank)) ≡ c → ⊥
    go true e true f = not_star job rank apart (sym ((bytes_eq-Decides _ _).0 f) ∙ (bytes_eq-Decides _ _).0 e)
    go true e false f = let none = times_there (job ++ (codes ":" ++ rank)) x [] f in omega (arith, none, more)
    go false e c f = let none = times_there (job ++ codes ":*") x [] e in omega (arith, none, some)
whole_neighbours job rank (x ∷ (y ∷ ys)) a some more apart =
    go (bytes_eq x whole) refl (bytes_eq x other) refl (λ r. whole_neighbours job r (y ∷ ys) a.1)
  where
    whole : List ℕ
    whole = job ++ codes ":*"

    other : List ℕ
    other = job ++ (codes ":" ++ rank)

    colon : List ℕ
    colon = job ++ codes ":"

    behind_other : (bytes_eq x other ≡ false) → 1 ≤ times other (y ∷ ys)
    behind_other f = let none = times_there other x (y ∷ ys) f in omega (arith, none, more)

    behind_whole : (bytes_eq x whole ≡ false) → 1 ≤ times whole (y ∷ ys)
    behind_whole f = let none = times_there whole x (y ∷ ys) f in omega (arith, none, some)

    other_is : colon ++ rank ≡ other
    other_is = append_assoc job (codes ":") rank

    -- the neighbour of all processes is of the job
    after_whole : x ≡ whole → 1 ≤ times other (y ∷ ys) → overlap x y ≡ true
    after_whole is there =
        let above : is_lt (slice_cmp nat_cmp y (colon ++ codes "*")) ≡ false = subst (λ v. is_lt (slice_cmp nat_cmp y v) ≡ false) (is ∙ sym (colon_star job)) a.0.0 in
        let below : is_lt (slice_cmp nat_cmp (colon ++ rank) y) ≡ false = subst (λ v. is_lt (slice_cmp nat_cmp v y) ≡ false) (sym other_is) (least y other ys a.1.0 there) in
        let of = between colon (codes "*") rank y above below in
        let held_is : holds x y ≡ true = ap (λ v. holds v y) is ∙ ap (holds whole) (of.is ∙ append_assoc job (codes ":") of.rest) ∙ held job of.rest in
        last_or (bytes_eq x y) (holds x y || holds y x) (first_or (holds x y) (holds y x) held_is)

    -- the neighbour of one of the job, before all processes, is of the job too
    after_other : x ≡ other → 1 ≤ times whole (y ∷ ys) → ((r : List ℕ) → 1 ≤ times whole (y ∷ ys) → 1 ≤ times (job ++ (codes ":" ++ r)) (y ∷ ys) → bytes_eq r (codes "*") ≡ false →
        has_neighbours (y ∷ ys) ≡ true) → (overlap x y || has_neighbours (y ∷ ys)) ≡ true
    after_other is there ih = go (bytes_eq of.rest (codes "*")) refl
      where
        above : is_lt (slice_cmp nat_cmp y (colon ++ rank)) ≡ false
        above = subst (λ v. is_lt (slice_cmp nat_cmp y v) ≡ false) (is ∙ sym other_is) a.0.0

        below : is_lt (slice_cmp nat_cmp (colon ++ codes "*") y) ≡ false
        below = subst (λ v. is_lt (slice_cmp nat_cmp v y) ≡ false) (sym (colon_star job)) (least y whole ys a.1.0 there)

        of : Behind colon y
        of = between colon rank (codes "*") y above below

        named : y ≡ job ++ (codes ":" ++ of.rest)
        named = of.is ∙ append_assoc job (codes ":") of.rest

        go : (b : Bool) → bytes_eq of.rest (codes "*") ≡ b → (overlap x y || has_neighbours (y ∷ ys)) ≡ true
        go true e =
            let star_is : of.rest ≡ codes "*" = (bytes_eq-Decides _ _).0 e in
            let whole_is : y ≡ whole = named ∙ ap (λ r. job ++ (codes ":" ++ r)) star_is in
            let held_is : holds y x ≡ true = ap (λ v. holds v x) whole_is ∙ ap (holds whole) is ∙ held job rank in
            first_or (overlap x y) (has_neighbours (y ∷ ys)) (last_or (bytes_eq x y) (holds x y || holds y x) (last_or (holds x y) (holds y x) held_is))
        go false e = last_or (overlap x y) (has_neighbours (y ∷ ys)) (ih of.rest there (here (job ++ (codes ":" ++ of.rest)) y ys named) e)

    go : (b : Bool) → bytes_eq x whole ≡ b → (c : Bool) → bytes_eq x other ≡ c → ((r : List ℕ) → 1 ≤ times whole (y ∷ ys) → 1 ≤ times (job ++ (codes ":" ++ r)) (y ∷ ys) →
        bytes_eq r (codes "*") ≡ false → has_neighbours (y ∷ ys) ≡ true) → (overlap x y || has_neighbours (y ∷ ys)) ≡ true
    go true e true f ih = absurd (not_star job rank apart (sym ((bytes_eq-Decides _ _).0 f) ∙ (bytes_eq-Decides _ _).0 e))
    go true e false f ih = first_or (overlap x y) (has_neighbours (y ∷ ys)) (after_whole ((bytes_eq-Decides _ _).0 e) (behind_other f))
    go false e true f ih = after_other ((bytes_eq-Decides _ _).0 f) (behind_whole e) ih
    go false e false f ih = last_or (overlap x y) (has_neighbours (y ∷ ys)) (ih rank (behind_whole e) (behind_other f) apart)
