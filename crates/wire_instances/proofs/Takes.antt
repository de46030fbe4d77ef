-- Which turns a loop takes.
use Rattle.std.proofs.Common.{◌≡◌, ◌∙◌, ap, sym, refl, ℕ, zero, suc, ◌+◌, ◌-◌, ◌<◌, ◌≤◌, ◌==◌, inl, inr, List, [], ◌∷◌, ◌++◌, Bool, true, false, not, cond, filter, arith, true≢false}
use Rattle.std.specs.Prelude.{nat_lt, nat_le, ◌&&◌}
use Rattle.std.specs.List.{range_with_len, list_all}
use Rattle.wire_runs.specs.Fences.{is_member}
use Rattle.wire_runs.specs.Patterns.{Cast, Turns, InOrder, Round, Chosen, turns, group}
use Rattle.wire_instances.specs.Tables.{takes, goes_round}
use Rattle.std.proofs.lemmas.Bool.{and_parts, cases_lt}
use Rattle.std.proofs.lemmas.Bool.Decides.{nat_tests}
use Rattle.wire_instances.proofs.Texts.{moved}
use Rattle.wire_instances.proofs.Ranges.{around, member_inside, member_outside, is_lt, opened}

-- where the caller isn't in the group, or the loop isn't cyclic
le_of : (a b : ℕ) → nat_le a b ≡ true → a ≤ b
le_of a b h = grind (arith, nat_tests)

lt_of : (a b : ℕ) → nat_lt a b ≡ true → a < b
lt_of a b h = grind (arith, nat_tests)

is_le : (a b : ℕ) → a ≤ b → nat_le a b ≡ true
is_le a b h = grind (arith, nat_tests)

pub turns_once : (cast : Cast) (v i role : ℕ) (mode : Turns) → (mode ≡ Round → is_member (group role cast.roles) v ≡ false)
    → turns cast v i role mode ≡ filter (takes cast v i mode) (group role cast.roles)
turns_once cast v i role InOrder h = refl
turns_once cast v i role Round h = ap (λ b. cond b (filter (nat_lt v) (group role cast.roles) ++ filter (λ e. nat_lt e v) (group role cast.roles)) (filter (λ e. not (e == v)) (group role cast.roles))) (h refl)
turns_once cast v i role Chosen h = refl

-- where a caller of the group goes round it
pub turns_round : (cast : Cast) (v i role f e : ℕ) → range_with_len f (e - f) ≡ group role cast.roles → f ≤ v → v < e
    → turns cast v i role Round ≡ filter (takes cast v i Round) (range_with_len (v + 1) (e - (v + 1))) ++ filter (takes cast v i Round) (range_with_len f (v - f))
turns_round cast v i role f e is l u =
    ap (λ g. cond (is_member g v) (filter (nat_lt v) g ++ filter (λ x. nat_lt x v) g) (filter (λ x. not (x == v)) g)) (sym is)
    ∙ ap (λ b. cond b (filter (nat_lt v) (range_with_len f (e - f)) ++ filter (λ x. nat_lt x v) (range_with_len f (e - f))) (filter (λ x. not (x == v)) (range_with_len f (e - f))))
    (member_inside f (e - f) v l (omega (arith, l, u)))
    ∙ around f e v l u

pub all_append : (p : ℕ → Bool) (xs ys : List ℕ) → list_all p xs ≡ true → list_all p ys ≡ true → list_all p (xs ++ ys) ≡ true
all_append p [] ys h k = k
all_append p (x ∷ xs) ys h k =
    let parts = and_parts (p x) (list_all p xs) h in
    ap (λ b. b && list_all p (xs ++ ys)) parts.0 ∙ all_append p xs ys parts.1 k

pub all_of_filter : (n : ℕ) (q : ℕ → Bool) (a m : ℕ) → a + m ≤ n → list_all (λ e. nat_lt e n) (filter q (range_with_len a m)) ≡ true
all_of_filter n q a zero h = refl
all_of_filter n q a (suc m) h = go (q a) (is_lt a n (omega (arith, h))) (all_of_filter n q (a + 1) m (omega (arith, h)))
  where
    go : (b : Bool) → nat_lt a n ≡ true → list_all (λ e. nat_lt e n) (filter q (range_with_len (a + 1) m)) ≡ true
        → list_all (λ e. nat_lt e n) (cond b (a ∷ filter q (range_with_len (a + 1) m)) (filter q (range_with_len (a + 1) m))) ≡ true
    go true l t = ap (λ b. b && list_all (λ e. nat_lt e n) (filter q (range_with_len (a + 1) m))) l ∙ t
    go false l t = t

-- one more process is looked at
pub turn_taken : (p : ℕ → Bool) (v end : ℕ) (old now all : List ℕ) → v < end → p v ≡ true → now ≡ old ++ v ∷ []
    → old ++ filter p (range_with_len v (end - v)) ≡ all → now ++ filter p (range_with_len (v + 1) (end - (v + 1))) ≡ all
turn_taken p v end old now all h takes_it more inv =
    moved old now (v ∷ []) (filter p (range_with_len (v + 1) (end - (v + 1)))) _ all more
    (ap (filter p) (opened v end h) ∙ ap (λ b. cond b (v ∷ filter p (range_with_len (v + 1) (end - (v + 1)))) (filter p (range_with_len (v + 1) (end - (v + 1))))) takes_it) inv

pub turn_left : (p : ℕ → Bool) (v end : ℕ) (old all : List ℕ) → v < end → p v ≡ false
    → old ++ filter p (range_with_len v (end - v)) ≡ all → old ++ filter p (range_with_len (v + 1) (end - (v + 1))) ≡ all
turn_left p v end old all h leaves_it inv =
    sym (ap (λ xs. old ++ xs) (ap (filter p) (opened v end h) ∙ ap (λ b. cond b (v ∷ filter p (range_with_len (v + 1) (end - (v + 1)))) (filter p (range_with_len (v + 1) (end - (v + 1))))) leaves_it)) ∙ inv

-- the turns, as they are written
pub written_round : (cast : Cast) (v i role f e : ℕ) (mode : Turns) (new mid now : List ℕ) → range_with_len f (e - f) ≡ group role cast.roles → goes_round mode f e v ≡ true
    → new ≡ [] → mid ≡ new ++ filter (takes cast v i mode) (range_with_len (v + 1) (e - (v + 1))) → now ≡ mid ++ filter (takes cast v i mode) (range_with_len f (v - f))
    → now ≡ turns cast v i role mode
written_round cast v i role f e InOrder new mid now is goes none first second = absurd (true≢false (sym goes))
written_round cast v i role f e Chosen new mid now is goes none first second = absurd (true≢false (sym goes))
written_round cast v i role f e Round new mid now is goes none first second =
    let parts = and_parts (nat_le f v) (nat_lt v e) goes in
    second ∙ ap (λ t. t ++ filter (takes cast v i Round) (range_with_len f (v - f))) (first ∙ ap (λ t. t ++ filter (takes cast v i Round) (range_with_len (v + 1) (e - (v + 1)))) none)
    ∙ sym (turns_round cast v i role f e is (le_of f v parts.0) (lt_of v e parts.1))

pub written_once : (cast : Cast) (v i role f e : ℕ) (mode : Turns) (new now : List ℕ) → range_with_len f (e - f) ≡ group role cast.roles → goes_round mode f e v ≡ false
    → new ≡ [] → now ≡ new ++ filter (takes cast v i mode) (range_with_len f (e - f))
    → now ≡ turns cast v i role mode
written_once cast v i role f e mode new now is goes none first =
    first ∙ ap (λ t. t ++ filter (takes cast v i mode) (range_with_len f (e - f))) none ∙ ap (filter (takes cast v i mode)) is
    ∙ sym (turns_once cast v i role mode (λ r. ap (λ g. is_member g v) (sym is) ∙ member_outside f (e - f) v (λ l u. both f e v (sym goes ∙ ap (λ m. goes_round m f e v) r) l (omega (arith, l, u)))))
  where
    both : (a b w : ℕ) → false ≡ (nat_le a w && nat_lt w b) → a ≤ w → w < b → ⊥
    both a b w q l u = true≢false (sym (q ∙ ap (λ t. t && nat_lt w b) (is_le a w l) ∙ is_lt w b u))

pub goes_parts : (mode : Turns) (f e v : ℕ) → goes_round mode f e v ≡ true → (f ≤ v) × (v < e)
goes_parts InOrder f e v h = absurd (true≢false (sym h))
goes_parts Chosen f e v h = absurd (true≢false (sym h))
goes_parts Round f e v h = let parts = and_parts (nat_le f v) (nat_lt v e) h in (le_of f v parts.0, lt_of v e parts.1)

-- all of them are processes
pub round_there : (n : ℕ) (p : ℕ → Bool) (f e v : ℕ) (new mid now : List ℕ) → e ≤ n → v < e → new ≡ [] → mid ≡ new ++ filter p (range_with_len (v + 1) (e - (v + 1)))
    → now ≡ mid ++ filter p (range_with_len f (v - f)) → list_all (λ x. nat_lt x n) now ≡ true
round_there n p f e v new mid now within u none first second =
    ap (list_all (λ x. nat_lt x n)) (second ∙ ap (λ t. t ++ filter p (range_with_len f (v - f))) (first ∙ ap (λ t. t ++ filter p (range_with_len (v + 1) (e - (v + 1)))) none))
    ∙ all_append (λ x. nat_lt x n) (filter p (range_with_len (v + 1) (e - (v + 1)))) (filter p (range_with_len f (v - f)))
    (all_of_filter n p (v + 1) (e - (v + 1)) (omega (arith, within, u))) (part f)
  where
    part : (g : ℕ) → list_all (λ x. nat_lt x n) (filter p (range_with_len g (v - g))) ≡ true
    part g = elim (cases_lt g v) [
      | inl l ↦ all_of_filter n p g (v - g) (omega (arith, l, within, u))
      | inr o ↦ let none_left : v - g ≡ 0 = omega (arith, o) in ap (λ k. list_all (λ x. nat_lt x n) (filter p (range_with_len g k))) none_left
    ]

pub once_there : (n : ℕ) (p : ℕ → Bool) (f e : ℕ) (new now : List ℕ) → f ≤ e → e ≤ n → new ≡ [] → now ≡ new ++ filter p (range_with_len f (e - f))
    → list_all (λ x. nat_lt x n) now ≡ true
once_there n p f e new now l within none first =
    ap (list_all (λ x. nat_lt x n)) (first ∙ ap (λ t. t ++ filter p (range_with_len f (e - f))) none) ∙ all_of_filter n p f (e - f) (omega (arith, l, within))
