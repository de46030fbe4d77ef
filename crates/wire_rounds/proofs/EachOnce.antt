-- Each piece of the deal stands once: in what one pass took, or in what is left.
use Rattle.std.proofs.Common.{◌≡◌, ℕ, zero, suc, ◌+◌, ◌<◌, ◌==◌, ◌&&◌, Bool, true, false, if◌then◌else◌, List, [], ◌∷◌, ◌++◌, length, map, sym, refl, ap, ◌∙◌, subst, arith, inl, inr}
use Rattle.std.proofs.lemmas.Bool.{eqb-true, eq-eqb, and_parts, and_from, cases_Bool}
use Rattle.std.proofs.lemmas.List.Sorted.{IsPermutation-refl, IsPermutation-sym, IsPermutation-trans, IsPermutation-cons, IsPermutation-middle}
use Rattle.std.specs.List.Sorted.{IsPermutation}
use Rattle.std.proofs.lemmas.List.{nil_from_length}
use mathlib.Core.Option.{some}
use lib.ListN.{get_elem?}
use Rattle.wire_rounds.specs.declared.rule.Piece.{Piece}
use Rattle.wire_rounds.specs.declared.rule.DequeView.{DequeView}
use Rattle.wire_rounds.specs.declared.round.Pass.{Pass}
use Rattle.wire_rounds.specs.declared.round.StealRound.{StealRound}
use Rattle.wire_rounds.specs.Rules.{weigh}
use Rattle.wire_rounds.specs.Shares.{share_of, deal_of}
use Rattle.wire_rounds.specs.Rounds.{workers_of, own_view, permit_views}
use Rattle.wire_rounds.specs.Taken.{taken_at, stolen, taken_from, rest_of, rest_to, rest_of_all, all_of, taken_by, taken_by_all}
use Rattle.wire_rounds.proofs.Deals.{weigh-append, weigh_ones}
use Rattle.wire_rounds.proofs.Sharing.{shares, shares_zero, shares_suc, shares_all}

abbrev same_piece : Piece → Piece → Bool
same_piece x y = (x.rank.number == y.rank.number) && (x.round == y.round)

same_is : (x y : Piece) → same_piece x y ≡ true → x ≡ y
same_is x y e =
    let both = and_parts (x.rank.number == y.rank.number) (x.round == y.round) e in
    let a : x.rank.number ≡ y.rank.number = eqb-true x.rank.number y.rank.number both.0 in
    let b : x.round ≡ y.round = eqb-true x.round y.round both.1 in
    λ t. record { rank = record { number = a t }; round = b t }

is_itself : (x : Piece) → same_piece x x ≡ true
is_itself x = and_from (x.rank.number == x.rank.number) (x.round == x.round) (eq-eqb x.rank.number x.rank.number refl) (eq-eqb x.round x.round refl)

-- 1 for x, and 0 for any other piece
abbrev one_for : Piece → Piece → ℕ
one_for x y = if same_piece x y then 1 else 0

one_for_itself : (x : Piece) → one_for x x ≡ 1
one_for_itself x = rw (is_itself x) refl

none_for : (x y : Piece) → same_piece x y ≡ false → one_for x y ≡ 0
none_for x y e = rw e refl

-- a list with some weight of x has x at a place
found : (x : Piece) (ys : List Piece) → 0 < weigh (one_for x) ys → (front : List Piece) × (back : List Piece) × (ys ≡ front ++ x ∷ back)
found x [] more = absurd (omega arith)
found x (y ∷ ys) more =
    elim (cases_Bool (same_piece x y)) [
      | inl same ↦ ([], ys, ap (λ z. z ∷ ys) (sym (same_is x y same)))
      | inr other ↦ (let rest = found x ys (omega (arith, none_for x y other)) in (y ∷ rest.0, rest.1, ap (λ l. y ∷ l) rest.2))
    ]

-- lists of the same weight, however their pieces are weighed, are permutations
pub same_weights : (xs ys : List Piece) → ((h : Piece → ℕ) → weigh h xs ≡ weigh h ys) → IsPermutation xs ys
same_weights [] ys same =
    let none : ys ≡ [] = nil_from_length ys (sym (weigh_ones ys) ∙ sym (same (λ _. 1))) in
    subst (IsPermutation []) (sym none) (IsPermutation-refl [])
same_weights (x ∷ xs) ys same =
    let at = found x ys (omega (arith, same (one_for x), one_for_itself x)) in
    let rest : IsPermutation xs (at.0 ++ at.1) = same_weights xs (at.0 ++ at.1)
    (λ h.
    let whole : weigh h ys ≡ weigh h (at.0 ++ x ∷ at.1) = ap (weigh h) at.2 in
    omega (arith, same h, whole, weigh-append h at.0 (x ∷ at.1), weigh-append h at.0 at.1)) in
    subst (IsPermutation (x ∷ xs)) (sym at.2)
    (IsPermutation-trans (x ∷ xs) (x ∷ (at.0 ++ at.1)) (at.0 ++ x ∷ at.1) (IsPermutation-cons x xs (at.0 ++ at.1) rest)
    (IsPermutation-sym (at.0 ++ x ∷ at.1) (x ∷ (at.0 ++ at.1)) (IsPermutation-middle at.0 x at.1)))

-- f 0, .. f (n - 1), added up
abbrev pub sum_to : (ℕ → ℕ) → ℕ → ℕ
sum_to f zero = 0
sum_to f (suc n) = sum_to f n + f n

sum_first : (f : ℕ → ℕ) (n : ℕ) → sum_to f (suc n) ≡ f 0 + sum_to (λ k. f (suc k)) n
sum_first f zero = omega arith
sum_first f (suc n) = omega (arith, sum_first f n)

sum_both : (f g : ℕ → ℕ) (n : ℕ) → sum_to (λ k. f k + g k) n ≡ sum_to f n + sum_to g n
sum_both f g zero = refl
sum_both f g (suc n) = omega (arith, sum_both f g n)

sum_same : (f g : ℕ → ℕ) (n : ℕ) → ((k : ℕ) → f k ≡ g k) → sum_to f n ≡ sum_to g n
sum_same f g zero same = refl
sum_same f g (suc n) same = omega (arith, sum_same f g n same, same n)

sum_nothing : (f : ℕ → ℕ) (n : ℕ) → ((k : ℕ) → f k ≡ 0) → sum_to f n ≡ 0
sum_nothing f zero none = refl
sum_nothing f (suc n) none = omega (arith, sum_nothing f n none, none n)

-- what the views have, place by place, is what they have in all
pub by_place : (h : Piece → ℕ) (vs : List DequeView) → sum_to (λ k. weigh h (taken_at k vs)) (length vs) ≡ weigh h (all_of vs)
by_place h [] = refl
by_place h (v ∷ vs) = omega (arith, sum_first (λ k. weigh h (taken_at k (v ∷ vs))) (length vs), by_place h vs, weigh-append h v.taken (all_of vs))

-- what all passes stole
abbrev loot : List Pass → List Piece
loot [] = []
loot (p ∷ ps) = all_of (permit_views p) ++ loot ps

-- deque by deque, or pass by pass
loot_by_place : (h : Piece → ℕ) (ps : List Pass) (n : ℕ) → ((i : ℕ) (p : Pass) → get_elem? ps i ≡ some p → length (permit_views p) ≡ n) → sum_to (λ k. weigh h (stolen k ps)) n ≡ weigh h (loot ps)
loot_by_place h [] n each = sum_nothing (λ k. weigh h (stolen k [])) n (λ k. refl)
loot_by_place h (p ∷ ps) n each =
    let first : sum_to (λ k. weigh h (taken_at k (permit_views p))) n ≡ weigh h (all_of (permit_views p)) =
    subst (λ m. sum_to (λ k. weigh h (taken_at k (permit_views p))) m ≡ weigh h (all_of (permit_views p))) (each 0 p refl) (by_place h (permit_views p)) in
    let rest = loot_by_place h ps n (λ i q at. each (suc i) q at) in
    let parts = sum_same (λ k. weigh h (stolen k (p ∷ ps))) (λ k. weigh h (taken_at k (permit_views p)) + weigh h (stolen k ps)) n (λ k. weigh-append h (taken_at k (permit_views p)) (stolen k ps)) in
    let split = sum_both (λ k. weigh h (taken_at k (permit_views p))) (λ k. weigh h (stolen k ps)) n in
    omega (arith, first, rest, parts, split, weigh-append h (all_of (permit_views p)) (loot ps))

length_hands : (ps : List Pass) → length (map (λ (p : Pass). own_view p) ps) ≡ length ps
length_hands [] = refl
length_hands (p ∷ ps) = ap suc (length_hands ps)

-- what the passes took is what their workers took and what they stole
taken_split : (h : Piece → ℕ) (ps : List Pass) → weigh h (taken_by_all ps) ≡ weigh h (all_of (map (λ (p : Pass). own_view p) ps)) + weigh h (loot ps)
taken_split h [] = refl
taken_split h (p ∷ ps) =
    omega (
      arith,
      taken_split h ps,
      weigh-append h (taken_by p) (taken_by_all ps),
      weigh-append h (own_view p).taken (all_of (permit_views p)),
      weigh-append h (own_view p).taken (all_of (map (λ (q : Pass). own_view q) ps)),
      weigh-append h (all_of (permit_views p)) (loot ps),
    )

-- deque by deque, what was taken of it
taken_by_place : (h : Piece → ℕ) (ps : List Pass) (n : ℕ) → length ps ≡ n → ((i : ℕ) (p : Pass) → get_elem? ps i ≡ some p → length (permit_views p) ≡ n)
    → sum_to (λ k. weigh h (taken_from k ps)) n ≡ weigh h (taken_by_all ps)
taken_by_place h ps n len each =
    let vs = map (λ (p : Pass). own_view p) ps in
    let own : sum_to (λ k. weigh h (taken_at k (map (λ (p : Pass). own_view p) ps))) n ≡ weigh h (all_of (map (λ (p : Pass). own_view p) ps)) =
    subst (λ m. sum_to (λ k. weigh h (taken_at k (map (λ (p : Pass). own_view p) ps))) m ≡ weigh h (all_of (map (λ (p : Pass). own_view p) ps))) (length_hands ps ∙ len)
    (by_place h (map (λ (p : Pass). own_view p) ps)) in
    let parts = sum_same (λ k. weigh h (taken_from k ps)) (λ k. weigh h (taken_at k (map (λ (p : Pass). own_view p) ps)) + weigh h (stolen k ps)) n
    (λ k. weigh-append h (taken_at k (map (λ (p : Pass). own_view p) ps)) (stolen k ps)) in
    let split = sum_both (λ k. weigh h (taken_at k (map (λ (p : Pass). own_view p) ps))) (λ k. weigh h (stolen k ps)) n in
    omega (arith, own, loot_by_place h ps n each, parts, split, taken_split h ps)

-- of the first n deques
abbrev pub IsShared : StealRound → ℕ → List Pass → Type 0
IsShared r n ps =
    (k : ℕ) → k < n → (h : Piece → ℕ) → weigh h (taken_from k ps) + weigh h (rest_of r k ps) ≡ weigh h (share_of k (workers_of r) r.round r.ranks)

shared_to : (h : Piece → ℕ) (r : StealRound) (n : ℕ) (ps : List Pass) → IsShared r n ps
    → sum_to (λ k. weigh h (taken_from k ps)) n + weigh h (rest_to r n ps) ≡ shares h n (workers_of r) r.round r.ranks
shared_to h r zero ps each = sym (shares_zero h (workers_of r) r.round r.ranks)
shared_to h r (suc n) ps each =
    let last = each n (omega arith) h in
    omega (arith, last, shares_suc h n (workers_of r) r.round r.ranks, shared_to h r n ps (λ k less. each k (omega arith)), weigh-append h (rest_to r n ps) (rest_of r n ps))

pub each_once : (r : StealRound) (ps : List Pass) → 0 < workers_of r → length ps ≡ workers_of r → ((i : ℕ) (p : Pass) → get_elem? ps i ≡ some p → length (permit_views p) ≡ workers_of r) →
    IsShared r (workers_of r) ps
    → IsPermutation (deal_of r.round r.ranks) (taken_by_all ps ++ rest_of_all r ps)
each_once r ps staffed len permits shared =
    same_weights (deal_of r.round r.ranks) (taken_by_all ps ++ rest_of_all r ps)
    (λ h.
    omega (
      arith,
      weigh-append h (taken_by_all ps) (rest_of_all r ps),
      taken_by_place h ps (workers_of r) len permits,
      shared_to h r (workers_of r) ps shared,
      shares_all h (workers_of r) r.round r.ranks staffed,
    ))
