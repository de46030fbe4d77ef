-- Each step of a pass keeps the rule of the deal.
use Rattle.std.proofs.Common.{◌≡◌, ◌≢◌, ℕ, zero, suc, ◌+◌, ◌-◌, ◌<◌, ◌≤◌, List, [], ◌∷◌, ◌++◌, length, set, drop, sym, refl, ap, ◌∙◌, subst, ⊎_elim, append_assoc, append-nil, arith, length-append}
use mathlib.Core.Option.{some, some-ne-none, some-injective}
use lib.ListN.{get_elem?}
use lib.Seq.{drop-append_seam}
use Rattle.crossbeam_deque.specs.Tasks.{Pushes, Takes as TakesAt, Finds as FindsAt, FindsFew, Forks, Merges}
use Rattle.crossbeam_deque.proofs.Lists.{at_set, at_snoc}
use Rattle.wire_rounds.specs.declared.rule.Piece.{Piece}
use Rattle.wire_rounds.specs.declared.rule.DequeView.{DequeView}
use Rattle.wire_rounds.specs.Views.{deque_view, all_parts, Takes}
use Rattle.wire_rounds.specs.Rules.{weigh, total, Knows, Dealt, Puts, TookAll}

pub weigh-append : (h : Piece → ℕ) (xs ys : List Piece) → weigh h (xs ++ ys) ≡ weigh h xs + weigh h ys
weigh-append h [] ys = omega arith
weigh-append h (x ∷ xs) ys = omega (arith, weigh-append h xs ys)

pub weigh_ones : (xs : List Piece) → weigh (λ _. 1) xs ≡ length xs
weigh_ones [] = refl
weigh_ones (x ∷ xs) = omega (arith, weigh_ones xs)

-- the total after a change of one pass
pub total_set : (f : DequeView → ℕ) (views : List DequeView) (port : ℕ) (v w : DequeView) → get_elem? views port ≡ some v → total f (set views port w) + f v ≡ total f views + f w
total_set f [] port v w e = absurd (some-ne-none v (sym e))
total_set f (x ∷ xs) zero v w e = let same : f x ≡ f v = ap f (some-injective x v e) in omega arith
total_set f (x ∷ xs) (suc port) v w e = omega (arith, total_set f xs port v w e)

pub total_snoc : (f : DequeView → ℕ) (views : List DequeView) (v : DequeView) → total f (views ++ v ∷ []) ≡ total f views + f v
total_snoc f [] v = omega arith
total_snoc f (x ∷ xs) v = omega (arith, total_snoc f xs v)

at_most : (f : DequeView → ℕ) (views : List DequeView) (port : ℕ) (v : DequeView) → get_elem? views port ≡ some v → f v ≤ total f views
at_most f [] port v e = absurd (some-ne-none v (sym e))
at_most f (x ∷ xs) zero v e = let same : f x ≡ f v = ap f (some-injective x v e) in omega arith
at_most f (x ∷ xs) (suc port) v e = omega (arith, at_most f xs port v e)

-- two passes have no more than all together
two_at_most : (f : DequeView → ℕ) (views : List DequeView) (i j : ℕ) (v u : DequeView) → get_elem? views i ≡ some v → get_elem? views j ≡ some u → j ≢ i → f v + f u ≤ total f views
two_at_most f [] i j v u a b n = absurd (some-ne-none v (sym a))
two_at_most f (x ∷ xs) zero zero v u a b n = absurd (n refl)
two_at_most f (x ∷ xs) zero (suc j) v u a b n = let same : f x ≡ f v = ap f (some-injective x v a) in omega (arith, at_most f xs j u b)
two_at_most f (x ∷ xs) (suc i) zero v u a b n = let same : f x ≡ f u = ap f (some-injective x u b) in omega (arith, at_most f xs i v a)
two_at_most f (x ∷ xs) (suc i) (suc j) v u a b n = omega (arith, two_at_most f xs i j v u a b (λ e. n (ap suc e)))

nothing : (f : DequeView → ℕ) (views : List DequeView) → ((j : ℕ) (u : DequeView) → get_elem? views j ≡ some u → f u ≡ 0) → total f views ≡ 0
nothing f [] all = refl
nothing f (x ∷ xs) all = let here : f x ≡ 0 = all 0 x refl in let rest : total f xs ≡ 0 = nothing f xs (λ j u at. all (suc j) u at) in omega arith

-- where f is 0 of each other pass, the total is that of this one
alone : (f : DequeView → ℕ) (views : List DequeView) (port : ℕ) (v : DequeView) → get_elem? views port ≡ some v → ((j : ℕ) (u : DequeView) → j ≢ port → get_elem? views j ≡ some u → f u ≡ 0) →
    total f views ≡ f v
alone f [] port v e others = absurd (some-ne-none v (sym e))
alone f (x ∷ xs) zero v e others = let same : f x ≡ f v = ap f (some-injective x v e) in let none : total f xs ≡ 0 = nothing f xs (λ j u at. others (suc j) u (λ k. omega arith) at) in omega arith
alone f (x ∷ xs) (suc port) v e others =
    let rest : total f xs ≡ f v = alone f xs port v e (λ j u n at. others (suc j) u (λ k. n (omega arith)) at) in
    let none : f x ≡ 0 = others 0 x (λ k. omega arith) refl in
    omega arith

abbrev AllViews : (ℕ → DequeView → Type 0) → List DequeView → Type 0
AllViews F views = (port : ℕ) (v : DequeView) → get_elem? views port ≡ some v → F port v

-- a fact of each pass after a change of one
all_set : (F : ℕ → DequeView → Type 0) (views : List DequeView) (port : ℕ) (w : DequeView) → F port w → ((j : ℕ) (u : DequeView) → j ≢ port → get_elem? views j ≡ some u → F j u) →
    AllViews F (set views port w)
all_set F views port w mine others j u e = ⊎_elim (λ (x : (j ≡ port) × (w ≡ u)). subst (λ (y : ℕ × DequeView). F y.0 y.1) (λ i. (sym x.0 i, x.1 i)) mine)
    (λ (x : (j ≢ port) × (get_elem? views j ≡ some u)). others j u x.0 x.1) (at_set views port j w u e)

-- a fact of each pass after one is added
all_snoc : (F : ℕ → DequeView → Type 0) (views : List DequeView) (w : DequeView) → ((j : ℕ) → F j w) → AllViews F views → AllViews F (views ++ w ∷ [])
all_snoc F views w mine others j u e = ⊎_elim (λ x. others j u x) (λ (is : w ≡ u). subst (F j) is (mine j)) (at_snoc views w u j e)

only : (j : ℕ) (u : DequeView) → get_elem? (deque_view all_parts 0 [] [] ∷ []) j ≡ some u → j ≡ 0
only zero u e = refl
only (suc j) u e = absurd (some-ne-none u (sym e))

no_items : (items : List Piece) → length items ≤ 0 → items ≡ []
no_items [] few = refl
no_items (x ∷ xs) few = absurd (omega arith)

first : AllViews (Knows [] 0) (deque_view all_parts 0 [] [] ∷ [])
first = all_set (Knows [] 0) (deque_view all_parts 0 [] [] ∷ []) 0 (deque_view all_parts 0 [] []) (omega arith, (λ _. refl), λ _. refl) (λ j u other e. absurd (other (only j u e)))

pub begins : Dealt [] (deque_view all_parts 0 [] [] ∷ [])
begins = ([], [], refl, omega arith, (λ h. refl), first)

pub deals : (port : ℕ) (v : DequeView) (xs : List Piece) → v.parts ≡ all_parts → Pushes Dealt port v xs (Puts v xs)
deals port v xs whole items views rule at =
    let w : DequeView = deque_view v.parts v.below (v.dealt ++ xs) v.taken in
    let dealt = rule.0 in
    let gone = rule.1 in
    let mine = rule.5 port v at in
    let parts : total (λ u. u.parts) views ≡ all_parts = rule.3 in
    let knew : v.dealt ≡ dealt = mine.2 (omega arith) in (
      w,
      (
        dealt ++ xs,
        gone,
        ap (λ l. l ++ xs) rule.2 ∙ append_assoc gone items xs,
        (let s = total_set (λ u. u.parts) views port v w at in omega arith),
        (λ h. let s = total_set (λ u. weigh h u.taken) views port v w at in let t = rule.4 h in omega arith),
        all_set (Knows (dealt ++ xs) (length gone)) views port w (mine.0, mine.1, λ _. ap (λ l. l ++ xs) knew)
            (λ j u other here.
            let theirs = rule.5 j u here in (
              theirs.0,
              theirs.1,
              λ some_part. absurd (let two = two_at_most (λ y. y.parts) views port j v u at here other in omega arith),
            )),
      ),
      refl,
    )

pub takes : (port most : ℕ) (v : DequeView) → 0 < v.parts → TakesAt Dealt port v most (Takes v)
takes port most v some_part xs items views _ _ rule at =
    let dealt = rule.0 in
    let gone = rule.1 in
    let place = length gone in
    let mine = rule.5 port v at in
    let knew : v.dealt ≡ dealt = mine.2 some_part in
    let w : DequeView = deque_view v.parts (place + length xs) v.dealt (v.taken ++ xs) in
    let gone' = gone ++ xs in
    let more : length gone' ≡ place + length xs = length-append gone xs in
    let split : dealt ≡ gone' ++ items = rule.2 ∙ sym (append_assoc gone xs items) in
    let rest : drop place v.dealt ≡ xs ++ items = ap (drop place) (knew ∙ rule.2) ∙ drop-append_seam gone (xs ++ items) in
    let long : length v.dealt ≡ length gone' + length items = ap length (knew ∙ split) ∙ length-append gone' items in (
      w,
      (
        dealt,
        gone',
        split,
        (let s = total_set (λ u. u.parts) views port v w at in let p : total (λ u. u.parts) views ≡ all_parts = rule.3 in omega arith),
        (λ h.
            let s = total_set (λ u. weigh h u.taken) views port v w at in
            let t = rule.4 h in
            omega (arith, weigh-append h v.taken xs, weigh-append h gone xs)),
        all_set (Knows dealt (length gone')) views port w (omega arith, (λ none. absurd (omega arith)), λ _. knew)
            (λ j u other here. let theirs = rule.5 j u here in (omega arith, theirs.1, theirs.2)),
      ),
      (
        place,
        items,
        mine.0,
        rest,
        omega arith,
        refl,
        λ whole.
            let parts : total (λ u. u.parts) views ≡ all_parts = rule.3 in
            let taken : total (λ u. weigh (λ _. 1) u.taken) views ≡ weigh (λ _. 1) v.taken =
            alone (λ u. weigh (λ _. 1) u.taken) views port v at
            (λ j u other here.
            let none : u.parts ≡ 0 = (let two = two_at_most (λ y. y.parts) views port j v u at here other in omega arith) in
            ap (weigh (λ _. 1)) ((rule.5 j u here).1 none)) in
            sym (weigh_ones gone) ∙ (sym (rule.4 (λ _. 1)) ∙ (taken ∙ weigh_ones v.taken)),
      ),
    )

pub finds : (port : ℕ) (v : DequeView) → FindsAt Dealt port v (TookAll v)
finds port v views rule at whole h =
    let dealt = rule.0 in
    let gone = rule.1 in
    let parts : total (λ u. u.parts) views ≡ all_parts = rule.3 in
    let knew : v.dealt ≡ dealt = (rule.5 port v at).2 (omega arith) in
    let all_gone : dealt ≡ gone = rule.2 ∙ append-nil gone in
    let taken : total (λ u. weigh h u.taken) views ≡ weigh h v.taken =
    alone (λ u. weigh h u.taken) views port v at
    (λ j u other here.
    let none : u.parts ≡ 0 = (let two = two_at_most (λ y. y.parts) views port j v u at here other in omega arith) in
    ap (weigh h) ((rule.5 j u here).1 none)) in
    sym taken ∙ (rule.4 h ∙ ap (weigh h) (sym all_gone ∙ sym knew))

pub finds_few : (port : ℕ) (v : DequeView) (most : ℕ) → most ≡ 0 → FindsFew Dealt most port v (TookAll v)
finds_few port v most none items views few rule at =
    let empty : items ≡ [] = no_items items (omega arith) in
    finds port v views (subst (λ l. Dealt l views) empty rule) at

pub forks : (port : ℕ) (v : DequeView) → 1 < v.parts → Forks Dealt port v (deque_view (v.parts - 1) v.below v.dealt v.taken) (deque_view 1 0 v.dealt [])
forks port v some_parts items views rule at =
    let dealt = rule.0 in
    let gone = rule.1 in
    let mine = rule.5 port v at in
    let l : DequeView = deque_view (v.parts - 1) v.below v.dealt v.taken in
    let r : DequeView = deque_view 1 0 v.dealt [] in
    let knew : v.dealt ≡ dealt = mine.2 (omega arith) in
    let changed : AllViews (Knows dealt (length gone)) (set views port l) =
    all_set (Knows dealt (length gone)) views port l (mine.0, (λ none. absurd (omega arith)), λ _. knew) (λ j u other here. rule.5 j u here) in (
      dealt,
      gone,
      rule.2,
      (let p : total (λ u. u.parts) views ≡ all_parts = rule.3 in omega (arith, total_set (λ u. u.parts) views port v l at, total_snoc (λ u. u.parts) (set views port l) r)),
      (λ h. let t = rule.4 h in omega (arith, total_set (λ u. weigh h u.taken) views port v l at, total_snoc (λ u. weigh h u.taken) (set views port l) r)),
      all_snoc (Knows dealt (length gone)) (set views port l) r (λ j. (omega arith, (λ _. refl), λ _. knew)) changed,
    )

pub merges : (port : ℕ) (v : DequeView) (other : ℕ) (u : DequeView) → 0 < v.parts →
    Merges Dealt port v other u (deque_view (v.parts + u.parts) v.below v.dealt (v.taken ++ u.taken)) (deque_view 0 0 [] [])
merges port v other u some_part items views rule at two at' =
    let dealt = rule.0 in
    let gone = rule.1 in
    let mine = rule.5 port v at in
    let both : DequeView = deque_view (v.parts + u.parts) v.below v.dealt (v.taken ++ u.taken) in
    let spent : DequeView = deque_view 0 0 [] [] in
    let vs : List DequeView = set views port both in
    let now : AllViews (Knows dealt (length gone)) vs =
    all_set (Knows dealt (length gone)) views port both (mine.0, (λ none. absurd (omega arith)), λ _. mine.2 some_part) (λ j y apart here. rule.5 j y here) in (
      dealt,
      gone,
      rule.2,
      (let p : total (λ y. y.parts) views ≡ all_parts = rule.3 in omega (arith, total_set (λ y. y.parts) views port v both at, total_set (λ y. y.parts) vs other u spent at')),
      (λ h.
          let t = rule.4 h in
          omega (arith, total_set (λ y. weigh h y.taken) views port v both at, total_set (λ y. weigh h y.taken) vs other u spent at', weigh-append h v.taken u.taken)),
      all_set (Knows dealt (length gone)) vs other spent (omega arith, (λ _. refl), λ none. absurd (omega arith)) (λ j y apart here. now j y here),
    )
