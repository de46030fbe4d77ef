-- Lists in a list: one of them takes one more, and the others stay.
use Rattle.std.proofs.Common.{◌≡◌, ◌≢◌, ◌∙◌, ap, refl, sym, ℕ, zero, suc, ◌<◌, ◌≤◌, List, [], ◌∷◌, ◌++◌, length, arith, map, get_or}
use Rattle.std.specs.Prelude.{slice_set, Vec}
use Rattle.std.specs.declared.alloc.Global.{Global}
use Rattle.wire_happens_before.specs.Clocks.{items_at}

abbrev pub items_in : {A : Type 0} → Vec A Global → List A
items_in list = list.items

-- a list more, with nothing in it
pub reach_more : {A : Type 0} (lists : List (Vec A Global)) (new : Vec A Global) (n : ℕ) → new.items ≡ [] → get_or (map items_in (lists ++ new ∷ [])) n [] ≡ get_or (map items_in lists) n []
reach_more [] new zero none_there = none_there
reach_more [] new (suc n) none_there = refl
reach_more (list ∷ lists) new zero none_there = refl
reach_more (list ∷ lists) new (suc n) none_there = reach_more lists new n none_there

-- one of the lists has one more
pub append_here : {A : Type 0} (lists : List (Vec A Global)) (i : ℕ) (was now : Vec A Global) (u : A) → i < length lists → was ≡ get_or lists i was → now.items ≡ was.items ++ u ∷ [] →
    get_or (map items_in (slice_set lists i now)) i [] ≡ get_or (map items_in lists) i [] ++ u ∷ []
append_here [] i was now u lt is push = absurd (omega (arith, lt))
append_here {A = A} (list ∷ lists) zero was now u lt is push = push ∙ ap (λ (v : Vec A Global). v.items ++ u ∷ []) is
append_here (list ∷ lists) (suc i) was now u lt is push = append_here lists i was now u (omega (arith, lt)) is push

-- and where nothing was added all stay
pub set_same : {A : Type 0} (lists : List (Vec A Global)) (i : ℕ) (was now : Vec A Global) → i < length lists → was ≡ get_or lists i was → now.items ≡ was.items → (n : ℕ) →
    get_or (map items_in (slice_set lists i now)) n [] ≡ get_or (map items_in lists) n []
set_same [] i was now lt is same n = absurd (omega (arith, lt))
set_same {A = A} (list ∷ lists) zero was now lt is same zero = same ∙ ap (λ (v : Vec A Global). v.items) is
set_same (list ∷ lists) zero was now lt is same (suc n) = refl
set_same (list ∷ lists) (suc i) was now lt is same zero = refl
set_same (list ∷ lists) (suc i) was now lt is same (suc n) = set_same lists i was now (omega (arith, lt)) is same n

-- and the others stay
pub append_others : {A : Type 0} (lists : List (Vec A Global)) (i n : ℕ) (now : Vec A Global) → n ≢ i → get_or (map items_in (slice_set lists i now)) n [] ≡ get_or (map items_in lists) n []
append_others [] i n now ne = refl
append_others (list ∷ lists) zero zero now ne = absurd (ne refl)
append_others (list ∷ lists) zero (suc n) now ne = refl
append_others (list ∷ lists) (suc i) zero now ne = refl
append_others (list ∷ lists) (suc i) (suc n) now ne = append_others lists i n now (λ e. ne (ap suc e))

-- where none of these lists has anything, that is so with one more that has nothing
pub none_more : {A : Type 0} (lists : List (Vec A Global)) (new : Vec A Global) → new.items ≡ [] → ((p : ℕ) → items_at lists p ≡ []) → (p : ℕ) → items_at (lists ++ new ∷ []) p ≡ []
none_more [] new none_there all zero = none_there
none_more [] new none_there all (suc p) = refl
none_more (list ∷ lists) new none_there all zero = all zero
none_more (list ∷ lists) new none_there all (suc p) = none_more lists new none_there (λ k. all (suc k)) p

-- the list at an index, and none past the end
pub list_there : {A : Type 0} (lists : List (Vec A Global)) (i : ℕ) (list : Vec A Global) → i < length lists → list ≡ get_or lists i list → get_or (map items_in lists) i [] ≡ list.items
list_there [] i list lt is = absurd (omega (arith, lt))
list_there {A = A} (first ∷ lists) zero list lt is = ap (λ (v : Vec A Global). v.items) (sym is)
list_there (first ∷ lists) (suc i) list lt is = list_there lists i list (omega (arith, lt)) is

pub list_past : {A : Type 0} (lists : List (Vec A Global)) (i : ℕ) → length lists ≤ i → get_or (map items_in lists) i [] ≡ []
list_past [] i le = refl
list_past (first ∷ lists) zero le = absurd (omega (arith, le))
list_past (first ∷ lists) (suc i) le = list_past lists i (omega (arith, le))
