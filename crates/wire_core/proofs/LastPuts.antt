-- The last put that is stored: never an earlier one as the owner goes on; and the greater of two puts.
use Rattle.std.proofs.Common.{◌≡◌, ◌∙◌, ap, sym, refl, subst, ℕ, zero, suc, ◌<◌, ◌≤◌, Bool, true, false, cond, Option, Some, None, arith, inl, inr, leb-true, leb-false, le-leb, nat_le, nat_eq}
use Rattle.std.proofs.lemmas.Bool.{cond-true, cond-false, cond_both, cases_Bool, cases_eq}
use Rattle.std.proofs.lemmas.Option.{same_Some}
use Rattle.wire_runs.specs.Plan.{Plan, Kind, Put, Commit, kind_at}
use Rattle.wire_runs.specs.Puts.{own, own_with, stored, stored_with}
use Rattle.wire_runs.specs.Sight.{greater, greatest}

-- where there is a number, there is no lower one
abbrev pub IsUpTo : Option ℕ → Option ℕ → Type 0
IsUpTo None b = Unit {0}
IsUpTo (Some a) None = ⊥
IsUpTo (Some a) (Some b) = a ≤ b

pub up_same : (a : Option ℕ) → IsUpTo a a
up_same None = tt
up_same (Some a) = omega arith

pub up_both : (a b c : Option ℕ) → IsUpTo a b → IsUpTo b c → IsUpTo a c
up_both None b c h i = tt
up_both (Some a) None c h i = absurd h
up_both (Some a) (Some b) None h i = absurd i
up_both (Some a) (Some b) (Some c) h i = omega (arith, h, i)

own_with_below : (key n a : ℕ) (before : Option ℕ) (o : Option Kind) → ((b : ℕ) → before ≡ Some b → b < n) → own_with key n before o ≡ Some a → a < suc n
own_with_below key n a before (Some (Put k scope)) below =
    cond_both (nat_eq k key) (Some n) before (λ v. v ≡ Some a → a < suc n)
    (λ t h. let e = same_Some n a h in omega (arith, e))
    (λ f h. let lt = below a h in omega (arith, lt))
own_with_below key n a before _ below = λ h. let lt = below a h in omega (arith, lt)

own_below : (plan : Plan) (p key n a : ℕ) → own plan p key n ≡ Some a → a < n
own_below plan p key zero a h = cc
own_below plan p key (suc n) a h = own_with_below key n a (own plan p key n) (kind_at plan p n) (λ b e. own_below plan p key n b e) h

put_up : (key k n : ℕ) (before : Option ℕ) → ((b : ℕ) → before ≡ Some b → b < n) → (b : Bool) → IsUpTo before (cond b (Some n) before)
put_up key k n before below false = up_same before
put_up key k n None below true = tt
put_up key k n (Some b) below true = let lt = below b refl in omega (arith, lt)

own_up : (key n : ℕ) (before : Option ℕ) (o : Option Kind) → ((b : ℕ) → before ≡ Some b → b < n) → IsUpTo before (own_with key n before o)
own_up key n before (Some (Put k scope)) below = put_up key k n before below (nat_eq k key)
own_up key n before _ below = up_same before

stored_with_own : (key n : ℕ) (mine held : Option ℕ) (o : Option Kind) → ((b : ℕ) → mine ≡ Some b → b < n) → IsUpTo held mine → IsUpTo (stored_with mine held o) (own_with key n mine o)
stored_with_own key n mine held (Some Commit) below ih = up_same mine
stored_with_own key n mine held (Some (Put k scope)) below ih = up_both held mine (own_with key n mine (Some (Put k scope))) ih (own_up key n mine (Some (Put k scope)) below)
stored_with_own key n mine held _ below ih = ih

stored_own : (plan : Plan) (p key n : ℕ) → IsUpTo (stored plan p key n) (own plan p key n)
stored_own plan p key zero = tt
stored_own plan p key (suc n) = stored_with_own key n (own plan p key n) (stored plan p key n) (kind_at plan p n) (λ b e. own_below plan p key n b e) (stored_own plan p key n)

stored_next : (mine held : Option ℕ) (o : Option Kind) → IsUpTo held mine → IsUpTo held (stored_with mine held o)
stored_next mine held (Some Commit) h = h
stored_next mine held _ h = up_same held

-- what is stored later is no earlier put
pub stored_up : (plan : Plan) (p key n m : ℕ) → n ≤ m → IsUpTo (stored plan p key n) (stored plan p key m)
stored_up plan p key n zero le = let e : n ≡ 0 = omega (arith, le) in subst (λ k. IsUpTo (stored plan p key k) (stored plan p key 0)) (sym e) tt
stored_up plan p key n (suc m) le = elim (cases_eq n (suc m)) [
  | inl e ↦ subst (λ k. IsUpTo (stored plan p key k) (stored plan p key (suc m))) (sym e) (up_same (stored plan p key (suc m)))
  | inr ne ↦ up_both (stored plan p key n) (stored plan p key m) (stored plan p key (suc m)) (stored_up plan p key n m (omega (arith, le, ne)))
      (stored_next (own plan p key m) (stored plan p key m) (kind_at plan p m) (stored_own plan p key m))
]

-- the greater of two of which the second, or the first, is no lower
pub greater_second : (a b : Option ℕ) → IsUpTo a b → greater a b ≡ b
greater_second None None h = refl
greater_second None (Some b) h = refl
greater_second (Some a) None h = absurd h
greater_second (Some a) (Some b) h = cond-true (nat_le a b) (Some b) (Some a) (le-leb a b h)

pub greater_first : (a b : Option ℕ) → IsUpTo b a → greater a b ≡ a
greater_first None None h = refl
greater_first None (Some b) h = absurd h
greater_first (Some a) None h = refl
greater_first (Some a) (Some b) h = cond_both (nat_le a b) (Some b) (Some a) (λ o. o ≡ Some a) (λ t. let le = leb-true a b t in let e : b ≡ a = omega (arith, le, h) in ap Some e) (λ f. refl)

record Top (a b : ℕ) : Type 0 where
  c : ℕ
  is : greater (Some a) (Some b) ≡ Some c
  over_a : a ≤ c
  over_b : b ≤ c
  least : (d : ℕ) → a ≤ d → b ≤ d → c ≤ d

top : (a b : ℕ) → Top a b
top a b = elim (cases_Bool (nat_le a b)) [
  | inl t ↦ record { c = b; is = cond-true _ _ _ t; over_a = leb-true a b t; over_b = omega arith; least = λ d h i. i }
  | inr f ↦ record { c = a; is = cond-false _ _ _ f; over_a = omega arith; over_b = (let lt = leb-false a b f in omega (arith, lt)); least = λ d h i. h }
]

-- the greatest of three, however they are put together
three_is : (a b v : ℕ) → (x : ℕ) × (greater (greater (Some a) (Some b)) (Some v) ≡ Some x) × (a ≤ x) × (b ≤ x) × (v ≤ x) × ((d : ℕ) → a ≤ d → b ≤ d → v ≤ d → x ≤ d)
three_is a b v =
    let t = top a b in
    let u = top t.c v in
    let ta = t.over_a in
    let tb = t.over_b in
    let ua = u.over_a in (
      u.c,
      ap (λ o. greater o (Some v)) t.is ∙ u.is,
      omega (arith, ta, ua),
      omega (arith, tb, ua),
      u.over_b,
      λ d h i j. u.least d (t.least d h i) j,
    )

pub greater_swap : (a b v : Option ℕ) → greater (greater a v) b ≡ greater (greater a b) v
greater_swap a b None = refl
greater_swap a None (Some v) = refl
greater_swap None (Some b) (Some v) =
    let t = top v b in
    let u = top b v in
    let ta = t.over_a in
    let tb = t.over_b in
    let tl = t.least u.c u.over_b u.over_a in
    let ul = u.least t.c tb ta in
    let e : t.c ≡ u.c = omega (arith, tl, ul) in
    t.is ∙ ap Some e ∙ sym u.is
greater_swap (Some a) (Some b) (Some v) =
    let t = three_is a v b in
    let u = three_is a b v in
    let tl = t.5 u.0 u.2 u.4 u.3 in
    let ul = u.5 t.0 t.2 t.4 t.3 in
    let e : t.0 ≡ u.0 = omega (arith, tl, ul) in
    t.1 ∙ ap Some e ∙ sym u.1

pub greater_join : (a b v : Option ℕ) → greater a (greater b v) ≡ greater (greater a b) v
greater_join a b None = refl
greater_join None None (Some v) = refl
greater_join (Some a) None (Some v) = refl
greater_join None (Some b) (Some v) = let t = top b v in ap (greater None) t.is ∙ sym t.is
greater_join (Some a) (Some b) (Some v) =
    let t = top b v in
    let w = top a t.c in
    let u = three_is a b v in
    let ta = t.over_a in
    let tb = t.over_b in
    let wa = w.over_a in
    let wb = w.over_b in
    let wl = w.least u.0 u.2 (t.least u.0 u.3 u.4) in
    let ul = u.5 w.c wa (omega (arith, ta, wb)) (omega (arith, tb, wb)) in
    let e : w.c ≡ u.0 = omega (arith, wl, ul) in
    ap (greater (Some a)) t.is ∙ w.is ∙ ap Some e ∙ sym u.1

pub greatest_same : (f g : ℕ → Option ℕ) (n : ℕ) → ((i : ℕ) → i < n → g i ≡ f i) → greatest g n ≡ greatest f n
greatest_same f g zero same = refl
greatest_same f g (suc n) same = ap (λ o. greater o (g n)) (greatest_same f g n (λ i lt. same i (omega (arith, lt)))) ∙ ap (greater (greatest f n)) (same n (omega arith))

-- where one of them has grown
pub greatest_grown : (f g : ℕ → Option ℕ) (q : ℕ) (v : Option ℕ) (n : ℕ) → q < n → ((m : ℕ) → (m ≡ q → ⊥) → g m ≡ f m) → g q ≡ greater (f q) v → greatest g n ≡ greater (greatest f n) v
greatest_grown f g q v zero lt others here = absurd (omega (arith, lt))
greatest_grown f g q v (suc n) lt others here = elim (cases_eq q n) [
  | inl e ↦
      ap (λ o. greater o (g n)) (greatest_same f g n (λ i l. others i (λ same. omega (arith, l, same, e))))
      ∙ ap (greater (greatest f n)) (subst (λ k. g k ≡ greater (f k) v) e here)
      ∙ greater_join (greatest f n) (f n) v
  | inr ne ↦
      ap (λ o. greater o (g n)) (greatest_grown f g q v n (omega (arith, lt, ne)) others here)
      ∙ ap (greater (greater (greatest f n) v)) (others n (λ same. ne (sym same)))
      ∙ greater_swap (greatest f n) (f n) v
]
