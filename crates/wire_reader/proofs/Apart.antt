-- Texts of a table are told apart by their numbers.
use Rattle.std.proofs.Common.{◌≡◌, ◌∙◌, ap, sym, refl, ℕ, zero, suc, ◌<◌, List, [], ◌∷◌, false, map, length, arith}
use Rattle.std.specs.List.{AllByRecursion, IsDistinct}
use Rattle.std.specs.Str.{bytes_eq}
use Rattle.std.proofs.lemmas.Bool.{true≢false}
use Rattle.std.proofs.lemmas.Slice.Eq.{bytes_eq-Decides}
use Rattle.wire_scripts.specs.Scripts.{text_at}
use Rattle.wire_scripts.specs.Apart.{AreDistinct}

-- a text that differs from all of these is none of them
other_than : (text : List ℕ) (texts : List (List ℕ)) → AllByRecursion (λ t. bytes_eq text t ≡ false) texts → (n : ℕ) → n < length texts → text ≡ text_at texts n → ⊥
other_than text [] all n lt is = omega (arith, lt)
other_than text (t ∷ texts) all zero lt is = true≢false (sym ((bytes_eq-Decides text t).1 is) ∙ all.0)
other_than text (t ∷ texts) all (suc n) lt is = other_than text texts all.1 n (omega (arith, lt)) is

texts_apart : (texts : List (List ℕ)) → IsDistinct bytes_eq texts → AreDistinct texts
unfolding IsDistinct
texts_apart [] distinct m n a b e = absurd (omega (arith, a))
texts_apart (t ∷ texts) distinct zero zero a b e = refl
texts_apart (t ∷ texts) distinct zero (suc n) a b e = absurd (other_than t texts distinct.0 n (omega (arith, b)) e)
texts_apart (t ∷ texts) distinct (suc m) zero a b e = absurd (other_than t texts distinct.0 m (omega (arith, a)) (sym e))
texts_apart (t ∷ texts) distinct (suc m) (suc n) a b e = ap suc (texts_apart texts distinct.1 m n (omega (arith, a)) (omega (arith, b)) e)

module _ {V : Type 0} (f : V → List ℕ) where
  all_map : (v : V) (vs : List V) → AllByRecursion (λ w. bytes_eq (f v) (f w) ≡ false) vs → AllByRecursion (λ t. bytes_eq (f v) t ≡ false) (map f vs)
  all_map v [] all = tt
  all_map v (w ∷ vs) all = (all.0, all_map v vs all.1)

  distinct_map : (vs : List V) → IsDistinct (λ v w. bytes_eq (f v) (f w)) vs → IsDistinct bytes_eq (map f vs)
  unfolding IsDistinct
  distinct_map [] distinct = tt
  distinct_map (v ∷ vs) distinct = (all_map v vs distinct.0, distinct_map vs distinct.1)

  -- texts of keys that differ
  pub keys_apart : (vs : List V) → IsDistinct (λ v w. bytes_eq (f v) (f w)) vs → AreDistinct (map f vs)
  keys_apart vs distinct = texts_apart (map f vs) (distinct_map vs distinct)
